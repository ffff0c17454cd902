-- What a setup keeps of a declared VPE.
use Rattle.std.proofs.Common.{◌≡◌, ℕ, zero, suc, ◌<◌, ◌≤◌, true, List, [], ◌∷◌, length, get_or, Option, Some, None, IfSome, refl, sym, ◌∙◌, subst, true≢false}
use Rattle.std.proofs.Common.{arith}
use Rattle.std.specs.Prelude.{◌==◌, unwrap_or}
use Rattle.std.specs.Option.{IsSome, option_map_or}
use Rattle.sem_key.specs.declared.limits.TheConstants.{PES, VPES}
use Rattle.sem_key.specs.MembershipTable.{MembershipTable, IsMembership, owner_at}
use Rattle.std.proofs.lemmas.Bool.{eqb-true, cond_both}
use Rattle.std.proofs.lemmas.List.Elements.{All-contains}
use Rattle.sem_key.proofs.Members.{found, not_found, list_any-some}
use Rattle.sem_msg.specs.declared.setup.VpeDecl.{VpeDecl}
use Rattle.sem_msg.specs.Versions.{most_vpes}
use Rattle.sem_msg.specs.Setup.{Setup, IsSetup, IsVpeDecl}
use Rattle.sem_msg.specs.Lookups.{decl, is_declared, kernel_of, pe_owner, HasValidPlace}

-- in either version there are at most 128 VPEs, and as many PEs
pub most_vpes-le : (version : ℕ) → most_vpes version ≤ 128
most_vpes-le version = cond_both (version == 1) 64 128 (λ n. n ≤ 128) (λ _. omega arith) (λ _. omega arith)

-- what is read of a list is within it
there-within : (xs : List (Option ℕ)) (i : ℕ) → IsSome (get_or xs i None) → i < length xs
there-within [] i some = absurd cc
there-within (x ∷ xs) zero some = omega arith
there-within (x ∷ xs) (suc i) some = let rest = there-within xs i some in omega (arith, rest)

-- a PE that has an owner is one of the table
pub owned-within : (m : MembershipTable) → IsMembership m → (pe : ℕ) → IsSome (owner_at m pe) → pe < PES
owned-within m is pe some =
    let within = there-within m.owners pe some in
    let all = is.all_pes in
    omega (arith, within, all)

-- a declared VPE has a declaration
pub declared-some : (T : Setup) (v : ℕ) → is_declared T v ≡ true → (d : VpeDecl) × (decl T v ≡ Some d)
declared-some T v declared = from (decl T v) refl
  where
    from : (o : Option VpeDecl) → decl T v ≡ o → (d : VpeDecl) × (decl T v ≡ Some d)
    from None none =
        let at = list_any-some (λ (d : VpeDecl). d.vpe == v) T.vpes declared in
        absurd (true≢false (sym at.2 ∙ not_found (λ (d : VpeDecl). d.vpe == v) T.vpes at.0 none at.1))
    from (Some d) some = (d, some)

-- the PE and the VPE are in their ranges
pub placed : (T : Setup) (v : ℕ) → IfSome (decl T v) (IsVpeDecl T) → is_declared T v ≡ true → HasValidPlace T v
placed T v valid declared = from (declared-some T v declared).0 (declared-some T v declared).1
  where
    from : (d : VpeDecl) → decl T v ≡ Some d → HasValidPlace T v
    from d some =
        let few = most_vpes-le T.version in
        let there = found (λ (e : VpeDecl). e.vpe == v) T.vpes d some in
        let same : d.vpe ≡ v = eqb-true d.vpe v there.1 in
        let kept : IsVpeDecl T d = subst (λ o. IfSome o (IsVpeDecl T)) some valid in
        record { pe = rw some (let pe = kept.pe in omega arith); vpe = let vpe = kept.vpe in omega arith }

-- the kernel of a declared VPE is one of the setup's
pub declared-below : (T : Setup) → IsSetup T → (v : ℕ) → is_declared T v ≡ true → kernel_of T v < T.kernels
declared-below T valid v declared =
    let d = declared-some T v declared in
    let there = found (λ (x : VpeDecl). x.vpe == v) T.vpes d.0 d.1 in
    let kept : IsVpeDecl T d.0 = All-contains (IsVpeDecl T) T.vpes d.0 valid.vpes there.0 in
    let below : pe_owner T d.0.pe < T.kernels =
    from (owner_at T.owners d.0.pe) kept.owned (λ j there. subst (λ n. j < n) valid.same_kernels (valid.membership.owners_exist d.0.pe j there)) in
    subst (λ (o : Option VpeDecl). option_map_or (λ d. pe_owner T d.pe) o T.kernels < T.kernels) (sym d.1) below
  where
    from : (o : Option ℕ) → IsSome o → ((kernel : ℕ) → o ≡ Some kernel → kernel < T.kernels) → unwrap_or o T.kernels < T.kernels
    from None some exist = absurd cc
    from (Some kernel) some exist = exist kernel refl

-- a declared VPE has a place
pub declared-vpe : (T : Setup) → IsSetup T → (v : ℕ) → is_declared T v ≡ true → v < VPES
declared-vpe T valid v declared =
    let d = declared-some T v declared in
    let there = found (λ (x : VpeDecl). x.vpe == v) T.vpes d.0 d.1 in
    let kept : IsVpeDecl T d.0 = All-contains (IsVpeDecl T) T.vpes d.0 valid.vpes there.0 in
    let few = kept.vpe in
    let most = most_vpes-le T.version in
    let same = eqb-true d.0.vpe v there.1 in
    omega (arith, few, most, same)
