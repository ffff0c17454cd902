-- Owners of what is declared.
use Rattle.sem_msg.proofs.Declared.{most_vpes-le}
use Rattle.sem_key.specs.declared.limits.TheConstants.{PES, VPES}
use Rattle.std.proofs.Common.{◌≡◌, ◌≢◌, ℕ, ◌<◌, true, false, Option, Some, None, refl, sym, ap, subst, ◌∙◌, arith, eq-eqb}
use Rattle.std.specs.Prelude.{◌==◌}
use Rattle.std.specs.List.{Contains}
use Rattle.std.specs.Option.{option_map_or}
use Rattle.std.proofs.lemmas.Bool.{eqb-true, eqb-false}
use Rattle.std.proofs.lemmas.List.Elements.{All-contains}
use Rattle.sem_key.specs.MembershipTable.{owner_at}
use Rattle.sem_key.specs.KeyName.{KeyName}
use Rattle.sem_msg.specs.declared.setup.VpeDecl.{VpeDecl}
use Rattle.sem_msg.specs.Setup.{Setup, IsSetup, IsVpeDecl}
use Rattle.sem_msg.specs.Lookups.{decl, pe_of, pe_owner, owner_of, is_local, kernel_of, is_declared_at}
use Rattle.sem_key.proofs.Members.{found}
use Rattle.sem_machine.proofs.FirstNumbers.{owner-is}

-- the kernel of a VPE that is declared with a PE is the owner of the PE
pub declared-kernel : (T : Setup) (pe v : ℕ) → is_declared_at T pe v ≡ true → kernel_of T v ≡ pe_owner T pe
declared-kernel T pe v declared = from (decl T v) declared
  where
    from : (o : Option VpeDecl) → option_map_or (λ d. d.pe == pe) o false ≡ true → option_map_or (λ d. pe_owner T d.pe) o T.kernels ≡ pe_owner T pe
    from None none = absurd cc
    from (Some d) same = ap (pe_owner T) (eqb-true d.pe pe same)

module _ (T : Setup) (valid : IsSetup T) where
  -- a VPE of a kernel is declared
  pub kernel-decl : (v : ℕ) → kernel_of T v < T.kernels → (d : VpeDecl) × (decl T v ≡ Some d) × Contains T.vpes d × (d.vpe ≡ v)
  kernel-decl v below = from (decl T v) refl below
    where
      from : (o : Option VpeDecl) → decl T v ≡ o → option_map_or (λ d. pe_owner T d.pe) o T.kernels < T.kernels →
          (d : VpeDecl) × (decl T v ≡ Some d) × Contains T.vpes d × (d.vpe ≡ v)
      from None none low = absurd (omega (arith, low))
      from (Some d) some low = let there = found (λ (x : VpeDecl). x.vpe == v) T.vpes d some in (d, some, there.0, eqb-true d.vpe v there.1)

  pub decl-owner : (d : VpeDecl) → Contains T.vpes d → pe_owner T d.pe < T.kernels
  decl-owner d among =
      let declared : IsVpeDecl T d = All-contains (IsVpeDecl T) T.vpes d valid.vpes among in
      owner-is T.kernels (owner_at T.owners d.pe) declared.owned (λ j there. subst (λ n. j < n) valid.same_kernels (valid.membership.owners_exist d.pe j there))

  -- a VPE of a kernel has a place
  pub kernel-vpe : (v : ℕ) → kernel_of T v < T.kernels → v < VPES
  kernel-vpe v below =
      let d = kernel-decl v below in
      let declared : IsVpeDecl T d.0 = All-contains (IsVpeDecl T) T.vpes d.0 valid.vpes d.2 in
      let few = declared.vpe in
      let most = most_vpes-le T.version in
      let same = d.3 in
      omega (arith, few, most, same)

  pub declared-below : (pe v : ℕ) → is_declared_at T pe v ≡ true → pe_owner T pe < T.kernels
  declared-below pe v declared = from (decl T v) refl declared
    where
      from : (o : Option VpeDecl) → decl T v ≡ o → option_map_or (λ d. d.pe == pe) o false ≡ true → pe_owner T pe < T.kernels
      from None none no' = absurd cc
      from (Some d) some same =
          subst (λ p. pe_owner T p < T.kernels) (eqb-true d.pe pe same) (decl-owner d (found (λ (x : VpeDecl). x.vpe == v) T.vpes d some).0)

  -- a VPE of a kernel is declared with its PE, which is one of the table
  pub own-declared : (v : ℕ) → kernel_of T v < T.kernels → (is_declared_at T (pe_of T v) v ≡ true) × (pe_of T v < PES)
  own-declared v below =
      let d = kernel-decl v below in
      let declared : IsVpeDecl T d.0 = All-contains (IsVpeDecl T) T.vpes d.0 valid.vpes d.2 in
      let pe : pe_of T v ≡ d.0.pe = ap (λ (o : Option VpeDecl). option_map_or (λ x. x.pe) o PES) d.1 in
      let few = declared.pe in
      let most = most_vpes-le T.version in
      (ap (λ (o : Option VpeDecl). option_map_or (λ x. x.pe == pe_of T v) o false) d.1 ∙ same d.0.pe (pe_of T v) (sym pe), omega (arith, few, most, pe))
    where
      same : (a b : ℕ) → a ≡ b → (a == b) ≡ true
      same a b e = rw e (eq-eqb b b refl)

  -- the owner of a named key is a kernel, another one where the key is remote
  pub named-owner : (i : ℕ) (k : KeyName) → is_declared_at T k.pe k.vpe ≡ true → is_local T i k ≡ false → (owner_of T k < T.kernels) × (owner_of T k ≢ i)
  named-owner i k declared remote = (declared-below k.pe k.vpe declared, λ same. eqb-false (owner_of T k) i remote same)
