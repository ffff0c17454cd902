-- The keys of the roots of VPEs.
use Rattle.std.proofs.Common.{◌≡◌, ℕ, zero, suc, ◌+◌, ◌<◌, ◌≤◌, List, [], ◌∷◌, ◌++◌, length, take, get_or, refl, sym, ap, subst, arith, add-one, append_assoc}
use Rattle.sem_key.specs.declared.key.Kind.{Kind}
use Rattle.sem_key.specs.KeyName.{KeyName}
use Rattle.sem_key.specs.ObjectRanges.{object_kind}
use Rattle.sem_msg.specs.declared.setup.Root.{Root}
use Rattle.sem_msg.specs.declared.setup.VpeDecl.{VpeDecl}
use Rattle.sem_msg.specs.Setup.{Setup, IsSetup, IsVpeDecl, root_key}
use Rattle.sem_reader.proofs.SetupIs.{few_roots}
use Rattle.sem_machine.specs.Journals.{root_keys_from}

pub root_keys_from-none : (d : VpeDecl) (n : ℕ) → root_keys_from d n [] ≡ []
unfolding root_keys_from
root_keys_from-none d n = refl

root_keys_from-suc : (d : VpeDecl) (n m : ℕ) (rs : List Root) (i : ℕ) (r : Root) → m ≡ n + i → i < length rs → r ≡ get_or rs i r →
    root_keys_from d n (take (suc i) rs) ≡ root_keys_from d n (take i rs) ++ root_key d m r ∷ []
unfolding root_keys_from
root_keys_from-suc d n m [] i r at more found = absurd (omega arith)
root_keys_from-suc d n m (x ∷ xs) zero r at more found =
    let same : n ≡ m = omega arith in
    rw (found, same) refl
root_keys_from-suc d n m (x ∷ xs) (suc i) r at more found =
    ap (λ ks. root_key d n x ∷ ks) (root_keys_from-suc d (n + 1) m xs i r (omega arith) (omega arith) found)

root_keys_from-more : (d : VpeDecl) (rs : List Root) (i : ℕ) (r : Root) → i < length rs → r ≡ get_or rs i r →
    root_keys_from d 0 (take (i + 1) rs) ≡ root_keys_from d 0 (take i rs) ++ root_key d i r ∷ []
root_keys_from-more d rs i r more found = rw add-one (root_keys_from-suc d 0 i rs i r (omega arith) more found)

-- the key of one root more is appended
pub roots_more : (d : VpeDecl) (i : ℕ) (r : Root) (kind : Kind) (before now new : List KeyName) → i < length d.roots → r ≡ get_or d.roots i r →
    kind ≡ object_kind r.object → now ≡ before ++ root_keys_from d 0 (take i d.roots) →
    new ≡ now ++ record { pe = d.pe; vpe = d.vpe; kind = kind; number = i } ∷ [] → new ≡ before ++ root_keys_from d 0 (take (i + 1) d.roots)
roots_more d i r kind before now new more found is so_far pushed =
    rw (root_keys_from-more d d.roots i r more found, pushed, so_far, is) (append_assoc before (root_keys_from d 0 (take i d.roots)) (root_key d i r ∷ []))

-- a VPE that a setup declares has at most as many roots as there are selectors
pub few_declared : (T : Setup) (i : ℕ) (d : VpeDecl) → IsSetup T → i < length T.vpes → d ≡ get_or T.vpes i d → length d.roots ≤ 256
few_declared T i d valid within found =
    let declared : IsVpeDecl T d = subst (IsVpeDecl T) (sym found) (valid.vpes i d within) in
    few_roots d.roots declared.roots declared.selectors_differ
