-- The roots of a setup are numbered below the next numbers of their VPEs at the start.
use Rattle.std.proofs.Common.{◌≡◌, ℕ, zero, suc, ◌<◌, ◌+◌, List, [], ◌∷◌, length, Option, Some, None, refl, sym, ◌∙◌, ap, subst, inl, inr, arith}
use Rattle.std.specs.Prelude.{◌==◌, unwrap_or}
use Rattle.std.specs.List.{All, AllPairs, Contains, filter, find}
use Rattle.std.specs.Option.{option_map_or, IsSome}
use Rattle.std.proofs.lemmas.Bool.{cond-true, cond-false, ne_eqb}
use Rattle.std.proofs.lemmas.List.Elements.{All-contains, All-head, All-tail}
use Rattle.std.proofs.lemmas.List.Kept.{AllPairs-filter}
use Rattle.std.proofs.lemmas.List.FromFn.{get_or-map-range_with_len}
use Rattle.std.proofs.Common.{eq-eqb}
use Rattle.sem_key.specs.KeyName.{KeyName}
use Rattle.sem_key.specs.Lists.{in_turn}
use Rattle.sem_key.specs.MembershipTable.{owner_at}
use Rattle.sem_msg.specs.declared.setup.Root.{Root}
use Rattle.sem_msg.specs.declared.setup.VpeDecl.{VpeDecl}
use Rattle.sem_msg.specs.Rows.{VpeRow, no_vpe}
use Rattle.sem_msg.specs.Setup.{Setup, IsSetup, IsVpeDecl, root_key}
use Rattle.sem_msg.specs.Lookups.{pe_owner, kernel_of}
use Rattle.sem_machine.specs.Sides.{Side, no_side, row, with_row}
use Rattle.sem_msg.specs.VpeRows.{new_vpe, root_held}
use Rattle.sem_machine.specs.Machine.{side, start, start_side, empty_side, root_added, vpe_added, vpe_fresh}
use Rattle.sem_machine.specs.Journals.{root_keys_from, root_keys}
use Rattle.sem_key.proofs.Members.{Contains-nil, Contains-cons_cases, Contains-filter, Contains-from_flat_map}
use Rattle.sem_key.proofs.Puts.{get_or-put_same, get_or-put_other}

-- The first of a list, of which all pairs are so, and the others.

AllPairs-head : {X : Type 0} (S : X → X → Type 0) (x : X) (xs : List X) → AllPairs S (x ∷ xs) → All (S x) xs
AllPairs-head S x xs pairs k d within = pairs zero (suc k) d (omega arith) (omega arith)

AllPairs-tail : {X : Type 0} (S : X → X → Type 0) (x : X) (xs : List X) → AllPairs S (x ∷ xs) → AllPairs S xs
AllPairs-tail S x xs pairs i j d lt within = pairs (suc i) (suc j) d (omega arith) (omega arith)

-- Rows.

pub with_row-same : (v : ℕ) (f : VpeRow → VpeRow) (s : Side) → row (with_row v f s) v ≡ f (row s v)
with_row-same v f s = get_or-put_same no_vpe s.vpes v (f (row s v))

with_row-other : (v : ℕ) (f : VpeRow → VpeRow) (s : Side) (w : ℕ) → (w ≡ v → ⊥) → row (with_row v f s) w ≡ row s w
with_row-other v f s w other = get_or-put_other no_vpe s.vpes v w (f (row s v)) other

pub root-next : (d : VpeDecl) (r : Root) (s : Side) → (row (root_added d r s) d.vpe).next_number ≡ (row s d.vpe).next_number + 1
root-next d r s = ap (λ (x : VpeRow). x.next_number) (get_or-put_same no_vpe s.vpes d.vpe (root_held d r (row s d.vpe)))

root-other : (d : VpeDecl) (r : Root) (s : Side) (w : ℕ) → (w ≡ d.vpe → ⊥) → row (root_added d r s) w ≡ row s w
root-other d r s w other = get_or-put_other no_vpe s.vpes d.vpe w (root_held d r (row s d.vpe)) other

roots-next : (d : VpeDecl) (rs : List Root) (s : Side) → (row (in_turn (root_added d) rs s) d.vpe).next_number ≡ (row s d.vpe).next_number + length rs
unfolding in_turn
roots-next d [] s = omega arith
roots-next d (r ∷ rs) s = let rest = roots-next d rs (root_added d r s) in let here = root-next d r s in omega (arith, rest, here)

roots-other : (d : VpeDecl) (rs : List Root) (s : Side) (w : ℕ) → (w ≡ d.vpe → ⊥) → row (in_turn (root_added d) rs s) w ≡ row s w
unfolding in_turn
roots-other d [] s w other = refl
roots-other d (r ∷ rs) s w other = roots-other d rs (root_added d r s) w other ∙ root-other d r s w other

vpe-next : (d : VpeDecl) (s : Side) → (row (vpe_added d s) d.vpe).next_number ≡ length d.roots
vpe-next d s =
    let fresh : (row (vpe_fresh d s) d.vpe).next_number ≡ 0 = ap (λ (x : VpeRow). x.next_number) (with_row-same d.vpe (λ v. new_vpe) s) in
    let roots = roots-next d d.roots (vpe_fresh d s) in
    omega (arith, fresh, roots)

vpe-other : (d : VpeDecl) (s : Side) (w : ℕ) → (w ≡ d.vpe → ⊥) → row (vpe_added d s) w ≡ row s w
vpe-other d s w other = roots-other d d.roots (vpe_fresh d s) w other ∙ with_row-other d.vpe (λ v. new_vpe) s w other

vpes-other : (ds : List VpeDecl) (s : Side) (w : ℕ) → All (λ (x : VpeDecl). w < x.vpe) ds → row (in_turn vpe_added ds s) w ≡ row s w
unfolding in_turn
vpes-other [] s w above = refl
vpes-other (d ∷ ds) s w above =
    let here : w < d.vpe = All-head (λ (x : VpeDecl). w < x.vpe) d ds above in
    vpes-other ds (vpe_added d s) w (All-tail (λ (x : VpeDecl). w < x.vpe) d ds above) ∙ vpe-other d s w (λ same. omega (arith, here, same))

vpes-next : (ds : List VpeDecl) (s : Side) (d : VpeDecl) → AllPairs (λ (a b : VpeDecl). a.vpe < b.vpe) ds → Contains ds d →
    (row (in_turn vpe_added ds s) d.vpe).next_number ≡ length d.roots
unfolding in_turn
vpes-next [] s d rise among = absurd (Contains-nil d among)
vpes-next (x ∷ xs) s d rise among = elim (Contains-cons_cases x xs d among) [
  | inl same ↦ subst (λ (y : VpeDecl). (row (in_turn vpe_added xs (vpe_added x s)) y.vpe).next_number ≡ length y.roots) same
      (ap (λ (r : VpeRow). r.next_number) (vpes-other xs (vpe_added x s) x.vpe (AllPairs-head (λ (a b : VpeDecl). a.vpe < b.vpe) x xs rise)) ∙ vpe-next x s)
  | inr rest ↦ vpes-next xs (vpe_added x s) d (AllPairs-tail (λ (a b : VpeDecl). a.vpe < b.vpe) x xs rise) rest
]

-- The declaration of a VPE.

pub find-decl : (ds : List VpeDecl) (d : VpeDecl) → AllPairs (λ (a b : VpeDecl). a.vpe < b.vpe) ds → Contains ds d → find (λ x. x.vpe == d.vpe) ds ≡ Some d
find-decl [] d rise among = absurd (Contains-nil d among)
find-decl (x ∷ xs) d rise among = elim (Contains-cons_cases x xs d among) [
  | inl same ↦ cond-true (x.vpe == d.vpe) (Some x) (find (λ x. x.vpe == d.vpe) xs) (eq-eqb x.vpe d.vpe (ap (λ (y : VpeDecl). y.vpe) same)) ∙ ap Some same
  | inr rest ↦
      let before : x.vpe < d.vpe = All-contains (λ (y : VpeDecl). x.vpe < y.vpe) xs d (AllPairs-head (λ (a b : VpeDecl). a.vpe < b.vpe) x xs rise) rest in
      cond-false (x.vpe == d.vpe) (Some x) (find (λ x. x.vpe == d.vpe) xs) (ne_eqb x.vpe d.vpe (λ same. omega (arith, before, same)))
      ∙ find-decl xs d (AllPairs-tail (λ (a b : VpeDecl). a.vpe < b.vpe) x xs rise) rest
]

pub owner-is : (n : ℕ) (o : Option ℕ) → IsSome o → ((kernel : ℕ) → o ≡ Some kernel → kernel < n) → unwrap_or o n < n
owner-is n None some exist = absurd cc
owner-is n (Some kernel) some exist = exist kernel refl

-- the keys of roots from a number on
root-of : (d : VpeDecl) (rs : List Root) (n : ℕ) (k : KeyName) → Contains (root_keys_from d n rs) k → (k.vpe ≡ d.vpe) × (k.number < n + length rs)
unfolding root_keys_from
root-of d [] n k among = absurd (Contains-nil k among)
root-of d (r ∷ rs) n k among = elim (Contains-cons_cases (root_key d n r) (root_keys_from d (n + 1) rs) k among) [
  | inl same ↦ (sym (ap (λ (x : KeyName). x.vpe) same), let number : n ≡ k.number = ap (λ (x : KeyName). x.number) same in omega (arith, number))
  | inr rest ↦ let later = root-of d rs (n + 1) k rest in (later.0, let below = later.1 in omega (arith, below))
]

-- a root's number was drawn by its VPE at the start
pub root-drawn : (T : Setup) → IsSetup T → (k : KeyName) → Contains (root_keys T) k → k.number < (row (side (start T) (kernel_of T k.vpe)) k.vpe).next_number
unfolding start start_side
root-drawn T valid k root =
    let from = Contains-from_flat_map (λ (d : VpeDecl). root_keys_from d 0 d.roots) T.vpes k root in
    by_decl from.0 from.1 (root-of from.0 from.0.roots 0 k from.2)
  where
    by_decl : (d : VpeDecl) → Contains T.vpes d → (k.vpe ≡ d.vpe) × (k.number < 0 + length d.roots) →
        k.number < (row (side (start T) (kernel_of T k.vpe)) k.vpe).next_number
    by_decl d among (vpe, number) =
        let i : ℕ = pe_owner T d.pe in
        let kernel : kernel_of T k.vpe ≡ i = ap (kernel_of T) vpe
        ∙ ap (λ (o : Option VpeDecl). option_map_or (λ (x : VpeDecl). pe_owner T x.pe) o T.kernels) (find-decl T.vpes d valid.vpes_rise among) in
        let declared : IsVpeDecl T d = All-contains (IsVpeDecl T) T.vpes d valid.vpes among in
        let few : i < T.kernels =
        owner-is T.kernels (owner_at T.owners d.pe) declared.owned
        (λ j there. subst (λ n. j < n) valid.same_kernels (valid.membership.owners_exist d.pe j there)) in
        let at : side (start T) i ≡ start_side T i = get_or-map-range_with_len (start_side T) 0 T.kernels i i no_side few (omega arith) in
        let next : (row (start_side T i) d.vpe).next_number ≡ length d.roots =
        vpes-next (filter (λ (x : VpeDecl). pe_owner T x.pe == i) T.vpes) (empty_side T) d
        (AllPairs-filter (λ (a b : VpeDecl). a.vpe < b.vpe) (λ (x : VpeDecl). pe_owner T x.pe == i) T.vpes valid.vpes_rise)
        (Contains-filter (λ (x : VpeDecl). pe_owner T x.pe == i) T.vpes d among (eq-eqb i i refl)) in
        let whole : (row (side (start T) (kernel_of T k.vpe)) k.vpe).next_number ≡ length d.roots =
        ap (λ (j : ℕ). (row (side (start T) j) k.vpe).next_number) kernel
        ∙ (ap (λ (w : ℕ). (row (side (start T) i) w).next_number) vpe ∙ (ap (λ (s : Side). (row s d.vpe).next_number) at ∙ next)) in
        omega (arith, whole, number)
