-- How far the making of a VPE at the start has come, and what a setup keeps of those that it declares.
use Rattle.std.proofs.Common.{◌≡◌, ◌≢◌, ℕ, zero, suc, ◌+◌, ◌<◌, ◌≤◌, true, false, eqb, List, [], ◌∷◌, ◌++◌, length, take, map, get_or, Option, Some, None}
use Rattle.std.proofs.Common.{IfSome, is_some, refl, sym, ◌∙◌, ap, subst, inl, inr, arith}
use Rattle.sem_key.specs.declared.limits.TheConstants.{VPES}
use Rattle.sem_key.proofs.InTurns.{in_turn-append}
use Rattle.sem_key.proofs.Members.{AllPairs-map}
use Rattle.sem_msg.specs.declared.limits.TheConstants.{SELECTORS}
use Rattle.sem_msg.proofs.Declared.{most_vpes-le}
use Rattle.sem_msg.specs.declared.state.Slot.TheVariants.{Free}
use Rattle.std.specs.Prelude.{unwrap_or}
use Rattle.std.specs.List.{All, AllPairs, list_any, range_with_len}
use Rattle.std.proofs.lemmas.Bool.{cases_Bool, eqb-true}
use Rattle.std.proofs.lemmas.Bool.Decides.{Decides-eqb}
use Rattle.std.proofs.lemmas.List.{take_all, take_more, length-replicate, length-map}
use Rattle.std.proofs.lemmas.List.Elements.{All-append, All-cons, All-nil}
use Rattle.std.proofs.lemmas.List.FromFn.{map-range_with_len_more}
use Rattle.std.proofs.lemmas.Map.Made.{IsDistinct-from_AllPairs}
use Rattle.std.proofs.lemmas.Map.Steps.{length-le_from_distinct_below}
use Rattle.sem_key.specs.Lists.{in_turn}
use Rattle.sem_msg.specs.declared.setup.Root.{Root}
use Rattle.sem_msg.specs.declared.setup.VpeDecl.{VpeDecl}
use Rattle.sem_msg.specs.Rows.{VpeRow, no_vpe}
use Rattle.sem_msg.specs.Setup.{Setup, IsRoot, IsVpeDecl}
use Rattle.sem_msg.specs.VpeRows.{new_vpe, root_held, start_row}
use Rattle.sem_vpe.specs.VpeTable.{IsVpeRow, IsVpeTable}
use Rattle.sem_vpe.specs.Starting.{start_place, start_table, IsStartable}
use Rattle.sem_vpe.specs.Stored.{kept_table}

-- the first roots of a VPE were added
pub record IsAdding (d : VpeDecl) (now : VpeRow) (done : ℕ) : Type 0 where
  pub added : now ≡ in_turn (root_held d) (take done d.roots) new_vpe
  pub number : now.next_number ≡ done
  pub is_row : IsVpeRow now

-- none yet
pub IsAdding-none : (d : VpeDecl) (now : VpeRow) → now ≡ new_vpe → IsAdding d now 0
unfolding in_turn
IsAdding-none d now is = record { added = is; number = ap (λ (r : VpeRow). r.next_number) is; is_row = subst IsVpeRow (sym is) new_row }
  where
    new_row : IsVpeRow new_vpe
    new_row = record { selectors = length-replicate SELECTORS Free; few_numbers = omega arith; few_calls = omega arith; few_asks = omega arith }

-- one more root
pub IsAdding-more : (d : VpeDecl) (now new : VpeRow) (done : ℕ) (r : Root) → IsAdding d now done → done < length d.roots → r ≡ get_or d.roots done r →
    new ≡ root_held d r now → IsVpeRow new → IsAdding d new (done + 1)
unfolding in_turn
IsAdding-more d now new done r so_far more found is is_row = record {
  added = rw (take_more d.roots done r more, in_turn-append, ← found, ← so_far.added) is;
  number = ap (λ (x : VpeRow). x.next_number) is ∙ ap (λ n. n + 1) so_far.number;
  is_row = is_row;
}

-- all roots
pub IsAdding-all : (d : VpeDecl) (now : VpeRow) (done : ℕ) → IsAdding d now done → length d.roots ≤ done → now ≡ start_row d
unfolding start_row
IsAdding-all d now done so_far all = rw (← take_all done d.roots all) so_far.added

-- What a setup keeps of what it declares.

-- roots at selectors of their own are at most as many as there are selectors
selectors_small : (roots : List Root) → All IsRoot roots → (q : ℕ) → list_any (eqb q) (map (λ (r : Root). r.sel) roots) ≡ true → q < SELECTORS
selectors_small [] all q some = absurd cc
selectors_small (r ∷ rs) all q some = elim (cases_Bool (eqb q r.sel)) [
  | inl same ↦ let is : q ≡ r.sel = eqb-true q r.sel same in let small : r.sel < SELECTORS = (all 0 r (omega arith)).selector in omega arith
  | inr other ↦ let rest : list_any (eqb q) (map (λ (x : Root). x.sel) rs) ≡ true = rw other at some in
      selectors_small rs (λ k d lt. all (suc k) d (omega arith)) q rest
]

few_roots : (roots : List Root) → All IsRoot roots → AllPairs (λ a b. a.sel ≢ b.sel) roots → length roots ≤ SELECTORS
few_roots roots all differ =
    let sels : List ℕ = map (λ (r : Root). r.sel) roots in
    rw (length-map roots (λ (r : Root). r.sel)) at
    (length-le_from_distinct_below sels SELECTORS
    (IsDistinct-from_AllPairs Decides-eqb sels (AllPairs-map (λ (x y : ℕ). x ≢ y) (λ (r : Root). r.sel) roots differ)) (selectors_small roots all))

-- a declared VPE can be started
pub startable : (T : Setup) (d : VpeDecl) → IsVpeDecl T d → IsStartable d
startable T d known =
    let few = most_vpes-le T.version in
    let vpe = known.vpe in
    let pe = known.pe in
    record { vpe = omega arith; pe = omega arith; few_roots = few_roots d.roots known.roots known.selectors_differ }

-- The table at the start.

-- each place is as it is at the start
pub started-more : (T : Setup) (i v : ℕ) (places : List (Option VpeRow)) (place : Option VpeRow) → places ≡ map (start_place T i) (range_with_len 0 v) →
    place ≡ start_place T i v → places ++ place ∷ [] ≡ map (start_place T i) (range_with_len 0 (v + 1))
started-more T i v places place so_far is = rw (map-range_with_len_more (start_place T i) 0 v v (omega arith), so_far, is) refl

pub rows-more : (places : List (Option VpeRow)) (place : Option VpeRow) → All (λ p. IfSome p IsVpeRow) places → IfSome place IsVpeRow →
    All (λ p. IfSome p IsVpeRow) (places ++ place ∷ [])
rows-more places place so_far here = All-append (λ (p : Option VpeRow). IfSome p IsVpeRow) places (place ∷ []) so_far
    (All-cons (λ (p : Option VpeRow). IfSome p IsVpeRow) place [] here (All-nil (λ (p : Option VpeRow). IfSome p IsVpeRow)))

map-map : {X Y Z : Type 0} (f : X → Y) (g : Y → Z) (xs : List X) → map g (map f xs) ≡ map (λ x. g (f x)) xs
map-map f g [] = refl
map-map f g (x ∷ xs) = ap (λ ys. g (f x) ∷ ys) (map-map f g xs)

pub started-all : (T : Setup) (i v : ℕ) (places : List (Option VpeRow)) → places ≡ map (start_place T i) (range_with_len 0 v) → v ≡ VPES →
    kept_table places ≡ start_table T i
unfolding start_table
started-all T i v places so_far all = rw (
  so_far,
  all,
  map-map (start_place T i) (λ (p : Option VpeRow). is_some p) (range_with_len 0 VPES),
  map-map (start_place T i) (λ (p : Option VpeRow). unwrap_or p no_vpe) (range_with_len 0 VPES),
) refl

-- and what is kept of each VPE is a row
row_at : (place : Option VpeRow) → IfSome place IsVpeRow → is_some place ≡ true → IsVpeRow (unwrap_or place no_vpe)
row_at None is_row some = absurd cc
row_at (Some r) is_row some = is_row

no_row_at : (place : Option VpeRow) → is_some place ≡ false → unwrap_or place no_vpe ≡ no_vpe
no_row_at None none = refl
no_row_at (Some r) none = absurd cc

mark_at : (places : List (Option VpeRow)) (v : ℕ) → get_or (map (λ (p : Option VpeRow). is_some p) places) v false ≡ is_some (get_or places v None)
mark_at [] v = refl
mark_at (p ∷ ps) zero = refl
mark_at (p ∷ ps) (suc v) = mark_at ps v

row_in : (places : List (Option VpeRow)) (v : ℕ) → get_or (map (λ (p : Option VpeRow). unwrap_or p no_vpe) places) v no_vpe
    ≡ unwrap_or (get_or places v None) no_vpe
row_in [] v = refl
row_in (p ∷ ps) zero = refl
row_in (p ∷ ps) (suc v) = row_in ps v

marked-within : (places : List (Option VpeRow)) (v : ℕ) → is_some (get_or places v None) ≡ true → v < length places
marked-within [] v some = absurd cc
marked-within (p ∷ ps) zero some = omega arith
marked-within (p ∷ ps) (suc v) some = let rest = marked-within ps v some in omega arith

pub table_of : (places : List (Option VpeRow)) → length places ≡ VPES → All (λ p. IfSome p IsVpeRow) places → IsVpeTable (kept_table places)
table_of places long rows = record {
  marks = length-map places (λ (p : Option VpeRow). is_some p) ∙ long;
  places = length-map places (λ (p : Option VpeRow). unwrap_or p no_vpe) ∙ long;
  kept = λ v ours. let some = sym (mark_at places v) ∙ ours in
      rw (row_in places v) (row_at (get_or places v None) (rows v None (marked-within places v some)) some);
  nothing_kept = λ v other. row_in places v ∙ no_row_at (get_or places v None) (sym (mark_at places v) ∙ other);
}
