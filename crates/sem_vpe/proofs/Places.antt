-- What is kept of the VPEs after one place has changed.
use Rattle.std.proofs.Common.{◌≡◌, ℕ, zero, suc, ◌<◌, Bool, true, false, List, [], ◌∷◌, ◌++◌, length, map, set, get_or, Option, Some, is_some, refl, sym, ◌∙◌}
use Rattle.std.proofs.Common.{ap, inl, inr, arith}
use Rattle.std.specs.Prelude.{IsTrue, unwrap_or, nat_lt, if◌then◌else◌}
use Rattle.std.proofs.Math.Seq.{map-set_same}
use Rattle.std.proofs.lemmas.Bool.{cases_eq}
use Rattle.std.proofs.lemmas.Bool.Decides.{nat_tests}
use Rattle.std.proofs.lemmas.List.{get_or-map, map-set, length-map}
use Rattle.sem_key.specs.Lists.{put}
use Rattle.sem_msg.specs.declared.limits.TheConstants.{ASKS}
use Rattle.sem_msg.specs.declared.state.Ask.{Ask}
use Rattle.sem_msg.specs.Rows.{VpeRow, no_vpe}
use Rattle.sem_msg.specs.VpeRows.{row, with_row}
use Rattle.sem_vpe.specs.VpeTable.{VpeTable, IsOurs, IsVpeRow, IsVpeTable}
use Rattle.sem_vpe.specs.Stored.{kept_table}
use Rattle.sem_key.proofs.Puts.{get_or-put_same, get_or-put_other, put-set, length-put}

-- what is marked is in the list
pub marked-within : (marks : List Bool) (v : ℕ) → IsTrue (get_or marks v false) → v < length marks
marked-within [] v marked = absurd cc
marked-within (m ∷ ms) zero marked = omega arith
marked-within (m ∷ ms) (suc v) marked = let rest = marked-within ms v marked in omega arith

-- a table with another row of a VPE of this kernel
pub table-put : (t : VpeTable) (v : ℕ) (new : VpeRow) → IsVpeTable t → IsOurs t v → IsVpeRow new → IsVpeTable (record t { rows = put no_vpe t.rows v new })
table-put t v new valid ours is_row = record {
  marks = valid.marks;
  places = length-put no_vpe t.rows v new within ∙ valid.places;
  kept = kept_there;
  nothing_kept = nothing_there;
}
  where
    within : v < length t.rows
    within = let marked = marked-within t.ours v ours in omega (arith, valid.marks, valid.places)

    kept_there : (w : ℕ) → IsOurs t w → IsVpeRow (row (put no_vpe t.rows v new) w)
    kept_there w w_ours = elim (cases_eq w v) [
      | inl same ↦ rw (same, get_or-put_same no_vpe t.rows v new) is_row
      | inr differs ↦ rw (get_or-put_other no_vpe t.rows v w new differs) (valid.kept w w_ours)
    ]

    nothing_there : (w : ℕ) → get_or t.ours w false ≡ false → row (put no_vpe t.rows v new) w ≡ no_vpe
    nothing_there w other = elim (cases_eq w v) [
      | inl same ↦ absurd (let mine : get_or t.ours w false ≡ true = rw same ours in cc)
      | inr differs ↦ rw (get_or-put_other no_vpe t.rows v w new differs) (valid.nothing_kept w other)
    ]

-- a place of a VPE of this kernel, as it was found and as it is after
module _ (places : List (Option VpeRow)) (v at : ℕ) (place : Option VpeRow) (kept new : VpeRow) (valid : IsVpeTable (kept_table places))
    (ours : IsOurs (kept_table places) v) (at_v : at ≡ v) (found : place ≡ get_or places at place) (is : place ≡ Some kept) where
  within : at < length places
  within = let marked = marked-within (kept_table places).ours v ours in omega (arith, length-map places (λ (p : Option VpeRow). is_some p))

  here : get_or places at place ≡ Some kept
  here = sym found ∙ is

  pub row-here : row (kept_table places).rows v ≡ kept
  row-here = rw (← at_v) (get_or-map (λ (p : Option VpeRow). unwrap_or p no_vpe) places at place no_vpe within
      ∙ ap (λ (p : Option VpeRow). unwrap_or p no_vpe) here)

  written : kept_table (set places at (Some new)) ≡ record (kept_table places) { rows = put no_vpe (kept_table places).rows v new }
  written =
      let marks : map (λ (p : Option VpeRow). is_some p) (set places at (Some new)) ≡ map (λ (p : Option VpeRow). is_some p) places =
      map-set_same (λ (p : Option VpeRow). is_some p) places at (Some new) place (ap (λ (p : Option VpeRow). is_some p) (sym here)) in
      let rows : map (λ (p : Option VpeRow). unwrap_or p no_vpe) (set places at (Some new))
      ≡ set (map (λ (p : Option VpeRow). unwrap_or p no_vpe) places) at new = map-set (λ (p : Option VpeRow). unwrap_or p no_vpe) places at (Some new) in
      let long : at < length (map (λ (p : Option VpeRow). unwrap_or p no_vpe) places) =
      omega (arith, within, length-map places (λ (p : Option VpeRow). unwrap_or p no_vpe)) in
      rw (marks, rows, ← at_v, put-set no_vpe (map (λ (p : Option VpeRow). unwrap_or p no_vpe) places) at new long) refl

  -- the change is one of the row of that VPE
  pub changed : (f : VpeRow → VpeRow) → new ≡ f kept → kept_table (set places at (Some new)) ≡ record (kept_table places) { rows = with_row v f (kept_table places).rows }
  changed f is_f = rw (row-here, ← is_f) written

  -- and that row is there
  pub row-changed : row (kept_table (set places at (Some new))).rows v ≡ new
  row-changed = ap (λ (t : VpeTable). row t.rows v) written ∙ get_or-put_same no_vpe (kept_table places).rows v new

  -- what was a table still is
  pub table-kept : IsVpeRow new → IsVpeTable (kept_table (set places at (Some new)))
  table-kept is_row = rw written (table-put (kept_table places) v new valid ours is_row)

-- an ask is appended where there is room for it
pub appended-here : (r new : VpeRow) (a : Ask) → new ≡ record r { asks = if nat_lt (length r.asks) ASKS then r.asks ++ a ∷ [] else r.asks } →
    length r.asks < ASKS → new.asks ≡ r.asks ++ a ∷ []
appended-here r new a is room = let fits : nat_lt (length r.asks) ASKS ≡ true = grind (arith, nat_tests) in rw fits at (ap (λ (x : VpeRow). x.asks) is)
