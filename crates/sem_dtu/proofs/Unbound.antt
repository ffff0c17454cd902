-- Endpoints that are unbound from keys, row by row.
use Rattle.std.proofs.Common.{◌≡◌, ℕ, ◌+◌, ◌<◌, ◌≤◌, List, [], ◌∷◌, ◌++◌, length, map, take, drop, set, get_or, refl, sym, ◌∙◌, ap, arith, Bool, Option}
use Rattle.std.proofs.Common.{append-nil}
use Rattle.std.proofs.Math.Seq.{map-set_same}
use Rattle.std.proofs.lemmas.List.{map-set, get_or-map, length-map, take_all, drop_all}
use Rattle.std.proofs.lemmas.List.Edits.{map_over_more}
use Rattle.sem_key.specs.KeyName.{KeyName}
use Rattle.sem_msg.specs.Rows.{Endpoint}
use Rattle.sem_msg.specs.EndpointRows.{unbound_from, unbind_all}
use Rattle.sem_dtu.specs.declared.row.Row.{Row}
use Rattle.sem_dtu.specs.EndpointTable.{IsEndpointTable}
use Rattle.sem_dtu.specs.Rows.{table}
use Rattle.sem_dtu.proofs.Edited.{same_table, written_back}

abbrev pub ours_of : List Row → List Bool
ours_of rows = map (λ r. r.is_ours) rows

abbrev pub endpoints_of : List Row → List (List (Option Endpoint))
endpoints_of rows = map (λ r. r.endpoints.items) rows

module _ (ks : List KeyName) (before rows : List Row) (i : ℕ) (row new : Row) (within : i < length rows) (long : length rows ≡ length before) where
  pub ours-more : new.is_ours ≡ (get_or rows i row).is_ours → ours_of (set rows i new) ≡ ours_of rows
  ours-more same = map-set_same (λ (r : Row). r.is_ours) rows i new row same

  pub endpoints-more : new.endpoints.items ≡ map (unbound_from ks) (get_or rows i row).endpoints.items →
      endpoints_of rows ≡ map (λ es. map (unbound_from ks) es) (take i (endpoints_of before)) ++ drop i (endpoints_of before) →
      endpoints_of (set rows i new) ≡ map (λ es. map (unbound_from ks) es) (take (i + 1) (endpoints_of before)) ++ drop (i + 1) (endpoints_of before)
  endpoints-more edited so_far =
      map-set (λ (r : Row). r.endpoints.items) rows i new
      ∙ (ap (set (endpoints_of rows) i) edited
      ∙ map_over_more (λ es. map (unbound_from ks) es) (endpoints_of before) (endpoints_of rows) i (get_or rows i row).endpoints.items
      (omega (arith, length-map before (λ (r : Row). r.endpoints.items))) so_far
      (sym (get_or-map (λ (r : Row). r.endpoints.items) rows i row (get_or rows i row).endpoints.items within)))

-- a row without endpoints has none that is bound
pub no-endpoints : {X : Type 0} (xs : List X) → length xs ≡ 0 → xs ≡ []
no-endpoints [] none = refl
no-endpoints (x ∷ xs) none = absurd (omega arith)

-- all rows are done
pub table-done : (ks : List KeyName) (len : ℕ) (before rows items : List Row) (i : ℕ) → before ≡ items → length before ≡ len → length rows ≡ length before →
    length before ≤ i → ours_of rows ≡ ours_of before → endpoints_of rows ≡ map (λ es. map (unbound_from ks) es) (take i (endpoints_of before))
    ++ drop i (endpoints_of before) → table (take len (rows ++ drop (length rows) items)) ≡ record (table items) { rows = unbind_all ks (table items).rows }
table-done ks len before rows items i same whole long all ours edited =
    let count = length-map before (λ (r : Row). r.endpoints.items) in
    let taken = take_all i (endpoints_of before) (omega arith) in
    let dropped = drop_all i (endpoints_of before) (omega arith) in
    ap table (written_back len rows items (long ∙ whole) (ap length (sym same) ∙ whole))
    ∙ same_table (table rows) (record (table items) { rows = unbind_all ks (table items).rows }) (ours ∙ ap ours_of same) (edited
    ∙ (rw (taken, dropped, append-nil) refl ∙ ap (λ rs. unbind_all ks (endpoints_of rs)) same))

-- there are as many endpoints as before
lengths-same : (ks : List KeyName) (rows : List (List (Option Endpoint))) → map length (unbind_all ks rows) ≡ map length rows
lengths-same ks [] = refl
lengths-same ks (es ∷ rows) = rw (length-map es (unbound_from ks), lengths-same ks rows) refl

pub is_table-unbound : (ks : List KeyName) (rows new : List Row) → IsEndpointTable (table rows) →
    table new ≡ record (table rows) { rows = unbind_all ks (table rows).rows } → IsEndpointTable (table new)
is_table-unbound ks rows new is_table same = rw same (record {
  all_vpes = is_table.all_vpes;
  all_endpoints = lengths-same ks (endpoints_of rows) ∙ is_table.all_endpoints;
})
