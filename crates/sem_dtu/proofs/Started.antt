-- The endpoints at the start, VPE by VPE.
use Rattle.std.proofs.Common.{◌≡◌, ℕ, ◌+◌, Bool, true, false, List, [], ◌∷◌, ◌++◌, length, map, refl, ◌∙◌, ap, arith}
use Rattle.std.specs.List.{range_with_len}
use Rattle.std.proofs.lemmas.List.{map-append}
use Rattle.std.proofs.lemmas.List.FromFn.{length-map-range_with_len, map-range_with_len_more}
use Rattle.sem_key.specs.declared.limits.TheConstants.{VPES}
use Rattle.sem_msg.specs.declared.limits.TheConstants.{ENDPOINTS}
use Rattle.sem_msg.specs.Setup.{Setup}
use Rattle.sem_msg.specs.Lookups.{is_own}
use Rattle.sem_dtu.specs.declared.row.Row.{Row}
use Rattle.sem_dtu.specs.EndpointTable.{IsEndpointTable, endpoint_count}
use Rattle.sem_dtu.specs.OwnVpes.{new_endpoints, new_table}
use Rattle.sem_dtu.specs.Rows.{table}
use Rattle.sem_dtu.proofs.Edited.{same_table}

-- the rows of the first VPEs at the start
pub record IsStarted (T : Setup) (i : ℕ) (rows : List Row) (n : ℕ) : Type 0 where
  pub ours : (table rows).ours ≡ map (is_own T i) (range_with_len 0 n)
  pub endpoints : (table rows).rows ≡ map new_endpoints (map (is_own T i) (range_with_len 0 n))

-- one more row
pub IsStarted-more : (T : Setup) (i : ℕ) (rows : List Row) (n : ℕ) (row : Row) → IsStarted T i rows n → row.is_ours ≡ is_own T i n →
    row.endpoints.items ≡ new_endpoints (is_own T i n) → IsStarted T i (rows ++ row ∷ []) (n + 1)
IsStarted-more T i rows n row so_far ours endpoints = record {
  ours = map-append (λ (r : Row). r.is_ours) rows (row ∷ []) ∙ rw (map-range_with_len_more (is_own T i) 0 n n (omega arith), so_far.ours, ours) refl;
  endpoints = map-append (λ (r : Row). r.endpoints.items) rows (row ∷ [])
      ∙ rw (
        map-range_with_len_more (is_own T i) 0 n n (omega arith),
        map-append new_endpoints (map (is_own T i) (range_with_len 0 n)) (is_own T i n ∷ []),
        so_far.endpoints,
        endpoints,
      ) refl;
}

-- the rows of all VPEs
pub IsStarted-all : (T : Setup) (i : ℕ) (rows : List Row) (n : ℕ) → IsStarted T i rows n → n ≡ VPES → table rows ≡ new_table T i
IsStarted-all T i rows n started all =
    same_table (table rows) (new_table T i)
    (started.ours ∙ ap (λ m. map (is_own T i) (range_with_len 0 m)) all)
    (started.endpoints ∙ ap (λ m. map new_endpoints (map (is_own T i) (range_with_len 0 m))) all)

-- the table at the start is one
pub IsEndpointTable-new : (T : Setup) (i : ℕ) → IsEndpointTable (new_table T i)
IsEndpointTable-new T i = record {
  all_vpes = length-map-range_with_len (is_own T i) 0 VPES;
  all_endpoints = counts (new_table T i).ours;
}
  where
    counts : (ours : List Bool) → map length (map new_endpoints ours) ≡ map endpoint_count ours
    counts [] = refl
    counts (true ∷ ours) = ap (λ ns. ENDPOINTS ∷ ns) (counts ours)
    counts (false ∷ ours) = ap (λ ns. 0 ∷ ns) (counts ours)
