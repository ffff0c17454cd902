-- What contracts see after the endpoints of one VPE were changed.
use Rattle.std.proofs.Common.{◌≡◌, ℕ, ◌<◌, Bool, true, false, List, [], ◌++◌, length, map, take, drop, get_or, set, append-nil, Option, None, is_some}
use Rattle.std.proofs.Common.{if◌then◌else◌, refl, sym, ◌∙◌, ap, subst, inl, inr, arith}
use Rattle.std.specs.Vec.{vec_len}
use Rattle.std.proofs.Math.Seq.{map-set_same}
use Rattle.std.proofs.lemmas.List.{get_or-map, map-set, length-map, get_or_past, get_or_default, take_all, drop_all}
use Rattle.std.proofs.lemmas.Bool.{cases_lt}
use Rattle.sem_key.specs.Lists.{put}
use Rattle.sem_msg.specs.declared.limits.TheConstants.{ENDPOINTS}
use Rattle.sem_msg.specs.Rows.{Endpoint}
use Rattle.sem_msg.specs.EndpointRows.{endpoint, with_row, with_endpoint}
use Rattle.sem_dtu.specs.declared.row.Row.{Row}
use Rattle.sem_dtu.specs.declared.op.Op.{Op}
use Rattle.sem_dtu.specs.declared.op.Op.TheVariants.{Read, Write, Send as SendOp, Credit}
use Rattle.sem_dtu.specs.EndpointTable.{EndpointTable, IsEndpointTable, endpoint_count, IsOurs}
use Rattle.sem_dtu.specs.Rows.{table}
use Rattle.sem_dtu.specs.Uses.{use_refusal, done, tried, use_done}
use Rattle.sem_key.proofs.Puts.{put-set, put-same}

-- tables with the same VPEs and the same endpoints
pub same_table : (t u : EndpointTable) → t.ours ≡ u.ours → t.rows ≡ u.rows → t ≡ u
same_table t u ours rows = ap (λ (os : List Bool). record t { ours = os }) ours ∙ ap (λ (rs : List (List (Option Endpoint))). record u { rows = rs }) rows

-- a place in the table is one in the rows
pub ours-place : (rows : List Row) (t : EndpointTable) (v at : ℕ) → table rows ≡ t → at ≡ v → IsOurs t v → IsOurs (table rows) at
ours-place rows t v at is same ours = subst (λ n. IsOurs (table rows) n) (sym same) (subst (λ (u : EndpointTable). IsOurs u v) (sym is) ours)

-- an operation was tried at an endpoint of a VPE of this kernel
module _ (t : EndpointTable) (v ep : ℕ) (v_within : v < length t.rows) (ep_within : ep < length (get_or t.rows v [])) where
  unchanged : record t { rows = with_endpoint v ep (endpoint t.rows v ep) t.rows } ≡ t
  unchanged = ap (λ (rows : List (List (Option Endpoint))). record t { rows = rows }) (ap (put [] t.rows v) (put-same None (get_or t.rows v []) ep ep_within)
      ∙ put-same [] t.rows v v_within)

  by_refusal : (refused : Bool) (op : Op) →
      record t { rows = with_endpoint v ep (if refused then endpoint t.rows v ep else done op (endpoint t.rows v ep)) t.rows }
      ≡ (if refused then t else record t { rows = use_done op v ep t.rows })
  by_refusal true op = unchanged
  by_refusal false (Read off len) = unchanged
  by_refusal false (Write off len) = unchanged
  by_refusal false (SendOp len) = refl
  by_refusal false Credit = refl

  pub table-tried : (op : Op) → record t { rows = with_endpoint v ep (tried op (endpoint t.rows v ep)) t.rows }
      ≡ (if is_some (use_refusal op (endpoint t.rows v ep)) then t else record t { rows = use_done op v ep t.rows })
  table-tried op = by_refusal (is_some (use_refusal op (endpoint t.rows v ep))) op

-- a list that was written back whole
pub written_back : {X : Type 0} (len : ℕ) (new old : List X) → length new ≡ len → length old ≡ len → take len (new ++ drop (length new) old) ≡ new
written_back len new old same_new same_old = rw (drop_all (length new) old (omega arith), append-nil) (take_all len new (omega arith))

-- the row of a VPE of this kernel
module _ (rows : List Row) (v : ℕ) (row : Row) (ours : IsOurs (table rows) v) (read : row ≡ get_or rows v row) where
  pub within-rows : v < length rows
  within-rows = elim (cases_lt v (length rows)) [
    | inl within ↦ within
    | inr past ↦
        let none : get_or (table rows).ours v false ≡ false = get_or_past (table rows).ours v false (omega (arith, length-map rows (λ (r : Row). r.is_ours))) in
        absurd cc
  ]

  is_ours-row : row.is_ours ≡ true
  is_ours-row = ap (λ (r : Row). r.is_ours) read ∙ (sym (get_or-map (λ (r : Row). r.is_ours) rows v row false within-rows) ∙ ours)

  pub endpoints-row : get_or (table rows).rows v [] ≡ row.endpoints.items
  endpoints-row = get_or-map (λ (r : Row). r.endpoints.items) rows v row [] within-rows ∙ ap (λ (r : Row). r.endpoints.items) (sym read)

  pub whole-row : IsEndpointTable (table rows) → length row.endpoints.items ≡ ENDPOINTS
  whole-row is_table =
      ap length (sym endpoints-row)
      ∙ (sym (get_or-map length (table rows).rows v [] 0 (omega (arith, within-rows, length-map rows (λ (r : Row). r.endpoints.items))))
      ∙ (ap (λ ns. get_or ns v 0) is_table.all_endpoints
      ∙ (get_or-map endpoint_count (table rows).ours v true 0 (omega (arith, within-rows, length-map rows (λ (r : Row). r.is_ours)))
      ∙ ap endpoint_count (get_or_default (table rows).ours v true false (omega (arith, within-rows, length-map rows (λ (r : Row). r.is_ours))) ∙ ours))))

  -- each of its endpoints is there
  pub endpoint-within : IsEndpointTable (table rows) → (ep at : ℕ) → ep < ENDPOINTS → at ≡ ep → at < vec_len row.endpoints
  endpoint-within is_table ep at low same = omega (arith, whole-row is_table, row.endpoints.ok.0)

  -- the endpoint in its place
  pub endpoint-here : IsEndpointTable (table rows) → (ep at : ℕ) (e : Option Endpoint) → ep < ENDPOINTS → at ≡ ep → e ≡ get_or row.endpoints.items at e →
      endpoint (table rows).rows v ep ≡ e
  endpoint-here is_table ep at e low same is =
      ap (λ es. get_or es ep None) endpoints-row
      ∙ (get_or_default row.endpoints.items ep None e (omega (arith, whole-row is_table))
      ∙ sym (subst (λ n. e ≡ get_or row.endpoints.items n e) same is))

  -- another row in its place
  module _ (new : Row) (same : new.is_ours ≡ row.is_ours) where
    ours-set : (table (set rows v new)).ours ≡ (table rows).ours
    ours-set = map-set_same (λ (r : Row). r.is_ours) rows v new row (same ∙ ap (λ (r : Row). r.is_ours) read)

    -- with as many endpoints it is a table still
    pub is_table-row : IsEndpointTable (table rows) → new.endpoints.len ≡ row.endpoints.len → IsEndpointTable (table (set rows v new))
    is_table-row is_table same_count = record {
      all_vpes = ap length ours-set ∙ is_table.all_vpes;
      all_endpoints =
          ap (map length) (map-set (λ (r : Row). r.endpoints.items) rows v new)
          ∙ (map-set_same length (table rows).rows v new.endpoints.items [] (sym new.endpoints.ok.0 ∙ (same_count ∙ row.endpoints.ok.0) ∙ ap length (sym here))
          ∙ (is_table.all_endpoints ∙ ap (map endpoint_count) (sym ours-set)));
    }
      where
        here : get_or (table rows).rows v [] ≡ row.endpoints.items
        here = endpoints-row

    table-row : (f : List (Option Endpoint) → List (Option Endpoint)) → new.endpoints.items ≡ f row.endpoints.items →
        table (set rows v new) ≡ record (table rows) { rows = with_row v f (table rows).rows }
    table-row f is =
        let changed : (table (set rows v new)).rows ≡ with_row v f (table rows).rows =
        map-set (λ (r : Row). r.endpoints.items) rows v new
        ∙ ap (λ es. set (table rows).rows v es) (is ∙ ap f (sym endpoints-row))
        ∙ sym (put-set [] (table rows).rows v (f (get_or (table rows).rows v []))
        (omega (arith, within-rows, length-map rows (λ (r : Row). r.endpoints.items)))) in
        same_table (table (set rows v new)) (record (table rows) { rows = with_row v f (table rows).rows }) ours-set changed

    pub table-endpoint : IsEndpointTable (table rows) → (ep : ℕ) (e : Option Endpoint) → ep < ENDPOINTS → new.endpoints.items ≡ set row.endpoints.items ep e →
        table (set rows v new) ≡ record (table rows) { rows = with_endpoint v ep e (table rows).rows }
    table-endpoint is_table ep e low is =
        table-row (λ es. put None es ep e) (is ∙ sym (put-set None row.endpoints.items ep e (omega (arith, whole-row is_table))))

    pub table-written : (f : List (Option Endpoint) → List (Option Endpoint)) (len : ℕ) (given written : List (Option Endpoint)) → given ≡ row.endpoints.items →
        written ≡ f given → length written ≡ length given → length given ≡ len →
        new.endpoints.items ≡ take len (written ++ drop (length written) row.endpoints.items) →
        table (set rows v new) ≡ record (table rows) { rows = with_row v f (table rows).rows }
    table-written f len given written same_given is same_length whole back =
        table-row f (back ∙ (written_back len written row.endpoints.items (same_length ∙ whole) (ap length (sym same_given) ∙ whole) ∙ (is ∙ ap f same_given)))

    pub table-used : IsEndpointTable (table rows) → (op : Op) (ep at : ℕ) (old tried_at : Option Endpoint) → ep < ENDPOINTS → at ≡ ep →
        old ≡ get_or row.endpoints.items at old → tried_at ≡ tried op old → new.endpoints.items ≡ set row.endpoints.items at tried_at →
        table (set rows v new) ≡ (if is_some (use_refusal op (endpoint (table rows).rows v ep)) then table rows
        else record (table rows) { rows = use_done op v ep (table rows).rows })
    table-used is_table op ep at old tried_at low same is was edited =
        let here : endpoint (table rows).rows v ep ≡ old = endpoint-here is_table ep at old low same is in
        let v_within : v < length (table rows).rows = omega (arith, within-rows, length-map rows (λ (r : Row). r.endpoints.items)) in
        let ep_within : ep < length (get_or (table rows).rows v []) = omega (arith, whole-row is_table, ap length endpoints-row) in
        table-endpoint is_table ep tried_at low (subst (λ n. new.endpoints.items ≡ set row.endpoints.items n tried_at) same edited)
        ∙ (ap (λ e. record (table rows) { rows = with_endpoint v ep e (table rows).rows }) (was ∙ ap (tried op) (sym here))
        ∙ table-tried (table rows) v ep v_within ep_within op)
