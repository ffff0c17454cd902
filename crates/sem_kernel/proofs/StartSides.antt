-- The side of a kernel at the start, store by store.
use Rattle.std.proofs.Common.{◌≡◌, ℕ, zero, suc, ◌<◌, Bool, true, false, List, [], ◌∷◌, length, map, get_or, Option, Some, None, is_some, refl, sym, ◌∙◌, ap}
use Rattle.std.proofs.Common.{subst, inl, inr, arith, eq-eqb}
use Rattle.std.specs.Prelude.{◌==◌, unwrap_or, if◌then◌else◌}
use Rattle.std.specs.List.{AllPairs, Contains, filter, find, range_with_len}
use Rattle.std.specs.Option.{IsSome, option_map, option_map_or, option_and_then}
use Rattle.std.proofs.lemmas.Bool.{cases_Bool, cond-true, cond-false, eqb-true, eqb-false, ne_eqb}
use Rattle.std.proofs.lemmas.List.{length-map, ext_get_or, get_or-map}
use Rattle.std.proofs.lemmas.List.Kept.{AllPairs-filter}
use Rattle.std.proofs.lemmas.List.FromFn.{get_or-map-range_with_len, length-map-range_with_len}
use Rattle.sem_key.specs.declared.limits.TheConstants.{VPES}
use Rattle.sem_key.specs.Lists.{in_turn}
use Rattle.sem_key.specs.Capability.{Capability}
use Rattle.sem_key.proofs.Members.{find_none, Contains-from_filter}
use Rattle.sem_key.proofs.Puts.{get_or-put_same, get_or-put_other}
use Rattle.sem_msg.specs.declared.setup.VpeDecl.{VpeDecl}
use Rattle.sem_msg.specs.Rows.{VpeRow, Endpoint, no_vpe}
use Rattle.sem_msg.specs.Setup.{Setup, IsSetup}
use Rattle.sem_msg.specs.VpeRows.{new_vpe, root_held, start_row}
use Rattle.sem_msg.specs.EndpointRows.{no_endpoint_bound}
use Rattle.sem_msg.specs.Lookups.{runs_on, own_vpes, own_decl, is_own, kernel_of, pe_owner}
use Rattle.sem_machine.specs.Sides.{Side, row}
use Rattle.sem_machine.specs.Machine.{start_side, empty_side, root_added, vpe_added, vpe_fresh}
use Rattle.sem_machine.proofs.Folds.{in_turn-keeps}
use Rattle.sem_sound.proofs.Starting.{start-sound, get_or-replicate}
use Rattle.sem_sound.proofs.Named.{kernel-decl}
use Rattle.sem_sound.proofs.Changing.{local-place}
use Rattle.sem_vpe.specs.Starting.{start_table, start_place}
use Rattle.sem_dtu.specs.OwnVpes.{new_table, new_endpoints}
use Rattle.sem_kernel.proofs.Boots.{row-after}

-- Finding a VPE among those of a kernel.

-- whether a declaration is that of VPE v
abbrev has_number : ℕ → VpeDecl → Bool
has_number v d = d.vpe == v

-- the numbers rise
abbrev Rise : List VpeDecl → Type 0
Rise ds = AllPairs (λ (a b : VpeDecl). a.vpe < b.vpe) ds

-- the others rise too
rise-tail : (d : VpeDecl) (ds : List VpeDecl) → Rise (d ∷ ds) → Rise ds
rise-tail d ds rise a b e lt within = rise (suc a) (suc b) e (omega (arith, lt)) (omega (arith, within))

-- where the first has the number, no later one has it
none-behind : (v : ℕ) (d : VpeDecl) (ds : List VpeDecl) → Rise (d ∷ ds) → d.vpe ≡ v → (x : VpeDecl) → Contains ds x → has_number v x ≡ false
none-behind v d ds rise here x (k, within, at) =
    let above : d.vpe < x.vpe = subst (λ (y : VpeDecl). d.vpe < y.vpe) at (rise zero (suc k) x (omega arith) (omega (arith, within))) in
    ne_eqb x.vpe v (λ same. omega (arith, above, here, same))

-- the declaration, if it runs on kernel i
abbrev if_runs : Setup → ℕ → VpeDecl → Option VpeDecl
if_runs T i d = if runs_on T i d then Some d else None

-- the first of that number among those of kernel i is the first of all, where that runs on kernel i
find-own : (T : Setup) (i v : ℕ) (ds : List VpeDecl) → Rise ds →
    find (has_number v) (filter (runs_on T i) ds) ≡ option_and_then (if_runs T i) (find (has_number v) ds)
find-own T i v [] rise = refl
find-own T i v (d ∷ ds) rise = elim (cases_Bool (has_number v d)) [
  | inl here ↦
      let behind = none-behind v d ds rise (eqb-true d.vpe v here) in
      let no_other : find (has_number v) (filter (runs_on T i) ds) ≡ None =
      find_none (has_number v) (filter (runs_on T i) ds) (λ x among. behind x (Contains-from_filter (runs_on T i) ds x among).0) in
      let right : option_and_then (if_runs T i) (find (has_number v) (d ∷ ds)) ≡ if_runs T i d =
      ap (option_and_then (if_runs T i)) (cond-true (has_number v d) (Some d) (find (has_number v) ds) here) in
      elim (cases_Bool (runs_on T i d)) [
        | inl runs ↦
            ap (find (has_number v)) (cond-true (runs_on T i d) (d ∷ filter (runs_on T i) ds) (filter (runs_on T i) ds) runs)
            ∙ (cond-true (has_number v d) (Some d) (find (has_number v) (filter (runs_on T i) ds)) here
            ∙ sym (right ∙ cond-true (runs_on T i d) (Some d) None runs))
        | inr other ↦
            ap (find (has_number v)) (cond-false (runs_on T i d) (d ∷ filter (runs_on T i) ds) (filter (runs_on T i) ds) other)
            ∙ (no_other ∙ sym (right ∙ cond-false (runs_on T i d) (Some d) None other))
      ]
  | inr elsewhere ↦
      let right : option_and_then (if_runs T i) (find (has_number v) (d ∷ ds)) ≡ option_and_then (if_runs T i) (find (has_number v) ds) =
      ap (option_and_then (if_runs T i)) (cond-false (has_number v d) (Some d) (find (has_number v) ds) elsewhere) in
      let rest = find-own T i v ds (rise-tail d ds rise) in
      elim (cases_Bool (runs_on T i d)) [
        | inl runs ↦
            ap (find (has_number v)) (cond-true (runs_on T i d) (d ∷ filter (runs_on T i) ds) (filter (runs_on T i) ds) runs)
            ∙ (cond-false (has_number v d) (Some d) (find (has_number v) (filter (runs_on T i) ds)) elsewhere
            ∙ (rest ∙ sym right))
        | inr other ↦
            ap (find (has_number v)) (cond-false (runs_on T i d) (d ∷ filter (runs_on T i) ds) (filter (runs_on T i) ds) other)
            ∙ (rest ∙ sym right)
      ]
]

-- What is read of VPE v: what its own coming leaves, where it comes, and else what was there.
module _ {Y : Type 0} (v : ℕ) (read : Side → Y) (f : VpeDecl → Y) (hit : (d : VpeDecl) (s : Side) → d.vpe ≡ v →
    read (vpe_added d s) ≡ f d) (miss : (d : VpeDecl) (s : Side) → (v ≡ d.vpe → ⊥) → read (vpe_added d s) ≡ read s) where
  -- after VPEs came
  read-after : (ds : List VpeDecl) (s : Side) → Rise ds → read (in_turn vpe_added ds s) ≡ option_map_or f (find (has_number v) ds) (read s)
  unfolding in_turn
  read-after [] s rise = refl
  read-after (d ∷ ds) s rise = elim (cases_Bool (has_number v d)) [
    | inl here ↦
        let same = eqb-true d.vpe v here in
        let no_other : find (has_number v) ds ≡ None = find_none (has_number v) ds (none-behind v d ds rise same) in
        read-after ds (vpe_added d s) (rise-tail d ds rise)
        ∙ (ap (λ o. option_map_or f o (read (vpe_added d s))) no_other
        ∙ (hit d s same
        ∙ sym (ap (λ o. option_map_or f o (read s)) (cond-true (has_number v d) (Some d) (find (has_number v) ds) here))))
    | inr elsewhere ↦
        let differs : v ≡ d.vpe → ⊥ = λ same. eqb-false d.vpe v elsewhere (sym same) in
        read-after ds (vpe_added d s) (rise-tail d ds rise)
        ∙ (ap (option_map_or f (find (has_number v) ds)) (miss d s differs)
        ∙ sym (ap (λ o. option_map_or f o (read s)) (cond-false (has_number v d) (Some d) (find (has_number v) ds) elsewhere)))
  ]

  -- at the start
  read-start : (T : Setup) (i : ℕ) → IsSetup T → read (start_side T i) ≡ option_map_or f (own_decl T i v) (read (empty_side T))
  unfolding start_side
  read-start T i valid =
      read-after (filter (runs_on T i) T.vpes) (empty_side T) (AllPairs-filter (λ (a b : VpeDecl). a.vpe < b.vpe) (runs_on T i) T.vpes valid.vpes_rise)
      ∙ ap (λ o. option_map_or f o (read (empty_side T))) (find-own T i v T.vpes valid.vpes_rise)

-- The row of a VPE.

-- as it is at the start, after its own coming
row-hit : (v : ℕ) (d : VpeDecl) (s : Side) → d.vpe ≡ v → row (vpe_added d s) v ≡ start_row d
unfolding start_row
row-hit v d s same =
    sym (ap (row (vpe_added d s)) same)
    ∙ (row-after d d.roots (vpe_fresh d s) ∙ ap (in_turn (root_held d) d.roots) (get_or-put_same no_vpe s.vpes d.vpe new_vpe))

-- no other VPE changes it
row-miss : (v : ℕ) (d : VpeDecl) (s : Side) → (v ≡ d.vpe → ⊥) → row (vpe_added d s) v ≡ row s v
row-miss v d s other =
    in_turn-keeps (λ t. row t v ≡ row s v) (root_added d) (λ r t here. get_or-put_other no_vpe t.vpes d.vpe v (root_held d r (row t d.vpe)) other
    ∙ here) d.roots (vpe_fresh d s) (get_or-put_other no_vpe s.vpes d.vpe v new_vpe other)

-- The endpoints of a VPE.

-- by their number
abbrev endpoints_of : ℕ → Side → List (Option Endpoint)
endpoints_of v s = get_or s.endpoints v []

-- roots change no endpoints
roots-endpoints : (d : VpeDecl) (s : Side) → (vpe_added d s).endpoints ≡ (vpe_fresh d s).endpoints
roots-endpoints d s = in_turn-keeps (λ (t : Side). t.endpoints ≡ (vpe_fresh d s).endpoints) (root_added d) (λ r t here. here) d.roots (vpe_fresh d s) refl

-- none of them is bound after its own coming
endpoints-hit : (v : ℕ) (d : VpeDecl) (s : Side) → d.vpe ≡ v → endpoints_of v (vpe_added d s) ≡ no_endpoint_bound
endpoints-hit v d s same =
    ap (λ es. get_or es v []) (roots-endpoints d s)
    ∙ (sym (ap (λ w. get_or (vpe_fresh d s).endpoints w []) same) ∙ get_or-put_same [] s.endpoints d.vpe no_endpoint_bound)

-- no other VPE changes them
endpoints-miss : (v : ℕ) (d : VpeDecl) (s : Side) → (v ≡ d.vpe → ⊥) → endpoints_of v (vpe_added d s) ≡ endpoints_of v s
endpoints-miss v d s other =
    ap (λ es. get_or es v []) (roots-endpoints d s) ∙ get_or-put_other [] s.endpoints d.vpe v no_endpoint_bound other

-- What options give.

-- a default beside a map, or after it
or-mapped : {X Y : Type 0} (f : X → Y) (o : Option X) (y : Y) → option_map_or f o y ≡ unwrap_or (option_map f o) y
or-mapped f None y = refl
or-mapped f (Some x) y = refl

-- no endpoint bound, where there is the VPE
or-endpoints : {X : Type 0} (o : Option X) → option_map_or (λ x. no_endpoint_bound) o [] ≡ new_endpoints (is_some o)
or-endpoints None = refl
or-endpoints (Some x) = refl

-- The side as a whole.

-- all that no VPE changes as it comes
abbrev else_of : Side → Side
else_of s = record s { caps = []; vpes = []; endpoints = [] }

-- put together again
abbrev joined : List Capability → List VpeRow → List (List (Option Endpoint)) → Side → Side
joined caps vpes endpoints s = record s { caps = caps; vpes = vpes; endpoints = endpoints }

-- sides that agree in all that they keep are the same
same-side : (s t : Side) → s.caps ≡ t.caps → s.vpes ≡ t.vpes → s.endpoints ≡ t.endpoints → else_of s ≡ else_of t → s ≡ t
same-side s t caps vpes endpoints rest =
    ap (λ cs. joined cs s.vpes s.endpoints (else_of s)) caps
    ∙ (ap (λ vs. joined t.caps vs s.endpoints (else_of s)) vpes
    ∙ (ap (λ es. joined t.caps t.vpes es (else_of s)) endpoints
    ∙ ap (joined t.caps t.vpes t.endpoints) rest))

-- one of them leaves it
else-added : (d : VpeDecl) (s : Side) → else_of (vpe_added d s) ≡ else_of s
else-added d s = in_turn-keeps (λ t. else_of t ≡ else_of s) (root_added d) (λ r t here. here) d.roots (vpe_fresh d s) refl

-- and so do all of them
else-start : (T : Setup) (i : ℕ) → else_of (start_side T i) ≡ else_of (empty_side T)
unfolding start_side
else-start T i = in_turn-keeps (λ t. else_of t ≡ else_of (empty_side T)) vpe_added (λ d t here. else-added d t ∙ here) (own_vpes T i) (empty_side T) refl

module _ (T : Setup) (valid : IsSetup T) (i : ℕ) (few : i < T.kernels) where
  -- the row of a VPE
  row-start : (v : ℕ) → v < VPES → row (start_side T i) v ≡ unwrap_or (start_place T i v) no_vpe
  row-start v within =
      read-start v (λ s. row s v) start_row (row-hit v) (row-miss v) T i valid
      ∙ (ap (option_map_or start_row (own_decl T i v)) (get_or-replicate VPES no_vpe v) ∙ or-mapped start_row (own_decl T i v) no_vpe)

  -- the rows of all VPEs
  rows-start : (start_side T i).vpes ≡ (start_table T i).rows
  unfolding start_table
  rows-start =
      let place : ℕ → VpeRow = λ v. unwrap_or (start_place T i v) no_vpe in
      let long : length (start_side T i).vpes ≡ VPES = (start-sound T valid i few).places in
      ext_get_or no_vpe (start_side T i).vpes (map place (range_with_len 0 VPES)) (long ∙ sym (length-map-range_with_len place 0 VPES))
      (λ v within. let small : v < VPES = omega (arith, long, within) in row-start v small
      ∙ sym (get_or-map-range_with_len place 0 VPES v v no_vpe small (omega arith)))

  -- the endpoints of a VPE
  bound-start : (v : ℕ) → v < VPES → endpoints_of v (start_side T i) ≡ new_endpoints (is_own T i v)
  bound-start v within =
      read-start v (endpoints_of v) (λ d. no_endpoint_bound) (endpoints-hit v) (endpoints-miss v) T i valid
      ∙ (ap (option_map_or (λ d. no_endpoint_bound) (own_decl T i v)) (get_or-replicate VPES [] v) ∙ or-endpoints (own_decl T i v))

  -- the endpoints of all VPEs
  endpoints-start : (start_side T i).endpoints ≡ (new_table T i).rows
  endpoints-start =
      let ours : List Bool = map (is_own T i) (range_with_len 0 VPES) in
      let long : length (start_side T i).endpoints ≡ VPES = (start-sound T valid i few).endpoint_places in
      let marks : length ours ≡ VPES = length-map-range_with_len (is_own T i) 0 VPES in
      let each : (v : ℕ) → v < VPES → get_or (map new_endpoints ours) v [] ≡ new_endpoints (is_own T i v) = λ v small.
      get_or-map new_endpoints ours v false [] (omega (arith, small, marks))
      ∙ ap new_endpoints (get_or-map-range_with_len (is_own T i) 0 VPES v v false small (omega arith)) in
      ext_get_or [] (start_side T i).endpoints (map new_endpoints ours) (long ∙ sym (length-map ours new_endpoints ∙ marks))
      (λ v within. let small : v < VPES = omega (arith, long, within) in bound-start v small ∙ sym (each v small))

  -- a side with these stores is the one at the start
  pub side-start : (s : Side) → s.caps ≡ (start_side T i).caps → s.vpes ≡ (start_table T i).rows → s.endpoints ≡ (new_table T i).rows →
      else_of s ≡ else_of (empty_side T) → s ≡ start_side T i
  side-start s caps vpes endpoints rest = same-side s (start_side T i) caps (vpes ∙ sym rows-start) (endpoints ∙ sym endpoints-start) (rest
      ∙ sym (else-start T i))

  -- The places of the VPEs of the kernel.

  -- a VPE of the kernel is declared on one of its PEs
  pub own-here : (v : ℕ) → kernel_of T v ≡ i → IsSome (own_decl T i v)
  own-here v here =
      let d = kernel-decl T valid v (subst (λ k. k < T.kernels) (sym here) few) in
      let runs : runs_on T i d.0 ≡ true = eq-eqb _ i (sym (ap (λ (o : Option VpeDecl). option_map_or (λ x. pe_owner T x.pe) o T.kernels) d.1) ∙ here) in
      ap is_some (ap (option_and_then (if_runs T i)) d.1 ∙ cond-true (runs_on T i d.0) (Some d.0) None runs)

  -- so it has endpoints there
  pub marks-start : (v : ℕ) → kernel_of T v ≡ i → get_or (new_table T i).ours v false ≡ true
  marks-start v here = get_or-map-range_with_len (is_own T i) 0 VPES v v false (local-place T valid i few v here) (omega arith) ∙ own-here v here
