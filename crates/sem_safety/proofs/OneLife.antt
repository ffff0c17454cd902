-- Each key is made once: along every schedule a place has one token or one made key at most, so what is granted was never made before.
use Rattle.std.proofs.Common.{◌≡◌, ℕ, zero, suc, ◌+◌, ◌<◌, ◌≤◌, ◌&&◌, List, [], ◌∷◌, ◌++◌, map, replicate, Option, Some, None, refl, sym, ◌∙◌, ap, subst, inl}
use Rattle.std.proofs.Common.{inr, arith, eq-eqb, append-nil, append_assoc}
use Rattle.std.specs.Prelude.{◌==◌}
use Rattle.std.specs.List.{All, AllPairs, Contains, filter, flat_map, range_with_len, sum_by}
use Rattle.std.proofs.lemmas.Bool.{cases_Bool, cases_eq, cases_order, cond-true, cond-false, and_parts, and_from, eqb-true, ne_eqb}
use Rattle.std.proofs.lemmas.List.Elements.{All-contains}
use Rattle.std.proofs.lemmas.List.Sums.{sum_by-cons, sum_by-append, sum_by_push}
use Rattle.sem_key.specs.KeyName.{KeyName}
use Rattle.sem_key.specs.Capability.{Capability}
use Rattle.sem_msg.specs.declared.setup.Root.{Root}
use Rattle.sem_msg.specs.declared.setup.VpeDecl.{VpeDecl}
use Rattle.sem_msg.specs.declared.entry.Entry.{Entry}
use Rattle.sem_msg.specs.declared.message.Message.{Message}
use Rattle.sem_msg.specs.Rows.{no_vpe}
use Rattle.sem_msg.specs.Setup.{Setup, IsSetup, root_key}
use Rattle.sem_msg.specs.Lookups.{pe_owner, kernel_of}
use Rattle.sem_machine.specs.Sides.{Side, row, cap_added}
use Rattle.sem_msg.specs.VpeRows.{new_vpe, root_held}
use Rattle.sem_machine.specs.Machine.{World, side, start, start_side, empty_side, root_added, vpe_added, local_entry, after, entry_of}
use Rattle.sem_machine.specs.Schedules.{IsSchedule, world_after}
use Rattle.sem_machine.specs.Journals.{grants, root_keys_from, root_keys, made}
use Rattle.sem_machine.specs.Safety.{lineage, sound_grants}
use Rattle.sem_key.proofs.Members.{Contains-head, Contains-from_map}
use Rattle.sem_safety.specs.Growth.{IsGrown}
use Rattle.sem_safety.specs.NewGrants.{AreNew}
use Rattle.sem_safety.proofs.CarryingWorlds.{stepped, used-made}
use Rattle.sem_machine.proofs.FirstNumbers.{root-drawn}
use Rattle.sem_safety.proofs.GoingOn.{run-append, run-prefix, entry-enabled}
use Rattle.sem_safety.proofs.GrownLines.{line-is_lineage, few-grants}
use Rattle.sem_machine.proofs.Folds.{in_turn-keeps}
use Rattle.sem_safety.proofs.NewGrants.{with_grant, without_grant, new-grown, new-sound}
use Rattle.sem_machine.proofs.Weighing.{weigh-among, weigh-none, weigh-replicate}
use Rattle.sem_safety.proofs.Tokens.{of_key, of_messages, of_parked, of_row, of_side, side-lighter, weighed}
use Rattle.sem_safety.proofs.TokenWorlds.{of_world, of_links, IsOnce, with_granted, event-once}

AllPairs-first : {X : Type 0} (S : X → X → Type 0) (x : X) (xs : List X) → AllPairs S (x ∷ xs) → All (S x) xs × AllPairs S xs
AllPairs-first S x xs pairs = (
  λ k d within. pairs zero (suc k) d (omega arith) (omega arith),
  λ i j d lt within. pairs (suc i) (suc j) d (omega arith) (omega arith),
)

module _ (v0 n0 : ℕ) where
  -- a key of another place has no weight
  other-vpe : (k : KeyName) → (k.vpe ≡ v0 → ⊥) → of_key v0 n0 k ≡ 0
  other-vpe k other = cond-false ((k.vpe == v0) && (k.number == n0)) 1 0 (ap (λ b. b && (k.number == n0)) (ne_eqb k.vpe v0 other))

  other-number : (k : KeyName) → (k.number ≡ n0 → ⊥) → of_key v0 n0 k ≡ 0
  other-number k other = elim (cases_Bool ((k.vpe == v0) && (k.number == n0))) [
    | inl same ↦ absurd (other (eqb-true k.number n0 (and_parts (k.vpe == v0) (k.number == n0) same).1))
    | inr differs ↦ cond-false ((k.vpe == v0) && (k.number == n0)) 1 0 differs
  ]

  key-one : (k : KeyName) → of_key v0 n0 k ≤ 1
  key-one k = elim (cases_Bool ((k.vpe == v0) && (k.number == n0))) [
    | inl same ↦ let one : of_key v0 n0 k ≡ 1 = cond-true ((k.vpe == v0) && (k.number == n0)) 1 0 same in omega (arith, one)
    | inr differs ↦ let none : of_key v0 n0 k ≡ 0 = cond-false ((k.vpe == v0) && (k.number == n0)) 1 0 differs in omega (arith, none)
  ]

  -- The start.

  -- the roots of a VPE that are numbered from n on: none of an earlier number, and one at most
  roots-later : (d : VpeDecl) (rs : List Root) (n : ℕ) → n0 < n → sum_by (of_key v0 n0) (root_keys_from d n rs) ≡ 0
  unfolding root_keys_from
  roots-later d [] n below = refl
  roots-later d (r ∷ rs) n below =
      let rest = roots-later d rs (n + 1) (omega (arith, below)) in
      let here = other-number (root_key d n r) (λ same. omega (arith, same, below)) in
      let sum = sum_by-cons (of_key v0 n0) (root_key d n r) (root_keys_from d (n + 1) rs) in
      omega (arith, rest, here, sum)

  roots-once : (d : VpeDecl) (rs : List Root) (n : ℕ) → sum_by (of_key v0 n0) (root_keys_from d n rs) ≤ 1
  unfolding root_keys_from
  roots-once d [] n = omega arith
  roots-once d (r ∷ rs) n =
      let sum = sum_by-cons (of_key v0 n0) (root_key d n r) (root_keys_from d (n + 1) rs) in
      elim (cases_eq n n0) [
        | inl same ↦ let rest = roots-later d rs (n + 1) (omega (arith, same)) in let here = key-one (root_key d n r) in omega (arith, sum, rest, here)
        | inr other ↦ let rest = roots-once d rs (n + 1) in let here = other-number (root_key d n r) other in omega (arith, sum, rest, here)
      ]

  roots-other : (d : VpeDecl) (rs : List Root) (n : ℕ) → (d.vpe ≡ v0 → ⊥) → sum_by (of_key v0 n0) (root_keys_from d n rs) ≡ 0
  unfolding root_keys_from
  roots-other d [] n other = refl
  roots-other d (r ∷ rs) n other =
      let sum = sum_by-cons (of_key v0 n0) (root_key d n r) (root_keys_from d (n + 1) rs) in
      let rest = roots-other d rs (n + 1) other in
      let here = other-vpe (root_key d n r) other in
      omega (arith, sum, rest, here)

  abbrev roots_of : VpeDecl → List KeyName
  roots_of d = root_keys_from d 0 d.roots

  vpes-other : (ds : List VpeDecl) → All (λ (x : VpeDecl). v0 < x.vpe) ds → sum_by (of_key v0 n0) (flat_map roots_of ds) ≡ 0
  vpes-other [] above = refl
  vpes-other (d ∷ ds) above =
      let sum = sum_by-append (of_key v0 n0) (roots_of d) (flat_map roots_of ds) in
      let below : v0 < d.vpe = All-contains (λ (x : VpeDecl). v0 < x.vpe) (d ∷ ds) d above (Contains-head d ds) in
      let here = roots-other d d.roots 0 (λ same. omega (arith, same, below)) in
      let rest = vpes-other ds (λ k e within. above (suc k) e (omega (arith, within))) in
      omega (arith, sum, here, rest)

  vpes-once : (ds : List VpeDecl) → AllPairs (λ (a b : VpeDecl). a.vpe < b.vpe) ds → sum_by (of_key v0 n0) (flat_map roots_of ds) ≤ 1
  vpes-once [] rise = omega arith
  vpes-once (d ∷ ds) rise =
      let sum = sum_by-append (of_key v0 n0) (roots_of d) (flat_map roots_of ds) in
      let parts = AllPairs-first (λ (a b : VpeDecl). a.vpe < b.vpe) d ds rise in
      elim (cases_eq d.vpe v0) [
        | inl same ↦
            let here = roots-once d d.roots 0 in
            let rest = vpes-other ds (subst (λ n. All (λ (x : VpeDecl). n < x.vpe) ds) same parts.0) in
            omega (arith, sum, here, rest)
        | inr other ↦
            let here = roots-other d d.roots 0 other in
            let rest = vpes-once ds parts.1 in
            omega (arith, sum, here, rest)
      ]

  -- a kernel has no token at the start
  abbrev None' : Side → Type 0
  None' s = of_side v0 n0 s ≤ 0

  root-none : (d : VpeDecl) (r : Root) (s : Side) → None' s → None' (root_added d r s)
  root-none d r s is =
      let L = weighed v0 n0 0 in
      let k : KeyName = root_key d (row s d.vpe).next_number r in
      let c : Capability = record { key = k; parent = None; children = []; mark = None; selector = r.sel; object = r.object } in
      let added : Side = cap_added c s in
      let kept : None' added = L.keeps_added s is c tt refl refl in
      let rooted = side-lighter v0 n0 added d.vpe (root_held d r (row s d.vpe)) (omega arith) in
      omega (arith, kept, rooted)

  vpe-none : (d : VpeDecl) (s : Side) → None' s → None' (vpe_added d s)
  vpe-none d s is =
      let fresh = side-lighter v0 n0 s d.vpe new_vpe (omega arith) in
      in_turn-keeps None' (root_added d) (root-none d) d.roots _ (omega (arith, fresh, is))

  side-none : (T : Setup) (i : ℕ) → of_side v0 n0 (start_side T i) ≡ 0
  unfolding start_side
  side-none T i =
      let rows = weigh-replicate (of_row v0 n0) 128 no_vpe refl in
      let calls = weigh-replicate (of_parked v0 n0) 128 None refl in
      let outs = weigh-replicate (of_messages v0 n0) T.kernels [] refl in
      let empty : None' (empty_side T) = omega (arith, rows, calls, outs) in
      let all = in_turn-keeps None' vpe_added vpe-none (filter (λ d. pe_owner T d.pe == i) T.vpes) (empty_side T) empty in
      omega (arith, all)

  world-none : (T : Setup) → of_world v0 n0 (start T) ≡ 0
  unfolding start
  world-none T =
      let sides : sum_by (of_side v0 n0) (map (start_side T) (range_with_len 0 T.kernels)) ≡ 0 =
      weigh-none (of_side v0 n0) (map (start_side T) (range_with_len 0 T.kernels))
      (λ s among. from s (Contains-from_map (start_side T) (range_with_len 0 T.kernels) s among)) in
      let links : of_links v0 n0 (replicate T.kernels (replicate T.kernels [])) ≡ 0 =
      weigh-replicate (λ (ls : List (List Message)). sum_by (of_messages v0 n0) ls) T.kernels (replicate T.kernels [])
      (weigh-replicate (of_messages v0 n0) T.kernels [] refl) in
      omega (arith, sides, links)
    where
      from : (s : Side) → (i : ℕ) × Contains (range_with_len 0 T.kernels) i × (start_side T i ≡ s) → of_side v0 n0 s ≡ 0
      from s (i, among, same) = subst (λ t. of_side v0 n0 t ≡ 0) same (side-none T i)

  start-once : (T : Setup) → IsSetup T → IsOnce v0 n0 T (start T) (root_keys T) []
  start-once T valid =
      let none = world-none T in
      let roots = vpes-once T.vpes valid.vpes_rise in
      record {
        once = omega (arith, none, roots);
        undrawn = λ undrawn.
            let no_root : sum_by (of_key v0 n0) (root_keys T) ≡ 0 = weigh-none (of_key v0 n0) (root_keys T) (λ k root. elim (cases_eq k.vpe v0) [
              | inr other ↦ other-vpe k other
              | inl same ↦ other-number k (λ number.
                  let below = subst (λ w. k.number < (row (side (start T) (kernel_of T w)) w).next_number) same (root-drawn T valid k root) in
                  omega (arith, below, number, undrawn))
            ]) in
            omega (arith, none, no_root);
      }

  -- A schedule.
  granted-is : (before : List Entry) (e : Entry) (o : Option (KeyName × KeyName)) → e.grant ≡ o →
      with_granted v0 n0 (grants before) o ≡ grants (before ++ e ∷ [])
  granted-is before e None none = sym (without_grant before e none)
  granted-is before e (Some g) some = sym (with_grant before e g some)

  shown : (T : Setup) (W : World) (e : Entry) → e ≡ entry_of T W e.event → e.grant ≡ (stepped T W e.event).outcome.grant
  unfolding entry_of local_entry
  shown T W e made' = ap (λ (x : Entry). x.grant) made'

  pub schedule-once : (T : Setup) → IsSetup T → (J : List Entry) → IsSchedule T J → IsOnce v0 n0 T (world_after T J) (root_keys T) (grants J)
  schedule-once T valid J runs = from [] J refl (start-once T valid)
    where
      from : (before later : List Entry) → J ≡ before ++ later → IsOnce v0 n0 T (world_after T before) (root_keys T) (grants before) →
          IsOnce v0 n0 T (world_after T J) (root_keys T) (grants J)
      from before [] parts is = subst (λ K. IsOnce v0 n0 T (world_after T K) (root_keys T) (grants K)) (sym (parts ∙ append-nil before)) is
      from before (e ∷ es) parts is =
          let at = entry-enabled T before (start T) e es (subst (IsSchedule T) parts runs) in
          let next = event-once v0 n0 T (world_after T before) (root_keys T) (grants before) is e.event at.1 in
          let world : after T (world_after T before) e.event ≡ world_after T (before ++ e ∷ []) = sym (run-append T before (e ∷ []) (start T)) in
          let gs : with_granted v0 n0 (grants before) (stepped T (world_after T before) e.event).outcome.grant ≡ grants (before ++ e ∷ []) =
          granted-is before e (stepped T (world_after T before) e.event).outcome.grant (shown T (world_after T before) e at.2) in
          from (before ++ e ∷ []) es (parts
          ∙ sym (append_assoc before (e ∷ []) es)) (subst (λ W. IsOnce v0 n0 T W (root_keys T) (grants (before ++ e ∷ []))) world
          (subst (λ g. IsOnce v0 n0 T (after T (world_after T before) e.event) (root_keys T) g) gs next))

  -- a made key of the place weighs among what was made
  sum-map : (gs : List (KeyName × KeyName)) → sum_by (of_key v0 n0) (map (λ g. g.1) gs) ≡ sum_by (λ (g : KeyName × KeyName). of_key v0 n0 g.1) gs
  sum-map [] = refl
  sum-map (g ∷ gs) =
      let one = sum_by-cons (of_key v0 n0) g.1 (map (λ g. g.1) gs) in
      let two = sum_by-cons (λ (h : KeyName × KeyName). of_key v0 n0 h.1) g gs in
      let rest = sum-map gs in
      omega (arith, one, two, rest)

-- a made key weighs among what was made
made-weighs : (T : Setup) (J : List Entry) (k : KeyName) → Contains (made T J) k →
    1 ≤ sum_by (of_key k.vpe k.number) (root_keys T) + sum_by (λ (g : KeyName × KeyName). of_key k.vpe k.number g.1) (grants J)
made-weighs T J k there =
    let gs : List (KeyName × KeyName) = grants J in
    let here : of_key k.vpe k.number k ≡ 1 =
    cond-true ((k.vpe == k.vpe) && (k.number == k.number)) 1 0 (and_from (k.vpe == k.vpe) (k.number == k.number) (eq-eqb k.vpe k.vpe refl)
    (eq-eqb k.number k.number refl)) in
    let all = sum_by-append (of_key k.vpe k.number) (root_keys T) (map (λ (g : KeyName × KeyName). g.1) gs) in
    let among : of_key k.vpe k.number k ≤ sum_by (of_key k.vpe k.number) (made T J) = weigh-among (of_key k.vpe k.number) (made T J) k there in
    let mapped = sum-map k.vpe k.number gs in
    omega (arith, here, all, among, mapped)

-- the number of a made key was drawn by its VPE
pub made-drawn : (T : Setup) → IsSetup T → (J : List Entry) → IsSchedule T J → (k : KeyName) → Contains (made T J) k →
    k.number < (row (side (world_after T J) (kernel_of T k.vpe)) k.vpe).next_number
made-drawn T valid J runs k there = elim (cases_order k.number (row (side (world_after T J) (kernel_of T k.vpe)) k.vpe).next_number) [
  | inr (inl below) ↦ below
  | inl same ↦ absurd (undrawn (omega (arith, same)))
  | inr (inr above) ↦ absurd (undrawn (omega (arith, above)))
]
  where
    undrawn : (row (side (world_after T J) (kernel_of T k.vpe)) k.vpe).next_number ≤ k.number → ⊥
    undrawn high =
        let none = (schedule-once k.vpe k.number T valid J runs).undrawn high in
        let some = made-weighs T J k there in
        omega (arith, none, some)

-- what is granted was never made before
pub all-new : (T : Setup) → IsSetup T → (J : List Entry) → IsSchedule T J → AreNew T J
all-new T valid J runs = λ before later e p k parts granted there.
    let gs : List (KeyName × KeyName) = grants before in
    let schedule : IsSchedule T (before ++ e ∷ []) = run-prefix T before later e (start T) (subst (IsSchedule T) parts runs) in
    let once = (schedule-once k.vpe k.number T valid (before ++ e ∷ []) schedule).once in
    let sum : sum_by (λ (g : KeyName × KeyName). of_key k.vpe k.number g.1) (grants (before ++ e ∷ []))
    ≡ sum_by (λ (g : KeyName × KeyName). of_key k.vpe k.number g.1) gs + of_key k.vpe k.number k =
    ap (λ hs. sum_by (λ (g : KeyName × KeyName). of_key k.vpe k.number g.1) hs) (with_grant before e (p, k) granted)
    ∙ sum_by_push (λ (g : KeyName × KeyName). of_key k.vpe k.number g.1) gs (p, k) in
    let here : of_key k.vpe k.number k ≡ 1 =
    cond-true ((k.vpe == k.vpe) && (k.number == k.number)) 1 0 (and_from (k.vpe == k.vpe) (k.number == k.number) (eq-eqb k.vpe k.vpe refl)
    (eq-eqb k.number k.number refl)) in
    let some = made-weighs T before k there in
    omega (arith, once, sum, here, some)

-- so the grants grow key by key, and all are sound
pub all-grown : (T : Setup) → IsSetup T → (J : List Entry) → IsSchedule T J → IsGrown (root_keys T) (grants J)
all-grown T valid J runs = new-grown T J runs (all-new T valid J runs)

pub all-sound : (T : Setup) → IsSetup T → (J : List Entry) → IsSchedule T J → sound_grants T J
all-sound T valid J runs = new-sound T J runs (all-new T valid J runs)

-- and what is in use derives from a root
pub all-lineage : (T : Setup) → IsSetup T → (J : List Entry) → IsSchedule T J → lineage T J
all-lineage T valid J runs = λ k used. line-is_lineage (root_keys T) (grants J) (all-grown T valid J runs) _ k (few-grants J) (used-made T J runs k used)
