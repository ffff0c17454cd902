-- After every schedule what an endpoint is bound to is held, unmarked, a key of its VPE, and has the object that the endpoint keeps.
use Rattle.std.proofs.Common.{◌≡◌, ℕ, zero, suc, ◌≤◌, List, [], ◌∷◌, get_or, map, replicate, Option, Some, None, refl, sym, ◌∙◌, ap, inl, inr, arith, ◌⊎◌}
use Rattle.std.specs.Prelude.{◌==◌}
use Rattle.std.specs.List.{Contains, filter, find, range_with_len, sum_by}
use Rattle.std.proofs.lemmas.Bool.{cases_Bool, cond-true, cond-false, true≢false}
use Rattle.std.proofs.lemmas.List.Sums.{sum_by-cons}
use Rattle.sem_key.specs.KeyName.{KeyName, key_eq}
use Rattle.sem_key.specs.Capability.{Capability}
use Rattle.sem_msg.specs.declared.entry.Entry.{Entry}
use Rattle.sem_msg.specs.declared.setup.Root.{Root}
use Rattle.sem_msg.specs.declared.setup.VpeDecl.{VpeDecl}
use Rattle.sem_msg.specs.declared.state.Slot.{Slot}
use Rattle.sem_msg.specs.declared.state.Slot.TheVariants.{Free, Held}
use Rattle.sem_msg.specs.Rows.{Endpoint, VpeRow, no_vpe}
use Rattle.sem_msg.specs.Setup.{Setup, IsSetup}
use Rattle.sem_msg.specs.Lookups.{pe_owner}
use Rattle.sem_machine.specs.Sides.{Side, no_side, row, with_row, slot, endpoint, with_slot, cap_added}
use Rattle.sem_key.specs.Lists.{put}
use Rattle.sem_key.proofs.Puts.{get_or-put_same}
use Rattle.sem_msg.specs.VpeRows.{new_vpe, next_root, root_held}
use Rattle.sem_machine.specs.Machine.{side, start, start_side, empty_side, root_added, vpe_added}
use Rattle.sem_machine.specs.Schedules.{IsSchedule, world_after}
use Rattle.sem_machine.specs.Safety.{sound_endpoints}
use Rattle.sem_key.proofs.KeyTests.{key_eq-from}
use Rattle.sem_key.proofs.Members.{Contains-nil, Contains-cons_cases}
use Rattle.sem_safety.specs.Observations.{endpoints}
use Rattle.sem_machine.proofs.Folds.{in_turn-keeps}
use Rattle.sem_safety.proofs.Lives.{all_held, at_cap}
use Rattle.sem_safety.proofs.LiveWorlds.{lives-once, world-side}
use Rattle.sem_safety.proofs.SideLayers.{run-kept}
use Rattle.sem_safety.proofs.SoundEndpoints.{IsSoundSide, with_sound_row, with_sound_endpoints, sound}
use Rattle.sem_machine.proofs.Weighing.{weigh-among}

-- The start.

-- where all elements are the same, so is what is read
read-same : {X : Type 0} (n i : ℕ) (d x : X) → (get_or (replicate n x) i d ≡ x) ⊎ (get_or (replicate n x) i d ≡ d)
read-same zero i d x = inr refl
read-same (suc n) zero d x = inl refl
read-same (suc n) (suc i) d x = read-same n i d x

not-held : (o : Slot) (k : KeyName) → (o ≡ Free) ⊎ (o ≡ Free) → o ≡ Held k → ⊥
not-held o k (inl free) held = absurd cc
not-held o k (inr free) held = absurd cc

not-bound : (o : Option Endpoint) (e : Endpoint) → (o ≡ None) ⊎ (o ≡ None) → o ≡ Some e → ⊥
not-bound o e (inl none) some = absurd cc
not-bound o e (inr none) some = absurd cc

empty-row : (T : Setup) (v : ℕ) → row (empty_side T) v ≡ no_vpe
empty-row T v = elim (read-same 128 v no_vpe no_vpe) [ inl same ↦ same | inr same ↦ same ]

empty-endpoints : (T : Setup) (v : ℕ) → endpoints (empty_side T) v ≡ []
empty-endpoints T v = elim (read-same 128 v [] []) [ inl same ↦ same | inr same ↦ same ]

empty-sound : (T : Setup) → IsSoundSide (empty_side T)
empty-sound T = record {
  own_slots = λ v sel k at. absurd (not-held (slot (empty_side T) v sel) k (inl (ap (λ (r : VpeRow). get_or r.slots sel Free) (empty-row T v))) at);
  own_keys = λ v ep e at. absurd (not-bound (endpoint (empty_side T) v ep) e (inl (ap (λ es. get_or es ep None) (empty-endpoints T v))) at);
  bound = λ v ep e at. absurd (not-bound (endpoint (empty_side T) v ep) e (inl (ap (λ es. get_or es ep None) (empty-endpoints T v))) at);
}

root-sound : (d : VpeDecl) (r : Root) (s : Side) → IsSoundSide s → IsSoundSide (root_added d r s)
root-sound d r s is =
    let k : KeyName = next_root d r (row s d.vpe) in
    let c : Capability = record { key = k; parent = None; children = []; mark = None; selector = r.sel; object = r.object } in
    let t : Side = cap_added c s in
    let kept : IsSoundSide t = sound.keeps_added s is c tt refl refl in
    let held : IsSoundSide (with_slot d.vpe r.sel (Held k) t) = sound.keeps_slot t kept d.vpe r.sel (Held k) refl in
    with_sound_row t kept d.vpe (root_held d r (row s d.vpe))
    (λ sel q at. held.own_slots d.vpe sel q
    (ap (λ (x : VpeRow). get_or x.slots sel Free)
    (get_or-put_same no_vpe t.vpes d.vpe (record (row t d.vpe) { slots = put Free (row t d.vpe).slots r.sel (Held k) })) ∙ at))

vpe-sound : (d : VpeDecl) (s : Side) → IsSoundSide s → IsSoundSide (vpe_added d s)
vpe-sound d s is =
    in_turn-keeps IsSoundSide (root_added d) (root-sound d) d.roots _
    (with_sound_endpoints (with_row d.vpe (λ v. new_vpe) s)
    (with_sound_row s is d.vpe new_vpe (λ sel k at. absurd (not-held (get_or (replicate 256 Free) sel Free) k (read-same 256 sel Free Free) at))) d.vpe
    (replicate 16 None) (λ ep e at. absurd (not-bound (get_or (replicate 16 None) ep None) e (read-same 16 ep None None) at)))

side-sound : (T : Setup) (i : ℕ) → IsSoundSide (start_side T i)
unfolding start_side
side-sound T i = in_turn-keeps IsSoundSide vpe_added vpe-sound (filter (λ d. pe_owner T d.pe == i) T.vpes) (empty_side T) (empty-sound T)

no_side-sound : IsSoundSide no_side
no_side-sound = record { own_slots = λ v sel k at. absurd cc; own_keys = λ v ep e at. absurd cc; bound = λ v ep e at. absurd cc }

pub start-sound : (T : Setup) (i : ℕ) → IsSoundSide (side (start T) i)
unfolding start
start-sound T i = from (range_with_len 0 T.kernels) i
  where
    from : (is : List ℕ) (j : ℕ) → IsSoundSide (get_or (map (start_side T) is) j no_side)
    from [] j = no_side-sound
    from (n ∷ ns) zero = side-sound T n
    from (n ∷ ns) (suc j) = from ns j

-- A key that is held once is found.

one-found : (k : KeyName) (cs : List Capability) (c : Capability) → c.key ≡ k → Contains cs c → sum_by (at_cap k all_held) cs ≤ 1 →
    find (λ x. key_eq x.key k) cs ≡ Some c
one-found k [] c same among once = absurd (Contains-nil c among)
one-found k (x ∷ xs) c same among once =
    let all = sum_by-cons (at_cap k all_held) x xs in
    let here : at_cap k all_held c ≡ 1 = cond-true (key_eq c.key k) 1 0 (key_eq-from c.key k same) in
    elim (cases_Bool (key_eq x.key k)) [
      | inl pass ↦ elim (Contains-cons_cases x xs c among) [
        | inl first ↦ cond-true (key_eq x.key k) (Some x) (find (λ x. key_eq x.key k) xs) pass ∙ ap Some first
        | inr rest ↦
            let one : at_cap k all_held x ≡ 1 = cond-true (key_eq x.key k) 1 0 pass in
            let more = weigh-among (at_cap k all_held) xs c rest in
            absurd (omega (arith, all, here, one, more, once))
      ]
      | inr fail ↦ elim (Contains-cons_cases x xs c among) [
        | inl first ↦ absurd (true≢false (sym (key_eq-from x.key k (ap (λ (y : Capability). y.key) first ∙ same)) ∙ fail))
        | inr rest ↦ cond-false (key_eq x.key k) (Some x) (find (λ x. key_eq x.key k) xs) fail ∙ one-found k xs c same rest (omega (arith, all, once))
      ]
    ]

-- a kernel holds a key once
pub held-once : (k : KeyName) (T : Setup) → IsSetup T → (J : List Entry) → IsSchedule T J → (i : ℕ) →
    sum_by (at_cap k all_held) (side (world_after T J) i).caps ≤ 1
held-once k T valid J runs i =
    let once = lives-once k all_held T valid J runs in
    let part = world-side k all_held (world_after T J) i no_side in
    omega (arith, once, part)

pub all-endpoints : (T : Setup) → IsSetup T → (J : List Entry) → IsSchedule T J → sound_endpoints T J
all-endpoints T valid J runs = λ i v n e bound.
    let is : IsSoundSide (side (world_after T J) i) = run-kept IsSoundSide sound T J (start T) (start-sound T) i in
    let has = is.bound v n e bound in
    record {
      own = is.own_keys v n e bound;
      capability = has.capability;
      held = one-found e.key (side (world_after T J) i).caps has.capability has.same_key has.among (held-once e.key T valid J runs i);
      unmarked = has.unmarked;
      object = has.same_object;
    }
