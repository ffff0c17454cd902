-- A delegation has one token at most, and is pending while it has one, along every schedule of every setup.
use Rattle.std.proofs.Common.{◌≡◌, ◌⊎◌, ℕ, suc, ◌+◌, ◌<◌, ◌≤◌, Bool, true, List, [], ◌∷◌, ◌++◌, drop, get_or, map, replicate, Option, Some, None, slice_get}
use Rattle.std.proofs.Common.{append-nil, append_assoc, refl, sym, ap, ◌∙◌, subst, inl, inr, arith}
use Rattle.std.specs.Prelude.{◌==◌}
use Rattle.std.specs.List.{Contains, filter, range_with_len, sum_by}
use Rattle.std.specs.Option.{option_map, option_map_or}
use Rattle.std.proofs.lemmas.Bool.{cases_eq, cond-true}
use Rattle.std.proofs.lemmas.List.Sums.{sum_by_push}
use Rattle.sem_key.specs.KeyName.{KeyName, key_eq}
use Rattle.sem_key.specs.Lists.{put}
use Rattle.sem_key.proofs.KeyTests.{key_eq-same}
use Rattle.sem_key.proofs.Members.{Contains-from_map}
use Rattle.sem_msg.specs.declared.entry.Entry.{Entry}
use Rattle.sem_msg.specs.declared.event.Act.{Act}
use Rattle.sem_msg.specs.declared.event.Act.TheVariants.{Call as Calls, Fetch, Handle, Upcall, Resume, Flush, Kill}
use Rattle.sem_msg.specs.declared.message.Message.{Message}
use Rattle.sem_msg.specs.declared.message.Message.TheVariants.{Ack}
use Rattle.sem_msg.specs.declared.state.Pending.{Pending}
use Rattle.sem_msg.specs.Setup.{Setup, IsSetup}
use Rattle.sem_msg.specs.Lookups.{kernel_of, owner_of, pe_of, pe_owner}
use Rattle.sem_machine.specs.Sides.{Side, no_side, row, outbox, parked, pending, sent, with_inbox}
use Rattle.sem_machine.specs.Machine.{World, side, link, with_side, with_link, start, start_side, empty_side, root_added, vpe_added, vpe_fresh, local_step}
use Rattle.sem_machine.specs.Machine.{after, event, is_enabled}
use Rattle.sem_machine.specs.Schedules.{IsSchedule, world_after}
use Rattle.sem_machine.proofs.Folds.{in_turn-keeps}
use Rattle.sem_machine.proofs.Weighing.{of_option, weigh-put, weigh-drop, weigh-replicate, weigh-none}
use Rattle.sem_safety.proofs.CarryingWorlds.{stepped}
use Rattle.sem_safety.proofs.Drawers.{may_draw}
use Rattle.sem_safety.proofs.GoingOn.{after-onward, entry-enabled, run-append}
use Rattle.sem_safety.proofs.KeptSteps.{MayDraw}
use Rattle.sem_sound.proofs.Named.{own-declared, declared-kernel}
use Rattle.sem_revoke.specs.Delegations.{of_key, of_message, of_messages, of_parked, of_inbox, of_side, of_links, of_world}
use Rattle.sem_revoke.proofs.Delegations.{Few, side-sent, side-inbox}
use Rattle.sem_revoke.proofs.DelegationRows.{of_settled, Prepares, upcall-adds, call-few, resume-few, kill-few, handle-few}
use Rattle.sem_revoke.proofs.Lasting.{all-caused, side-here, side-other}
use Rattle.sem_revoke.proofs.ReadyCalls.{quiet-event}
use Rattle.sem_revoke.proofs.Readying.{enabled-low}

module _ (k0 : KeyName) where
  -- another side
  world-side : (W : World) (i : ℕ) (t : Side) → of_world k0 (with_side i t W) + of_side k0 (side W i) ≡ of_world k0 W + of_side k0 t
  world-side W i t = let sides = weigh-put (of_side k0) no_side refl W.sides i t in omega (arith, sides)

  -- another link
  world-link : (W : World) (i j : ℕ) (ms : List Message) → of_world k0 (with_link i j ms W) + of_messages k0 (link W i j) ≡ of_world k0 W + of_messages k0 ms
  world-link W i j ms =
      let inner = weigh-put (of_messages k0) [] refl (get_or W.links i []) j ms in
      let outer = weigh-put (λ ls. sum_by (of_messages k0) ls) [] refl W.links i (put [] (get_or W.links i []) j ms) in
      omega (arith, inner, outer)

  -- a message moves from the link into the inbox
  in_inbox : (j : ℕ) (o : Option Message) → of_inbox k0 (option_map (λ m. (j, m)) o) ≡ of_option (of_message k0) o
  in_inbox j None = refl
  in_inbox j (Some m) = refl

  fetched : (T : Setup) (W : World) (i j : ℕ) → of_world k0 (after T W (event i (Fetch j))) ≤ of_world k0 W
  unfolding after local_step
  fetched T W i j =
      let s : Side = side W i in
      let ms : List Message = link W j i in
      let input : Option Message = slice_get ms 0 in
      let t : Side = with_inbox (option_map (λ m. (j, m)) input) s in
      let V : World = with_side i t W in
      let new = world-side W i t in
      let moved : of_world k0 (with_link j i (drop 1 ms) V) + of_messages k0 ms ≡ of_world k0 V + of_messages k0 (drop 1 ms) = world-link V j i (drop 1 ms) in
      let front = weigh-drop (of_message k0) ms in
      let inbox = side-inbox k0 s (option_map (λ m. (j, m)) input) in
      let same = in_inbox j input in
      omega (arith, new, moved, front, inbox, same)

  -- a message moves from an outbox into the link
  link-more : (V : World) (i j : ℕ) (o : Option Message) → of_world k0 (option_map_or (λ m. with_link i j (link V i j ++ m ∷ []) V) o V)
      ≡ of_world k0 V + of_option (of_message k0) o
  link-more V i j None = omega arith
  link-more V i j (Some m) = let more = world-link V i j (link V i j ++ m ∷ []) in let push = sum_by_push (of_message k0) (link V i j) m in
      omega (arith, more, push)

  flushed : (T : Setup) (W : World) (i j : ℕ) → of_world k0 (after T W (event i (Flush j))) ≤ of_world k0 W
  unfolding after local_step
  flushed T W i j =
      let s : Side = side W i in
      let V : World = with_side i (sent j s) W in
      let new = world-side W i (sent j s) in
      let gone = side-sent k0 s j in
      let more = link-more V i j (slice_get (outbox s j) 0) in
      omega (arith, new, gone, more)

  -- the Ack that an act handles
  abbrev settled_in : Side → Act → ℕ
  settled_in s Handle = of_settled k0 s.inbox
  settled_in s a = 0

  -- the act prepares the delegation
  abbrev IsPreparing : Setup → World → ℕ → Act → Type 0
  IsPreparing T W i a = (v : ℕ) × (a ≡ Upcall v) × Prepares k0 T v (side W i) (stepped T W (event i a)).side
      × (of_world k0 (after T W (event i a)) ≤ of_world k0 W + 1)

  -- The world after an event.
  event-adds : (T : Setup) (W : World) (i : ℕ) (a : Act) → (of_world k0 (after T W (event i a)) + settled_in (side W i) a ≤ of_world k0 W) ⊎ IsPreparing T W i a
  unfolding after local_step
  event-adds T W i (Calls v) =
      let few = call-few k0 T i (side W i) v None in
      let new = world-side W i (local_step T i (side W i) (Calls v) None).side in
      inl (omega (arith, few, new))
  event-adds T W i (Upcall v) =
      let new = world-side W i (local_step T i (side W i) (Upcall v) None).side in
      elim (upcall-adds k0 T i v (side W i)) [
        | inl few ↦ inl (omega (arith, few, new))
        | inr is ↦ let one = is.one in inr (v, refl, is, omega (arith, one, new))
      ]
  event-adds T W i (Resume v) =
      let few = resume-few k0 T i (side W i) v None in
      let new = world-side W i (local_step T i (side W i) (Resume v) None).side in
      inl (omega (arith, few, new))
  event-adds T W i (Kill v) =
      let few = kill-few k0 T i (side W i) v None in
      let new = world-side W i (local_step T i (side W i) (Kill v) None).side in
      inl (omega (arith, few, new))
  event-adds T W i Handle =
      let few = handle-few k0 T i (side W i) None in
      let new = world-side W i (local_step T i (side W i) Handle None).side in
      inl (omega (arith, few, new))
  event-adds T W i (Fetch j) = let few = fetched T W i j in inl (omega (arith, few))
  event-adds T W i (Flush j) = let few = flushed T W i j in inl (omega (arith, few))

  -- The start.

  side-none : (T : Setup) (i : ℕ) → of_side k0 (start_side T i) ≡ 0
  unfolding start_side
  side-none T i =
      let calls = weigh-replicate (of_parked k0) 128 None refl in
      let outs = weigh-replicate (of_messages k0) T.kernels [] refl in
      let empty : Few k0 0 (empty_side T) = omega (arith, calls, outs) in
      let all = in_turn-keeps (Few k0 0) vpe_added (λ d t few. in_turn-keeps (Few k0 0) (root_added d) (λ r u one. one) d.roots (vpe_fresh d t) few)
      (filter (λ d. pe_owner T d.pe == i) T.vpes) (empty_side T) empty in
      omega (arith, all)

  world-none : (T : Setup) → of_world k0 (start T) ≡ 0
  unfolding start
  world-none T =
      let sides : sum_by (of_side k0) (map (start_side T) (range_with_len 0 T.kernels)) ≡ 0 =
      weigh-none (of_side k0) (map (start_side T) (range_with_len 0 T.kernels))
      (λ s among. from s (Contains-from_map (start_side T) (range_with_len 0 T.kernels) s among)) in
      let links : of_links k0 (replicate T.kernels (replicate T.kernels [])) ≡ 0 =
      weigh-replicate (λ (ls : List (List Message)). sum_by (of_messages k0) ls) T.kernels (replicate T.kernels [])
      (weigh-replicate (of_messages k0) T.kernels [] refl) in
      omega (arith, sides, links)
    where
      from : (s : Side) → (i : ℕ) × Contains (range_with_len 0 T.kernels) i × (start_side T i ≡ s) → of_side k0 s ≡ 0
      from s (i, among, same) = subst (λ t. of_side k0 t ≡ 0) same (side-none T i)

  -- What is so of a delegation: it has one token at most, none before its number is drawn, and is pending while it has one.
  pub record IsOne (T : Setup) (W : World) : Type 0 where
    pub one : of_world k0 W ≤ 1
    pub undrawn : (row (side W (kernel_of T k0.vpe)) k0.vpe).next_number ≤ k0.number → of_world k0 W ≡ 0
    pub pends : 1 ≤ of_world k0 W → (p : Pending) × (pending (side W (owner_of T k0)) k0 ≡ Some p)

  start-one : (T : Setup) → IsOne T (start T)
  start-one T = let none = world-none T in record { one = omega (arith, none); undrawn = λ still. none; pends = λ some. absurd (omega (arith, none, some)) }

  -- a VPE that does not call
  abbrev idle : Act → ℕ
  idle (Calls u) = suc u
  idle a = 0

  idle-is : (a : Act) (u : ℕ) → a ≡ Calls u → u ≡ idle a → ⊥
  idle-is a u act same = let is : idle a ≡ suc u = ap idle act in omega (arith, same, is)

  module _ (T : Setup) (valid : IsSetup T) (J : List Entry) (runs : IsSchedule T J) (before : List Entry) (e : Entry) (later : List Entry) (parts : J ≡ before
      ++ e ∷ later) (I : IsOne T (world_after T before)) where
    abbrev W : World
    W = world_after T before

    abbrev V : World
    V = after T W e.event

    abbrev i : ℕ
    i = e.event.kernel

    abbrev s : Side
    s = side W i

    abbrev t : Side
    t = (stepped T W e.event).side

    abbrev home : ℕ
    home = owner_of T k0

    enabled : is_enabled T W e.event ≡ true
    enabled = (entry-enabled T before (start T) e later (subst (IsSchedule T) parts runs)).1

    world-is : world_after T (before ++ e ∷ []) ≡ V
    world-is = run-append T before (e ∷ []) (start T)

    at-i : (j : ℕ) → j ≡ i → side V j ≡ t
    at-i j same = ap (λ X. side X j) (sym world-is) ∙ side-here T valid J runs before e later parts (all-caused T valid J runs before (e ∷ later) parts) j same

    not-at : (j : ℕ) → (j ≡ i → ⊥) → side V j ≡ side W j
    not-at j away = ap (λ X. side X j) (sym world-is)
        ∙ side-other T valid J runs before e later parts (all-caused T valid J runs before (e ∷ later) parts) j away

    -- it goes on to be pending, unless the Ack is handled
    pends-on : (p : Pending) → (of_world k0 V + settled_in s e.event.act ≤ of_world k0 W) → 1 ≤ of_world k0 V → pending (side W home) k0 ≡ Some p →
        pending (side V home) k0 ≡ Some p
    pends-on p fewer some was = elim (cases_eq home i) [
      | inr away ↦ ap (λ (x : Side). pending x k0) (not-at home away) ∙ was
      | inl here ↦
          let now : pending s k0 ≡ Some p = ap (λ j. pending (side W j) k0) (sym here) ∙ was in
          let v : ℕ = idle e.event.act in
          let Q = quiet-event T valid J runs before e later parts v k0 (Unit {0}) (parked s v) (Some p)
          (record { park = inl refl; life = inr tt; waiters = λ x among w. tt; asks = λ u a among who. tt; pend = λ x is. now ∙ is })
          (λ u act same. idle-is e.event.act u act same)
          (λ u act same. tt) (λ u act same. tt) (λ from m full one. tt)
          (λ from accepted act full x is. settled from accepted act full)
          (λ from k j full ready same. tt) in
          ap (λ (x : Side). pending x k0) (at-i home here) ∙ Q.pend p refl
    ]
      where
        settled : (from : ℕ) (accepted : Bool) → e.event.act ≡ Handle → s.inbox ≡ Some (from, Ack k0 accepted) → ⊥
        settled from accepted act full =
            let is : settled_in s e.event.act ≡ of_key k0 k0 = ap (settled_in s) act ∙ ap (of_settled k0) full in
            let unit : of_key k0 k0 ≡ 1 = cond-true (key_eq k0 k0) 1 0 (key_eq-same k0) in
            let most = I.one in
            omega (arith, is, unit, most, fewer, some)

    next-plain : (of_world k0 V + settled_in s e.event.act ≤ of_world k0 W) → IsOne T V
    next-plain fewer =
        let most = I.one in
        record {
          one = omega (arith, fewer, most);
          undrawn = λ still.
              let on = ((after-onward T W e.event).sides (kernel_of T k0.vpe)).numbers k0.vpe in
              let none = I.undrawn (omega (arith, still, on)) in
              omega (arith, fewer, none);
          pends = λ some. let was = I.pends (omega (arith, some, fewer)) in (was.0, pends-on was.0 fewer some was.1);
        }

    next-prepared : IsPreparing T W i e.event.act → IsOne T V
    next-prepared (v, act, is, more) =
        let here : kernel_of T v ≡ i = subst (MayDraw (λ w. kernel_of T w ≡ i)) act (may_draw T W e.event enabled) in
        let same : kernel_of T k0.vpe ≡ i = ap (kernel_of T) is.vpe ∙ here in
        let at : (row (side W (kernel_of T k0.vpe)) k0.vpe).next_number ≡ k0.number = ap (λ j. (row (side W j) k0.vpe).next_number) same
        ∙ (ap (λ w. (row s w).next_number) is.vpe ∙ is.number) in
        let none = I.undrawn (omega (arith, at)) in
        let next : (row (side V (kernel_of T k0.vpe)) k0.vpe).next_number ≡ (row t v).next_number =
        ap (λ (x : Side). (row x k0.vpe).next_number) (at-i (kernel_of T k0.vpe) same) ∙ ap (λ w. (row t w).next_number) is.vpe in
        let low = is.below in
        let number = is.number in
        let few = enabled-low T W e.event enabled in
        let declared = (own-declared T valid v (subst (λ j. j < T.kernels) (sym here) few)).0 in
        let owner : home ≡ i = ap (pe_owner T) is.pe ∙ (sym (declared-kernel T (pe_of T v) v declared) ∙ here) in
        record {
          one = omega (arith, more, none);
          undrawn = λ still. absurd (omega (arith, still, next, low, number));
          pends = λ some. (is.pends.0, ap (λ (x : Side). pending x k0) (at-i home owner) ∙ is.pends.1);
        }

    next-one : IsOne T (world_after T (before ++ e ∷ []))
    next-one = subst (IsOne T) (sym world-is) (elim (event-adds T W i e.event.act) [ inl fewer ↦ next-plain fewer | inr prepared ↦ next-prepared prepared ])

  -- Along the journal.
  pub schedule-one : (T : Setup) → IsSetup T → (J : List Entry) → IsSchedule T J → IsOne T (world_after T J)
  schedule-one T valid J runs = from [] J refl (start-one T)
    where
      from : (before later : List Entry) → J ≡ before ++ later → IsOne T (world_after T before) → IsOne T (world_after T J)
      from before [] parts is = subst (λ K. IsOne T (world_after T K)) (sym (parts ∙ append-nil before)) is
      from before (e ∷ later) parts is = from (before ++ e ∷ []) later (parts
          ∙ sym (append_assoc before (e ∷ []) later)) (next-one T valid J runs before e later parts is)

pub one-each : (T : Setup) → IsSetup T → (J : List Entry) → IsSchedule T J → (k : KeyName) → of_world k (world_after T J) ≤ 1
one-each T valid J runs k = (schedule-one k T valid J runs).one

pub each-pends : (T : Setup) → IsSetup T → (J : List Entry) → IsSchedule T J → (k : KeyName) → 1 ≤ of_world k (world_after T J) →
    (p : Pending) × (pending (side (world_after T J) (owner_of T k)) k ≡ Some p)
each-pends T valid J runs k some = (schedule-one k T valid J runs).pends some
