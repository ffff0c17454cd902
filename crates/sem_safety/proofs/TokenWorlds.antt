-- The tokens of a place in a world, and along a run: there is one at most, or a key of that place was made, and before the number is drawn there is neither.
use Rattle.std.proofs.Common.{◌≡◌, ℕ, ◌+◌, ◌<◌, ◌≤◌, true, List, [], ◌∷◌, ◌++◌, drop, get_or, Option, Some, None, slice_get, refl, sym, ◌∙◌, ap, subst, inl}
use Rattle.std.proofs.Common.{inr, arith}
use Rattle.std.specs.List.{sum_by}
use Rattle.std.specs.Option.{option_map, option_map_or}
use Rattle.std.proofs.lemmas.List.Sums.{sum_by_push}
use Rattle.sem_key.specs.KeyName.{KeyName}
use Rattle.sem_key.specs.Lists.{put}
use Rattle.sem_msg.specs.declared.message.Message.{Message}
use Rattle.sem_msg.specs.declared.event.Act.{Act}
use Rattle.sem_msg.specs.declared.event.Act.TheVariants.{Call as Calls, Fetch, Handle, Upcall, Resume, Flush, Kill}
use Rattle.sem_msg.specs.declared.event.Event.{Event}
use Rattle.sem_msg.specs.Setup.{Setup}
use Rattle.sem_msg.specs.Lookups.{kernel_of}
use Rattle.sem_machine.specs.Sides.{Side, no_side, row, outbox, sent, with_inbox}
use Rattle.sem_machine.specs.Machine.{World, side, link, with_side, with_link, local_step, after, event, is_enabled}
use Rattle.sem_safety.proofs.CarryingWorlds.{stepped}
use Rattle.sem_safety.proofs.GoingOn.{after-onward}
use Rattle.sem_safety.proofs.KeptSteps.{MayDraw}
use Rattle.sem_safety.proofs.Drawers.{may_draw, side-after}
use Rattle.sem_machine.proofs.Weighing.{of_option, weigh-put, weigh-drop}
use Rattle.sem_safety.proofs.Tokens.{of_key, of_message, of_messages, of_inbox, of_side, of_grant, side-inbox, side-sent}
use Rattle.sem_safety.proofs.TokenRows.{drawing, call-within, upcall-within, resume-few, kill-few, handle-few, drawing-cases, drawing-one}

module _ (v0 n0 : ℕ) where
  abbrev pub of_links : List (List (List Message)) → ℕ
  of_links links = sum_by (λ ls. sum_by (of_messages v0 n0) ls) links

  abbrev pub of_world : World → ℕ
  of_world W = sum_by (of_side v0 n0) W.sides + of_links W.links

  -- another side
  world-side : (W : World) (i : ℕ) (t : Side) → of_world (with_side i t W) + of_side v0 n0 (side W i) ≡ of_world W + of_side v0 n0 t
  world-side W i t = let sides = weigh-put (of_side v0 n0) no_side refl W.sides i t in omega (arith, sides)

  -- another link
  world-link : (W : World) (i j : ℕ) (ms : List Message) → of_world (with_link i j ms W) + of_messages v0 n0 (link W i j) ≡ of_world W + of_messages v0 n0 ms
  world-link W i j ms =
      let inner = weigh-put (of_messages v0 n0) [] refl (get_or W.links i []) j ms in
      let outer = weigh-put (λ ls. sum_by (of_messages v0 n0) ls) [] refl W.links i (put [] (get_or W.links i []) j ms) in
      omega (arith, inner, outer)

  -- a message moves from the link into the inbox
  in_inbox : (j : ℕ) (o : Option Message) → of_inbox v0 n0 (option_map (λ m. (j, m)) o) ≡ of_option (of_message v0 n0) o
  in_inbox j None = refl
  in_inbox j (Some m) = refl

  fetched : (T : Setup) (W : World) (i j : ℕ) →
      of_world (after T W (event i (Fetch j))) + of_grant v0 n0 (stepped T W (event i (Fetch j))).outcome.grant ≤ of_world W + 0
  unfolding after local_step
  fetched T W i j =
      let s : Side = side W i in
      let ms : List Message = link W j i in
      let input : Option Message = slice_get ms 0 in
      let t : Side = with_inbox (option_map (λ m. (j, m)) input) s in
      let V : World = with_side i t W in
      let new = world-side W i t in
      let moved : of_world (with_link j i (drop 1 ms) V) + of_messages v0 n0 ms ≡ of_world V + of_messages v0 n0 (drop 1 ms) = world-link V j i (drop 1 ms) in
      let front = weigh-drop (of_message v0 n0) ms in
      let inbox = side-inbox v0 n0 s (option_map (λ m. (j, m)) input) in
      let same = in_inbox j input in
      omega (arith, new, moved, front, inbox, same)

  -- a message moves from an outbox into the link
  link-more : (V : World) (i j : ℕ) (o : Option Message) → of_world (option_map_or (λ m. with_link i j (link V i j ++ m ∷ []) V) o V)
      ≡ of_world V + of_option (of_message v0 n0) o
  link-more V i j None = omega arith
  link-more V i j (Some m) = let more = world-link V i j (link V i j ++ m ∷ []) in let push = sum_by_push (of_message v0 n0) (link V i j) m in
      omega (arith, more, push)

  flushed : (T : Setup) (W : World) (i j : ℕ) →
      of_world (after T W (event i (Flush j))) + of_grant v0 n0 (stepped T W (event i (Flush j))).outcome.grant ≤ of_world W + 0
  unfolding after local_step
  flushed T W i j =
      let s : Side = side W i in
      let V : World = with_side i (sent j s) W in
      let new = world-side W i (sent j s) in
      let gone = side-sent v0 n0 s j in
      let more = link-more V i j (slice_get (outbox s j) 0) in
      omega (arith, new, gone, more)

  -- what is drawn in an event
  abbrev pub drawn_in : Setup → World → Event → ℕ
  drawn_in T W e = by_act e.act
    where
      by_act : Act → ℕ
      by_act (Calls v) = drawing v0 n0 (side W e.kernel) v (stepped T W e)
      by_act (Upcall v) = drawing v0 n0 (side W e.kernel) v (stepped T W e)
      by_act a = 0

  -- The world after an event.
  after-weighed : (T : Setup) (W : World) (i : ℕ) (a : Act) →
      of_world (after T W (event i a)) + of_grant v0 n0 (stepped T W (event i a)).outcome.grant ≤ of_world W + drawn_in T W (event i a)
  unfolding after
  after-weighed T W i (Calls v) =
      let few = call-within v0 n0 T i (side W i) v None in
      let new = world-side W i (local_step T i (side W i) (Calls v) None).side in
      omega (arith, few, new)
  after-weighed T W i (Upcall v) =
      let few = upcall-within v0 n0 T i (side W i) v None in
      let new = world-side W i (local_step T i (side W i) (Upcall v) None).side in
      omega (arith, few, new)
  after-weighed T W i (Resume v) =
      let few = resume-few v0 n0 T i (side W i) v None in
      let new = world-side W i (local_step T i (side W i) (Resume v) None).side in
      omega (arith, few, new)
  after-weighed T W i (Kill v) =
      let few = kill-few v0 n0 T i (side W i) v None in
      let new = world-side W i (local_step T i (side W i) (Kill v) None).side in
      omega (arith, few, new)
  after-weighed T W i Handle =
      let few = handle-few v0 n0 T i (side W i) None in
      let new = world-side W i (local_step T i (side W i) Handle None).side in
      omega (arith, few, new)
  after-weighed T W i (Fetch j) = fetched T W i j
  after-weighed T W i (Flush j) = flushed T W i j

-- What is so of a place: there is one token or made key at most, and none before the number is drawn.
module _ (v0 n0 : ℕ) where
  abbrev pub total : World → List KeyName → List (KeyName × KeyName) → ℕ
  total W roots gs = of_world v0 n0 W + (sum_by (of_key v0 n0) roots + sum_by (λ (g : KeyName × KeyName). of_key v0 n0 g.1) gs)

  pub record IsOnce (T : Setup) (W : World) (roots : List KeyName) (gs : List (KeyName × KeyName)) : Type 0 where
    pub once : total W roots gs ≤ 1
    pub undrawn : (row (side W (kernel_of T v0)) v0).next_number ≤ n0 → total W roots gs ≡ 0

  -- the grants with one more, if one is
  abbrev pub with_granted : List (KeyName × KeyName) → Option (KeyName × KeyName) → List (KeyName × KeyName)
  with_granted gs None = gs
  with_granted gs (Some g) = gs ++ g ∷ []

  granted-sum : (gs : List (KeyName × KeyName)) (o : Option (KeyName × KeyName)) → sum_by (λ (g : KeyName × KeyName). of_key v0 n0 g.1) (with_granted gs o)
      ≡ sum_by (λ (g : KeyName × KeyName). of_key v0 n0 g.1) gs + of_grant v0 n0 o
  granted-sum gs None = omega arith
  granted-sum gs (Some g) = sum_by_push (λ (h : KeyName × KeyName). of_key v0 n0 h.1) gs g

  module _ (T : Setup) (W : World) (roots : List KeyName) (gs : List (KeyName × KeyName)) (is : IsOnce T W roots gs) where
    -- an event in which the number is not drawn
    plain-once : (e : Event) → drawn_in v0 n0 T W e ≡ 0 → IsOnce T (after T W e) roots (with_granted gs (stepped T W e).outcome.grant)
    plain-once e none =
        let weighed = after-weighed v0 n0 T W e.kernel e.act in
        let sum = granted-sum gs (stepped T W e).outcome.grant in
        let less : total (after T W e) roots (with_granted gs (stepped T W e).outcome.grant) ≤ total W roots gs = omega (arith, weighed, sum, none) in
        let once = is.once in
        record {
          once = omega (arith, less, once);
          undrawn = λ still.
              let on = ((after-onward T W e).sides (kernel_of T v0)).numbers v0 in
              let before = is.undrawn (omega (arith, still, on)) in
              omega (arith, less, before);
        }

    -- an event in which it is
    drawn-once : (e : Event) → drawn_in v0 n0 T W e ≤ 1 → kernel_of T v0 ≡ e.kernel → (row (side W e.kernel) v0).next_number ≡ n0 →
        (row (side W e.kernel) v0).next_number < (row (stepped T W e).side v0).next_number →
        IsOnce T (after T W e) roots (with_granted gs (stepped T W e).outcome.grant)
    drawn-once e one here now drawn_now =
        let weighed = after-weighed v0 n0 T W e.kernel e.act in
        let sum = granted-sum gs (stepped T W e).outcome.grant in
        let at : (row (side W (kernel_of T v0)) v0).next_number ≡ n0 = ap (λ i. (row (side W i) v0).next_number) here ∙ now in
        let none = is.undrawn (omega (arith, at)) in
        let next : (row (side (after T W e) (kernel_of T v0)) v0).next_number ≡ (row (stepped T W e).side v0).next_number =
        ap (λ i. (row (side (after T W e) i) v0).next_number) here ∙ ap (λ (t : Side). (row t v0).next_number) (side-after T W e) in
        record {
          once = omega (arith, weighed, sum, one, none);
          undrawn = λ still. absurd (omega (arith, still, next, now, drawn_now));
        }

    pub event-once : (e : Event) → is_enabled T W e ≡ true → IsOnce T (after T W e) roots (with_granted gs (stepped T W e).outcome.grant)
    event-once e enabled = by_act e.kernel e.act (may_draw T W e enabled)
      where
        for_vpe : (i v : ℕ) (a : Act) → kernel_of T v ≡ i → drawn_in v0 n0 T W (event i a) ≡ drawing v0 n0 (side W i) v (stepped T W (event i a)) →
            IsOnce T (after T W (event i a)) roots (with_granted gs (stepped T W (event i a)).outcome.grant)
        for_vpe i v a here same = elim (drawing-cases v0 n0 (side W i) v (stepped T W (event i a))) [
          | inl none ↦ plain-once (event i a) (same ∙ none)
          | inr (this, number, now) ↦
              let one = drawing-one v0 n0 (side W i) v (stepped T W (event i a)) in
              drawn-once (event i a) (omega (arith, same, one)) (ap (kernel_of T) (sym this)
              ∙ here) (subst (λ w. (row (side W i) w).next_number ≡ n0) this number)
              (subst (λ w. (row (side W i) w).next_number < (row (stepped T W (event i a)).side w).next_number) this now)
        ]

        by_act : (i : ℕ) (a : Act) → MayDraw (λ v. kernel_of T v ≡ i) a →
            IsOnce T (after T W (event i a)) roots (with_granted gs (stepped T W (event i a)).outcome.grant)
        by_act i (Calls v) here = for_vpe i v (Calls v) here refl
        by_act i (Upcall v) here = for_vpe i v (Upcall v) here refl
        by_act i (Fetch j) here = plain-once (event i (Fetch j)) refl
        by_act i Handle here = plain-once (event i Handle) refl
        by_act i (Resume v) here = plain-once (event i (Resume v)) refl
        by_act i (Flush j) here = plain-once (event i (Flush j)) refl
        by_act i (Kill v) here = plain-once (event i (Kill v)) refl
