-- The end of a VPE makes a side no heavier: what it was asked pays for the refusals, its parked call for what it
-- owes, and each capability for the job that revokes it.
use Rattle.std.proofs.Common.{◌≡◌, ℕ, ◌+◌, ◌≤◌, Bool, false, List, [], ◌∷◌, Option, Some, None, refl, ap, inl, inr}
use Rattle.std.proofs.Common.{arith}
use Rattle.std.specs.Prelude.{◌==◌, if◌then◌else◌}
use Rattle.std.specs.List.{sum_by}
use Rattle.std.specs.Option.{option_map_or}
use Rattle.std.proofs.lemmas.Bool.{cases_Bool, cond-true, cond-false, cond_both}
use Rattle.std.proofs.lemmas.List.Sums.{sum_by-cons}
use Rattle.sem_key.specs.KeyName.{KeyName}
use Rattle.sem_key.specs.Lists.{in_turn}
use Rattle.sem_key.specs.Capability.{Capability}
use Rattle.sem_msg.specs.declared.message.Message.TheVariants.{ObtainNo, DelegateNo, Ack, Orphan}
use Rattle.sem_msg.specs.declared.state.Ask.{Ask}
use Rattle.sem_msg.specs.declared.state.Ask.TheVariants.{Obtain as ObtainAsk, Delegate as DelegateAsk}
use Rattle.sem_msg.specs.declared.state.Parked.{Parked}
use Rattle.sem_msg.specs.declared.state.Parked.TheVariants.{ObtainWait, ObtainReady, ObtainCancelled, DelegateWait}
use Rattle.sem_msg.specs.declared.state.Parked.TheVariants.{DelegateReady, RevokeWait, Ready}
use Rattle.sem_msg.specs.declared.state.Slot.TheVariants.{Free}
use Rattle.sem_msg.specs.Setup.{Setup}
use Rattle.sem_msg.specs.Lookups.{kernel_of, owner_of, place_owner}
use Rattle.sem_msg.specs.declared.code.Code.{Code}
use Rattle.sem_msg.specs.declared.code.Code.TheVariants.{Dead}
use Rattle.sem_msg.specs.Codes.{code_number}
use Rattle.sem_machine.specs.Sides.{Side, row, cap, parked, ready, unparked, buried, send}
use Rattle.sem_machine.specs.Asks.{asker, is_unawaited, promise_freed, call_refused, refusal_sent, ask_refused}
use Rattle.sem_machine.specs.Revokes.{begin}
use Rattle.sem_machine.specs.Ends.{ask_ended, call_ended, revoked_if_left, keys_of_vpe, ended}
use Rattle.sem_safety.proofs.Layers.{facts}
use Rattle.sem_machine.proofs.Folds.{in_turn-keeps}
use Rattle.sem_safety.proofs.Onwards.{AnyPlace}
use Rattle.sem_safety.proofs.GoingOn.{AnyVpe}
use Rattle.sem_safety.proofs.KeptRevokes.{begin-in}
use Rattle.sem_safety.proofs.KeptRows.{ask_ended-in, call_ended-in}
use Rattle.sem_bound.proofs.Weights.{of_parked, of_far_ask, of_ask, of_side, side-slot, side-parked, side-unparked}
use Rattle.sem_bound.proofs.Weights.{side-buried, side-send, side-left}
use Rattle.sem_bound.proofs.Layering.{NoKey, IsCalm, calm}
use Rattle.sem_bound.proofs.Beginning.{begin-costs}

module _ (T : Setup) (near : KeyName → Bool) (i : ℕ) where
  -- A refused ask costs four: the refusal and its way, and the call that goes on then; one of this kernel costs only
  -- the last.
  promise-lighter : (p : Option Parked) (v : ℕ) (s : Side) →
      of_side T near i (promise_freed p v s) ≤ of_side T near i s
  promise-lighter None v s = omega arith
  promise-lighter (Some (ObtainWait number sel)) v s = side-slot T near i s v sel Free
  promise-lighter (Some (ObtainReady key parent object sel)) v s = omega arith
  promise-lighter (Some ObtainCancelled) v s = omega arith
  promise-lighter (Some (DelegateWait parent)) v s = omega arith
  promise-lighter (Some (DelegateReady parent key)) v s = omega arith
  promise-lighter (Some (RevokeWait j)) v s = omega arith
  promise-lighter (Some (Ready code)) v s = omega arith

  pub call_refused-costs : (code v : ℕ) (s : Side) → of_side T near i (call_refused code v s) ≤ of_side T near i s + 1
  call_refused-costs code v s =
      let t : Side = promise_freed (parked s v) v s in
      let less = promise-lighter (parked s v) v s in
      let more : of_side T near i (ready code v t) ≤ of_side T near i t + 1 = side-parked T near i t v (Ready code) in
      omega (arith, less, more)

  refusal-costs : (code : Code) (a : Ask) (s : Side) →
      of_side T near i (refusal_sent T code a s) ≤ of_side T near i s + 4
  refusal-costs code (ObtainAsk place target) s =
      let more : of_side T near i (send (place_owner T place) (ObtainNo place (code_number code)) s)
      ≡ of_side T near i s + 4 =
      side-send T near i s (place_owner T place) (ObtainNo place (code_number code)) in
      omega (arith, more)
  refusal-costs code (DelegateAsk parent object sel) s =
      let more : of_side T near i (send (owner_of T parent) (DelegateNo parent (code_number code)) s)
      ≡ of_side T near i s + 4 =
      side-send T near i s (owner_of T parent) (DelegateNo parent (code_number code)) in omega (arith, more)

  -- what a refusal of an ask costs
  abbrev pub of_refusal : Ask → ℕ
  of_refusal a = if kernel_of T (asker a) == i then 1 else 4

  pub ask_refused-costs : (code : Code) (a : Ask) (s : Side) →
      of_side T near i (ask_refused T i code a s) ≤ of_side T near i s + of_refusal a
  ask_refused-costs code a s = elim (cases_Bool (kernel_of T (asker a) == i)) [
    | inl here ↦
        let same : ask_refused T i code a s ≡ call_refused (code_number code) (asker a) s =
        cond-true (kernel_of T (asker a) == i) (call_refused (code_number code) (asker a) s)
        (refusal_sent T code a s) here in
        let side = ap (of_side T near i) same in
        let one : of_refusal a ≡ 1 = cond-true (kernel_of T (asker a) == i) 1 4 here in
        let more = call_refused-costs (code_number code) (asker a) s in
        omega (arith, side, one, more)
    | inr remote ↦
        let same : ask_refused T i code a s ≡ refusal_sent T code a s =
        cond-false (kernel_of T (asker a) == i) (call_refused (code_number code) (asker a) s)
        (refusal_sent T code a s) remote in
        let side = ap (of_side T near i) same in
        let four : of_refusal a ≡ 4 = cond-false (kernel_of T (asker a) == i) 1 4 remote in
        let more = refusal-costs code a s in
        omega (arith, side, four, more)
  ]

  -- an ask pays for its refusal, and for an entry besides
  pub refusal-paid : (a : Ask) → of_refusal a + 1 ≤ of_ask T near i a
  refusal-paid a = elim (cases_Bool (kernel_of T (asker a) == i)) [
    | inl here ↦
        let one : of_refusal a ≡ 1 = cond-true (kernel_of T (asker a) == i) 1 4 here in
        let two : of_ask T near i a ≡ 2 = cond-true (kernel_of T (asker a) == i) 2 (of_far_ask a) here in
        omega (arith, one, two)
    | inr remote ↦
        let four : of_refusal a ≡ 4 = cond-false (kernel_of T (asker a) == i) 1 4 remote in
        let far : of_ask T near i a ≡ of_far_ask a =
        cond-false (kernel_of T (asker a) == i) 2 (of_far_ask a) remote in
        let least = far-least a in
        omega (arith, four, far, least)
  ]
    where
      far-least : (b : Ask) → 5 ≤ of_far_ask b
      far-least (ObtainAsk place target) = omega arith
      far-least (DelegateAsk parent object sel) = omega arith

  ask_ended-costs : (a : Ask) (s : Side) →
      of_side T near i (ask_ended T i a s) ≤ of_side T near i s + of_ask T near i a
  ask_ended-costs a s =
      let paid = refusal-paid a in
      cond_both (is_unawaited T i s a) s (ask_refused T i Dead a s)
      (λ u. of_side T near i u ≤ of_side T near i s + of_ask T near i a) (λ _. omega arith)
      (λ _. let more = ask_refused-costs Dead a s in omega (arith, more, paid))

  asks_ended-cost : (asks : List Ask) (s : Side) →
      of_side T near i (in_turn (ask_ended T i) asks s) ≤ of_side T near i s + sum_by (of_ask T near i) asks
  unfolding in_turn
  asks_ended-cost [] s = omega arith
  asks_ended-cost (a ∷ asks) s =
      let rest = asks_ended-cost asks (ask_ended T i a s) in
      let here = ask_ended-costs a s in
      let all = sum_by-cons (of_ask T near i) a asks in
      omega (arith, rest, here, all)

  call_ended-costs : (p : Option Parked) (v : ℕ) (s : Side) →
      of_side T near i (call_ended T p v s) ≤ of_side T near i s + of_parked p
  call_ended-costs None v s = omega arith
  call_ended-costs (Some (ObtainWait number sel)) v s = omega arith
  call_ended-costs (Some (ObtainReady key parent object sel)) v s =
      let more : of_side T near i (send (owner_of T parent) (Orphan parent key) s) ≡ of_side T near i s + 3 =
      side-send T near i s (owner_of T parent) (Orphan parent key) in omega (arith, more)
  call_ended-costs (Some ObtainCancelled) v s = omega arith
  call_ended-costs (Some (DelegateWait parent)) v s = omega arith
  call_ended-costs (Some (DelegateReady parent key)) v s =
      let more : of_side T near i (send (owner_of T key) (Ack key false) s) ≡ of_side T near i s + 3 =
      side-send T near i s (owner_of T key) (Ack key false) in omega (arith, more)
  call_ended-costs (Some (RevokeWait j)) v s = let less = side-left T near i s j v in omega (arith, less)
  call_ended-costs (Some (Ready code)) v s = omega arith

  -- the capabilities that are left, each revoked
  abbrev Light : ℕ → Side → Type 0
  Light m t = (of_side T near i t ≤ m) × IsCalm T near i t

  abbrev revoked_if_there : Setup → ℕ → KeyName → Option Capability → Side → Side
  revoked_if_there T i k None s = s
  revoked_if_there T i k (Some c) s = option_map_or (λ m. s) c.mark (begin T i k None [] false s)

  revoked-light : (m : ℕ) (k : KeyName) (o : Option Capability) (s : Side) → cap s k ≡ o → Light m s →
      Light m (revoked_if_there T i k o s)
  revoked-light m k None s held light = light
  revoked-light m k (Some c) s held light = by_mark c.mark refl
    where
      by_mark : (mark : Option ℕ) → c.mark ≡ mark →
          Light m (option_map_or (λ n. s) mark (begin T i k None [] false s))
      by_mark (Some n) marked = light
      by_mark None unmarked =
          let begins = begin-costs T near i k None [] false s c held unmarked light.1 in
          let before = light.0 in (
            omega (arith, begins, before),
            begin-in (facts NoKey AnyPlace) (IsCalm T near i) (calm T near i) T i k None [] false s light.1 tt,
          )

  pub ended-lighter : (v : ℕ) (s : Side) → IsCalm T near i s → of_side T near i (ended T i v s) ≤ of_side T near i s
  unfolding ended
  ended-lighter v s calm' =
      let m : ℕ = of_side T near i s in
      let L = calm T near i in
      let F = facts NoKey AnyPlace in
      let asks : List Ask = (row s v).asks in
      let answered : Side = in_turn (ask_ended T i) asks (buried v s) in
      let left : Side = call_ended T (parked answered v) v (unparked v answered) in
      let one = side-buried T near i s v in
      let two = asks_ended-cost asks (buried v s) in
      let three = side-unparked T near i answered v in
      let four = call_ended-costs (parked answered v) v (unparked v answered) in
      let answered_calm : IsCalm T near i answered =
      in_turn-keeps (IsCalm T near i) (ask_ended T i)
      (λ a t here. ask_ended-in F AnyVpe (IsCalm T near i) L T i a t here) asks (buried v s) calm' in
      let left_calm : IsCalm T near i left =
      call_ended-in F AnyVpe (IsCalm T near i) L T (parked answered v) v (unparked v answered) answered_calm in
      let light : Light m left = (omega (arith, one, two, three, four), left_calm) in
      (in_turn-keeps (Light m) (revoked_if_left T i)
      (λ k t here. revoked-light m k (cap t k) t refl here) (keys_of_vpe left v) left light).0
