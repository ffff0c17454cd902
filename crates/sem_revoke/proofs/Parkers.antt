-- After every schedule a parked call is one of a living VPE.
use Rattle.std.proofs.Common.{◌≡◌, ◌⊎◌, ℕ, ◌≤◌, ◌<◌, true, List, [], ◌∷◌, ◌++◌, Option, Some, None, slice_get, append-nil, append_assoc, refl, sym, ap, ◌∙◌}
use Rattle.std.proofs.Common.{subst, inl, inr, arith}
use Rattle.std.specs.List.{Contains}
use Rattle.std.specs.Option.{option_map_or}
use Rattle.std.proofs.lemmas.Bool.{cases_eq}
use Rattle.std.proofs.lemmas.Option.{same_Some, slice_get_within, get_or_from_slice_get}
use Rattle.sem_msg.specs.declared.call.Call.{Call}
use Rattle.sem_msg.specs.declared.call.Call.TheVariants.{Exit}
use Rattle.sem_msg.specs.declared.entry.Entry.{Entry}
use Rattle.sem_msg.specs.declared.event.Act.{Act}
use Rattle.sem_msg.specs.declared.event.Act.TheVariants.{Call as Calls, Fetch, Handle, Upcall, Resume, Flush, Kill}
use Rattle.sem_msg.specs.declared.message.Message.{Message}
use Rattle.sem_msg.specs.declared.state.Ask.{Ask}
use Rattle.sem_msg.specs.declared.state.Parked.{Parked}
use Rattle.sem_msg.specs.Setup.{Setup, IsSetup}
use Rattle.sem_msg.specs.Lookups.{kernel_of, calls_of}
use Rattle.sem_machine.specs.Sides.{Side, row, parked, unparked, call_counted, ask_taken, with_inbox}
use Rattle.sem_machine.specs.Sound.{IsSound, one_if}
use Rattle.sem_machine.specs.Steps.{Step, unshown}
use Rattle.sem_machine.specs.Calls.{call_row}
use Rattle.sem_machine.specs.Ends.{ended}
use Rattle.sem_machine.specs.Handles.{handled}
use Rattle.sem_machine.specs.Resumes.{resumed, resume_row}
use Rattle.sem_machine.specs.Upcalls.{ask_decided, upcall_row}
use Rattle.sem_machine.specs.Machine.{World, side, start, input_of, next_call, local_step, after, is_enabled, is_locally_enabled}
use Rattle.sem_machine.specs.Schedules.{IsSchedule, world_after}
use Rattle.sem_safety.proofs.CarryingWorlds.{stepped}
use Rattle.sem_safety.proofs.Drawers.{side-after}
use Rattle.sem_safety.proofs.GoingOn.{entry-enabled, run-append}
use Rattle.sem_sound.proofs.Answering.{decided-sound, resumed-sound}
use Rattle.sem_sound.proofs.Calling.{call_row-sound}
use Rattle.sem_sound.proofs.Changing.{counted-sound, counted-pays, taken-sound}
use Rattle.sem_sound.proofs.Handling.{handled-sound}
use Rattle.sem_sound.proofs.Holding.{inbox-sound}
use Rattle.sem_sound.proofs.Parking.{chained, unparked-no_more}
use Rattle.sem_sound.proofs.Refusing.{ended-sound}
use Rattle.sem_sound.proofs.Scheduling.{schedule-sound}
use Rattle.sem_sound.proofs.Stepping.{call-valid}
use Rattle.sem_revoke.proofs.AddressedWorlds.{vpe-local}
use Rattle.sem_revoke.proofs.Dying.{ActEnds, step-lives}
use Rattle.sem_revoke.proofs.ExchangeWorlds.{start-unparked, side-elsewhere}
use Rattle.sem_revoke.proofs.Readying.{enabled-low}
use Rattle.sem_revoke.proofs.Revoking.{enabled-parts}
use Rattle.sem_revoke.proofs.Serving.{enabled-call, enabled-resume}
use Rattle.sem_revoke.proofs.Waits.{parked-here}

first-among : (xs : List Ask) (a : Ask) → slice_get xs 0 ≡ Some a → Contains xs a
first-among xs a at = (0, slice_get_within xs 0 a at, get_or_from_slice_get xs 0 a a at)

-- who calls by an act
caller : Act → ℕ
caller (Calls w) = w
caller a = 0

-- a VPE ends by the act, on that side
abbrev pub EndsBy : Setup → Side → Act → ℕ → Type 0
EndsBy T s a v = (a ≡ Kill v) ⊎ ((a ≡ Calls v) × (next_call T s v ≡ Some Exit))

-- a VPE that lives goes on to do so, unless it ends by the act
pub lives-on : (T : Setup) (i : ℕ) (s : Side) (a : Act) (input : Option Message) (v : ℕ) → (row s v).alive ≡ true →
    ((row (local_step T i s a input).side v).alive ≡ true) ⊎ EndsBy T s a v
lives-on T i s a input v alive = step-lives v (EndsBy T s a v) T i s a input (who a) (inl alive)
  where
    who : (b : Act) → ActEnds v (EndsBy T s b v) T s b
    who (Calls w) = λ exits same. inr (ap Calls same, subst (λ u. next_call T s u ≡ Some Exit) same exits)
    who (Kill w) = λ same. inl (ap Kill same)
    who (Fetch j) = tt
    who Handle = tt
    who (Upcall w) = tt
    who (Resume w) = tt
    who (Flush j) = tt

module _ (T : Setup) (valid : IsSetup T) (i : ℕ) (low : i < T.kernels) (s : Side) (sound : IsSound T i s) where
  -- no call is parked that was not, but one that is made now
  abbrev Fewer : ℕ → Side → Type 0
  Fewer v t = one_if (parked t v) ≤ one_if (parked s v)

  called : (w v : ℕ) → (v ≡ w → ⊥) → kernel_of T w ≡ i → parked s w ≡ None → (o : Option Call) → next_call T s w ≡ o →
      Fewer v (option_map_or (call_row T i (call_counted w s) w) o (unshown s)).side
  called w v other local idle None at = omega arith
  called w v other local idle (Some c) at =
      let t : Side = call_counted w s in
      let counted = counted-sound T valid i low None None None None s sound w local (slice_get_within (calls_of T w) (row s w).next_call c at) in
      (call_row-sound T valid i low t counted w local idle (counted-pays T valid i low None None None None s sound w local) c
      (call-valid T valid i low w (row s w).next_call c at)).1.0.0 v other

  -- who exits has no call parked
  exited : (w : ℕ) → kernel_of T w ≡ i → parked s w ≡ None → (o : Option Call) → next_call T s w ≡ o → o ≡ Some Exit →
      one_if (parked (option_map_or (call_row T i (call_counted w s) w) o (unshown s)).side w) ≡ 0
  unfolding call_row
  exited w local idle None at exits = absurd cc
  exited w local idle (Some c) at exits =
      let t : Side = call_counted w s in
      let is : c ≡ Exit = same_Some c Exit exits in
      let counted = counted-sound T valid i low None None None None s sound w local (slice_get_within (calls_of T w) (row s w).next_call c at) in
      let few = (call_row-sound T valid i low t counted w local idle (counted-pays T valid i low None None None None s sound w local) c
      (call-valid T valid i low w (row s w).next_call c at)).1.1 in
      let one : one_if (call_row T i t w c).outcome.reply ≡ 1 = ap (λ d. one_if (call_row T i t w d).outcome.reply) is in
      omega (arith, few, one)

  upcalled : (w v : ℕ) → kernel_of T w ≡ i → Fewer v (upcall_row T i s w).side
  unfolding upcall_row
  upcalled w v local = from (slice_get (row s w).asks 0) refl
    where
      from : (o : Option Ask) → slice_get (row s w).asks 0 ≡ o → Fewer v (option_map_or (λ a. ask_decided T i w a (ask_taken w s)) o (unshown s)).side
      from None at = omega arith
      from (Some a) at =
          (decided-sound T valid i low (ask_taken w s) (taken-sound T valid i low None None None None s sound w local) w local a
          ((sound.rows w).asks a (first-among (row s w).asks a at))).1.0.0 v

  handles : (v : ℕ) (o : Option (ℕ × Message)) → s.inbox ≡ o → Fewer v (option_map_or (λ m. handled T i (with_inbox None s) m.0 m.1) o s)
  handles v None at = omega arith
  handles v (Some (k, m)) at =
      (handled-sound T valid i low (with_inbox None s) (inbox-sound T valid i low None None None None s sound None (λ q x none. absurd cc)) k m
      (sound.inbox k m at)).1.0 v

  resumes : (w v : ℕ) → is_locally_enabled T i s (Resume w) ≡ true → Fewer v (resume_row T s w).side
  unfolding resume_row
  resumes w v enabled =
      let may = enabled-resume T i s w enabled in
      let done = resumed-sound T valid i low s sound w may.0 (parked s w) refl may.1 in
      let x : Step = resumed T (parked s w) (unparked w s) in
      let less = done.1.0 v in
      let fewer = (unparked-no_more s w).0 v in
      omega (arith, less, fewer)

  step-fewer : (v : ℕ) (a : Act) (input : Option Message) → is_locally_enabled T i s a ≡ true → (a ≡ Calls v → ⊥) → Fewer v (local_step T i s a input).side
  unfolding local_step
  step-fewer v (Calls w) input enabled apart = let may = enabled-call T i s w enabled in
      called w v (λ same. apart (ap Calls (sym same))) may.0 may.2 (next_call T s w) refl
  step-fewer v (Fetch j) input enabled apart = omega arith
  step-fewer v Handle input enabled apart = handles v s.inbox refl
  step-fewer v (Upcall w) input enabled apart = upcalled w v (vpe-local T i s (Upcall w) enabled w (inr (inl refl)))
  step-fewer v (Resume w) input enabled apart = resumes w v enabled
  step-fewer v (Flush j) input enabled apart = omega arith
  step-fewer v (Kill w) input enabled apart =
      (chained s (unparked w s) (ended T i w s) (unparked-no_more s w)
      (ended-sound T valid i low s sound w (vpe-local T i s (Kill w) enabled w (inr (inr (inr refl))))).1).0 v

  -- who ends has no call parked
  step-ends : (v : ℕ) (a : Act) (input : Option Message) → is_locally_enabled T i s a ≡ true → EndsBy T s a v →
      one_if (parked (local_step T i s a input).side v) ≡ 0
  unfolding local_step
  step-ends v a input enabled (inl kills) =
      let local = vpe-local T i s a enabled v (inr (inr (inr kills))) in
      let fewer = (ended-sound T valid i low s sound v local).1.0 v in
      let none = ap (λ (o : Option Parked). one_if o) (parked-here s v None) in
      let is = ap (λ b. one_if (parked (local_step T i s b input).side v)) kills in
      omega (arith, fewer, none, is)
  step-ends v a input enabled (inr (asks, exits)) =
      let may = enabled-call T i s v (subst (λ b. is_locally_enabled T i s b ≡ true) asks enabled) in
      ap (λ b. one_if (parked (local_step T i s b input).side v)) asks ∙ exited v may.0 may.2 (next_call T s v) refl exits

  -- a parked call is one of a living VPE, if it was so before
  step-parks : ((v : ℕ) (p : Parked) → parked s v ≡ Some p → (row s v).alive ≡ true) → (a : Act) (input : Option Message) → is_locally_enabled T i s a ≡ true →
      (v : ℕ) (p : Parked) → parked (local_step T i s a input).side v ≡ Some p → (row (local_step T i s a input).side v).alive ≡ true
  unfolding caller
  step-parks is a input enabled v p at = elim (lives-on T i s a input v (was a refl)) [
    | inl lives ↦ lives
    | inr over ↦ let none = step-ends v a input enabled over in let one = ap (λ (o : Option Parked). one_if o) at in absurd (omega (arith, none, one))
  ]
    where
      before : (o : Option Parked) → parked s v ≡ o → one_if (parked (local_step T i s a input).side v) ≤ one_if (parked s v) → (row s v).alive ≡ true
      before None none fewer = let one = ap (λ (o : Option Parked). one_if o) at in let zero' = ap (λ (o : Option Parked). one_if o) none in
          absurd (omega (arith, one, zero', fewer))
      before (Some q) some fewer = is v q some

      was : (b : Act) → a ≡ b → (row s v).alive ≡ true
      was (Calls w) same = elim (cases_eq w v) [
        | inl here ↦ (enabled-call T i s v (subst (λ b. is_locally_enabled T i s b ≡ true) (same ∙ ap Calls here) enabled)).1
        | inr other ↦ before (parked s v) refl (step-fewer v a input enabled (λ calls. other (ap caller (sym same ∙ calls))))
      ]
      was (Fetch j) same = before (parked s v) refl (step-fewer v a input enabled (λ calls. let no' : Fetch j ≡ Calls v = sym same ∙ calls in absurd cc))
      was Handle same = before (parked s v) refl (step-fewer v a input enabled (λ calls. let no' : Handle ≡ Calls v = sym same ∙ calls in absurd cc))
      was (Upcall w) same = before (parked s v) refl (step-fewer v a input enabled (λ calls. let no' : Upcall w ≡ Calls v = sym same ∙ calls in absurd cc))
      was (Resume w) same = before (parked s v) refl (step-fewer v a input enabled (λ calls. let no' : Resume w ≡ Calls v = sym same ∙ calls in absurd cc))
      was (Flush j) same = before (parked s v) refl (step-fewer v a input enabled (λ calls. let no' : Flush j ≡ Calls v = sym same ∙ calls in absurd cc))
      was (Kill w) same = before (parked s v) refl (step-fewer v a input enabled (λ calls. let no' : Kill w ≡ Calls v = sym same ∙ calls in absurd cc))

module _ (T : Setup) (valid : IsSetup T) where
  abbrev ParkersLive : World → Type 0
  ParkersLive W = (i v : ℕ) (p : Parked) → parked (side W i) v ≡ Some p → (row (side W i) v).alive ≡ true

  next-parks : (before : List Entry) (e : Entry) → IsSchedule T before → is_enabled T (world_after T before) e.event ≡ true →
      ParkersLive (world_after T before) → ParkersLive (world_after T (before ++ e ∷ []))
  next-parks before e runs enabled is j v p at =
      let W : World = world_after T before in
      let i : ℕ = e.event.kernel in
      let onward : world_after T (before ++ e ∷ []) ≡ after T W e.event = run-append T before (e ∷ []) (start T) in
      elim (cases_eq j i) [
        | inr away ↦
            let same : side (world_after T (before ++ e ∷ [])) j ≡ side W j = ap (λ (X : World). side X j) onward ∙ side-elsewhere T W i e.event.act j away in
            ap (λ (t : Side). (row t v).alive) same ∙ is j v p (sym (ap (λ (t : Side). parked t v) same) ∙ at)
        | inl here ↦
            let same : side (world_after T (before ++ e ∷ [])) j ≡ (stepped T W e.event).side = ap (λ (X : World). side X j) onward
            ∙ (ap (side (after T W e.event)) here ∙ side-after T W e.event) in
            let low = enabled-low T W e.event enabled in
            ap (λ (t : Side). (row t v).alive) same
            ∙ step-parks T valid i low (side W i) ((schedule-sound T valid before runs).sides i low) (is i) e.event.act (input_of W i e.event.act)
            (enabled-parts T W i e.event.act enabled).0 v p (sym (ap (λ (t : Side). parked t v) same) ∙ at)
      ]

  pub parkers-live : (J : List Entry) → IsSchedule T J → (i v : ℕ) (p : Parked) → parked (side (world_after T J) i) v ≡ Some p →
      (row (side (world_after T J) i) v).alive ≡ true
  parkers-live J runs = from [] J refl (λ i v p at. let no' : None ≡ Some p = sym (start-unparked T i v) ∙ at in absurd cc)
    where
      from : (before later : List Entry) → J ≡ before ++ later → ParkersLive (world_after T before) → ParkersLive (world_after T J)
      from before [] parts is = subst (λ K. ParkersLive (world_after T K)) (sym (parts ∙ append-nil before)) is
      from before (e ∷ later) parts is =
          let y = entry-enabled T before (start T) e later (subst (IsSchedule T) parts runs) in
          from (before ++ e ∷ []) later (parts ∙ sym (append_assoc before (e ∷ []) later)) (next-parks before e y.0 y.1 is)
