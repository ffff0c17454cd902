-- After every schedule each message on its way is addressed as it should be.
use Rattle.std.proofs.Common.{◌≡◌, ◌⊎◌, ℕ, ◌+◌, ◌<◌, Bool, true, false, List, [], ◌∷◌, ◌++◌, Option, Some, None, append-nil, append_assoc, refl, sym, ap, ◌∙◌}
use Rattle.std.proofs.Common.{subst, inl, inr, arith}
use Rattle.std.specs.Prelude.{◌==◌}
use Rattle.std.specs.List.{Contains, sum_by}
use Rattle.std.specs.Option.{option_map_or}
use Rattle.std.proofs.lemmas.Bool.{and_parts, eqb-true}
use Rattle.sem_msg.specs.declared.entry.Entry.{Entry}
use Rattle.sem_msg.specs.declared.event.Act.{Act}
use Rattle.sem_msg.specs.declared.event.Act.TheVariants.{Call as Calls, Fetch, Handle, Upcall, Resume, Flush, Kill}
use Rattle.sem_msg.specs.declared.message.Message.{Message}
use Rattle.sem_msg.specs.Rows.{JobRow}
use Rattle.sem_msg.specs.Setup.{Setup, IsSetup}
use Rattle.sem_msg.specs.Lookups.{kernel_of, calls_of}
use Rattle.std.proofs.lemmas.Option.{slice_get_within}
use Rattle.sem_machine.specs.Sides.{Side, row, call_counted, with_inbox}
use Rattle.sem_machine.specs.Steps.{Step, unshown}
use Rattle.sem_machine.specs.Calls.{call_row}
use Rattle.sem_machine.specs.Handles.{handled}
use Rattle.sem_machine.specs.Machine.{World, side, start, next_call, local_step, after, event, is_enabled, is_locally_enabled}
use Rattle.sem_machine.specs.Schedules.{IsSchedule, world_after}
use Rattle.sem_machine.specs.Living.{way}
use Rattle.sem_machine.proofs.Folds.{option-keeps}
use Rattle.sem_machine.proofs.Weighing.{weigh-none}
use Rattle.sem_safety.proofs.CarryingWorlds.{stepped}
use Rattle.sem_safety.proofs.GoingOn.{entry-enabled, run-append}
use Rattle.sem_sound.proofs.Changing.{counted-sound, taken-sound}
use Rattle.sem_sound.proofs.Scheduling.{schedule-sound}
use Rattle.sem_revoke.specs.Scales.{Scale, bit, sum_from, of_messages, of_inbox, of_world}
use Rattle.sem_revoke.proofs.Addressed.{is_misaddressed, misaddressing, Right, call-right, upcall-right, resume-right, handled-right, ended-right}
use Rattle.sem_revoke.proofs.Linking.{way-weighs}
use Rattle.sem_revoke.proofs.Moving.{Moves, moved-sum}
use Rattle.sem_revoke.proofs.Ordering.{inbox-part}
use Rattle.sem_revoke.proofs.Readying.{enabled-low}
use Rattle.sem_revoke.proofs.Revoking.{enabled-parts, world-none}

-- the VPE of an event is one of its kernel
pub vpe-local : (T : Setup) (i : ℕ) (s : Side) (a : Act) → is_locally_enabled T i s a ≡ true → (v : ℕ) →
    (a ≡ Calls v) ⊎ ((a ≡ Upcall v) ⊎ ((a ≡ Resume v) ⊎ (a ≡ Kill v))) → kernel_of T v ≡ i
unfolding is_locally_enabled
vpe-local T i s a enabled v (inl act) = eqb-true (kernel_of T v) i (and_parts (kernel_of T v == i) _ (ap (is_locally_enabled T i s) (sym act) ∙ enabled)).0
vpe-local T i s a enabled v (inr (inl act)) = eqb-true (kernel_of T v) i (and_parts (kernel_of T v == i) _ (ap (is_locally_enabled T i s) (sym act)
    ∙ enabled)).0
vpe-local T i s a enabled v (inr (inr (inl act))) = eqb-true (kernel_of T v) i (and_parts (kernel_of T v == i) _ (ap (is_locally_enabled T i s) (sym act)
    ∙ enabled)).0
vpe-local T i s a enabled v (inr (inr (inr act))) = eqb-true (kernel_of T v) i (and_parts (kernel_of T v == i) _ (ap (is_locally_enabled T i s) (sym act)
    ∙ enabled)).0

module _ (T : Setup) (valid : IsSetup T) where
  abbrev S : Scale
  S = misaddressing T

  no-jobs : (xs : List JobRow) → sum_by (λ (x : JobRow). 0) xs ≡ 0
  no-jobs xs = weigh-none (λ (x : JobRow). 0) xs (λ x among. refl)

  module _ (before : List Entry) (runs : IsSchedule T before) (none : of_world S (world_after T before) ≡ 0) (i : ℕ) (low : i < T.kernels) where
    abbrev W : World
    W = world_after T before

    abbrev s : Side
    s = side W i

    abbrev n : ℕ
    n = of_inbox S i s.inbox + sum_from (of_messages S i) 0 s.outs

    stepped-right : (a : Act) → is_enabled T W (event i a) ≡ true → (Moves a → ⊥) → Right T valid i low n (stepped T W (event i a)).side
    unfolding local_step
    stepped-right (Calls v) enabled still =
        let sound = (schedule-sound T valid before runs).sides i low in
        let local = vpe-local T i s (Calls v) (enabled-parts T W i (Calls v) enabled).0 v (inl refl) in
        option-keeps (λ (x : Step). Right T valid i low n x.side) (call_row T i (call_counted v s) v) (next_call T s v) (unshown s)
        (λ c there. call-right T valid i low n v local (call_counted v s)
        (counted-sound T valid i low None None None None s sound v local (slice_get_within (calls_of T v) (row s v).next_call c there)) c (omega arith))
        (omega arith)
    stepped-right (Upcall v) enabled still =
        let sound = (schedule-sound T valid before runs).sides i low in
        let local = vpe-local T i s (Upcall v) (enabled-parts T W i (Upcall v) enabled).0 v (inr (inl refl)) in
        upcall-right T valid i low n v local s sound (taken-sound T valid i low None None None None s sound v local) (omega arith)
    stepped-right (Resume v) enabled still = resume-right T valid i low n v s ((schedule-sound T valid before runs).sides i low) (omega arith)
    stepped-right (Kill v) enabled still = ended-right T valid i low n v s ((schedule-sound T valid before runs).sides i low) (omega arith)
    stepped-right (Fetch j) enabled still = absurd (still tt)
    stepped-right (Flush j) enabled still = absurd (still tt)
    stepped-right Handle enabled still = by s.inbox refl
      where
        by : (o : Option (ℕ × Message)) → s.inbox ≡ o → Right T valid i low n (option_map_or (λ m. handled T i (with_inbox None s) m.0 m.1) o s)
        by None is = omega arith
        by (Some (from, m)) is = handled-right T valid i low n (with_inbox None s) from m (right m (let part = inbox-part S W i in
            let weight : of_inbox S i s.inbox ≡ bit (is_misaddressed T i m) = ap (of_inbox S i) is in omega (arith, part, weight, none))) (omega arith)
          where
            right : (q : Message) → bit (is_misaddressed T i q) ≡ 0 → is_misaddressed T i q ≡ false
            right q zero' = test (is_misaddressed T i q) zero'
              where
                test : (b : Bool) → bit b ≡ 0 → b ≡ false
                test true one = absurd (omega (arith, one))
                test false one = refl

    next-none : (a : Act) → is_enabled T W (event i a) ≡ true → of_world S (after T W (event i a)) ≡ 0
    next-none a enabled = elim (moved-sum S T W i a enabled) [
      | inr (moves, same) ↦ same ∙ none
      | inl (still, acted) ↦
          let right = stepped-right a enabled still in
          let one = no-jobs s.jobs in
          let two = no-jobs (stepped T W (event i a)).side.jobs in
          omega (arith, acted, right, one, two, none)
    ]

  pub all-right : (K : List Entry) → IsSchedule T K → of_world S (world_after T K) ≡ 0
  all-right J runs = from [] J refl (world-none T S)
    where
      from : (before later : List Entry) → J ≡ before ++ later → of_world S (world_after T before) ≡ 0 → of_world S (world_after T J) ≡ 0
      from before [] parts is = subst (λ K. of_world S (world_after T K) ≡ 0) (sym (parts ∙ append-nil before)) is
      from before (e ∷ later) parts is =
          let x = entry-enabled T before (start T) e later (subst (IsSchedule T) parts runs) in
          let low = enabled-low T (world_after T before) e.event x.1 in
          from (before ++ e ∷ []) later (parts ∙ sym (append_assoc before (e ∷ []) later))
          (ap (of_world S) (run-append T before (e ∷ []) (start T)) ∙ next-none before x.0 is e.event.kernel low e.event.act x.1)

  -- each message on a way is addressed as it should be
  pub way-right : (J : List Entry) → IsSchedule T J → (a b : ℕ) (m : Message) → Contains (way (world_after T J) a b) m → is_misaddressed T b m ≡ false
  way-right J runs a b m among = from (is_misaddressed T b m) (let weighs = way-weighs T valid J runs S a b m among in let none = all-right J runs in
      omega (arith, weighs, none))
    where
      from : (t : Bool) → bit t ≡ 0 → t ≡ false
      from true one = absurd (omega (arith, one))
      from false one = refl

  -- so is what was fetched
  pub inbox-right : (J : List Entry) → IsSchedule T J → (i from : ℕ) (m : Message) → (side (world_after T J) i).inbox ≡ Some (from, m) →
      is_misaddressed T i m ≡ false
  inbox-right J runs i from m full =
      let part = inbox-part S (world_after T J) i in
      let weight : of_inbox S i (side (world_after T J) i).inbox ≡ bit (is_misaddressed T i m) = ap (of_inbox S i) full in
      let none = all-right J runs in
      test (is_misaddressed T i m) (omega (arith, part, weight, none))
    where
      test : (t : Bool) → bit t ≡ 0 → t ≡ false
      test true one = absurd (omega (arith, one))
      test false one = refl
