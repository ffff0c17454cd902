-- After every schedule what a dead VPE holds is marked.
use Rattle.std.proofs.Common.{◌≡◌, ℕ, ◌<◌, true, false, List, [], ◌∷◌, ◌++◌, Option, Some, None, is_some, append-nil, append_assoc, refl, sym, ap, ◌∙◌, subst}
use Rattle.std.proofs.Common.{inl, inr, arith}
use Rattle.std.specs.Prelude.{◌==◌}
use Rattle.std.specs.List.{Contains}
use Rattle.std.specs.Option.{option_map_or}
use Rattle.std.proofs.lemmas.Bool.{cases_Bool, cases_eq, cases_lt, and_parts, eqb-true, true≢false}
use Rattle.std.proofs.lemmas.Option.{same_Some, slice_get_within}
use Rattle.sem_key.specs.KeyName.{KeyName, key_eq}
use Rattle.sem_key.specs.Capability.{Capability}
use Rattle.sem_key.proofs.KeyTests.{key_eq-true}
use Rattle.sem_key.proofs.Members.{found, Contains-nil}
use Rattle.sem_msg.specs.declared.call.Call.{Call}
use Rattle.sem_msg.specs.declared.call.Call.TheVariants.{Exit}
use Rattle.sem_msg.specs.declared.entry.Entry.{Entry}
use Rattle.sem_msg.specs.declared.event.Act.{Act}
use Rattle.sem_msg.specs.declared.event.Act.TheVariants.{Call as Calls, Fetch, Handle, Upcall, Resume, Flush, Kill}
use Rattle.sem_msg.specs.declared.message.Message.{Message}
use Rattle.sem_msg.specs.declared.setup.VpeDecl.{VpeDecl}
use Rattle.sem_msg.specs.declared.state.Parked.{Parked}
use Rattle.sem_msg.specs.declared.state.Parked.TheVariants.{ObtainReady}
use Rattle.sem_msg.specs.Rows.{JobRow}
use Rattle.sem_msg.specs.Setup.{Setup, IsSetup}
use Rattle.sem_msg.specs.Lookups.{decl, pe_owner, kernel_of, calls_of}
use Rattle.sem_machine.specs.Sides.{Side, row, parked, is_alive, call_counted, with_inbox}
use Rattle.sem_machine.specs.Sound.{IsSound}
use Rattle.sem_machine.specs.Steps.{Step, unshown}
use Rattle.sem_machine.specs.Calls.{call_row}
use Rattle.sem_machine.specs.Handles.{handled}
use Rattle.sem_machine.specs.Resumes.{can_resume}
use Rattle.sem_machine.specs.Machine.{World, side, start, input_of, next_call, local_step, after, is_locally_enabled}
use Rattle.sem_machine.specs.Schedules.{IsRun, IsSchedule, world_after}
use Rattle.sem_machine.specs.Living.{HoldsCap}
use Rattle.sem_machine.proofs.Folds.{option-keeps}
use Rattle.sem_safety.proofs.Drawers.{side-after}
use Rattle.sem_safety.proofs.GoingOn.{entry-enabled, run-append}
use Rattle.sem_sound.proofs.Calling.{own-among}
use Rattle.sem_sound.proofs.Changing.{counted-sound}
use Rattle.sem_sound.proofs.Scheduling.{schedule-sound}
use Rattle.sem_revoke.proofs.DeadCaps.{Buried, ended-buried}
use Rattle.sem_revoke.proofs.DeadCapsRows.{other-ended, call-buried, upcall-buried, resume-buried, handled-buried}
use Rattle.sem_revoke.proofs.Dying.{dead-ended}
use Rattle.sem_revoke.proofs.ExchangeWorlds.{side-elsewhere}
use Rattle.sem_revoke.proofs.Parkers.{EndsBy, lives-on, parkers-live}
use Rattle.sem_revoke.proofs.Readying.{enabled-low, schedule-past}
use Rattle.sem_revoke.proofs.Revoking.{enabled-parts, start-each, start-bare}
use Rattle.sem_revoke.proofs.Serving.{schedule-served, enabled-call, enabled-resume}

enabled-upcall : (T : Setup) (i : ℕ) (s : Side) (v : ℕ) → is_locally_enabled T i s (Upcall v) ≡ true → is_alive s v ≡ true
unfolding is_locally_enabled
enabled-upcall T i s v enabled = (and_parts (is_alive s v) _ (and_parts (kernel_of T v == i) _ enabled).1).0

module _ (T : Setup) (valid : IsSetup T) (k : KeyName) where
  abbrev v : ℕ
  v = k.vpe

  abbrev h : ℕ
  h = kernel_of T v

  -- what is so of the side of its kernel
  abbrev Over : Side → Type 0
  Over t = (row t v).alive ≡ false → Buried k t

  module _ (before : List Entry) (runs : IsSchedule T before) (i : ℕ) (low : i < T.kernels) (local : h ≡ i) (is : Over (side (world_after T before) i)) where
    abbrev s : Side
    s = side (world_after T before) i

    sound : IsSound T i s
    sound = (schedule-sound T valid before runs).sides i low

    keepers : (x : JobRow) → Contains s.jobs x → x.keep ≡ true → Contains x.waiters x.root.vpe
    keepers = (schedule-served T valid before runs).keepers i

    -- it was dead before
    dead-on : (row s v).alive ≡ false → (a : Act) (input : Option Message) → is_locally_enabled T i s a ≡ true → Buried k (local_step T i s a input).side
    unfolding local_step
    dead-on dead (Calls w) input enabled =
        let may = enabled-call T i s w enabled in
        let other : w ≡ v → ⊥ = λ same. true≢false (sym may.1 ∙ (ap (λ u. is_alive s u) same ∙ dead)) in
        option-keeps (λ (x : Step). Buried k x.side) (call_row T i (call_counted w s) w) (next_call T s w) (unshown s) (λ c there.
        let counted = counted-sound T valid i low None None None None s sound w may.0 (slice_get_within (calls_of T w) (row s w).next_call c there) in
        call-buried k T i w other (call_counted w s) (λ src d held. (own-among T valid i low (call_counted w s) counted w src d held).1) (is dead) c) (is dead)
    dead-on dead (Fetch j) input enabled = is dead
    dead-on dead (Flush j) input enabled = is dead
    dead-on dead Handle input enabled = by s.inbox
      where
        by : (o : Option (ℕ × Message)) → Buried k (option_map_or (λ m. handled T i (with_inbox None s) m.0 m.1) o s)
        by None = is dead
        by (Some m) = handled-buried k T i (with_inbox None s) dead m.0 m.1 (is dead)
    dead-on dead (Upcall w) input enabled =
        upcall-buried k T i w (λ same. true≢false (sym (enabled-upcall T i s w enabled) ∙ (ap (λ u. is_alive s u) same ∙ dead))) s
        (λ u p at same. true≢false (sym (parkers-live T valid before runs i u p at) ∙ (ap (λ n. (row s n).alive) same ∙ dead))) (is dead)
    dead-on dead (Resume w) input enabled = resume-buried k T i w (other (parked s w) refl (enabled-resume T i s w enabled).1) s
        (λ key parent object sel at. (sound.calls w (ObtainReady key parent object sel) at).1.0) (is dead)
      where
        other : (o : Option Parked) → parked s w ≡ o → can_resume o ≡ true → w ≡ v → ⊥
        other None at can same = absurd cc
        other (Some p) at can same = true≢false (sym (parkers-live T valid before runs i w p at) ∙ (ap (λ n. (row s n).alive) same ∙ dead))
    dead-on dead (Kill w) input enabled = other-ended k T i w s (is dead)

    -- it ends now
    exits : (o : Option Call) → next_call T s v ≡ o → o ≡ Some Exit → Buried k (option_map_or (call_row T i (call_counted v s) v) o (unshown s)).side
    unfolding call_row
    exits None at none = absurd cc
    exits (Some c) at exit =
        let counted = counted-sound T valid i low None None None None s sound v local (slice_get_within (calls_of T v) (row s v).next_call c at) in
        subst (λ d. Buried k (call_row T i (call_counted v s) v d).side) (sym (same_Some c Exit exit))
        (ended-buried k T valid i low (call_counted v s) counted local keepers)

    ends-now : (a : Act) (input : Option Message) → EndsBy T s a v → Buried k (local_step T i s a input).side
    unfolding local_step
    ends-now a input (inl kills) = subst (λ b. Buried k (local_step T i s b input).side) (sym kills) (ended-buried k T valid i low s sound local keepers)
    ends-now a input (inr (asks, exit)) = subst (λ b. Buried k (local_step T i s b input).side) (sym asks) (exits (next_call T s v) refl exit)

    next-over : (a : Act) (input : Option Message) → is_locally_enabled T i s a ≡ true → Over (local_step T i s a input).side
    next-over a input enabled dead = elim (cases_Bool (is_alive s v)) [
      | inr was ↦ dead-on was a input enabled
      | inl lived ↦ elim (lives-on T i s a input v lived) [ inl lives ↦ absurd (true≢false (sym lives ∙ dead)) | inr over ↦ ends-now a input over ]
    ]

  start-over : Over (side (start T) h)
  unfolding IsRun
  start-over dead = elim (cases_lt h T.kernels) [
    | inr high ↦
        let none = schedule-past T [] tt h high in
        ((λ c among same. absurd (Contains-nil c (subst (λ (t : Side). Contains t.caps c) none among))), no-job)
    | inl low ↦ ((λ c among same. from (decl T v) refl low), no-job)
  ]
    where
      no-job : (x : JobRow) → Contains (side (start T) h).jobs x → x.keep ≡ true → x.root ≡ k → ⊥
      no-job x among keeps root = Contains-nil x (subst (λ xs. Contains xs x) (start-each T (λ (s : Side). s.jobs ≡ []) refl (λ a. (start-bare T a).0) h) among)

      from : (o : Option VpeDecl) → decl T v ≡ o → h < T.kernels → {X : Type 0} → X
      from None none low = absurd (let at' : h ≡ T.kernels = ap (λ o. option_map_or (λ (d : VpeDecl). pe_owner T d.pe) o T.kernels) none in
          omega (arith, at', low))
      from (Some d) some low =
          let there = found (λ (x : VpeDecl). x.vpe == v) T.vpes d some in
          let at' : h ≡ pe_owner T d.pe = ap (λ o. option_map_or (λ (x : VpeDecl). pe_owner T x.pe) o T.kernels) some in
          let over = dead-ended T valid [] tt d there.0 (ap (λ n. is_alive (side (start T) n) d.vpe) (sym at')
          ∙ (ap (λ n. is_alive (side (start T) h) n) (eqb-true d.vpe v there.1) ∙ dead)) in
          absurd (true≢false (sym over))

  all-over : (J : List Entry) → IsSchedule T J → Over (side (world_after T J) h)
  all-over J runs = from [] J refl start-over
    where
      from : (before later : List Entry) → J ≡ before ++ later → Over (side (world_after T before) h) → Over (side (world_after T J) h)
      from before [] parts is = subst (λ K. Over (side (world_after T K) h)) (sym (parts ∙ append-nil before)) is
      from before (e ∷ later) parts is =
          let W : World = world_after T before in
          let i : ℕ = e.event.kernel in
          let y = entry-enabled T before (start T) e later (subst (IsSchedule T) parts runs) in
          let low = enabled-low T W e.event y.1 in
          let onward : world_after T (before ++ e ∷ []) ≡ after T W e.event = run-append T before (e ∷ []) (start T) in
          from (before ++ e ∷ []) later (parts ∙ sym (append_assoc before (e ∷ []) later)) (elim (cases_eq h i) [
            | inr away ↦ subst Over (sym (ap (λ (X : World). side X h) onward ∙ side-elsewhere T W i e.event.act h away)) is
            | inl here ↦ subst Over (sym (ap (λ (X : World). side X h) onward ∙ (ap (side (after T W e.event)) here ∙ side-after T W e.event)))
                (next-over before y.0 i low here (subst (λ n. Over (side W n)) here is) e.event.act (input_of W i e.event.act)
                (enabled-parts T W i e.event.act y.1).0)
          ])

-- what a dead VPE holds is marked
pub dead-marked : (T : Setup) → IsSetup T → (J : List Entry) → IsSchedule T J → (k : KeyName) (c : Capability) →
    HoldsCap (world_after T J) (kernel_of T k.vpe) k c → is_alive (side (world_after T J) (kernel_of T k.vpe)) k.vpe ≡ false → is_some c.mark ≡ true
dead-marked T valid J runs k c held dead =
    let there = found (λ (x : Capability). key_eq x.key k) (side (world_after T J) (kernel_of T k.vpe)).caps c held in
    (all-over T valid k J runs dead).0 c there.0 (key_eq-true c.key k there.1)
