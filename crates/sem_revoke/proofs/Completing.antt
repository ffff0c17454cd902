-- A quiet world in which no call is parked is the end of a complete schedule.
use Rattle.std.proofs.Common.{◌≡◌, ℕ, ◌+◌, ◌<◌, ◌≤◌, true, ◌&&◌, List, length, nat_lt, is_some, is_none, Option, Some, None, refl, sym, ap, ◌∙◌, subst, inl}
use Rattle.std.proofs.Common.{inr, arith, eq-eqb}
use Rattle.std.specs.Prelude.{◌==◌}
use Rattle.std.specs.List.{Contains}
use Rattle.std.proofs.lemmas.Bool.{cases_Bool, and_from, true≢false, lt-ltb, ltb-true, ltb-false}
use Rattle.std.proofs.lemmas.Option.{slice_get-get_or}
use Rattle.sem_key.proofs.Members.{Contains-nil}
use Rattle.sem_msg.specs.declared.call.Call.{Call}
use Rattle.sem_msg.specs.declared.call.Call.TheVariants.{Exit}
use Rattle.sem_msg.specs.declared.event.Act.TheVariants.{Call as Calls}
use Rattle.sem_msg.specs.declared.entry.Entry.{Entry}
use Rattle.sem_msg.specs.declared.state.Parked.{Parked}
use Rattle.sem_msg.specs.Setup.{Setup, IsSetup}
use Rattle.sem_msg.specs.Lookups.{kernel_of, calls_of}
use Rattle.sem_machine.specs.Sides.{Side, row, parked, is_alive}
use Rattle.sem_machine.specs.Machine.{World, side, next_call, is_enabled, is_locally_enabled, event}
use Rattle.sem_machine.specs.Schedules.{IsSchedule, world_after}
use Rattle.sem_machine.specs.Living.{IsQuiet, IsComplete, reply_count}
use Rattle.sem_machine.proofs.EnabledList.{enabled-exact}
use Rattle.sem_sound.proofs.Scheduling.{schedule-sound}
use Rattle.sem_revoke.proofs.IdleJobs.{unparked-so}
use Rattle.sem_revoke.proofs.Quieting.{quiet-idle}
use Rattle.sem_revoke.proofs.Readying.{schedule-past}
use Rattle.sem_revoke.proofs.Replying.{one, replies-told}

-- a VPE that is alive, with a call left and none parked, can call
calls-enabled : (T : Setup) (W : World) (v : ℕ) → kernel_of T v < T.kernels → is_alive (side W (kernel_of T v)) v ≡ true →
    parked (side W (kernel_of T v)) v ≡ None → is_some (next_call T (side W (kernel_of T v)) v) ≡ true → is_enabled T W (event (kernel_of T v) (Calls v)) ≡ true
unfolding is_enabled is_locally_enabled
calls-enabled T W v low alive none some =
    let k : ℕ = kernel_of T v in
    let s : Side = side W k in
    let free : is_none (parked s v) ≡ true = ap is_none none in
    let here : ((k == k) && (is_alive s v && (is_none (parked s v) && is_some (next_call T s v)))) ≡ true =
    and_from (k == k) _ (eq-eqb k k refl) (and_from (is_alive s v) _ alive (and_from (is_none (parked s v)) (is_some (next_call T s v)) free some)) in
    and_from (nat_lt k T.kernels) _ (lt-ltb k T.kernels low)
    (and_from ((k == k) && (is_alive s v && (is_none (parked s v) && is_some (next_call T s v)))) true here refl)

module _ (T : Setup) (valid : IsSetup T) (J : List Entry) (runs : IsSchedule T J) where
  abbrev W : World
  W = world_after T J

  abbrev home : ℕ → Side
  home v = side W (kernel_of T v)

  -- a VPE that is alive is of a kernel of the setup
  alive-low : (v : ℕ) → is_alive (home v) v ≡ true → kernel_of T v < T.kernels
  alive-low v alive = elim (cases_Bool (nat_lt (kernel_of T v) T.kernels)) [
    | inl low ↦ ltb-true (kernel_of T v) T.kernels low
    | inr high ↦
        let past = schedule-past T J runs (kernel_of T v) (ltb-false (kernel_of T v) T.kernels high) in
        absurd (true≢false (sym alive ∙ ap (λ (s : Side). is_alive s v) past))
  ]

  -- the replies of a VPE that is alive, by whether a call of it is parked
  pub told-free : (v : ℕ) → is_alive (home v) v ≡ true → parked (home v) v ≡ None → reply_count J v ≡ (row (home v) v).next_call
  told-free v alive none = let told = replies-told T valid J runs v alive in let zero' = ap one none in omega (arith, told, zero')

  pub told-parked : (v : ℕ) (p : Parked) → is_alive (home v) v ≡ true → parked (home v) v ≡ Some p → reply_count J v + 1 ≡ (row (home v) v).next_call
  told-parked v p alive some = let told = replies-told T valid J runs v alive in let one' = ap one some in omega (arith, told, one')

  module _ (quiet : IsQuiet T W) where
    -- no call of it is left
    none-left : (v : ℕ) → is_alive (home v) v ≡ true → parked (home v) v ≡ None → (row (home v) v).next_call ≡ length (calls_of T v)
    none-left v alive none = from (next_call T (home v) v) refl
      where
        low : kernel_of T v < T.kernels
        low = alive-low v alive

        most : (row (home v) v).next_call ≤ length (calls_of T v)
        most = (((schedule-sound T valid J runs).sides (kernel_of T v) low).rows v).next_call

        enabled-so : is_some (next_call T (home v) v) ≡ true → is_enabled T W (event (kernel_of T v) (Calls v)) ≡ true
        enabled-so some = calls-enabled T W v low alive none some

        from : (o : Option Call) → next_call T (home v) v ≡ o → (row (home v) v).next_call ≡ length (calls_of T v)
        from (Some c) there =
            let listed = (enabled-exact T W (event (kernel_of T v) (Calls v))).1 (enabled-so (ap is_some there)) in
            absurd (Contains-nil (event (kernel_of T v) (Calls v)) (subst (λ es. Contains es (event (kernel_of T v) (Calls v))) quiet listed))
        from None gone = elim (cases_Bool (nat_lt (row (home v) v).next_call (length (calls_of T v)))) [
          | inl within ↦
              let less : (row (home v) v).next_call < length (calls_of T v) = ltb-true (row (home v) v).next_call (length (calls_of T v)) within in
              let some = slice_get-get_or (calls_of T v) (row (home v) v).next_call Exit less in
              absurd (cc (gone, some))
          | inr past ↦
              let more = ltb-false (row (home v) v).next_call (length (calls_of T v)) past in
              omega (arith, most, more)
        ]

    pub complete-so : ((i v : ℕ) → parked (side W i) v ≡ None) → IsComplete T J
    complete-so unparked = record {
      schedule = runs;
      quiet = quiet;
      all_answered = λ v alive.
          let none = unparked (kernel_of T v) v in
          told-free v alive none ∙ none-left v alive none;
    }

-- a schedule after which nothing is enabled is complete
pub quiet-complete : (T : Setup) → IsSetup T → (J : List Entry) → IsSchedule T J → IsQuiet T (world_after T J) → IsComplete T J
quiet-complete T valid J runs quiet = complete-so T valid J runs quiet (unparked-so T valid J runs (quiet-idle T valid J runs quiet))
