-- An idle world counts nothing, in whatever tally: nothing is in flight, asked or pending, and no job is open.
use Rattle.std.proofs.Common.{◌≡◌, ℕ, zero, suc, List, [], ◌∷◌, get_or, Option, Some, None, IsNone}
use Rattle.std.proofs.Common.{refl, ap, arith, eq-eqb}
use Rattle.std.specs.Prelude.{◌==◌}
use Rattle.std.specs.List.{sum_by, find}
use Rattle.std.proofs.lemmas.Bool.{cond-true}
use Rattle.std.proofs.lemmas.List.Sums.{sum_by-cons}
use Rattle.sem_key.specs.KeyName.{KeyName, key_eq}
use Rattle.sem_msg.specs.declared.entry.Entry.{Entry}
use Rattle.sem_msg.specs.declared.message.Message.{Message}
use Rattle.sem_msg.specs.declared.state.Pending.{Pending}
use Rattle.sem_msg.specs.Rows.{JobRow, no_vpe}
use Rattle.sem_msg.specs.JobRows.{job_of}
use Rattle.sem_msg.specs.Setup.{Setup, IsSetup}
use Rattle.sem_machine.specs.Sides.{Side}
use Rattle.sem_machine.specs.Machine.{World, side}
use Rattle.sem_machine.specs.Schedules.{IsSchedule, world_after}
use Rattle.sem_machine.specs.Living.{IsIdle}
use Rattle.sem_key.proofs.KeyTests.{key_eq-same}
use Rattle.sem_revoke.specs.Resting.{IsAtRest}
use Rattle.sem_revoke.proofs.IdleRest.{idle-rests}
use Rattle.sem_messages.proofs.Links.{IsBare, caps-bare}
use Rattle.sem_messages.proofs.Tallies.{Tally, of_ask, of_inbox, of_row, of_outbox, of_pendings, of_side}
use Rattle.sem_messages.proofs.Worlds.{of_world, world-none}

-- what weighs nothing at each place weighs nothing in all
none-at : {X : Type 0} (w : X → ℕ) (d : X) (xs : List X) → ((n : ℕ) → w (get_or xs n d) ≡ 0) → sum_by w xs ≡ 0
none-at w d [] none = refl
none-at w d (x ∷ xs) none =
    let here = none zero in
    let rest = none-at w d xs (λ n. none (suc n)) in
    let all = sum_by-cons w x xs in
    omega (arith, here, rest, all)

module _ (T : Setup) (K : Tally) where
  pendings-none : (ps : List Pending) → ((k : KeyName) → find (λ (p : Pending). key_eq p.key k) ps ≡ None) →
      of_pendings T K ps ≡ 0
  pendings-none [] none = refl
  pendings-none (p ∷ ps) none =
      let some : find (λ (q : Pending). key_eq q.key p.key) (p ∷ ps) ≡ Some p =
      cond-true (key_eq p.key p.key) (Some p) (find (λ (q : Pending). key_eq q.key p.key) ps) (key_eq-same p.key) in
      let no' = none p.key in
      absurd cc

  jobs-none : (xs : List JobRow) → ((j : ℕ) → job_of xs j ≡ None) → sum_by K.job xs ≡ 0
  jobs-none [] none = refl
  jobs-none (x ∷ xs) none =
      let some : job_of (x ∷ xs) x.id ≡ Some x =
      cond-true (x.id == x.id) (Some x) (job_of xs x.id) (eq-eqb x.id x.id refl) in
      let no' = none x.id in
      absurd cc

  inbox-none : (o : Option (ℕ × Message)) → IsNone o → of_inbox T K o ≡ 0
  inbox-none None none = refl
  inbox-none (Some m) none = absurd cc

  pub idle-none : IsBare K → IsSetup T → (J : List Entry) → IsSchedule T J → IsIdle (world_after T J) →
      of_world T K (world_after T J) ≡ 0
  idle-none bare valid J runs idle =
      world-none T K W (λ i within. side-none i)
      (none-at (λ ls. sum_by (λ ms. sum_by K.on ms) ls) [] W.links
      (λ i. none-at (λ ms. sum_by K.on ms) [] (get_or W.links i []) (λ j. ap (sum_by K.on) (idle.links i j))))
    where
      W : World
      W = world_after T J

      rest : IsAtRest T J W
      rest = idle-rests T valid J runs idle

      side-none : (i : ℕ) → of_side T K i (side W i) ≡ 0
      side-none i =
          let s : Side = side W i in
          let asks = none-at (of_row T K i) no_vpe s.vpes (λ v. ap (sum_by (of_ask T K i)) (idle.asks i v)) in
          let pendings = pendings-none s.pendings (rest.no_pendings i) in
          let jobs = jobs-none s.jobs (rest.no_jobs i) in
          let inbox = inbox-none s.inbox (idle.inboxes i) in
          let outs = none-at (of_outbox T K) [] s.outs (λ j. ap (of_outbox T K) (idle.outboxes i j)) in
          let caps = caps-bare T K i bare s.caps in
          omega (arith, caps, asks, pendings, jobs, inbox, outs)
