-- After every schedule links carry messages from a kernel of the setup to another one.
use Rattle.std.proofs.Common.{◌≡◌, ℕ, ◌+◌, ◌<◌, Bool, true, false, not, ◌&&◌, List, [], ◌∷◌, ◌++◌, Option, Some, None, get_or, append-nil, append_assoc, refl}
use Rattle.std.proofs.Common.{sym, ap, ◌∙◌, subst, inl, inr, arith}
use Rattle.std.specs.Prelude.{◌==◌, nat_lt}
use Rattle.std.specs.List.{Contains}
use Rattle.std.proofs.lemmas.Bool.{and_parts, and_from, lt-ltb, ne_eqb}
use Rattle.sem_msg.specs.declared.entry.Entry.{Entry}
use Rattle.sem_msg.specs.declared.message.Message.{Message}
use Rattle.sem_msg.specs.Rows.{JobRow}
use Rattle.sem_msg.specs.Setup.{Setup, IsSetup}
use Rattle.sem_machine.specs.Sides.{Side}
use Rattle.sem_machine.specs.Sound.{IsSound}
use Rattle.sem_machine.specs.Machine.{World, side, link, start, after}
use Rattle.sem_machine.specs.Schedules.{IsSchedule, world_after}
use Rattle.sem_machine.proofs.Weighing.{weigh-none, weigh-among}
use Rattle.sem_safety.proofs.CarryingWorlds.{stepped}
use Rattle.sem_safety.proofs.Drawers.{side-after}
use Rattle.sem_safety.proofs.GoingOn.{entry-enabled, run-append, run-prefix}
use Rattle.sem_sound.proofs.Scheduling.{schedule-sound}
use Rattle.sem_revoke.specs.Scales.{Scale, bit, of_messages, of_inbox, of_side, of_world}
use Rattle.sem_revoke.proofs.Closing.{from-none}
use Rattle.sem_revoke.proofs.Moving.{moved-sum}
use Rattle.sem_revoke.proofs.Ordering.{link-part}
use Rattle.sem_revoke.proofs.Readying.{enabled-low}
use Rattle.sem_revoke.proofs.Revoking.{world-none}

module _ (T : Setup) where
  -- a message that is not from a kernel to another one
  abbrev crooked : ℕ → ℕ → Bool
  crooked from to = not ((nat_lt from T.kernels && nat_lt to T.kernels) && not (to == from))

  abbrev straying : Scale
  straying = record { message = λ from to m. bit (crooked from to); job = λ i x. 0 }

  straight : (a b : ℕ) → a < T.kernels → b < T.kernels → (b ≡ a → ⊥) → bit (crooked a b) ≡ 0
  straight a b low high apart =
      ap (λ t. bit (not t))
      (and_from (nat_lt a T.kernels && nat_lt b T.kernels) (not (b == a)) (and_from (nat_lt a T.kernels) (nat_lt b T.kernels) (lt-ltb a T.kernels low)
      (lt-ltb b T.kernels high)) (ap not (ne_eqb b a apart)))

  -- what a sound side has sent and fetched is from a kernel to another one
  sound-none : (i : ℕ) → i < T.kernels → (s : Side) → IsSound T i s → of_side straying i s ≡ 0
  sound-none i low s sound =
      let jobs = weigh-none (λ (x : JobRow). 0) s.jobs (λ x among. refl) in
      let outs = from-none (of_messages straying i) [] 0 s.outs (λ j. weigh-none (λ (m : Message). bit (crooked i (0 + j))) (get_or s.outs j [])
      (λ m among. box j m among)) in
      let inbox' = inbox s.inbox refl in
      omega (arith, jobs, outs, inbox')
    where
      box : (j : ℕ) (m : Message) → Contains (get_or s.outs j []) m → bit (crooked i (0 + j)) ≡ 0
      box j m among = let is = sound.outs j m among in subst (λ n. bit (crooked i n) ≡ 0) (let e : j ≡ 0 + j = omega arith in e) (straight i j low is.1 is.2)

      inbox : (o : Option (ℕ × Message)) → s.inbox ≡ o → of_inbox straying i o ≡ 0
      inbox None none = refl
      inbox (Some (from, m)) full = let is = sound.inbox from m full in straight from i is.1 low (λ same. is.2 (sym same))

  module _ (valid : IsSetup T) where
    next-straight : (before : List Entry) (e : Entry) (later J : List Entry) → IsSchedule T J → J ≡ before ++ e ∷ later →
        of_world straying (world_after T before) ≡ 0 → of_world straying (world_after T (before ++ e ∷ [])) ≡ 0
    next-straight before e later J runs parts none =
        let W : World = world_after T before in
        let i : ℕ = e.event.kernel in
        let entry = entry-enabled T before (start T) e later (subst (IsSchedule T) parts runs) in
        let low = enabled-low T W e.event entry.1 in
        let is : world_after T (before ++ e ∷ []) ≡ after T W e.event = run-append T before (e ∷ []) (start T) in
        let prefix : IsSchedule T (before ++ e ∷ []) = run-prefix T before later e (start T) (subst (IsSchedule T) parts runs) in
        let sound : IsSound T i (stepped T W e.event).side = subst (IsSound T i) (ap (λ (X : World). side X i) is
        ∙ side-after T W e.event) ((schedule-sound T valid (before ++ e ∷ []) prefix).sides i low) in
        let zero' = sound-none i low (stepped T W e.event).side sound in
        let same = ap (of_world straying) is in
        elim (moved-sum straying T W i e.event.act entry.1) [
          | inr (moves, stays) ↦ omega (arith, stays, none, same)
          | inl (still, acted) ↦ omega (arith, acted, none, zero', same)
        ]

    all-straight : (J : List Entry) → IsSchedule T J → of_world straying (world_after T J) ≡ 0
    all-straight J runs = from [] J refl (world-none T straying)
      where
        from : (before later : List Entry) → J ≡ before ++ later → of_world straying (world_after T before) ≡ 0 → of_world straying (world_after T J) ≡ 0
        from before [] parts is = subst (λ K. of_world straying (world_after T K) ≡ 0) (sym (parts ∙ append-nil before)) is
        from before (e ∷ later) parts is = from (before ++ e ∷ []) later (parts
            ∙ sym (append_assoc before (e ∷ []) later)) (next-straight before e later J runs parts is)

    -- a link that has a message is from a kernel to another one
    pub link-straight : (J : List Entry) → IsSchedule T J → (a b : ℕ) (m : Message) → Contains (link (world_after T J) a b) m →
        (nat_lt a T.kernels ≡ true) × ((nat_lt b T.kernels ≡ true) × (not (b == a) ≡ true))
    link-straight J runs a b m among =
        let weighs = weigh-among (λ (q : Message). bit (crooked a b)) (link (world_after T J) a b) m among in
        let part = link-part straying (world_after T J) a b in
        let none = all-straight J runs in
        let pass = passes ((nat_lt a T.kernels && nat_lt b T.kernels) && not (b == a)) (omega (arith, weighs, part, none)) in
        let outer = and_parts (nat_lt a T.kernels && nat_lt b T.kernels) (not (b == a)) pass in
        let inner = and_parts (nat_lt a T.kernels) (nat_lt b T.kernels) outer.0 in
        (inner.0, (inner.1, outer.1))
      where
        passes : (t : Bool) → bit (not t) ≡ 0 → t ≡ true
        passes true none = refl
        passes false none = absurd (omega (arith, none))
