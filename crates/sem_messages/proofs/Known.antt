-- What is known of each side of a schedule: the stores are sound, no message is a stray, no queue is full, and an Ack
-- has its delegation.
use Rattle.std.proofs.Common.{◌≡◌, ℕ, ◌<◌, ◌+◌, ◌&&◌, ◌||◌, Bool, true, false, not, List, [], ◌∷◌}
use Rattle.std.proofs.Common.{Some, slice_get, length, refl, sym, ap, ◌∙◌, subst, arith, eq-eqb, filter}
use Rattle.std.specs.Prelude.{◌==◌, nat_lt}
use Rattle.std.specs.List.{Contains, sum_by}
use Rattle.std.proofs.lemmas.Bool.{cond-true, and_from, eqb-true}
use Rattle.std.proofs.lemmas.List.Sums.{sum_by-cons}
use Rattle.std.proofs.lemmas.Option.{same_Some}
use Rattle.sem_key.specs.KeyName.{KeyName, key_eq}
use Rattle.sem_msg.specs.declared.entry.Entry.{Entry}
use Rattle.sem_msg.specs.declared.limits.TheConstants.{ASKS}
use Rattle.sem_msg.specs.declared.message.Message.{Message}
use Rattle.sem_msg.specs.declared.message.Message.TheVariants.{ObtainReq, ObtainOk, ObtainNo, DelegateReq}
use Rattle.sem_msg.specs.declared.message.Message.TheVariants.{DelegatePrepared, DelegateNo, Ack, Orphan, RevokeReq}
use Rattle.sem_msg.specs.declared.message.Message.TheVariants.{RevokeDone, Unlink}
use Rattle.sem_msg.specs.declared.state.Ask.{Ask}
use Rattle.sem_msg.specs.declared.state.Ask.TheVariants.{Obtain as ObtainAsk, Delegate as DelegateAsk}
use Rattle.sem_msg.specs.declared.state.Parked.TheVariants.{DelegateReady}
use Rattle.sem_msg.specs.declared.state.Pending.{Pending}
use Rattle.sem_msg.specs.Setup.{Setup, IsSetup}
use Rattle.sem_msg.specs.Lookups.{kernel_of, owner_of}
use Rattle.sem_machine.specs.Sides.{Side, no_side, row, pending}
use Rattle.sem_machine.specs.Machine.{World, side, start}
use Rattle.sem_machine.specs.Schedules.{IsSchedule, world_after}
use Rattle.sem_machine.specs.Handles.{is_key_declared, is_here}
use Rattle.sem_machine.specs.Sound.{IsSound, IsSoundAsk, bit}
use Rattle.sem_key.proofs.KeyTests.{key_eq-true, key_eq-same}
use Rattle.sem_key.proofs.Members.{Contains-head, Contains-filter, Contains-from_filter, found}
use Rattle.sem_machine.proofs.Weighing.{weigh-parts, weigh-filter}
use Rattle.sem_safety.proofs.FewAsks.{room-at-handling}
use Rattle.sem_safety.proofs.HeldOnce.{weigh-at, keys-distinct}
use Rattle.sem_safety.proofs.JobIds.{HasIds, ids, start-ids}
use Rattle.sem_safety.proofs.SideLayers.{run-kept}
use Rattle.sem_sound.proofs.Counts.{bit-most, only-one}
use Rattle.sem_sound.proofs.Named.{declared-kernel}
use Rattle.sem_sound.proofs.Scheduling.{schedule-sound}
use Rattle.sem_revoke.specs.Delegations
use Rattle.sem_revoke.proofs.AddressedWorlds.{inbox-right}
use Rattle.sem_revoke.proofs.DelegationWorlds.{each-pends}
use Rattle.sem_revoke.proofs.Obtained.{kernel-owner}
use Rattle.sem_messages.proofs.Answering.{IsAddressed}
use Rattle.sem_messages.proofs.Handling.{is_request}
use Rattle.sem_messages.proofs.Keeping.{IsKnown}

front-among : {X : Type 0} (xs : List X) (x : X) → slice_get xs 0 ≡ Some x → Contains xs x
front-among [] x none = absurd cc
front-among (y ∷ ys) x some = subst (Contains (y ∷ ys)) (same_Some y x some) (Contains-head y ys)

both-false : (a b : Bool) → (not a || not b) ≡ false → (a ≡ true) × (b ≡ true)
both-false true true none = (refl, refl)
both-false true false none = absurd cc
both-false false b none = absurd cc

module _ (T : Setup) (valid : IsSetup T) (J : List Entry) (runs : IsSchedule T J) (i : ℕ) (within : i < T.kernels) where
  abbrev W : World
  W = world_after T J

  abbrev s : Side
  s = side W i

  sound : IsSound T i s
  sound = (schedule-sound T valid J runs).sides i within

  addressed : (a : Ask) → IsSoundAsk T a → IsAddressed T a
  addressed (ObtainAsk place target) is = sym (declared-kernel T place.pe place.vpe is.0.1)
  addressed (DelegateAsk parent object sel) is = tt

  room : (from : ℕ) (m : Message) → s.inbox ≡ Some (from, m) → is_request m ≡ true → (w : ℕ) →
      length (row s w).asks < ASKS
  room from (ObtainReq place target) full is w =
      room-at-handling T J runs valid i w place.vpe from (ObtainReq place target) full (λ v0. refl)
  room from (DelegateReq parent object vpe sel) full is w =
      room-at-handling T J runs valid i w parent.vpe from (DelegateReq parent object vpe sel) full (λ v0. refl)
  room from (ObtainOk parent key object) full is w = absurd cc
  room from (ObtainNo place code) full is w = absurd cc
  room from (DelegatePrepared parent key) full is w = absurd cc
  room from (DelegateNo parent code) full is w = absurd cc
  room from (Ack key accepted) full is w = absurd cc
  room from (Orphan parent key) full is w = absurd cc
  room from (RevokeReq key job) full is w = absurd cc
  room from (RevokeDone job) full is w = absurd cc
  room from (Unlink parent key) full is w = absurd cc

  pends : (from : ℕ) (key : KeyName) (accepted : Bool) → s.inbox ≡ Some (from, Ack key accepted) →
      (p : Pending) × (pending s key ≡ Some p)
  pends from key accepted full =
      let right = both-false (is_key_declared T key) (is_here T i key.vpe)
      (inbox-right T valid J runs i from (Ack key accepted) full) in
      let home : owner_of T key ≡ i = sym (kernel-owner T key right.0) ∙ eqb-true (kernel_of T key.vpe) i right.1 in
      let unit : Delegations.of_key key key ≡ 1 = cond-true (key_eq key key) 1 0 (key_eq-same key) in
      let inbox : Delegations.of_inbox key s.inbox ≡ Delegations.of_key key key = ap (Delegations.of_inbox key) full in
      let part = weigh-at (Delegations.of_side key) no_side refl W.sides i in
      let p = each-pends T valid J runs key (omega (arith, unit, inbox, part)) in
      (p.0, ap (λ n. pending (side W n) key) (sym home) ∙ p.1)

  -- no key has two pending delegations
  alone : (k : KeyName) (q : Pending) → pending s k ≡ Some q → (w : Pending → ℕ) →
      sum_by w (filter (λ (x : Pending). not (key_eq x.key k)) s.pendings) + w q ≡ sum_by w s.pendings
  alone k q there w =
      let parts = weigh-parts w (λ (x : Pending). key_eq x.key k) s.pendings in
      let one : sum_by w (filter (λ (x : Pending). key_eq x.key k) s.pendings) ≡ w q + 0 =
      ap (sum_by w) single ∙ sum_by-cons w q [] in
      omega (arith, parts, one)
    where
      at : Contains s.pendings q × (key_eq q.key k ≡ true)
      at = found (λ (x : Pending). key_eq x.key k) s.pendings q there

      counts : (x : Pending) → Contains (filter (λ (y : Pending). key_eq y.key k) s.pendings) x →
          bit ((x.key.vpe == k.vpe) && (x.key.number == k.number)) ≡ 1
      counts x among =
          let key : x.key ≡ k =
          key_eq-true x.key k (Contains-from_filter (λ (y : Pending). key_eq y.key k) s.pendings x among).1 in
          ap bit (and_from (x.key.vpe == k.vpe) (x.key.number == k.number)
          (eq-eqb x.key.vpe k.vpe (ap (λ (y : KeyName). y.vpe) key))
          (eq-eqb x.key.number k.number (ap (λ (y : KeyName). y.number) key)))

      single : filter (λ (x : Pending). key_eq x.key k) s.pendings ≡ q ∷ []
      single =
          let u : Pending → ℕ = λ x. bit ((x.key.vpe == k.vpe) && (x.key.number == k.number)) in
          let some = weigh-filter u (λ (x : Pending). key_eq x.key k) s.pendings in
          let used = sound.numbers k.vpe k.number in
          let most = bit-most (nat_lt k.number (row s k.vpe).next_number) in
          only-one u (filter (λ (x : Pending). key_eq x.key k) s.pendings) (omega (arith, some, used, most)) counts q
          (Contains-filter (λ (x : Pending). key_eq x.key k) s.pendings q at.0 at.1)

  pub side-known : IsKnown T i s
  side-known = record {
    ids = run-kept HasIds ids T J (start T) (start-ids T) i;
    distinct = keys-distinct T valid J runs i;
    home = λ c among. let own' = (sound.caps c among).own in
        (own'.1, declared-kernel T c.key.pe c.key.vpe own'.0.1 ∙ own'.1);
    asks = λ v a front. addressed a ((sound.rows v).asks a (front-among (row s v).asks a front));
    offers = λ v parent key at. let call = (sound.calls v (DelegateReady parent key) at).1 in
        λ same. call.2.1 (sym same ∙ call.1.1);
    expected = λ from m full. record {
      right = inbox-right T valid J runs i from m full;
      room = room from m full;
      pends = λ key accepted is. pends from key accepted (full ∙ ap (λ n. Some (from, n)) is);
      alone = λ key p there w. alone key p there w;
    };
  }
