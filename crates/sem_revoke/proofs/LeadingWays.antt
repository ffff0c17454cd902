-- What is on its way to be held, or is held, and what says that it is gone: what an event that does not touch the link leaves of that.
use Rattle.std.proofs.Common.{◌≡◌, ◌⊎◌, ℕ, ◌++◌, ◌&&◌, true, List, [], ◌∷◌, Option, Some, None, is_none, refl, sym, ap, ◌∙◌, subst, inl, inr, arith}
use Rattle.std.specs.Prelude.{◌==◌}
use Rattle.std.specs.List.{Contains}
use Rattle.std.proofs.lemmas.Bool.{cases_eq, cond_both, cond-true, and_from}
use Rattle.std.proofs.lemmas.List.Elements.{Contains-append_right}
use Rattle.sem_key.specs.declared.object.Object.{Object}
use Rattle.sem_key.specs.KeyName.{KeyName, key_eq}
use Rattle.sem_key.specs.Lists.{in_turn}
use Rattle.sem_key.specs.Capability.{Capability}
use Rattle.sem_key.proofs.KeyTests.{key_eq-true}
use Rattle.sem_msg.specs.declared.code.Code.TheVariants.{Dead}
use Rattle.sem_msg.specs.Codes.{code_number}
use Rattle.sem_msg.specs.declared.entry.Entry.{Entry}
use Rattle.sem_msg.specs.declared.event.Act.TheVariants.{Resume, Kill}
use Rattle.sem_msg.specs.declared.message.Message.{Message}
use Rattle.sem_msg.specs.declared.message.Message.TheVariants.{ObtainOk, Ack, Orphan, Unlink, RevokeReq}
use Rattle.sem_msg.specs.declared.state.Ask.{Ask}
use Rattle.sem_msg.specs.declared.state.Ask.TheVariants.{Obtain as ObtainAsk, Delegate as DelegateAsk}
use Rattle.sem_msg.specs.declared.state.Parked.{Parked}
use Rattle.sem_msg.specs.declared.state.Parked.TheVariants.{ObtainWait, ObtainReady, ObtainCancelled, DelegateWait, DelegateReady, RevokeWait, Ready}
use Rattle.sem_msg.specs.ParkedStates.{is_ready_with}
use Rattle.sem_msg.specs.Setup.{Setup, IsSetup}
use Rattle.sem_msg.specs.Lookups.{kernel_of, owner_of}
use Rattle.sem_machine.specs.Sides.{Side, row, cap, parked, outbox, unparked, buried, send, parked_as, freed, with_inbox, pending_removed}
use Rattle.sem_machine.specs.Asks.{asker, is_unawaited, promise_freed, call_refused, refusal_sent, ask_refused}
use Rattle.sem_machine.specs.Ends.{ask_ended, call_ended, revoked_if_left, keys_of_vpe, ended}
use Rattle.sem_machine.specs.Machine.{World, side, link, local_step, input_of}
use Rattle.sem_machine.specs.Schedules.{IsSchedule, world_after}
use Rattle.sem_machine.specs.Journals.{grants}
use Rattle.sem_machine.specs.Living.{way, fetched_from, InFlight, HoldsCap}
use Rattle.sem_machine.proofs.Folds.{in_turn-keeps, in_turn-keeps_each}
use Rattle.sem_safety.proofs.CarryingWorlds.{stepped}
use Rattle.sem_safety.proofs.AskWeights
use Rattle.sem_safety.proofs.OneLife.{all-grown}
use Rattle.sem_revoke.proofs.AckedParents.{acked-parent}
use Rattle.sem_revoke.proofs.Asking.{Waits, waits-on, all-awaited}
use Rattle.sem_revoke.proofs.Events.{one-parent}
use Rattle.sem_revoke.proofs.Granted.{ack-handled}
use Rattle.sem_revoke.proofs.Lasting.{all-caused, at, side-here, side-other}
use Rattle.sem_revoke.proofs.Linking.{asked-below}
use Rattle.sem_revoke.proofs.Obtained.{flight-about, ok-handled}
use Rattle.sem_revoke.proofs.Parkers.{parkers-live}
use Rattle.sem_revoke.proofs.PendingOwed
use Rattle.sem_revoke.proofs.PendingOwed.{in-way}
use Rattle.sem_revoke.proofs.Pendings.{outbox-sent, waits-steady}
use Rattle.sem_revoke.proofs.ReadyCalls.{single, side-le, here-one, waiter-weighs, ask-weighs, quiet-event, calls-unparked, resumed-held}
use Rattle.sem_revoke.proofs.Steady.{rest-steady}
use Rattle.sem_revoke.proofs.Waits.{parked-other}
use Rattle.sem_revoke.proofs.Ways.{goes}

-- The key, made below p, is held, or it is on its way, to a VPE that waits for it.
pub data IsThere (T : Setup) (W : World) (p k : KeyName) : Type 0 where
  by_cap : (j : ℕ) (c : Capability) → HoldsCap W j k c → IsThere T W p k
  by_ok : (o : Object) → InFlight W (ObtainOk p k o) → Waits T W k.vpe k.number → IsThere T W p k
  by_ack : InFlight W (Ack k true) → IsThere T W p k
  by_ready : (j v sel : ℕ) (o : Object) → parked (side W j) v ≡ Some (ObtainReady k p o sel) → IsThere T W p k

-- The owner of p will be told that k is gone.
abbrev pub IsNoticed : Setup → World → KeyName → KeyName → Type 0
IsNoticed T W p k = (a : ℕ) × (Contains (way W a (owner_of T p)) (Orphan p k) ⊎ Contains (way W a (owner_of T p)) (Unlink p k))

abbrev pub IsLed : Setup → World → KeyName → KeyName → Type 0
IsLed T W p k = IsThere T W p k ⊎ IsNoticed T W p k

-- A call that was ready to install a key leaves an orphan when its VPE ends, which asks itself nothing.
module _ (T : Setup) (i w sel : ℕ) (p k : KeyName) (o : Object) where
  abbrev Stays : Side → Type 0
  Stays t = parked t w ≡ Some (ObtainReady k p o sel)

  abbrev Orphaned : Side → Type 0
  Orphaned t = Contains (outbox t (owner_of T p)) (Orphan p k)

  -- the call of another VPE is answered
  freed-stays : (t : Side) → Stays t → (x : Option Parked) (n : ℕ) → (n ≡ w → ⊥) → Stays (parked_as n (Ready (code_number Dead)) (promise_freed x n t))
  freed-stays t here None n off = parked-other t n (Some (Ready (code_number Dead))) w (λ same. off (sym same)) ∙ here
  freed-stays t here (Some (ObtainWait number slot)) n off = parked-other (freed n slot t) n (Some (Ready (code_number Dead))) w (λ same. off (sym same)) ∙ here
  freed-stays t here (Some (ObtainReady key parent object slot)) n off = parked-other t n (Some (Ready (code_number Dead))) w (λ same. off (sym same)) ∙ here
  freed-stays t here (Some ObtainCancelled) n off = parked-other t n (Some (Ready (code_number Dead))) w (λ same. off (sym same)) ∙ here
  freed-stays t here (Some (DelegateWait parent)) n off = parked-other t n (Some (Ready (code_number Dead))) w (λ same. off (sym same)) ∙ here
  freed-stays t here (Some (DelegateReady parent key)) n off = parked-other t n (Some (Ready (code_number Dead))) w (λ same. off (sym same)) ∙ here
  freed-stays t here (Some (RevokeWait j)) n off = parked-other t n (Some (Ready (code_number Dead))) w (λ same. off (sym same)) ∙ here
  freed-stays t here (Some (Ready number)) n off = parked-other t n (Some (Ready (code_number Dead))) w (λ same. off (sym same)) ∙ here

  refusal-stays : (t : Side) → Stays t → (b : Ask) → Stays (refusal_sent T Dead b t)
  refusal-stays t here (ObtainAsk place target) = here
  refusal-stays t here (DelegateAsk parent object slot) = here

  ask-stays : (a : Ask) (t : Side) → (asker a ≡ w → ⊥) → Stays t → Stays (ask_ended T i a t)
  ask-stays a t away here =
      cond_both (is_unawaited T i t a) t (ask_refused T i Dead a t) Stays (λ _. here)
      (λ _. cond_both (kernel_of T (asker a) == i) (call_refused (code_number Dead) (asker a) t) (refusal_sent T Dead a t) Stays
      (λ _. freed-stays t here (parked t (asker a)) (asker a) away) (λ _. refusal-stays t here a))

  ended-orphans : (s : Side) → Stays s → ((a : Ask) → Contains (row s w).asks a → asker a ≡ w → ⊥) → Orphaned (ended T i w s)
  unfolding ended
  ended-orphans s there apart =
      let asks : List Ask = (row s w).asks in
      let answered : Side = in_turn (ask_ended T i) asks (buried w s) in
      let same : Stays answered = in_turn-keeps_each Stays (ask_ended T i) asks (λ a among t here. ask-stays a t (apart a among) here) (buried w s) there in
      let last : Side = call_ended T (parked answered w) w (unparked w answered) in
      let sent : Orphaned last = subst (λ x. Orphaned (call_ended T x w (unparked w answered))) (sym same)
      (outbox-sent (unparked w answered) (owner_of T p) (Orphan p k)) in
      in_turn-keeps Orphaned (revoked_if_left T i) (λ r t here. rest-steady Orphaned (waits-steady (owner_of T p) (Orphan p k)) T i r t here)
      (keys_of_vpe last w) last sent

-- An entry. k was granted below p before, and p is held unmarked.
module _ (T : Setup) (valid : IsSetup T) (J : List Entry) (runs : IsSchedule T J) (before : List Entry) (e : Entry) (later : List Entry) (parts : J ≡ before
    ++ e ∷ later)
    (p k : KeyName) (granted : Contains (grants before) (p, k)) (d : Capability) (held : HoldsCap (world_after T before) (owner_of T p) p d) (unmarked : d.mark
    ≡ None) where
  abbrev W : World
  W = world_after T before

  abbrev V : World
  V = world_after T (before ++ e ∷ [])

  abbrev i : ℕ
  i = e.event.kernel

  abbrev s : Side
  s = side W i

  abbrev t : Side
  t = (stepped T W e.event).side

  begun : IsSchedule T before
  begun = (at T valid J runs before e later parts).0

  at-i : side V i ≡ t
  at-i = side-here T valid J runs before e later parts (all-caused T valid J runs before (e ∷ later) parts) i refl

  not-at : (j : ℕ) → (j ≡ i → ⊥) → side V j ≡ side W j
  not-at j away = side-other T valid J runs before e later parts (all-caused T valid J runs before (e ∷ later) parts) j away

  -- what waits to be sent is on its way
  pub sent-way : (u : Side) → side V i ≡ u → (j : ℕ) (m : Message) → Contains (outbox u j) m → Contains (way V i j) m
  sent-way u same j m among = Contains-append_right (fetched_from i (side V j).inbox ++ link V i j) (outbox (side V i) j) m
      (subst (λ (x : Side). Contains (outbox x j) m) (sym same) among)

  -- an ObtainOk comes on, or is taken
  pub ok-next : (o : Object) (a b : ℕ) → Contains (way W a b) (ObtainOk p k o) → Waits T W k.vpe k.number → IsLed T V p k
  ok-next o a b among waits = elim (goes T valid J runs before e later parts a b (ObtainOk p k o) among) [
    | inl still ↦
        let one = here-one k.vpe in
        let about' = flight-about V k.vpe a b (ObtainOk p k o) still (omega (arith, one)) in
        inl (by_ok o (a, b, still) (waits-on T valid J runs before e later parts (all-awaited T valid before begun) k.vpe k.number about' waits))
    | inr (
      here,
      full,
      act,
    ) ↦ elim (ok-handled T valid J runs before e later parts p k o a granted full act (subst (λ n. Contains (way W a n) (ObtainOk p k o)) here among)
        waits) [
          | inl (sel, parks, alive) ↦ inl (by_ready i k.vpe sel o parks)
          | inr (declared, home, dead, gone) ↦ inr (
            i,
            inl (sent-way (send (owner_of T p) (Orphan p k) (with_inbox None s)) gone (owner_of T p) (Orphan p k)
                (outbox-sent (with_inbox None s) (owner_of T p) (Orphan p k))),
          )
        ]
  ]

  -- an Ack comes on, or is taken
  pub ack-next : (a b : ℕ) → Contains (way W a b) (Ack k true) → IsLed T V p k
  ack-next a b among = elim (goes T valid J runs before e later parts a b (Ack k true) among) [
    | inl still ↦ inl (by_ack (a, b, still))
    | inr (here, full, act) ↦
        let there = subst (λ n. Contains (way W a n) (Ack k true)) here among in
        elim (ack-handled T valid J runs before e later parts p k a granted full act there) [
          | inl (c, holds) ↦ inl (by_cap i c holds)
          | inr (declared, home, dead, q, pends, gone) ↦
              let same : q.parent ≡ p = one-parent T (grants before) (all-grown T valid before begun) q.parent p k
              (acked-parent k T valid before begun i a i q pends there) granted in
              let out : Contains (way V i (owner_of T q.parent)) (Orphan q.parent k) =
              sent-way (send (owner_of T q.parent) (Orphan q.parent k) (pending_removed k (with_inbox None s))) gone (owner_of T q.parent) (Orphan q.parent k)
              (outbox-sent (pending_removed k (with_inbox None s)) (owner_of T q.parent) (Orphan q.parent k)) in
              inr (i, inl (subst (λ z. Contains (way V i (owner_of T z)) (Orphan z k)) same out))
        ]
  ]

  -- A call that is ready goes on to be so, or is touched.
  module _ (v sel : ℕ) (o : Object) (there : parked s v ≡ Some (ObtainReady k p o sel)) where
    abbrev q : Parked
    q = ObtainReady k p o sel

    abbrev Touched : Type 0
    Touched = (e.event.act ≡ Resume v) ⊎ ((e.event.act ≡ Kill v) ⊎ ((from : ℕ) × (j : ℕ) × (s.inbox ≡ Some (from, RevokeReq k j))))

    frees : AskWeights.free (row s v) (parked s v) ≡ 1
    frees = ap (AskWeights.free (row s v)) there
        ∙ cond-true ((row s v).alive && true) 1 0 (and_from (row s v).alive true (parkers-live T valid before begun i v q there) refl)

    apart : (a : Ask) (u : ℕ) → Contains (row s u).asks a → asker a ≡ v → ⊥
    apart a u among who =
        let one = ask-weighs v s u a among who in
        let most = single T valid before begun v in
        let part = side-le v W i in
        let own' = frees in
        omega (arith, own', most, part, one)

    touched-next : Touched → IsLed T V p k
    unfolding local_step
    touched-next (inl act) = inl (by_cap i _ (ap (λ (x : Side). cap x k) at-i ∙ resumed-held T valid J runs before e later parts v k p o sel act there))
    touched-next (inr (inl act)) =
        inr (
          i,
          inl (sent-way (ended T i v s) (at-i ∙ ap (λ a. (local_step T i s a (input_of W i a)).side) act) (owner_of T p) (Orphan p k)
              (ended-orphans T i v sel p k o s there (λ a among who. apart a v among who))),
        )
    touched-next (inr (inr (from, j, full))) =
        let mark = (asked-below T valid before begun k from i j
        (in-way T valid k J runs before e later parts (λ n x pend. PendingOwed.all-pend T valid k before begun n x pend) from (RevokeReq k j) full) p d
        granted held).1 in
        let no' : None ≡ Some j = sym unmarked ∙ mark in
        absurd cc

    ready-step : IsLed T V p k
    ready-step =
        let most = single T valid before begun v in
        let part = side-le v W i in
        let own' = frees in
        let Q = quiet-event T valid J runs before e later parts v k Touched (Some q) None
        (record {
          park = inl there;
          life = inl (parkers-live T valid before begun i v q there);
          waiters = λ x among w. let one = waiter-weighs v s x among w in absurd (omega (arith, own', most, part, one));
          asks = λ u a among who. absurd (apart a u among who);
          pend = λ x none. absurd cc;
        })
        (λ u act same. let none = calls-unparked T valid J runs before e later parts u act in busy (parked s u) none (ap (parked s) same ∙ there))
        (λ u act same. inl (act ∙ ap Resume same))
        (λ u act same. inr (inl (act ∙ ap Kill same)))
        (λ from m full one. let weighs : AskWeights.of_inbox v s.inbox ≡ AskWeights.of_message v m = ap (AskWeights.of_inbox v) full in
        absurd (omega (arith, own', most, part, one, weighs)))
        (λ from accepted act full x none. absurd cc)
        (λ from k' j full ready same. inr (inr (
          from,
          j,
          full
              ∙ ap (λ z. Some (from, RevokeReq z j)) (cancelled k' (ap (is_ready_with k') (sym (ap (parked s) same ∙ there)) ∙ ready)),
        )))
        in
        elim Q.park [
          | inl same ↦ inl (by_ready i v sel o (ap (λ (x : Side). parked x v) at-i ∙ same))
          | inr (quiet, touched) ↦ touched-next touched
        ]
      where
        busy : (x : Option Parked) → is_none x ≡ true → x ≡ Some q → ⊥
        busy None none some = absurd cc
        busy (Some x) none some = absurd cc

        cancelled : (k' : KeyName) → key_eq k k' ≡ true → k' ≡ k
        cancelled k' same = sym (key_eq-true k k' same)

  pub ready-next : (j v sel : ℕ) (o : Object) → parked (side W j) v ≡ Some (ObtainReady k p o sel) → IsLed T V p k
  ready-next j v sel o there = elim (cases_eq j i) [
    | inl here ↦ ready-step v sel o (ap (λ n. parked (side W n) v) (sym here) ∙ there)
    | inr away ↦ inl (by_ready j v sel o (ap (λ (x : Side). parked x v) (not-at j away) ∙ there))
  ]
