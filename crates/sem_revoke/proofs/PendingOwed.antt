-- Along the journal a pending delegation goes from its DelegatePrepared to the call that is ready to grant it, and on to its Ack.
use Rattle.std.proofs.Common.{◌≡◌, ◌⊎◌, ℕ, ◌<◌, Bool, true, false, not, ◌&&◌, ◌||◌, List, [], ◌∷◌, ◌++◌, find, Option, Some, None, is_none, append-nil}
use Rattle.std.proofs.Common.{append_assoc, refl, sym, ap, ◌∙◌, subst, inl, inr, arith, eq-eqb}
use Rattle.std.specs.Prelude.{◌==◌}
use Rattle.std.specs.List.{Contains}
use Rattle.std.specs.Option.{option_map_or}
use Rattle.std.proofs.lemmas.Bool.{cases_Bool, cases_eq, cases_lt, not-false, cond-true, cond-false, and_from, eqb-true}
use Rattle.std.proofs.lemmas.List.Elements.{Contains-append_left, Contains-append_right, filter_map-append}
use Rattle.sem_key.specs.KeyName.{KeyName, key_eq}
use Rattle.sem_key.proofs.KeyTests.{key_eq-true, key_eq-same, key_eq-from}
use Rattle.sem_key.proofs.Members.{Contains-head, found}
use Rattle.sem_msg.specs.declared.entry.Entry.{Entry}
use Rattle.sem_msg.specs.declared.event.Act.TheVariants.{Handle, Resume, Kill}
use Rattle.sem_msg.specs.declared.message.Message.{Message}
use Rattle.sem_msg.specs.declared.message.Message.TheVariants.{DelegatePrepared, Ack}
use Rattle.sem_msg.specs.declared.state.Ask.{Ask}
use Rattle.sem_msg.specs.declared.state.Parked.{Parked}
use Rattle.sem_msg.specs.declared.state.Parked.TheVariants.{ObtainWait, ObtainReady, ObtainCancelled, DelegateWait, DelegateReady, RevokeWait, Ready}
use Rattle.sem_msg.specs.declared.state.Pending.{Pending}
use Rattle.sem_msg.specs.Setup.{Setup, IsSetup}
use Rattle.sem_msg.specs.Lookups.{kernel_of, owner_of, own_vpes}
use Rattle.sem_msg.specs.ParkedStates.{is_ready_with}
use Rattle.sem_machine.specs.Sides.{Side, row, parked, parked_as, pending, is_alive, outbox, send, with_inbox}
use Rattle.sem_machine.specs.Asks.{asker, is_delegate_wait}
use Rattle.sem_machine.specs.Handles.{is_key_declared, is_here, lives_without, is_stray, acknowledged, handle_row, handled}
use Rattle.sem_machine.specs.Resumes.{can_resume, resume_row}
use Rattle.sem_machine.specs.Ends.{ended}
use Rattle.sem_machine.specs.Machine.{World, side, link, start, start_side, empty_side, root_added, vpe_added, vpe_fresh, local_entry, entry_of, input_of}
use Rattle.sem_machine.specs.Machine.{local_step}
use Rattle.sem_machine.specs.Schedules.{IsSchedule, world_after}
use Rattle.sem_machine.specs.Living.{way, fetched_from}
use Rattle.sem_machine.proofs.Folds.{in_turn-keeps}
use Rattle.sem_safety.proofs.GoingOn.{run-prefix, entry-enabled}
use Rattle.sem_safety.proofs.CarryingWorlds.{stepped, among-grants}
use Rattle.sem_revoke.specs.Resting.{IsStirring}
use Rattle.sem_revoke.specs.Resting.IsStirring.{by_message, by_call}
use Rattle.sem_safety.proofs.AskWeights
use Rattle.sem_safety.proofs.AskWeights.{free, here, waits}
use Rattle.sem_revoke.proofs.OpenRows.{all-open}
use Rattle.sem_sound.proofs.Scheduling.{schedule-sound}
use Rattle.sem_revoke.specs.Exchanges.{is_waiting}
use Rattle.sem_revoke.specs.Exchanges.Exchange.{Obtaining, Delegating}
use Rattle.sem_revoke.proofs.AddressedWorlds.{inbox-right}
use Rattle.sem_revoke.proofs.Asking.{about-waits}
use Rattle.sem_revoke.proofs.ExchangeMessages.{skip2, skip4, second2, third4}
use Rattle.sem_revoke.proofs.ExchangeWorlds.{all-owed}
use Rattle.sem_revoke.proofs.Lasting.{all-caused, side-here, side-other}
use Rattle.sem_revoke.proofs.Obtained.{flight-about, kernel-owner}
use Rattle.sem_revoke.proofs.Pendings.{step-prepared, acked-gone, resumed-acks, ended-acks, outbox-sent}
use Rattle.sem_revoke.proofs.PendingWorlds.{no-token}
use Rattle.sem_revoke.proofs.ReadyCalls.{at, single, side-le, here-one, waiter-weighs, ask-weighs, quiet-event, calls-unparked}
use Rattle.sem_revoke.proofs.Readying.{enabled-low, schedule-past}
use Rattle.sem_revoke.proofs.Revoking.{start-each}
use Rattle.sem_revoke.proofs.Waits.{parked-here}
use Rattle.sem_revoke.proofs.Ways.{all-go}
use Rattle.sem_machine.specs.Journals.{grants}

-- At the start nothing is pending.
side-bare : (T : Setup) (i : ℕ) → (start_side T i).pendings ≡ []
unfolding start_side
side-bare T i = in_turn-keeps (λ (t : Side). t.pendings ≡ []) vpe_added (λ d t here. in_turn-keeps (λ (u : Side). u.pendings ≡ []) (root_added d)
    (λ r u same. same) d.roots (vpe_fresh d t) here) (own_vpes T i) (empty_side T) refl

-- a kernel at which a delegation is pending is one of the setup
pending-low : (T : Setup) (J : List Entry) → IsSchedule T J → (k : KeyName) (i : ℕ) (p : Pending) → pending (side (world_after T J) i) k ≡ Some p →
    i < T.kernels
pending-low T J runs k i p at' = elim (cases_lt i T.kernels) [
  | inl low ↦ low
  | inr high ↦ let none : None ≡ Some p = sym (ap (λ (s : Side). pending s k) (schedule-past T J runs i high)) ∙ at' in absurd cc
]

not-first : (a b : Bool) → (a || b) ≡ false → (a ≡ false) × (b ≡ false)
not-first true b none = absurd cc
not-first false b none = (refl, none)

module _ (T : Setup) (valid : IsSetup T) (k0 : KeyName) where
  -- something of the delegation is under way
  abbrev pub Token : List Entry → KeyName → Type 0
  Token K r =
      ((a : ℕ) × (b : ℕ) × Contains (way (world_after T K) a b) (DelegatePrepared r k0))
      ⊎ (((a : ℕ) × (b : ℕ) × (accepted : Bool) × Contains (way (world_after T K) a b) (Ack k0 accepted) × (accepted ≡ true → Contains (grants K) (r, k0)))
      ⊎ ((j : ℕ) × (w : ℕ) × (parked (side (world_after T K) j) w ≡ Some (DelegateReady r k0)) × (is_alive (side (world_after T K) j) w ≡ true)))

  abbrev pub Pends : List Entry → Type 0
  Pends K = (i : ℕ) (p : Pending) → pending (side (world_after T K) i) k0 ≡ Some p → Token K p.parent

  module _ (J : List Entry) (runs : IsSchedule T J) (before : List Entry) (e : Entry) (later : List Entry) (parts : J ≡ before ++ e ∷ later)
      (pends : Pends before) where
    abbrev W : World
    W = world_after T before

    abbrev V : World
    V = world_after T (before ++ e ∷ [])

    abbrev now' : List Entry
    now' = before ++ e ∷ []

    -- grants stay
    grants-more : (r : KeyName) → Contains (grants before) (r, k0) → Contains (grants now') (r, k0)
    grants-more r among = subst (λ gs. Contains gs (r, k0)) (sym (filter_map-append (λ (x : Entry). x.grant) before (e ∷ [])))
        (Contains-append_left (grants before) (grants (e ∷ [])) (r, k0) among)

    grants-new : (r : KeyName) → ◌≡◌ {A = Option (KeyName × KeyName)} e.grant (Some (r, k0)) → Contains (grants now') (r, k0)
    grants-new r some = among-grants now' e (r, k0) (Contains-append_right before (e ∷ []) e (Contains-head e [])) some

    abbrev i : ℕ
    i = e.event.kernel

    abbrev s : Side
    s = side W i

    abbrev t : Side
    t = (stepped T W e.event).side

    -- what the entry grants is what the step grants
    entry-grant : ◌≡◌ {A = Option (KeyName × KeyName)} e.grant (stepped T W e.event).outcome.grant
    unfolding entry_of local_entry
    entry-grant = ap (λ (x : Entry). x.grant) (entry-enabled T before (start T) e later (subst (IsSchedule T) parts runs)).2

    begun : IsSchedule T before
    begun = (at T valid J runs before e later parts).0

    low : i < T.kernels
    low = enabled-low T W e.event (at T valid J runs before e later parts).1

    at-i : (j : ℕ) → j ≡ i → side V j ≡ t
    at-i j same = side-here T valid J runs before e later parts (all-caused T valid J runs before (e ∷ later) parts) j same

    not-at : (j : ℕ) → (j ≡ i → ⊥) → side V j ≡ side W j
    not-at j away = side-other T valid J runs before e later parts (all-caused T valid J runs before (e ∷ later) parts) j away

    -- what waits to be sent is on its way
    sent-flight : (j : ℕ) (m : Message) → Contains (outbox t j) m → Contains (way V i j) m
    sent-flight j m among = Contains-append_right (fetched_from i (side V j).inbox ++ link V i j) (outbox (side V i) j) m
        (subst (λ (u : Side). Contains (outbox u j) m) (sym (at-i i refl)) among)

    pub in-way : (a : ℕ) (m : Message) → s.inbox ≡ Some (a, m) → Contains (way W a i) m
    in-way a m full =
        Contains-append_left (fetched_from a s.inbox ++ link W a i) (outbox (side W a) i) m
        (Contains-append_left (fetched_from a s.inbox) (link W a i) m
        (subst (λ xs. Contains xs m) (sym (ap (fetched_from a) full ∙ cond-true (a == a) (m ∷ []) [] (eq-eqb a a refl))) (Contains-head m [])))

    handling : (a : ℕ) (m : Message) → e.event.act ≡ Handle → s.inbox ≡ Some (a, m) → t ≡ handled T i (with_inbox None s) a m
    unfolding local_step
    handling a m act full = ap (λ n. (local_step T i s n (input_of W i n)).side) act
        ∙ ap (λ o. option_map_or (λ y. handled T i (with_inbox None s) y.0 y.1) o s) full

    -- a living VPE for which a DelegatePrepared comes waits for it
    awaited : (a : ℕ) (q : KeyName) → s.inbox ≡ Some (a, DelegatePrepared q k0) → kernel_of T q.vpe ≡ i → is_alive s q.vpe ≡ true →
        is_delegate_wait q (parked s q.vpe) ≡ true
    awaited a q full home alive =
        let m : Message = DelegatePrepared q k0 in
        let v : ℕ = q.vpe in
        let one = here-one v in
        let busy = about-waits T valid before begun v i (flight-about W v a i m (in-way a m full) (omega (arith, one))) alive in
        by (parked s v) refl busy
      where
        v : ℕ
        v = q.vpe

        m : Message
        m = DelegatePrepared q k0

        by : (p : Option Parked) → parked s v ≡ p → waits p ≡ true → is_delegate_wait q p ≡ true
        by None at' no' = absurd cc
        by (Some (ObtainReady key parent object sel)) at' no' = absurd cc
        by (Some ObtainCancelled) at' no' = absurd cc
        by (Some (DelegateReady parent key)) at' no' = absurd cc
        by (Some (Ready code)) at' no' = absurd cc
        by (Some (ObtainWait n sel)) at' busy =
            let there : parked (side W (kernel_of T v)) v ≡ Some (ObtainWait n sel) = ap (λ j. parked (side W j) v) home ∙ at' in
            let has = (all-owed T valid (Obtaining v n) before begun (ap (is_waiting (Obtaining v n)) there ∙ eq-eqb n n refl)).1 in
            let one = here-one v in
            absurd (no-token (Obtaining v n) T valid before begun i a m full refl (omega (arith, one)) has)
        by (Some (DelegateWait r)) at' busy = elim (cases_Bool (key_eq q r)) [
          | inl same ↦ key_eq-from r q (sym (key_eq-true q r same))
          | inr differ ↦
              let call = ((schedule-sound T valid before begun).sides i low).calls v (DelegateWait r) at' in
              let who : r.vpe ≡ v = call.1.0 in
              let there : parked (side W (kernel_of T r.vpe)) r.vpe ≡ Some (DelegateWait r) = ap (λ n. parked (side W (kernel_of T n)) n) who
              ∙ (ap (λ j. parked (side W j) v) home ∙ at') in
              let has = (all-owed T valid (Delegating r) before begun (ap (is_waiting (Delegating r)) there ∙ key_eq-same r)).1 in
              let one : here r.vpe q.vpe ≡ 1 = ap (here r.vpe) (sym who) ∙ here-one r.vpe in
              absurd (no-token (Delegating r) T valid before begun i a m full (cond-false (key_eq q r) 1 0 differ) (omega (arith, one)) has)
        ]
        by (Some (RevokeWait j)) at' busy =
            let waiter' = (all-open T before i).awaited v j at' in
            let one = waiter-weighs v s waiter'.0 waiter'.1 waiter'.3 in
            let inbox : AskWeights.of_inbox v s.inbox ≡ here v q.vpe = ap (AskWeights.of_inbox v) full in
            let unit = here-one v in
            let part = side-le v W i in
            let most = single T valid before begun v in
            absurd (omega (arith, one, inbox, unit, part, most))

    -- A DelegatePrepared is handled.
    prepared-handled : (a : ℕ) (q : KeyName) → e.event.act ≡ Handle → s.inbox ≡ Some (a, DelegatePrepared q k0) → Token now' q
    unfolding handle_row
    prepared-handled a q act full =
        let m : Message = DelegatePrepared q k0 in
        let u : Side = with_inbox None s in
        let right = inbox-right T valid before begun i a m full in
        let home : kernel_of T q.vpe ≡ i =
        eqb-true (kernel_of T q.vpe) i (third4 (not (is_key_declared T q)) (not (is_key_declared T k0)) (is_here T i q.vpe) (is_here T i k0.vpe) right) in
        let stray-is = skip4 (not (is_key_declared T q)) (not (is_key_declared T k0)) (not (is_here T i q.vpe)) (is_here T i k0.vpe)
        (lives_without (is_delegate_wait q) u q.vpe) right in
        let now = handling a m act full in
        elim (cases_Bool (is_alive s q.vpe)) [
          | inr dead ↦
              let stray : is_stray T i u m ≡ false = stray-is ∙ ap (λ b. b && not (is_delegate_wait q (parked s q.vpe))) dead in
              let is : t ≡ send (owner_of T k0) (Ack k0 false) u = now
              ∙ (cond-false (is_stray T i u m) u (handle_row T i u a m) stray
              ∙ cond-false (is_alive u q.vpe) (parked_as q.vpe (DelegateReady q k0) u) (send (owner_of T k0) (Ack k0 false) u) dead) in
              inr (inl (
                i,
                owner_of T k0,
                false,
                sent-flight (owner_of T k0) (Ack k0 false) (subst (λ (x : Side). Contains (outbox x (owner_of T k0)) (Ack k0 false)) (sym is)
                    (outbox-sent u (owner_of T k0) (Ack k0 false))),
                λ no'. absurd cc,
              ))
          | inl alive ↦
              let waits' = awaited a q full home alive in
              let stray : is_stray T i u m ≡ false = stray-is ∙ (ap (λ b. b && not (is_delegate_wait q (parked s q.vpe))) alive ∙ ap not waits') in
              let is : t ≡ parked_as q.vpe (DelegateReady q k0) u = now
              ∙ (cond-false (is_stray T i u m) u (handle_row T i u a m) stray
              ∙ cond-true (is_alive u q.vpe) (parked_as q.vpe (DelegateReady q k0) u) (send (owner_of T k0) (Ack k0 false) u) alive) in
              inr (inr (
                i,
                q.vpe,
                ap (λ (x : Side). parked x q.vpe) (at-i i refl ∙ is) ∙ parked-here u q.vpe (Some (DelegateReady q k0)),
                ap (λ (x : Side). is_alive x q.vpe) (at-i i refl ∙ is) ∙ alive,
              ))
        ]

    -- The delegation is pending now: it was so before, or came to be so.
    step-pending : (j : ℕ) (p : Pending) → pending (side V j) k0 ≡ Some p → (pending (side W j) k0 ≡ Some p) ⊎ Token now' p.parent
    step-pending j p there = elim (cases_eq j i) [
      | inr away ↦ inl (ap (λ (x : Side). pending x k0) (sym (not-at j away)) ∙ there)
      | inl same ↦ elim (step-prepared T k0 (pending s k0) i s e.event.act (input_of W i e.event.act) refl p
          (ap (λ (x : Side). pending x k0) (sym (at-i j same)) ∙ there)) [
            | inl before' ↦ inl (ap (λ n. pending (side W n) k0) same ∙ before')
            | inr out ↦ inr (inl (i, owner_of T p.parent, sent-flight (owner_of T p.parent) (DelegatePrepared p.parent k0) out))
          ]
    ]

    -- An Ack is handled: then the delegation is not pending, unless it came to be so now.
    ack-handled : (a : ℕ) (accepted : Bool) (j : ℕ) (p : Pending) → e.event.act ≡ Handle → s.inbox ≡ Some (a, Ack k0 accepted) →
        pending (side V j) k0 ≡ Some p → Token now' p.parent
    unfolding handle_row
    ack-handled a accepted j p act full there =
        let m : Message = Ack k0 accepted in
        let u : Side = with_inbox None s in
        let right = inbox-right T valid before begun i a m full in
        let stray-is = skip2 (not (is_key_declared T k0)) (not (is_here T i k0.vpe)) (is_none (pending u k0)) right in
        let now = handling a m act full in
        elim (cases_eq j i) [
          | inl same ↦ by (pending s k0) refl stray-is now (ap (λ (x : Side). pending x k0) (sym (at-i j same)) ∙ there) same
          | inr away ↦ elsewhere away right
        ]
      where
        by : (o : Option Pending) → pending s k0 ≡ o → is_stray T i (with_inbox None s) (Ack k0 accepted) ≡ is_none (pending s k0) →
            t ≡ handled T i (with_inbox None s) a (Ack k0 accepted) → pending t k0 ≡ Some p → j ≡ i → Token now' p.parent
        by None none stray-is now there' same = elim (step-pending j p there) [
          | inl was ↦ (let no' : None ≡ Some p = sym none ∙ (ap (λ n. pending (side W n) k0) (sym same) ∙ was) in absurd cc)
          | inr token ↦ token
        ]
        by (Some q) some stray-is now there' same =
            let u : Side = with_inbox None s in
            let stray : is_stray T i u (Ack k0 accepted) ≡ false = stray-is ∙ ap is_none some in
            let is : t ≡ acknowledged T k0 accepted u q = now ∙ (cond-false (is_stray T i u (Ack k0 accepted)) u (handle_row T i u a (Ack k0 accepted)) stray
            ∙ ap (λ o. option_map_or (acknowledged T k0 accepted u) o u) some) in
            absurd (acked-gone T k0 None accepted u q p (ap (λ (x : Side). pending x k0) (sym is) ∙ there'))

        -- an Ack is handled where its delegation is pending
        elsewhere : (j ≡ i → ⊥) → (not (is_key_declared T k0) || not (is_here T i k0.vpe)) ≡ false → Token now' p.parent
        elsewhere away right =
            let prefix : IsSchedule T (before ++ e ∷ []) = run-prefix T before later e (start T) (subst (IsSchedule T) parts runs) in
            let few = pending-low T (before ++ e ∷ []) prefix k0 j p there in
            let at' = found (λ (y : Pending). key_eq y.key k0) (side V j).pendings p there in
            let own = ((schedule-sound T valid (before ++ e ∷ []) prefix).sides j few).pendings p at'.0 in
            let parts' = not-first (not (is_key_declared T k0)) (not (is_here T i k0.vpe)) right in
            let home : kernel_of T k0.vpe ≡ i = eqb-true (kernel_of T k0.vpe) i (second2 (not (is_key_declared T k0)) (is_here T i k0.vpe) right) in
            let owner : kernel_of T k0.vpe ≡ owner_of T k0 = kernel-owner T k0 (not-false (is_key_declared T k0) parts'.0) in
            absurd (away (sym (own.own.1) ∙ (ap (owner_of T) (key_eq-true p.key k0 at'.1) ∙ (sym owner ∙ home))))

    -- The call that is ready to grant it.
    module _ (w : ℕ) (q : KeyName) (there : parked s w ≡ Some (DelegateReady q k0)) (alive : is_alive s w ≡ true) where
      abbrev Touched : Type 0
      Touched = (e.event.act ≡ Resume w) ⊎ (e.event.act ≡ Kill w)

      frees : free (row s w) (parked s w) ≡ 1
      frees = ap (free (row s w)) there ∙ cond-true ((row s w).alive && true) 1 0 (and_from (row s w).alive true alive refl)

      apart : (a : Ask) → Contains (row s w).asks a → asker a ≡ w → ⊥
      apart a among who = let one = ask-weighs w s w a among who in let part = side-le w W i in let most = single T valid before begun w in let f = frees in
          omega (arith, f, most, part, one)

      granted-by : e.event.act ≡ Resume w → ◌≡◌ {A = Option (KeyName × KeyName)} (resume_row T s w).outcome.grant (Some (q, k0)) →
          ◌≡◌ {A = Option (KeyName × KeyName)} e.grant (Some (q, k0))
      unfolding local_step
      granted-by act some = entry-grant ∙ (ap (λ n. (local_step T i s n (input_of W i n)).outcome.grant) act ∙ some)

      touched-so : Touched → Token now' q
      unfolding local_step
      touched-so (inl act) =
          let a = resumed-acks T k0 None s w q there in
          let is : t ≡ (resume_row T s w).side = ap (λ n. (local_step T i s n (input_of W i n)).side) act in
          inr (inl (
            i,
            owner_of T k0,
            a.0,
            sent-flight (owner_of T k0) (Ack k0 a.0) (subst (λ (x : Side). Contains (outbox x (owner_of T k0)) (Ack k0 a.0)) (sym is) a.1),
            λ yes'. grants-new q (granted-by act (a.2 yes')),
          ))
      touched-so (inr act) =
          let is : t ≡ ended T i w s = ap (λ n. (local_step T i s n (input_of W i n)).side) act in
          inr (inl (
            i,
            owner_of T k0,
            false,
            sent-flight (owner_of T k0) (Ack k0 false) (subst (λ (x : Side). Contains (outbox x (owner_of T k0)) (Ack k0 false)) (sym is)
                (ended-acks T k0 None i s w q there apart)),
            λ no'. absurd cc,
          ))

      ready-step : Token now' q
      ready-step =
          let most = single T valid before begun w in
          let part = side-le w W i in
          let f = frees in
          let Q = quiet-event T valid J runs before e later parts w k0 Touched (Some (DelegateReady q k0)) None
          (record {
            park = inl there;
            life = inl alive;
            waiters = λ x among who. let one = waiter-weighs w s x among who in absurd (omega (arith, f, most, part, one));
            asks = λ u a among who. let one = ask-weighs w s u a among who in absurd (omega (arith, f, most, part, one));
            pend = λ p none. absurd cc;
          })
          (λ u act same. let none = calls-unparked T valid J runs before e later parts u act in busy (parked s u) none (ap (parked s) same ∙ there))
          (λ u act same. inl (act ∙ ap Resume same))
          (λ u act same. inr (act ∙ ap Kill same))
          (λ from m full one. let weighs : AskWeights.of_inbox w s.inbox ≡ AskWeights.of_message w m = ap (AskWeights.of_inbox w) full in
          absurd (omega (arith, f, most, part, one, weighs)))
          (λ from accepted act full x none. absurd cc)
          (λ from k' j full ready same. let no' : false ≡ true = sym (ap (is_ready_with k') (ap (parked s) same ∙ there)) ∙ ready in absurd cc)
          in
          elim Q.park [
            | inl same ↦ elim Q.life [
              | inl lives ↦ inr (inr (i, w, ap (λ (x : Side). parked x w) (at-i i refl) ∙ same, ap (λ (x : Side). is_alive x w) (at-i i refl) ∙ lives))
              | inr touched ↦ touched-so touched
            ]
            | inr (quiet, touched) ↦ touched-so touched
          ]
        where
          busy : (p : Option Parked) → is_none p ≡ true → p ≡ Some (DelegateReady q k0) → ⊥
          busy None none some = absurd cc
          busy (Some x) none some = absurd cc

    still : (j : ℕ) (p : Pending) → pending (side V j) k0 ≡ Some p → Token before p.parent → Token now' p.parent
    still j p there (inl (a, b, among)) = elim (all-go T valid J runs before e later parts a b (DelegatePrepared p.parent k0) among) [
      | inl on ↦ inl (a, b, on)
      | inr (home, full, act) ↦ prepared-handled a p.parent act (ap (λ n. (side W n).inbox) (sym home) ∙ full)
    ]
    still j p there (inr (inl (a, b, accepted, among, granted))) = elim (all-go T valid J runs before e later parts a b (Ack k0 accepted) among) [
      | inl on ↦ inr (inl (a, b, accepted, on, λ yes'. grants-more p.parent (granted yes')))
      | inr (home, full, act) ↦ ack-handled a accepted j p act (ap (λ n. (side W n).inbox) (sym home) ∙ full) there
    ]
    still j p there (inr (inr (n, w, ready, alive))) = elim (cases_eq n i) [
      | inl same ↦ ready-step w p.parent (ap (λ z. parked (side W z) w) (sym same) ∙ ready) (ap (λ z. is_alive (side W z) w) (sym same) ∙ alive)
      | inr away ↦ inr (inr (n, w, ap (λ (x : Side). parked x w) (not-at n away) ∙ ready, ap (λ (x : Side). is_alive x w) (not-at n away) ∙ alive))
    ]

    pub next-pends : Pends now'
    next-pends j p there = elim (step-pending j p there) [
      | inl was ↦ still j p there (pends j p was)
      | inr token ↦ token
    ]

  pub all-pend : (J : List Entry) → IsSchedule T J → Pends J
  all-pend J runs = from [] J refl (λ i p there. let bare = start-each T (λ (x : Side). x.pendings ≡ []) refl (λ n. side-bare T n) i in
      let no' : None ≡ Some p = sym (ap (find (λ (y : Pending). key_eq y.key k0)) bare) ∙ there in absurd cc)
    where
      from : (before later : List Entry) → J ≡ before ++ later → Pends before → Pends J
      from before [] parts is = subst Pends (sym (parts ∙ append-nil before)) is
      from before (e ∷ later) parts is = from (before ++ e ∷ []) later (parts
          ∙ sym (append_assoc before (e ∷ []) later)) (next-pends J runs before e later parts is)

-- so something stirs
pub pendings-owed : (T : Setup) → IsSetup T → (J : List Entry) → IsSchedule T J → (i : ℕ) (k : KeyName) (p : Pending) →
    pending (side (world_after T J) i) k ≡ Some p → IsStirring (world_after T J)
pendings-owed T valid J runs i k p there = from (all-pend T valid k J runs i p there)
  where
    from : Token T valid k J p.parent → IsStirring (world_after T J)
    from (inl (a, b, among)) = by_message (DelegatePrepared p.parent k) (a, b, among)
    from (inr (inl (a, b, accepted, among, granted))) = by_message (Ack k accepted) (a, b, among)
    from (inr (inr (j, w, ready, alive))) = by_call j w (ap can_resume ready)
