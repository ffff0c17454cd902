-- An entry that revokes leaves a marked key as it is, unless it handles a token that comes back.
use Rattle.std.proofs.Common.{◌≡◌, ℕ, ◌<◌, true, false, List, [], ◌∷◌, ◌++◌, Option, Some, None, refl, sym, ap, ◌∙◌, subst, arith}
use Rattle.std.specs.Prelude.{◌==◌}
use Rattle.std.specs.List.{Contains}
use Rattle.std.specs.Option.{option_map_or}
use Rattle.std.proofs.lemmas.Bool.{cond_both, eqb-true}
use Rattle.std.proofs.lemmas.List.Elements.{All-contains}
use Rattle.std.proofs.lemmas.Option.{same_Some}
use Rattle.sem_key.specs.KeyName.{KeyName, key_eq}
use Rattle.sem_key.specs.Capability.{Capability}
use Rattle.sem_key.specs.Lists.{in_turn}
use Rattle.sem_key.proofs.KeyTests.{key_eq-true}
use Rattle.sem_key.proofs.Members.{found}
use Rattle.sem_msg.specs.declared.call.Call.{Call}
use Rattle.sem_msg.specs.declared.call.Call.TheVariants.{Derive, Gate, Obtain, Delegate, OpenSession, AskOffer, Revoke, Bind, Read, Write, Send as SendCall}
use Rattle.sem_msg.specs.declared.call.Call.TheVariants.{Credit, Exit, Clear}
use Rattle.sem_msg.specs.declared.message.Message.{Message}
use Rattle.sem_msg.specs.declared.message.Message.TheVariants.{ObtainReq, ObtainOk, ObtainNo, DelegateReq, DelegatePrepared, DelegateNo, Ack, Orphan, RevokeReq}
use Rattle.sem_msg.specs.declared.message.Message.TheVariants.{RevokeDone, Unlink}
use Rattle.sem_msg.specs.declared.event.Act.{Act}
use Rattle.sem_msg.specs.declared.event.Act.TheVariants.{Call as Calls, Fetch, Handle, Upcall, Resume, Flush, Kill}
use Rattle.sem_msg.specs.declared.entry.Detail.TheVariants.{Carried, Nothing}
use Rattle.sem_msg.specs.declared.entry.Entry.{Entry}
use Rattle.sem_msg.specs.declared.code.Code.TheVariants.{NoCap, Dead}
use Rattle.sem_msg.specs.Codes.{code_number}
use Rattle.sem_msg.specs.declared.state.Ask.{Ask}
use Rattle.sem_msg.specs.declared.state.Ask.TheVariants.{Obtain as ObtainAsk, Delegate as DelegateAsk}
use Rattle.sem_msg.specs.declared.state.Parked.{Parked}
use Rattle.sem_msg.specs.declared.state.Parked.TheVariants.{ObtainWait, ObtainReady, ObtainCancelled, DelegateWait, DelegateReady, RevokeWait, Ready}
use Rattle.sem_msg.specs.declared.state.Slot.{Slot}
use Rattle.sem_msg.specs.declared.state.Slot.TheVariants.{Free, Held, Promised}
use Rattle.sem_msg.specs.declared.state.Up.TheVariants.{Remote}
use Rattle.sem_msg.specs.Rows.{JobRow}
use Rattle.sem_msg.specs.JobRows.{with_number}
use Rattle.sem_msg.specs.Setup.{Setup, IsSetup}
use Rattle.sem_msg.specs.Lookups.{kernel_of, owner_of}
use Rattle.sem_msg.specs.ParkedStates.{is_ready_with}
use Rattle.sem_machine.specs.Sides.{Side, row, slot, cap, cap_in, own, parked, call_counted, parked_as, unparked, buried, with_inbox}
use Rattle.sem_machine.specs.Steps.{Step, unshown, answer, cutting}
use Rattle.sem_machine.specs.Asks.{asker, is_unawaited, promise_freed, refusal_sent, ask_refused, call_refused}
use Rattle.sem_machine.specs.Calls.{own_tests, call_row}
use Rattle.sem_machine.specs.Revokes.{begin, revoke_begun, clear_begun, waiter_left, ready_freed, request_begun, revoke_requested}
use Rattle.sem_machine.specs.Ends.{ask_ended, call_ended, revoked_if_left, keys_of_vpe, ended_but_held, ended}
use Rattle.sem_machine.specs.Handles.{handle_row, handled}
use Rattle.sem_machine.specs.Machine.{World, side, start, next_call, input_of, detail_of, local_step, entry_of}
use Rattle.sem_machine.specs.Schedules.{IsSchedule, world_after}
use Rattle.sem_machine.proofs.Folds.{in_turn-keeps, option-keeps}
use Rattle.sem_machine.proofs.FirstCodes.{unless-passed, unmarked-own}
use Rattle.sem_safety.proofs.CarryingWorlds.{stepped}
use Rattle.sem_safety.proofs.HeldOnce.{keys-distinct}
use Rattle.sem_safety.proofs.JobIds.{HasIds, ids, start-ids}
use Rattle.sem_safety.proofs.SideLayers.{run-kept}
use Rattle.sem_revoke.proofs.OpenRows.{marks-open}
use Rattle.sem_revoke.proofs.Rowing.{revoked_if_there}
use Rattle.sem_query.specs.Whereabouts.{whereabouts}
use Rattle.sem_query.specs.Changes.{revokes_call, revokes_message, may_revoke}
use Rattle.sem_query.proofs.Bearing.{IsAlike, alike-same}
use Rattle.sem_query.proofs.BearingRows.{revokes}
use Rattle.sem_query.proofs.Passing.{only-one, with-e, at}
use Rattle.sem_query.proofs.Changing.{made-so, revoking-is, shown-detail, side-here, held-same}
use Rattle.sem_query.proofs.Staying.{Stay, IsUnmarkedKey, free-of, ids-of, with-jobs, changed-job, begin-stay}

-- what a VPE holds at a selector is held
own-among : (t : Side) (v src : ℕ) (c : Capability) → own t v src ≡ Some c → Contains t.caps c
own-among t v src c held = from (slot t v src) held
  where
    from : (x : Slot) → cap_in t x ≡ Some c → Contains t.caps c
    from Free none = absurd cc
    from Promised none = absurd cc
    from (Held h) some = (found (λ (x : Capability). key_eq x.key h) t.caps c some).0

-- xs are the capabilities before the step
module _ (xs : List Capability) (T : Setup) (i : ℕ) where
  abbrev P : Side → Type 0
  P t = Stay xs t

  begun-stay : (v : ℕ) (k : KeyName) (m : Option ℕ) (t : Side) → P t → (m ≡ None → IsUnmarkedKey xs k) → P (revoke_begun T i v k m t)
  begun-stay v k None t S free = begin-stay xs T i k None (v ∷ []) false (parked_as v (RevokeWait t.next_job) t) S tt (free refl)
  begun-stay v k (Some j) t S free = changed-job xs (parked_as v (RevokeWait j) t) S j (λ x. record x { waiters = with_number x.waiters v }) (λ x. (refl, refl))

  -- A request.
  freed-stay : (p : Option Parked) (v : ℕ) (t : Side) → P t → P (ready_freed p v t)
  freed-stay None v t S = S
  freed-stay (Some (ObtainReady key parent object sel)) v t S = S
  freed-stay (Some (ObtainWait number sel)) v t S = S
  freed-stay (Some ObtainCancelled) v t S = S
  freed-stay (Some (DelegateWait parent)) v t S = S
  freed-stay (Some (DelegateReady parent key)) v t S = S
  freed-stay (Some (RevokeWait j)) v t S = S
  freed-stay (Some (Ready code)) v t S = S

  asked-stay : (from j : ℕ) (k : KeyName) (m : Option ℕ) (t : Side) → P t → (m ≡ None → IsUnmarkedKey xs k) → P (request_begun T i from j k m t)
  asked-stay from j k None t S free = begin-stay xs T i k (Some (Remote from j)) [] false t S tt (free refl)
  asked-stay from j k (Some m) t S free = changed-job xs t S m (λ x. record x { up = Some (Remote from j); keep = false }) (λ x. (refl, refl))

  requested-stay : (from j : ℕ) (k : KeyName) (t : Side) → P t → (o : Option Capability) → cap t k ≡ o → P (revoke_requested T i from j k o t)
  requested-stay from j k t S (Some c) held =
      let there = found (λ (x : Capability). key_eq x.key k) t.caps c held in
      asked-stay from j k c.mark t S (λ none. subst (IsUnmarkedKey xs) (key_eq-true c.key k there.1) (free-of xs t S c there.0 none))
  requested-stay from j k t S None held = cond_both (is_ready_with k (parked t k.vpe)) (parked_as k.vpe ObtainCancelled (ready_freed (parked t k.vpe) k.vpe t))
      t P (λ _. freed-stay (parked t k.vpe) k.vpe t S) (λ _. S)

  -- The end of a VPE.
  call_refused-stay : (number v : ℕ) (t : Side) → P t → P (call_refused number v t)
  call_refused-stay number v t S = by (parked t v)
    where
      by : (p : Option Parked) → P (promise_freed p v t)
      by None = S
      by (Some (ObtainWait n sel)) = S
      by (Some (ObtainReady key parent object sel)) = S
      by (Some ObtainCancelled) = S
      by (Some (DelegateWait parent)) = S
      by (Some (DelegateReady parent key)) = S
      by (Some (RevokeWait job)) = S
      by (Some (Ready code)) = S

  ask_ended-stay : (a : Ask) (t : Side) → P t → P (ask_ended T i a t)
  ask_ended-stay a t S = cond_both (is_unawaited T i t a) t (ask_refused T i Dead a t) P (λ _. S)
      (λ _. cond_both (kernel_of T (asker a) == i) (call_refused (code_number Dead) (asker a) t) (refusal_sent T Dead a t) P
      (λ _. call_refused-stay (code_number Dead) (asker a) t S) (λ _. told a))
    where
      told : (b : Ask) → P (refusal_sent T Dead b t)
      told (ObtainAsk place target) = S
      told (DelegateAsk parent object sel) = S

  call_ended-stay : (p : Option Parked) (v : ℕ) (t : Side) → P t → P (call_ended T p v t)
  call_ended-stay None v t S = S
  call_ended-stay (Some (ObtainWait number sel)) v t S = S
  call_ended-stay (Some (ObtainReady key parent object sel)) v t S = S
  call_ended-stay (Some ObtainCancelled) v t S = S
  call_ended-stay (Some (DelegateWait parent)) v t S = S
  call_ended-stay (Some (DelegateReady parent key)) v t S = S
  call_ended-stay (Some (RevokeWait j)) v t S = with-jobs xs t S (waiter_left j v t).jobs (ids.keeps_left t (ids-of xs t S) j v)
  call_ended-stay (Some (Ready code)) v t S = S

  left-stay : (k : KeyName) (t : Side) → P t → (o : Option Capability) → cap t k ≡ o → P (revoked_if_there T i k o t)
  left-stay k t S None held = S
  left-stay k t S (Some c) held = by c.mark refl
    where
      by : (m : Option ℕ) → c.mark ≡ m → P (option_map_or (λ (j : ℕ). t) m (begin T i k None [] false t))
      by (Some j) some = S
      by None none =
          let there = found (λ (x : Capability). key_eq x.key k) t.caps c held in
          begin-stay xs T i k None [] false t S tt (subst (IsUnmarkedKey xs) (key_eq-true c.key k there.1) (free-of xs t S c there.0 none))

  ended-stay : (v : ℕ) (t : Side) → P t → P (ended T i v t)
  unfolding ended
  ended-stay v t S =
      let all : Side = in_turn (ask_ended T i) (row t v).asks (buried v t) in
      let told : P all = in_turn-keeps P (ask_ended T i) (λ a u here. ask_ended-stay a u here) (row t v).asks (buried v t) S in
      let left : P (ended_but_held T i v t) = call_ended-stay (parked all v) v (unparked v all) told in
      in_turn-keeps P (revoked_if_left T i) (λ k u here. left-stay k u here (cap u k) refl) (keys_of_vpe (ended_but_held T i v t) v) (ended_but_held T i v t) left

  -- Calls and messages.
  abbrev StaysSo : Step → Type 0
  StaysSo x = P x.side

  call-stay : (v : ℕ) (c : Call) (t : Side) → revokes_call c ≡ true → P t → StaysSo (call_row T i t v c)
  unfolding call_row
  call-stay v (Revoke src) t loud S = option-keeps StaysSo (λ (c : Capability). cutting c.key (unshown (revoke_begun T i v c.key c.mark t))) (own t v src)
      (answer NoCap t) (λ c held. begun-stay v c.key c.mark t S (λ none. free-of xs t S c (own-among t v src c held) none)) S
  call-stay v (Clear src) t loud S =
      unless-passed StaysSo (own_tests (own t v src)) _ _ (λ code. S)
      (λ passed. option-keeps StaysSo (λ (c : Capability). cutting c.key (unshown (clear_begun T i v c.key t))) (own t v src) (answer NoCap t)
      (λ c held. begin-stay xs T i c.key None (v ∷ []) true (parked_as v (RevokeWait t.next_job) t) S tt
      (free-of xs t S c (own-among t v src c held) (unmarked-own (own t v src) c held passed.1.0))) S)
  call-stay v Exit t loud S = ended-stay v t S
  call-stay v (Derive src dst off len rights) t loud S = absurd cc
  call-stay v (Gate src dst label credits) t loud S = absurd cc
  call-stay v (Obtain dst w src) t loud S = absurd cc
  call-stay v (Delegate src w dst) t loud S = absurd cc
  call-stay v (OpenSession dst name) t loud S = absurd cc
  call-stay v (AskOffer dst session index) t loud S = absurd cc
  call-stay v (Bind ep src) t loud S = absurd cc
  call-stay v (Read ep off len) t loud S = absurd cc
  call-stay v (Write ep off len) t loud S = absurd cc
  call-stay v (SendCall ep len) t loud S = absurd cc
  call-stay v (Credit ep) t loud S = absurd cc

  message-stay : (from : ℕ) (m : Message) (t : Side) → revokes_message m ≡ true → ((j : ℕ) → m ≡ RevokeDone j → ⊥) → P t → P (handled T i t from m)
  unfolding handle_row
  message-stay from (RevokeReq key j) t loud other S = requested-stay from j key t S (cap t key) refl
  message-stay from (RevokeDone j) t loud other S = absurd (other j refl)
  message-stay from (ObtainReq place target) t loud other S = absurd cc
  message-stay from (ObtainOk parent key object) t loud other S = absurd cc
  message-stay from (ObtainNo place code) t loud other S = absurd cc
  message-stay from (DelegateReq parent object vpe sel) t loud other S = absurd cc
  message-stay from (DelegatePrepared parent key) t loud other S = absurd cc
  message-stay from (DelegateNo parent code) t loud other S = absurd cc
  message-stay from (Ack key accepted) t loud other S = absurd cc
  message-stay from (Orphan parent key) t loud other S = absurd cc
  message-stay from (Unlink parent key) t loud other S = absurd cc

module _ (T : Setup) (valid : IsSetup T) (J : List Entry) (runs : IsSchedule T J) (before later : List Entry) (e : Entry) (parts : J ≡ before ++ e ∷ later)
    (other : (from j : ℕ) → e.detail ≡ Carried from (RevokeDone j) → ⊥) where
  abbrev W : World
  W = world_after T before

  abbrev n : ℕ
  n = e.event.kernel

  abbrev s : Side
  s = side W n

  module _ (was : IsSchedule T before) (told : e ≡ entry_of T W e.event) where
    abbrev Q : Side → Type 0
    Q t = Stay s.caps t

    start-stay : Q s
    start-stay = record {
      rise = drawn.rise;
      drawn = drawn.drawn;
      older = λ c among m some.
          let x = marks-open T before n c.key c m (here c among) some in
          let there = found (λ (y : JobRow). y.id == m) s.jobs x.0 x.1 in
          let below = All-contains (λ (y : JobRow). y.id < s.next_job) s.jobs x.0 drawn.drawn there.0 in
          let same = eqb-true x.0.id m there.1 in
          omega (arith, below, same);
      there = λ c among m some. (c, among, alike-same c);
      alone = λ c among m some d among' key.
          let same : d ≡ c = same_Some d c (sym (only-one c.key s.caps (keys-distinct T valid before was n) d among' key) ∙ here c among) in
          ap (λ (x : Capability). x.mark) same ∙ some;
    }
      where
        drawn : HasIds s
        drawn = run-kept HasIds ids T before (start T) (start-ids T) n

        here : (c : Capability) → Contains s.caps c → cap s c.key ≡ Some c
        here c among = only-one c.key s.caps (keys-distinct T valid before was n) c among refl

    step-stays : (a : Act) → e.event.act ≡ a → revokes T s a ≡ true → Q (local_step T n s a (input_of W n a)).side
    unfolding local_step
    step-stays (Calls v) act loud = by (next_call T s v) loud
      where
        by : (o : Option Call) → option_map_or revokes_call o false ≡ true → Q (option_map_or (call_row T n (call_counted v s) v) o (unshown s)).side
        by None loud' = absurd cc
        by (Some c) loud' = call-stay s.caps T n v c (call_counted v s) loud' start-stay
    step-stays Handle act loud = by s.inbox refl loud
      where
        shown : (m : ℕ × Message) → s.inbox ≡ Some m → e.detail ≡ Carried m.0 m.1
        shown m full = shown-detail T W e told ∙ (ap (λ b. detail_of T s b (input_of W n b) (stepped T W e.event).outcome) act
            ∙ ap (λ o. option_map_or (λ (x : ℕ × Message). Carried x.0 x.1) o Nothing) full)

        by : (o : Option (ℕ × Message)) → s.inbox ≡ o → option_map_or (λ m. revokes_message m.1) o false ≡ true →
            Q (option_map_or (λ m. handled T n (with_inbox None s) m.0 m.1) o s)
        by None none loud' = absurd cc
        by (Some m) full loud' = message-stay s.caps T n m.0 m.1 (with_inbox None s) loud' (λ j is. other m.0 j (shown m full ∙ ap (Carried m.0) is)) start-stay
    step-stays (Kill v) act loud = ended-stay s.caps T n v s start-stay
    step-stays (Upcall v) act loud = absurd cc
    step-stays (Resume v) act loud = absurd cc
    step-stays (Fetch j) act loud = absurd cc
    step-stays (Flush j) act loud = absurd cc

  -- a marked key of the kernel is held on
  pub stays-held : (k : KeyName) → owner_of T k ≡ n → may_revoke e ≡ true → (c : Capability) (j : ℕ) → cap (side W (owner_of T k)) k ≡ Some c →
      c.mark ≡ Some j → (d : Capability) × (cap (side (world_after T (before ++ e ∷ [])) (owner_of T k)) k ≡ Some d) × IsAlike c d
  stays-held k home loud c j held marked =
      let was = (at T valid J runs before later e parts k).0 in
      let told = made-so T valid J runs before later e parts k in
      let V : World = world_after T (before ++ e ∷ []) in
      let here : cap s k ≡ Some c = ap (λ a. cap (side W a) k) (sym home) ∙ held in
      let of_c = found (λ (x : Capability). key_eq x.key k) s.caps c here in
      let S = step-stays was told e.event.act refl (sym (revoking-is T valid J runs before later e parts k) ∙ loud) in
      let d = S.there c of_c.0 j marked in
      let distinct = keys-distinct T valid (before ++ e ∷ []) (with-e T valid J runs before later e parts k) (owner_of T k) in
      let among : Contains (side V (owner_of T k)).caps d.0 =
      subst (λ (t : Side). Contains t.caps d.0) (sym (side-here T valid J runs before later e parts k (owner_of T k) home)) d.1 in
      (d.0, only-one k (side V (owner_of T k)).caps distinct d.0 among (d.2.kin.key ∙ key_eq-true c.key k of_c.1), d.2)

  -- so it stays where it is
  pub stayed : (k : KeyName) → owner_of T k ≡ n → may_revoke e ≡ true → (c : Capability) (j : ℕ) → cap (side W (owner_of T k)) k ≡ Some c → c.mark ≡ Some j →
      whereabouts T W k ≡ whereabouts T (world_after T (before ++ e ∷ [])) k
  stayed k home loud c j held marked =
      let d = stays-held k home loud c j held marked in
      held-same T valid J runs before later e parts k c d.0 held d.1 d.2.mark d.2.kin.selector
