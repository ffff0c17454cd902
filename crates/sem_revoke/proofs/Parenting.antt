-- A held capability has the parent that its grant tells: so it is of what is on its way to be held, and of all that is installed.
use Rattle.std.proofs.Common.{◌≡◌, ℕ, ◌+◌, ◌≤◌, Bool, true, false, not, ◌&&◌, List, [], ◌∷◌, filter, Option, Some, None, slice_get, refl, sym, ap, ◌∙◌, subst}
use Rattle.std.proofs.Common.{inl, inr, arith}
use Rattle.std.specs.Prelude.{◌==◌, if◌then◌else◌}
use Rattle.std.specs.List.{Contains}
use Rattle.std.specs.Option.{option_map_or}
use Rattle.std.proofs.lemmas.Bool.{cases_eq, cond_both, and_parts, and_from}
use Rattle.std.proofs.lemmas.List.Elements.{Contains-append_cases}
use Rattle.std.proofs.lemmas.Option.{same_Some}
use Rattle.sem_key.specs.declared.object.Object.{Object}
use Rattle.sem_key.specs.ObjectRanges.{object_kind}
use Rattle.sem_key.specs.KeyName.{KeyName, key_eq, key_lt}
use Rattle.sem_key.specs.PlaceName.{PlaceName, keyed}
use Rattle.sem_key.specs.Lists.{put, in_turn}
use Rattle.sem_key.specs.Capability.{Capability}
use Rattle.sem_key.specs.CapList.{fresh}
use Rattle.sem_key.specs.KeyList.{with_key}
use Rattle.sem_key.proofs.KeyTests.{key_eq-true, key_eq-same}
use Rattle.sem_key.proofs.Members.{Contains-cons_cases, Contains-from_filter, Contains-from_map}
use Rattle.sem_msg.specs.declared.code.Code.{Code}
use Rattle.sem_msg.specs.declared.code.Code.TheVariants.{Ok as OkCode, Dead}
use Rattle.sem_msg.specs.Codes.{code_number}
use Rattle.sem_msg.specs.declared.call.Call.{Call}
use Rattle.sem_msg.specs.declared.event.Act.{Act}
use Rattle.sem_msg.specs.declared.event.Act.TheVariants.{Call as Calls, Fetch, Handle, Upcall, Resume, Flush, Kill}
use Rattle.sem_msg.specs.declared.message.Message.{Message}
use Rattle.sem_msg.specs.declared.message.Message.TheVariants.{ObtainReq, ObtainOk, ObtainNo, DelegateReq, DelegatePrepared, DelegateNo, Ack, Orphan, RevokeReq}
use Rattle.sem_msg.specs.declared.message.Message.TheVariants.{RevokeDone, Unlink}
use Rattle.sem_msg.specs.declared.state.Ask.{Ask}
use Rattle.sem_msg.specs.declared.state.Ask.TheVariants.{Obtain as ObtainAsk, Delegate as DelegateAsk}
use Rattle.sem_msg.specs.declared.state.Parked.{Parked}
use Rattle.sem_msg.specs.declared.state.Parked.TheVariants.{ObtainWait, ObtainReady, ObtainCancelled, DelegateWait, DelegateReady, RevokeWait, Ready}
use Rattle.sem_msg.specs.declared.state.Pending.{Pending}
use Rattle.sem_msg.specs.Setup.{Setup}
use Rattle.sem_msg.specs.Lookups.{kernel_of, owner_of, place_owner}
use Rattle.sem_machine.specs.Sides.{Side, row, cap, parked, pending, is_alive, call_counted, drawn, promised, parked_as, unparked, asked, ask_taken, buried}
use Rattle.sem_machine.specs.Sides.{linked, installed, freed, send, with_inbox, pending_added, pending_removed}
use Rattle.sem_machine.specs.Steps.{Step, unshown}
use Rattle.sem_machine.specs.Asks.{target_vpe, asker, is_unawaited, promise_freed, refusal_sent, ask_refused}
use Rattle.sem_machine.specs.Calls.{next_key, next_place, call_row}
use Rattle.sem_machine.specs.Upcalls.{given, given_kind, given_here, ask_decided, upcall_row}
use Rattle.sem_machine.specs.Handles.{obtain_ready, acknowledged, handled}
use Rattle.sem_machine.specs.Resumes.{delegate_granted, delegate_resumed, resumed, resume_row}
use Rattle.sem_machine.specs.Ends.{ask_ended, call_ended, keys_of_vpe, revoked_if_left, ended}
use Rattle.sem_machine.specs.Machine.{local_step, next_call}
use Rattle.sem_machine.proofs.Folds.{in_turn-keeps, option-keeps}
use Rattle.sem_safety.proofs.Skeleton.{call_row-by, decided-by, handled-by}
use Rattle.sem_revoke.specs.Scales.{Scale, bit, sum_from, of_messages, of_inbox}
use Rattle.sem_revoke.proofs.Growing.{is_plain}
use Rattle.sem_revoke.proofs.Moving.{Moves}
use Rattle.sem_revoke.proofs.Scaling.{side-send}
use Rattle.sem_revoke.proofs.Steady.{IsSteady, rest-steady, revoked-steady, cleared-steady, requested-steady, done-steady, left_job-steady, unlinked-steady}
use Rattle.sem_revoke.proofs.Steady.{promise_freed-steady}
use Rattle.sem_revoke.proofs.Viewing.{one-true, one-more}
use Rattle.sem_revoke.proofs.Waits.{parked-here, parked-other}
use Rattle.sem_msg.specs.Rows.{VpeRow}

-- an ObtainOk of that key below that parent
abbrev pub giving_message : KeyName → KeyName → Message → ℕ
giving_message p k (ObtainOk parent key object) = bit (key_eq parent p && key_eq key k)
giving_message p k (ObtainReq place target) = 0
giving_message p k (ObtainNo place code) = 0
giving_message p k (DelegateReq parent object vpe sel) = 0
giving_message p k (DelegatePrepared parent key) = 0
giving_message p k (DelegateNo parent code) = 0
giving_message p k (Ack key accepted) = 0
giving_message p k (Orphan parent key) = 0
giving_message p k (RevokeReq key job) = 0
giving_message p k (RevokeDone job) = 0
giving_message p k (Unlink parent key) = 0

abbrev pub giving : KeyName → KeyName → Scale
giving p k = record { message = λ from to m. giving_message p k m; job = λ i x. 0 }

loud-none : (p k : KeyName) (m : Message) → is_plain m ≡ false → giving_message p k m ≡ 0
loud-none p k (ObtainReq place target) none = refl
loud-none p k (ObtainOk parent key object) none = absurd cc
loud-none p k (ObtainNo place code) none = refl
loud-none p k (DelegateReq parent object vpe sel) none = refl
loud-none p k (DelegatePrepared parent key) none = refl
loud-none p k (DelegateNo parent code) none = refl
loud-none p k (Ack key accepted) none = refl
loud-none p k (Orphan parent key) none = refl
loud-none p k (RevokeReq key job) none = refl
loud-none p k (RevokeDone job) none = refl
loud-none p k (Unlink parent key) none = refl

-- G tells which key was granted below which, R which is the key of a root
module _ (T : Setup) (i : ℕ) (G : KeyName → KeyName → Type 0) (R : KeyName → Type 0) where
  abbrev pub IsRight : Option KeyName → KeyName → Type 0
  IsRight None k = R k
  IsRight (Some p) k = G p k

  pub record Parented (t : Side) : Type 0 where
    pub caps : (c : Capability) → Contains t.caps c → IsRight c.parent c.key
    pub calls : (w : ℕ) (k p : KeyName) (o : Object) (sel : ℕ) → parked t w ≡ Some (ObtainReady k p o sel) → G p k
    pub gives : (p k : KeyName) → 1 ≤ of_inbox (giving p k) i t.inbox + sum_from (of_messages (giving p k) i) 0 t.outs → G p k

  sent-parented : (t : Side) (j : ℕ) (m : Message) → ((p k : KeyName) → 1 ≤ giving_message p k m → G p k) → Parented t → Parented (send j m t)
  sent-parented t j m gives is = record {
    caps = is.caps;
    calls = is.calls;
    gives = λ p k some. elim (cases_eq (giving_message p k m) 0) [
      | inl none ↦ (let sum = side-send (giving p k) i t j m in is.gives p k (omega (arith, sum, none, some)))
      | inr more ↦ gives p k (omega (arith, more))
    ];
  }

  quiet-parented : (t : Side) (j : ℕ) (m : Message) → ((p k : KeyName) → giving_message p k m ≡ 0) → Parented t → Parented (send j m t)
  quiet-parented t j m none is = sent-parented t j m (λ p k some. let zero' = none p k in absurd (omega (arith, zero', some))) is

  parked-parented : (t : Side) (w : ℕ) (q : Option Parked) → ((k p : KeyName) (o : Object) (sel : ℕ) → q ≡ Some (ObtainReady k p o sel) → G p k) → Parented t →
      Parented (record t { parks = put None t.parks w q })
  parked-parented t w q so is = record {
    caps = is.caps;
    calls = λ v k p o sel there. elim (cases_eq v w) [
      | inl same ↦ so k p o sel (sym (ap (parked (record t { parks = put None t.parks w q })) same ∙ parked-here t w q) ∙ there)
      | inr other ↦ is.calls v k p o sel (sym (parked-other t w q v other) ∙ there)
    ];
    gives = is.gives;
  }

  vpes-parented : (t : Side) (vs : List VpeRow) → Parented t → Parented (record t { vpes = vs })
  vpes-parented t vs is = record { caps = is.caps; calls = is.calls; gives = is.gives }

  pub steady : IsSteady Parented
  steady = record {
    caps = λ t cs thin is. record {
      caps = λ c among. let d = thin c among in subst (IsRight c.parent) (sym d.2.key) (subst (λ q. IsRight q d.0.key) (sym d.2.parent) (is.caps d.0 d.1));
      calls = is.calls;
      gives = is.gives;
    };
    restores = λ u t x was among keeps is. record {
      caps = λ c there.
          let f : Capability → Capability = λ d. record d { children = []; mark = None } in
          let d = Contains-from_map (λ (y : Capability). if key_eq y.key x.root then f y else y) t.caps c there in
          let same : ((if key_eq d.0.key x.root then f d.0 else d.0).key ≡ d.0.key) × ((if key_eq d.0.key x.root then f d.0 else d.0).parent ≡ d.0.parent) =
          cond_both (key_eq d.0.key x.root) (f d.0) d.0 (λ (y : Capability). (y.key ≡ d.0.key) × (y.parent ≡ d.0.parent)) (λ _. (refl, refl))
          (λ _. (refl, refl)) in
          subst (λ (y : Capability). IsRight y.parent y.key) d.2 (subst (IsRight (if key_eq d.0.key x.root then f d.0 else d.0).parent) (sym same.0)
          (subst (λ q. IsRight q d.0.key) (sym same.1) (is.caps d.0 d.1)));
      calls = is.calls;
      gives = is.gives;
    };
    bound = λ t es is. record { caps = is.caps; calls = is.calls; gives = is.gives };
    jobs = λ t js less is. record { caps = is.caps; calls = is.calls; gives = is.gives };
    opens = λ t root up ws is. record { caps = is.caps; calls = is.calls; gives = is.gives };
    frees = λ t v sel is. vpes-parented t (freed v sel t).vpes is;
    wakes = λ t v is. parked-parented t v (Some (Ready (code_number OkCode))) (λ k p o sel no'. absurd cc) is;
    sends = λ t j m loud is. quiet-parented t j m (λ p k. loud-none p k m loud) is;
  }

  installed-parented : (t : Side) (k : KeyName) (parent : Option KeyName) (sel : ℕ) (object : Object) → IsRight parent k → Parented t →
      Parented (installed k parent sel object t)
  installed-parented t k parent sel object right is = record {
    caps = λ c among. elim (Contains-append_cases (filter (λ x. key_lt x.key k) t.caps) (fresh k parent sel object ∷ filter (λ x. not (key_lt x.key k)) t.caps)
        c among) [
          | inl before ↦ is.caps c (Contains-from_filter (λ (x : Capability). key_lt x.key k) t.caps c before).0
          | inr rest ↦ elim (Contains-cons_cases (fresh k parent sel object) (filter (λ x. not (key_lt x.key k)) t.caps) c rest) [
            | inl same ↦ subst (λ (y : Capability). IsRight y.parent y.key) same right
            | inr after ↦ is.caps c (Contains-from_filter (λ (x : Capability). not (key_lt x.key k)) t.caps c after).0
          ]
        ];
    calls = is.calls;
    gives = is.gives;
  }

  linked-parented : (t : Side) (p k : KeyName) → Parented t → Parented (linked p k t)
  linked-parented t p k is = record {
    caps = λ c among.
        let f : Capability → Capability = λ d. record d { children = with_key d.children k } in
        let d = Contains-from_map (λ (y : Capability). if key_eq y.key p then f y else y) t.caps c among in
        let same : ((if key_eq d.0.key p then f d.0 else d.0).key ≡ d.0.key) × ((if key_eq d.0.key p then f d.0 else d.0).parent ≡ d.0.parent) =
        cond_both (key_eq d.0.key p) (f d.0) d.0 (λ (y : Capability). (y.key ≡ d.0.key) × (y.parent ≡ d.0.parent)) (λ _. (refl, refl))
        (λ _. (refl, refl)) in
        subst (λ (y : Capability). IsRight y.parent y.key) d.2 (subst (IsRight (if key_eq d.0.key p then f d.0 else d.0).parent) (sym same.0)
        (subst (λ q. IsRight q d.0.key) (sym same.1) (is.caps d.0 d.1)));
    calls = is.calls;
    gives = is.gives;
  }

  refused-parented : (code : Code) (a : Ask) (t : Side) → Parented t → Parented (ask_refused T i code a t)
  refused-parented code a t is =
      cond_both (kernel_of T (asker a) == i) _ _ Parented (λ _. parked-parented (promise_freed (parked t (asker a)) (asker a) t) (asker a)
      (Some (Ready (code_number code))) (λ k p o sel no'. absurd cc) (promise_freed-steady Parented steady t is (parked t (asker a)) (asker a))) (λ _. sends a)
    where
      sends : (b : Ask) → Parented (refusal_sent T code b t)
      sends (ObtainAsk place target) = quiet-parented t (place_owner T place) (ObtainNo place (code_number code)) (λ p k. refl) is
      sends (DelegateAsk parent object sel) = quiet-parented t (owner_of T parent) (DelegateNo parent (code_number code)) (λ p k. refl) is

  ended-parented : (v : ℕ) (s : Side) → Parented s → Parented (ended T i v s)
  unfolding ended
  ended-parented v s is =
      let asks : List Ask = (row s v).asks in
      let answered : Side = in_turn (ask_ended T i) asks (buried v s) in
      let told : Parented answered =
      in_turn-keeps Parented (ask_ended T i) (λ a t here. cond_both (is_unawaited T i t a) t (ask_refused T i Dead a t) Parented (λ _. here)
      (λ _. refused-parented Dead a t here)) asks (buried v s) (vpes-parented s (buried v s).vpes is) in
      let last : Side = call_ended T (parked answered v) v (unparked v answered) in
      in_turn-keeps Parented (revoked_if_left T i) (λ k t here. rest-steady Parented steady T i k t here) (keys_of_vpe last v) last
      (owes (parked answered v) (unparked v answered) (parked-parented answered v None (λ k p o sel no'. absurd cc) told))
    where
      owes : (p : Option Parked) (t : Side) → Parented t → Parented (call_ended T p v t)
      owes None t here = here
      owes (Some (ObtainWait number sel)) t here = here
      owes (Some (ObtainReady key parent object sel)) t here = quiet-parented t (owner_of T parent) (Orphan parent key) (λ p k. refl) here
      owes (Some ObtainCancelled) t here = here
      owes (Some (DelegateWait parent)) t here = here
      owes (Some (DelegateReady parent key)) t here = quiet-parented t (owner_of T key) (Ack key false) (λ p k. refl) here
      owes (Some (RevokeWait j)) t here = left_job-steady Parented steady j v t here
      owes (Some (Ready code)) t here = here

  -- Steps, whose grants are right.
  abbrev pub Grants : Step → Type 0
  Grants x = (p k : KeyName) → ◌≡◌ {A = Option (KeyName × KeyName)} x.outcome.grant (Some (p, k)) → G p k

  abbrev Q : Step → Type 0
  Q x = Grants x → Parented x.side

  call-parented : (w : ℕ) (c : Call) (s : Side) → Parented s → Q (call_row T i s w c)
  call-parented w c s is = call_row-by Q T i w s (record {
    answered = λ code told. is;
    child = λ src dst object p held told.
        let k : KeyName = next_key T s w (object_kind object) in
        installed-parented (linked p.key k (drawn w s)) k (Some p.key) dst object (told p.key k refl)
        (linked-parented (drawn w s) p.key k (vpes-parented s (drawn w s).vpes is));
    ask = λ dst target told.
        let place : PlaceName = next_place T s w in
        let promising : Side = promised w dst (drawn w s) in
        let waiting : Side = parked_as w (ObtainWait place.number dst) promising in
        let waits : Parented waiting = parked-parented promising w (Some (ObtainWait place.number dst)) (λ k p o sel no'. absurd cc)
        (vpes-parented s promising.vpes is) in
        cond_both (kernel_of T (target_vpe target) == i) _ _ Parented
        (λ _. vpes-parented waiting (asked (target_vpe target) (ObtainAsk place target) waiting).vpes waits)
        (λ _. quiet-parented waiting (kernel_of T (target_vpe target)) (ObtainReq place target) (λ p k. refl) waits);
    offer = λ src u dst p held told.
        let waiting : Side = parked_as w (DelegateWait p.key) s in
        let waits : Parented waiting = parked-parented s w (Some (DelegateWait p.key)) (λ k q o sel no'. absurd cc) is in
        cond_both (kernel_of T u == i) _ _ Parented (λ _. vpes-parented waiting (asked u (DelegateAsk p.key p.object dst) waiting).vpes waits)
        (λ _. quiet-parented waiting (kernel_of T u) (DelegateReq p.key p.object u dst) (λ q k. refl) waits);
    revoke = λ src c held told. revoked-steady Parented steady T i w c.key c.mark s
        (λ j. parked-parented s w (Some (RevokeWait j)) (λ k p o sel no'. absurd cc) is);
    clear = λ src c held unmarked told. cleared-steady Parented steady T i w c.key s (let waits =
        parked-parented s w (Some (RevokeWait s.next_job)) (λ k p o sel no'. absurd cc) is in
        record { caps = waits.caps; calls = waits.calls; gives = waits.gives });
    bound = λ ep src c held told. record { caps = is.caps; calls = is.calls; gives = is.gives };
    rung = λ ep f told. record { caps = is.caps; calls = is.calls; gives = is.gives };
    ends = λ told. ended-parented w s is;
  }) c

  decided-parented : (w : ℕ) (a : Ask) (s : Side) → Parented s → Q (ask_decided T i w a s)
  decided-parented w a s is = decided-by Q (λ n y here. here) (λ n y here. here) (λ n y here. here) T i w a s (record {
    nothing = λ told. is;
    refused = λ code told. refused-parented code a s is;
    given = λ place target p of told.
        let k : KeyName = keyed place (given_kind target p) in
        let object : Object = given target place.vpe p in
        let linking : Side = linked p.key k s in
        let links : Parented linking = linked-parented s p.key k is in
        let right : G p.key k = told p.key k refl in
        cond_both (kernel_of T place.vpe == i) _ _ Parented (λ _. here k p.key object right (parked linking place.vpe) linking links)
        (λ _. sent-parented linking (place_owner T place) (ObtainOk p.key k object) (λ q r some. let pass =
        and_parts (key_eq p.key q) (key_eq k r) (one-more (key_eq p.key q && key_eq k r) some) in
        subst (λ z. G z r) (key_eq-true p.key q pass.0) (subst (G p.key) (key_eq-true k r pass.1) right)) links);
    here = λ parent object sel of told.
        let k : KeyName = next_key T s w parent.kind in
        let t : Side = installed k (Some parent) sel object (linked parent k (drawn w s)) in
        parked-parented t parent.vpe (Some (Ready (code_number OkCode))) (λ q p o n no'. absurd cc)
        (installed-parented (linked parent k (drawn w s)) k (Some parent) sel object (told parent k refl)
        (linked-parented (drawn w s) parent k (vpes-parented s (drawn w s).vpes is)));
    prepared = λ parent object sel of told.
        let k : KeyName = next_key T s w parent.kind in
        let preparing : Side = pending_added (record { key = k; parent = parent; object = object; sel = sel }) (promised w sel (drawn w s)) in
        quiet-parented preparing (owner_of T parent) (DelegatePrepared parent k) (λ p q. refl) (record { caps = is.caps; calls = is.calls; gives = is.gives });
  })
    where
      here : (k p : KeyName) (object : Object) → G p k → (state : Option Parked) (t : Side) → Parented t → Parented (given_here k p object state t)
      here k p object right (Some (ObtainWait number sel)) t is' = parked-parented (installed k (Some p) sel object t) k.vpe (Some (Ready (code_number OkCode)))
          (λ q r o n no'. absurd cc) (installed-parented t k (Some p) sel object right is')
      here k p object right None t is' = is'
      here k p object right (Some (ObtainReady key parent object' sel)) t is' = is'
      here k p object right (Some ObtainCancelled) t is' = is'
      here k p object right (Some (DelegateWait parent)) t is' = is'
      here k p object right (Some (DelegateReady parent key)) t is' = is'
      here k p object right (Some (RevokeWait j)) t is' = is'
      here k p object right (Some (Ready code)) t is' = is'

  upcall-parented : (w : ℕ) (s : Side) → Parented s → Q (upcall_row T i s w)
  unfolding upcall_row
  upcall-parented w s is = option-keeps Q (λ (a : Ask). ask_decided T i w a (ask_taken w s)) (slice_get (row s w).asks 0) (unshown s)
      (λ a there. decided-parented w a (ask_taken w s) (vpes-parented s (ask_taken w s).vpes is)) (λ told. is)

  resume-parented : (w : ℕ) (s : Side) → Parented s → Parented (resume_row T s w).side
  unfolding resume_row
  resume-parented w s is = by (parked s w) refl
    where
      t : Side
      t = unparked w s

      gone : Parented (unparked w s)
      gone = parked-parented s w None (λ k p o sel no'. absurd cc) is

      granted : (parent key : KeyName) (m : Option ℕ) → Parented (delegate_granted T parent key m (unparked w s)).side
      granted parent key None = quiet-parented (linked parent key (unparked w s)) (owner_of T key) (Ack key true) (λ p k. refl)
          (linked-parented (unparked w s) parent key gone)
      granted parent key (Some j) = quiet-parented (unparked w s) (owner_of T key) (Ack key false) (λ p k. refl) gone

      answered : (parent key : KeyName) (o : Option Capability) → Parented (delegate_resumed T parent key o (unparked w s)).side
      answered parent key None = quiet-parented (unparked w s) (owner_of T key) (Ack key false) (λ p k. refl) gone
      answered parent key (Some c) = granted parent key c.mark

      by : (p : Option Parked) → parked s w ≡ p → Parented (resumed T p (unparked w s)).side
      by None at = gone
      by (Some (ObtainWait number sel)) at = gone
      by (Some (ObtainReady key parent object sel)) at =
          installed-parented (unparked w s) key (Some parent) sel object (is.calls w key parent object sel at) gone
      by (Some ObtainCancelled) at = gone
      by (Some (DelegateWait parent)) at = gone
      by (Some (DelegateReady parent key)) at = answered parent key (cap (unparked w s) parent)
      by (Some (RevokeWait j)) at = gone
      by (Some (Ready code)) at = gone

  handled-parented : (from : ℕ) (m : Message) (s : Side) → ((parent key : KeyName) (object : Object) → m ≡ ObtainOk parent key object → G parent key) →
      ((key : KeyName) (p : Pending) → m ≡ Ack key true → pending s key ≡ Some p → G p.parent key) → Parented s → Parented (handled T i s from m)
  handled-parented from m s gives acks is = handled-by Parented T i s from m (record {
    same = is;
    asked_obtain = λ place target of. vpes-parented s (asked (target_vpe target) (ObtainAsk place target) s).vpes is;
    dead_obtain = λ place target of. refused-parented Dead (ObtainAsk place target) s is;
    asked_delegate = λ parent object vpe sel of. vpes-parented s (asked vpe (DelegateAsk parent object sel) s).vpes is;
    dead_delegate = λ parent object vpe sel of. refused-parented Dead (DelegateAsk parent object sel) s is;
    given = λ parent key object of. ready parent key object (gives parent key object of) (parked s key.vpe);
    orphaned = λ parent key object of. quiet-parented s (owner_of T parent) (Orphan parent key) (λ p k. refl) is;
    no_obtain = λ place code of. parked-parented (promise_freed (parked s place.vpe) place.vpe s) place.vpe (Some (Ready code)) (λ k p o sel no'. absurd cc)
        (promise_freed-steady Parented steady s is (parked s place.vpe) place.vpe);
    prepared = λ parent key of. parked-parented s parent.vpe (Some (DelegateReady parent key)) (λ k p o sel no'. absurd cc) is;
    given_up = λ parent key of. quiet-parented s (owner_of T key) (Ack key false) (λ p k. refl) is;
    no_delegate = λ parent code of. parked-parented (promise_freed (parked s parent.vpe) parent.vpe s) parent.vpe (Some (Ready code))
        (λ k p o sel no'. absurd cc) (promise_freed-steady Parented steady s is (parked s parent.vpe) parent.vpe);
    acked = λ key accepted p of there. acked key accepted p of there;
    unlinks = λ parent key. unlinked-steady Parented steady parent key s is;
    requests = λ key j of. requested-steady Parented steady T i from j key (cap s key) s
        (λ u ready' same here. parked-parented u key.vpe (Some ObtainCancelled) (λ k p o sel no'. absurd cc) here) is;
    dones = λ j of. done-steady Parented steady T i j s is;
  })
    where
      ready : (parent key : KeyName) (object : Object) → G parent key → (p : Option Parked) → Parented (obtain_ready parent key object p s)
      ready parent key object right (Some (ObtainWait number sel)) =
          parked-parented s key.vpe (Some (ObtainReady key parent object sel))
          (λ k p o n same. subst (λ (q : Parked). Below q) (same_Some (ObtainReady key parent object sel) (ObtainReady k p o n) same) right) is
        where
          Below : Parked → Type 0
          Below (ObtainReady k p o n) = G p k
          Below (ObtainWait number n) = Unit {0}
          Below ObtainCancelled = Unit {0}
          Below (DelegateWait p) = Unit {0}
          Below (DelegateReady p k) = Unit {0}
          Below (RevokeWait j) = Unit {0}
          Below (Ready code) = Unit {0}
      ready parent key object right None = is
      ready parent key object right (Some (ObtainReady key' parent' object' sel)) = is
      ready parent key object right (Some ObtainCancelled) = is
      ready parent key object right (Some (DelegateWait parent')) = is
      ready parent key object right (Some (DelegateReady parent' key')) = is
      ready parent key object right (Some (RevokeWait j)) = is
      ready parent key object right (Some (Ready code)) = is

      removed : (key : KeyName) → Parented (pending_removed key s)
      removed key = record { caps = is.caps; calls = is.calls; gives = is.gives }

      acked : (key : KeyName) (accepted : Bool) (p : Pending) → m ≡ Ack key accepted → pending s key ≡ Some p → Parented (acknowledged T key accepted s p)
      acked key true p of there =
          cond_both (is_alive s key.vpe) _ _ Parented (λ _. installed-parented (pending_removed key s) key (Some p.parent) p.sel p.object (acks key p of there)
          (removed key)) (λ _. quiet-parented (pending_removed key s) (owner_of T p.parent) (Orphan p.parent key) (λ q k. refl) (removed key))
      acked key false p of there = vpes-parented (pending_removed key s) (freed key.vpe p.sel (pending_removed key s)).vpes (removed key)

  pub step-parented : (s : Side) (a : Act) (input : Option Message) → (Moves a → ⊥) → Parented s
      → ((from : ℕ) (key : KeyName) (p : Pending) → s.inbox ≡ Some (from, Ack key true) → pending s key ≡ Some p → G p.parent key)
      → Grants (local_step T i s a input) → Parented (local_step T i s a input).side
  unfolding local_step
  step-parented s a input still is acks told = by a still told
    where
      by : (b : Act) → (Moves b → ⊥) → Grants (local_step T i s b input) → Parented (local_step T i s b input).side
      by (Calls w) still told = option-keeps Q (call_row T i (call_counted w s) w) (next_call T s w) (unshown s)
          (λ c there. call-parented w c (call_counted w s) (vpes-parented s (call_counted w s).vpes is)) (λ told'. is) told
      by (Upcall w) still told = upcall-parented w s is told
      by (Resume w) still told = resume-parented w s is
      by (Kill w) still told = ended-parented w s is
      by (Fetch j) still told = absurd (still tt)
      by (Flush j) still told = absurd (still tt)
      by Handle still told = handling s.inbox refl
        where
          handling : (o : Option (ℕ × Message)) → s.inbox ≡ o → Parented (option_map_or (λ m. handled T i (with_inbox None s) m.0 m.1) o s)
          handling None none = is
          handling (Some (from, m)) full = handled-parented from m (with_inbox None s)
              (λ parent key object of.
              let weight : of_inbox (giving parent key) i s.inbox ≡ 1 = ap (of_inbox (giving parent key) i) full
              ∙ (ap (giving_message parent key) of
              ∙ one-true (key_eq parent parent && key_eq key key) (and_from (key_eq parent parent) (key_eq key key) (key_eq-same parent) (key_eq-same key)))
              in
              is.gives parent key (omega (arith, weight)))
              (λ key p of there. acks from key p (full ∙ ap (λ z. Some (from, z)) of) there)
              (record { caps = is.caps; calls = is.calls; gives = λ p k some. is.gives p k (omega (arith, some)) })
