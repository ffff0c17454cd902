-- A delegation comes to be pending with its DelegatePrepared, and stays so until its Ack is handled; the call that is ready to grant it acknowledges it when it
-- goes on or its VPE ends.
use Rattle.std.proofs.Common.{◌≡◌, ◌⊎◌, ℕ, Bool, true, false, not, List, [], ◌∷◌, ◌++◌, find, filter, Option, Some, None, slice_get, refl, sym, ap, ◌∙◌, subst}
use Rattle.std.proofs.Common.{inl, inr, eq-eqb}
use Rattle.std.specs.Prelude.{◌==◌}
use Rattle.std.specs.List.{Contains}
use Rattle.std.specs.Option.{option_map_or}
use Rattle.std.proofs.lemmas.Bool.{cases_Bool, cond_both, cond-true, cond-false, eqb-true, false_from_ne_true, true≢false, not-true}
use Rattle.std.proofs.lemmas.List.Elements.{Contains-append_left, Contains-append_right}
use Rattle.std.proofs.lemmas.Option.{same_Some}
use Rattle.sem_key.specs.declared.object.Object.{Object}
use Rattle.sem_key.specs.KeyName.{KeyName, key_eq}
use Rattle.sem_key.specs.PlaceName.{keyed}
use Rattle.sem_key.specs.Lists.{in_turn}
use Rattle.sem_key.specs.Capability.{Capability}
use Rattle.sem_key.proofs.KeyTests.{key_eq-true, key_eq-from}
use Rattle.sem_key.proofs.Members.{Contains-head, Contains-from_filter, found}
use Rattle.sem_msg.specs.declared.call.Call.{Call}
use Rattle.sem_msg.specs.declared.code.Code.{Code}
use Rattle.sem_msg.specs.declared.code.Code.TheVariants.{Dead}
use Rattle.sem_msg.specs.Codes.{code_number}
use Rattle.sem_msg.specs.declared.message.Message.{Message}
use Rattle.sem_msg.specs.declared.message.Message.TheVariants.{ObtainReq, ObtainOk, ObtainNo, DelegateReq, DelegatePrepared, DelegateNo, Ack, Orphan}
use Rattle.sem_msg.specs.declared.state.Ask.{Ask}
use Rattle.sem_msg.specs.declared.state.Ask.TheVariants.{Obtain as ObtainAsk, Delegate as DelegateAsk}
use Rattle.sem_msg.specs.declared.state.Parked.{Parked}
use Rattle.sem_msg.specs.declared.state.Parked.TheVariants.{ObtainWait, ObtainReady, ObtainCancelled, DelegateWait, DelegateReady, RevokeWait, Ready}
use Rattle.sem_msg.specs.declared.state.Pending.{Pending}
use Rattle.sem_msg.specs.Setup.{Setup}
use Rattle.sem_msg.specs.Lookups.{kernel_of, owner_of, place_owner}
use Rattle.sem_machine.specs.Sides.{Side, row, cap, parked, pending, is_alive, outbox, call_counted, drawn, promised, parked_as, unparked, ask_taken, buried}
use Rattle.sem_machine.specs.Sides.{linked, freed, send, with_inbox, pending_added, pending_removed}
use Rattle.sem_machine.specs.Steps.{Step, unshown}
use Rattle.sem_machine.specs.Asks.{target_vpe, asker, is_unawaited, promise_freed, call_refused, refusal_sent, ask_refused}
use Rattle.sem_machine.specs.Calls.{next_key, next_place, call_row}
use Rattle.sem_machine.specs.Upcalls.{given, given_kind, given_here, ask_decided, upcall_row}
use Rattle.sem_machine.specs.Handles.{acknowledged, handled}
use Rattle.sem_machine.specs.Resumes.{delegate_granted, delegate_resumed, resumed, resume_row}
use Rattle.sem_machine.specs.Machine.{local_step, next_call}
use Rattle.sem_msg.specs.declared.event.Act.{Act}
use Rattle.sem_msg.specs.declared.event.Act.TheVariants.{Call as Calls, Fetch, Handle, Upcall, Resume, Flush, Kill}
use Rattle.sem_machine.specs.Ends.{ask_ended, call_ended, keys_of_vpe, revoked_if_left, ended}
use Rattle.sem_machine.proofs.Folds.{in_turn-keeps, in_turn-keeps_each, option-keeps}
use Rattle.sem_safety.specs.Observations.{ObservedSide}
use Rattle.sem_safety.proofs.Updates.{seen-send}
use Rattle.sem_safety.proofs.Skeleton.{call_row-by, decided-by, handled-by}
use Rattle.sem_revoke.proofs.Steady.{IsSteady, rest-steady, revoked-steady, cleared-steady, requested-steady, done-steady, left_job-steady}
use Rattle.sem_revoke.proofs.Steady.{promise_freed-steady, obtain_ready-steady}
use Rattle.sem_revoke.proofs.Waits.{parked-other}

-- what waits to be sent goes on to wait when more is sent, and what is sent waits
pub outbox-sent : (t : Side) (j : ℕ) (m : Message) → Contains (outbox (send j m t) j) m
outbox-sent t j m = subst (λ xs. Contains xs m) (sym (ap (λ (z : ObservedSide). z.outbox j) (seen-send j m t)
    ∙ cond-true (j == j) (outbox t j ++ m ∷ []) (outbox t j) (eq-eqb j j refl))) (Contains-append_right (outbox t j) (m ∷ []) m (Contains-head m []))

pub outbox-more : (t : Side) (j k : ℕ) (m q : Message) → Contains (outbox t k) q → Contains (outbox (send j m t) k) q
outbox-more t j k m q among = elim (cases_Bool (k == j)) [
  | inl same ↦
      let is : k ≡ j = eqb-true k j same in
      subst (λ xs. Contains xs q) (sym (ap (λ (z : ObservedSide). z.outbox k) (seen-send j m t) ∙ cond-true (k == j) (outbox t j ++ m ∷ []) (outbox t k) same))
      (Contains-append_left (outbox t j) (m ∷ []) q (subst (λ n. Contains (outbox t n) q) is among))
  | inr other ↦ subst (λ xs. Contains xs q) (sym (ap (λ (z : ObservedSide). z.outbox k) (seen-send j m t)
      ∙ cond-false (k == j) (outbox t j ++ m ∷ []) (outbox t k) other)) among
]

-- what waits to be sent stays through revokes
pub waits-steady : (k : ℕ) (q : Message) → IsSteady (λ t. Contains (outbox t k) q)
waits-steady k q = record {
  caps = λ t cs thin is. is;
  restores = λ u t x was among keeps is. is;
  bound = λ t es is. is;
  jobs = λ t js less is. is;
  opens = λ t root up ws is. is;
  frees = λ t v sel is. is;
  wakes = λ t v is. is;
  sends = λ t j m loud is. outbox-more t j k m q is;
}

-- was is what was pending before the step
module _ (T : Setup) (k0 : KeyName) (was : Option Pending) where
  -- where the delegation is pending, it was so before, or its DelegatePrepared waits to be sent
  abbrev pub Prepared : Side → Type 0
  Prepared t = (p : Pending) → pending t k0 ≡ Some p → (was ≡ Some p) ⊎ Contains (outbox t (owner_of T p.parent)) (DelegatePrepared p.parent k0)

  prepared-send : (t : Side) (j : ℕ) (m : Message) → Prepared t → Prepared (send j m t)
  prepared-send t j m is = λ p there. elim (is p there) [
    | inl before ↦ inl before
    | inr out ↦ inr (outbox-more t j (owner_of T p.parent) m (DelegatePrepared p.parent k0) out)
  ]

  steady : IsSteady Prepared
  steady = record {
    caps = λ t cs thin is. is;
    restores = λ u t x was among keeps is. is;
    bound = λ t es is. is;
    jobs = λ t js less is. is;
    opens = λ t root up ws is. is;
    frees = λ t v sel is. is;
    wakes = λ t v is. is;
    sends = λ t j m loud is. prepared-send t j m is;
  }

  refused-prepared : (i : ℕ) (code : Code) (a : Ask) (t : Side) → Prepared t → Prepared (ask_refused T i code a t)
  refused-prepared i code a t is = cond_both (kernel_of T (asker a) == i) _ _ Prepared
      (λ _. promise_freed-steady Prepared steady t is (parked t (asker a)) (asker a)) (λ _. sends a)
    where
      sends : (b : Ask) → Prepared (refusal_sent T code b t)
      sends (ObtainAsk place target) = prepared-send t (place_owner T place) (ObtainNo place (code_number code)) is
      sends (DelegateAsk parent object sel) = prepared-send t (owner_of T parent) (DelegateNo parent (code_number code)) is

  ended-prepared : (i v : ℕ) (s : Side) → Prepared s → Prepared (ended T i v s)
  unfolding ended
  ended-prepared i v s is =
      let asks : List Ask = (row s v).asks in
      let answered : Side = in_turn (ask_ended T i) asks (buried v s) in
      let told : Prepared answered =
      in_turn-keeps Prepared (ask_ended T i) (λ a t here. cond_both (is_unawaited T i t a) t (ask_refused T i Dead a t) Prepared (λ _. here)
      (λ _. refused-prepared i Dead a t here)) asks (buried v s) is in
      let last : Side = call_ended T (parked answered v) v (unparked v answered) in
      in_turn-keeps Prepared (revoked_if_left T i) (λ k t here. rest-steady Prepared steady T i k t here) (keys_of_vpe last v) last
      (owes (parked answered v) (unparked v answered) told)
    where
      owes : (p : Option Parked) (t : Side) → Prepared t → Prepared (call_ended T p v t)
      owes None t here = here
      owes (Some (ObtainWait number sel)) t here = here
      owes (Some (ObtainReady key parent object sel)) t here = prepared-send t (owner_of T parent) (Orphan parent key) here
      owes (Some ObtainCancelled) t here = here
      owes (Some (DelegateWait parent)) t here = here
      owes (Some (DelegateReady parent key)) t here = prepared-send t (owner_of T key) (Ack key false) here
      owes (Some (RevokeWait j)) t here = left_job-steady Prepared steady j v t here
      owes (Some (Ready code)) t here = here

  call-prepared : (i w : ℕ) (c : Call) (s : Side) → Prepared s → Prepared (call_row T i s w c).side
  call-prepared i w c s is = call_row-by (λ (y : Step). Prepared y.side) T i w s (record {
    answered = λ code. is;
    child = λ src dst object p held. is;
    ask = λ dst target. let waiting : Side = parked_as w (ObtainWait (next_place T s w).number dst) (promised w dst (drawn w s)) in
        cond_both (kernel_of T (target_vpe target) == i) _ _ Prepared (λ _. is)
        (λ _. prepared-send waiting (kernel_of T (target_vpe target)) (ObtainReq (next_place T s w) target) is);
    offer = λ src u dst p held. let waiting : Side = parked_as w (DelegateWait p.key) s in
        cond_both (kernel_of T u == i) _ _ Prepared (λ _. is) (λ _. prepared-send waiting (kernel_of T u) (DelegateReq p.key p.object u dst) is);
    revoke = λ src c held. revoked-steady Prepared steady T i w c.key c.mark s (λ j. is);
    clear = λ src c held unmarked. cleared-steady Prepared steady T i w c.key s is;
    bound = λ ep src c held. is;
    rung = λ ep f. is;
    ends = ended-prepared i w s is;
  }) c

  -- one more is pending: it is that one, or was pending
  push-find : (xs : List Pending) (y p : Pending) → find (λ (z : Pending). key_eq z.key k0) (xs ++ y ∷ []) ≡ Some p →
      (find (λ (z : Pending). key_eq z.key k0) xs ≡ Some p) ⊎ ((y ≡ p) × (y.key ≡ k0))
  push-find [] y p some = elim (cases_Bool (key_eq y.key k0)) [
    | inl same ↦ inr (same_Some y p (sym (cond-true (key_eq y.key k0) (Some y) None same) ∙ some), key_eq-true y.key k0 same)
    | inr differ ↦ (let none : None ≡ Some p = sym (cond-false (key_eq y.key k0) (Some y) None differ) ∙ some in absurd cc)
  ]
  push-find (x ∷ xs) y p some = elim (cases_Bool (key_eq x.key k0)) [
    | inl same ↦ inl (cond-true (key_eq x.key k0) (Some x) (find (λ (z : Pending). key_eq z.key k0) xs) same
        ∙ (sym (cond-true (key_eq x.key k0) (Some x) (find (λ (z : Pending). key_eq z.key k0) (xs ++ y ∷ [])) same) ∙ some))
    | inr differ ↦ elim (push-find xs y p (sym (cond-false (key_eq x.key k0) (Some x) (find (λ (z : Pending). key_eq z.key k0) (xs ++ y ∷ [])) differ) ∙ some)) [
      | inl before ↦ inl (cond-false (key_eq x.key k0) (Some x) (find (λ (z : Pending). key_eq z.key k0) xs) differ ∙ before)
      | inr is ↦ inr is
    ]
  ]

  decided-prepared : (i w : ℕ) (a : Ask) (s : Side) → Prepared s → Prepared (ask_decided T i w a s).side
  decided-prepared i w a s is = decided-by (λ (y : Step). Prepared y.side) (λ n y here. here) (λ n y here. here) (λ n y here. here) T i w a s (record {
    nothing = is;
    refused = λ code. refused-prepared i code a s is;
    given = λ place target p of.
        let k : KeyName = keyed place (given_kind target p) in
        let linking : Side = linked p.key k s in
        cond_both (kernel_of T place.vpe == i) _ _ Prepared (λ _. here k p.key (given target place.vpe p) (parked linking place.vpe) linking is)
        (λ _. prepared-send linking (place_owner T place) (ObtainOk p.key k (given target place.vpe p)) is);
    here = λ parent object sel of. is;
    prepared = λ parent object sel of.
        let k : KeyName = next_key T s w parent.kind in
        let q : Pending = record { key = k; parent = parent; object = object; sel = sel } in
        let promising : Side = promised w sel (drawn w s) in
        λ p there. elim (push-find s.pendings q p there) [
          | inl before ↦ elim (is p before) [
            | inl early ↦ inl early
            | inr out ↦ inr (outbox-more (pending_added q promising) (owner_of T parent) (owner_of T p.parent) (DelegatePrepared parent k)
                (DelegatePrepared p.parent k0) out)
          ]
          | inr (same, key) ↦ inr
              (subst (λ (z : Pending). Contains (outbox (send (owner_of T parent) (DelegatePrepared parent k) (pending_added q promising))
              (owner_of T z.parent)) (DelegatePrepared z.parent k0)) same
              (subst (λ z. Contains (outbox (send (owner_of T parent) (DelegatePrepared parent k) (pending_added q promising)) (owner_of T parent))
              (DelegatePrepared parent z)) key (outbox-sent (pending_added q promising) (owner_of T parent) (DelegatePrepared parent k))))
        ];
  })
    where
      here : (k p : KeyName) (object : Object) (state : Option Parked) (t : Side) → Prepared t → Prepared (given_here k p object state t)
      here k p object None t is' = is'
      here k p object (Some (ObtainWait number sel)) t is' = is'
      here k p object (Some (ObtainReady key parent object' sel)) t is' = is'
      here k p object (Some ObtainCancelled) t is' = is'
      here k p object (Some (DelegateWait parent)) t is' = is'
      here k p object (Some (DelegateReady parent key)) t is' = is'
      here k p object (Some (RevokeWait j)) t is' = is'
      here k p object (Some (Ready code)) t is' = is'

  upcall-prepared : (i w : ℕ) (s : Side) → Prepared s → Prepared (upcall_row T i s w).side
  unfolding upcall_row
  upcall-prepared i w s is = option-keeps (λ (y : Step). Prepared y.side) (λ (q : Ask). ask_decided T i w q (ask_taken w s)) (slice_get (row s w).asks 0)
      (unshown s) (λ q there. decided-prepared i w q (ask_taken w s) is) is

  resume-prepared : (w : ℕ) (s : Side) → Prepared s → Prepared (resume_row T s w).side
  unfolding resume_row
  resume-prepared w s is = by (parked s w)
    where
      granted : (parent key : KeyName) (m : Option ℕ) → Prepared (delegate_granted T parent key m (unparked w s)).side
      granted parent key None = prepared-send (linked parent key (unparked w s)) (owner_of T key) (Ack key true) is
      granted parent key (Some j) = prepared-send (unparked w s) (owner_of T key) (Ack key false) is

      answered : (parent key : KeyName) (o : Option Capability) → Prepared (delegate_resumed T parent key o (unparked w s)).side
      answered parent key None = prepared-send (unparked w s) (owner_of T key) (Ack key false) is
      answered parent key (Some c) = granted parent key c.mark

      by : (p : Option Parked) → Prepared (resumed T p (unparked w s)).side
      by None = is
      by (Some (ObtainWait number sel)) = is
      by (Some (ObtainReady key parent object sel)) = is
      by (Some ObtainCancelled) = is
      by (Some (DelegateWait parent)) = is
      by (Some (DelegateReady parent key)) = answered parent key (cap (unparked w s) parent)
      by (Some (RevokeWait j)) = is
      by (Some (Ready code)) = is

  -- what is pending when another is no more was pending
  removed-find : (xs : List Pending) (k : KeyName) (p : Pending) → find (λ (z : Pending). key_eq z.key k0) (filter (λ (z : Pending). not (key_eq z.key k)) xs)
      ≡ Some p → (k ≡ k0 → ⊥) × (find (λ (z : Pending). key_eq z.key k0) xs ≡ Some p)
  removed-find xs k p some =
      let there = found (λ (z : Pending). key_eq z.key k0) (filter (λ (z : Pending). not (key_eq z.key k)) xs) p some in
      let kept = Contains-from_filter (λ (z : Pending). not (key_eq z.key k)) xs p there.0 in
      let key : p.key ≡ k0 = key_eq-true p.key k0 there.1 in
      let apart : k ≡ k0 → ⊥ = λ same. true≢false (sym (key_eq-from p.key k (key ∙ sym same)) ∙ not-true (key_eq p.key k) kept.1) in
      (apart, back xs apart some)
    where
      back : (ys : List Pending) → (k ≡ k0 → ⊥) → find (λ (z : Pending). key_eq z.key k0) (filter (λ (z : Pending). not (key_eq z.key k)) ys) ≡ Some p →
          find (λ (z : Pending). key_eq z.key k0) ys ≡ Some p
      back [] apart none = none
      back (y ∷ ys) apart some' = elim (cases_Bool (key_eq y.key k0)) [
        | inl same ↦
            let differs : key_eq y.key k ≡ false = false_from_ne_true (key_eq y.key k) (λ is. apart (sym (key_eq-true y.key k is)
            ∙ key_eq-true y.key k0 same)) in
            let first : filter (λ (z : Pending). not (key_eq z.key k)) (y ∷ ys) ≡ y ∷ filter (λ (z : Pending). not (key_eq z.key k)) ys =
            cond-true (not (key_eq y.key k)) (y ∷ filter (λ (z : Pending). not (key_eq z.key k)) ys) (filter (λ (z : Pending). not (key_eq z.key k)) ys)
            (ap not differs) in
            cond-true (key_eq y.key k0) (Some y) (find (λ (z : Pending). key_eq z.key k0) ys) same
            ∙ (sym (cond-true (key_eq y.key k0) (Some y) (find (λ (z : Pending). key_eq z.key k0) (filter (λ (z : Pending). not (key_eq z.key k)) ys)) same)
            ∙ (sym (ap (find (λ (z : Pending). key_eq z.key k0)) first) ∙ some'))
        | inr differ ↦ cond-false (key_eq y.key k0) (Some y) (find (λ (z : Pending). key_eq z.key k0) ys) differ
            ∙ back ys apart (elim (cases_Bool (not (key_eq y.key k))) [
              | inl keeps ↦ sym (cond-false (key_eq y.key k0) (Some y) (find (λ (z : Pending). key_eq z.key k0) (filter (λ (z : Pending). not (key_eq z.key k)) ys))
                  differ) ∙ (sym (ap (find (λ (z : Pending). key_eq z.key k0))
                  (cond-true (not (key_eq y.key k)) (y ∷ filter (λ (z : Pending). not (key_eq z.key k)) ys) (filter (λ (z : Pending). not (key_eq z.key k)) ys)
                  keeps)) ∙ some')
              | inr drops ↦ sym (ap (find (λ (z : Pending). key_eq z.key k0))
                  (cond-false (not (key_eq y.key k)) (y ∷ filter (λ (z : Pending). not (key_eq z.key k)) ys) (filter (λ (z : Pending). not (key_eq z.key k)) ys)
                  drops)) ∙ some'
            ])
      ]

  removed-prepared : (s : Side) (k : KeyName) → Prepared s → Prepared (pending_removed k s)
  removed-prepared s k is = λ p there. is p (removed-find s.pendings k p there).1

  -- after an Ack of the key the delegation is not pending
  pub acked-gone : (accepted : Bool) (s : Side) (p q : Pending) → pending (acknowledged T k0 accepted s p) k0 ≡ Some q → ⊥
  acked-gone true s p q = cond_both (is_alive s k0.vpe) _ _ (λ (t : Side). pending t k0 ≡ Some q →
      ⊥) (λ _ there. (removed-find s.pendings k0 q there).0 refl) (λ _ there. (removed-find s.pendings k0 q there).0 refl)
  acked-gone false s p q = λ there. (removed-find s.pendings k0 q there).0 refl

  handled-prepared : (i from : ℕ) (m : Message) (s : Side) → Prepared s → Prepared (handled T i s from m)
  handled-prepared i from m s is = handled-by Prepared T i s from m (record {
    same = is;
    asked_obtain = λ place target of. is;
    dead_obtain = λ place target of. refused-prepared i Dead (ObtainAsk place target) s is;
    asked_delegate = λ parent object vpe sel of. is;
    dead_delegate = λ parent object vpe sel of. refused-prepared i Dead (DelegateAsk parent object sel) s is;
    given = λ parent key object of. obtain_ready-steady Prepared steady parent key object s is (λ sel. is) (parked s key.vpe);
    orphaned = λ parent key object of. prepared-send s (owner_of T parent) (Orphan parent key) is;
    no_obtain = λ place code of. promise_freed-steady Prepared steady s is (parked s place.vpe) place.vpe;
    prepared = λ parent key of. is;
    given_up = λ parent key of. prepared-send s (owner_of T key) (Ack key false) is;
    no_delegate = λ parent code of. promise_freed-steady Prepared steady s is (parked s parent.vpe) parent.vpe;
    acked = λ key accepted p of there. acks key accepted p;
    unlinks = λ parent key. is;
    requests = λ key j of. requested-steady Prepared steady T i from j key (cap s key) s (λ u ready' same here. here) is;
    dones = λ j of. done-steady Prepared steady T i j s is;
  })
    where
      acks : (key : KeyName) (accepted : Bool) (p : Pending) → Prepared (acknowledged T key accepted s p)
      acks key true p = cond_both (is_alive s key.vpe) _ _ Prepared (λ _. removed-prepared s key is)
          (λ _. prepared-send (pending_removed key s) (owner_of T p.parent) (Orphan p.parent key) (removed-prepared s key is))
      acks key false p = removed-prepared s key is

  -- so it is after any step
  pub step-prepared : (i : ℕ) (s : Side) (a : Act) (input : Option Message) → pending s k0 ≡ was → Prepared (local_step T i s a input).side
  unfolding local_step
  step-prepared i s a input before = by a
    where
      base : Prepared s
      base = λ p there. inl (sym before ∙ there)

      by : (b : Act) → Prepared (local_step T i s b input).side
      by (Calls w) = option-keeps (λ (y : Step). Prepared y.side) (call_row T i (call_counted w s) w) (next_call T s w) (unshown s)
          (λ c there. call-prepared i w c (call_counted w s) base) base
      by (Fetch j) = base
      by (Flush j) = λ p there. inl (sym before ∙ there)
      by (Upcall w) = upcall-prepared i w s base
      by (Resume w) = resume-prepared w s base
      by (Kill w) = ended-prepared i w s base
      by Handle = handling s.inbox
        where
          handling : (o : Option (ℕ × Message)) → Prepared (option_map_or (λ m. handled T i (with_inbox None s) m.0 m.1) o s)
          handling None = base
          handling (Some (from, m)) = handled-prepared i from m (with_inbox None s) base

  -- The call that is ready to grant the delegation acknowledges it when it goes on, and with success if it grants it,
  abbrev pub Acks : KeyName → Step → Type 0
  Acks q x = (accepted : Bool) × Contains (outbox x.side (owner_of T k0)) (Ack k0 accepted)
      × (accepted ≡ true → ◌≡◌ {A = Option (KeyName × KeyName)} x.outcome.grant (Some (q, k0)))

  pub resumed-acks : (s : Side) (w : ℕ) (q : KeyName) → parked s w ≡ Some (DelegateReady q k0) → Acks q (resume_row T s w)
  unfolding resume_row
  resumed-acks s w q there = subst (λ p. Acks q (resumed T p (unparked w s))) (sym there) (by (cap (unparked w s) q))
    where
      granted : (m : Option ℕ) → Acks q (delegate_granted T q k0 m (unparked w s))
      granted None = (true, outbox-sent (linked q k0 (unparked w s)) (owner_of T k0) (Ack k0 true), λ yes'. refl)
      granted (Some j) = (false, outbox-sent (unparked w s) (owner_of T k0) (Ack k0 false), λ no'. absurd cc)

      by : (o : Option Capability) → Acks q (delegate_resumed T q k0 o (unparked w s))
      by None = (false, outbox-sent (unparked w s) (owner_of T k0) (Ack k0 false), λ no'. absurd cc)
      by (Some c) = granted c.mark

  -- and when its VPE ends, which asks itself nothing.
  pub ended-acks : (i : ℕ) (s : Side) (w : ℕ) (q : KeyName) → parked s w ≡ Some (DelegateReady q k0) →
      ((a : Ask) → Contains (row s w).asks a → asker a ≡ w → ⊥) → Contains (outbox (ended T i w s) (owner_of T k0)) (Ack k0 false)
  unfolding ended
  ended-acks i s w q there apart =
      let asks : List Ask = (row s w).asks in
      let answered : Side = in_turn (ask_ended T i) asks (buried w s) in
      let same : parked answered w ≡ Some (DelegateReady q k0) = in_turn-keeps_each (λ (t : Side). parked t w ≡ Some (DelegateReady q k0)) (ask_ended T i) asks
      (λ a among t here. other a t (apart a among) here) (buried w s) there in
      let last : Side = call_ended T (parked answered w) w (unparked w answered) in
      let acks : Contains (outbox last (owner_of T k0)) (Ack k0 false) =
      subst (λ p. Contains (outbox (call_ended T p w (unparked w answered)) (owner_of T k0)) (Ack k0 false)) (sym same)
      (outbox-sent (unparked w answered) (owner_of T k0) (Ack k0 false)) in
      in_turn-keeps (λ (t : Side). Contains (outbox t (owner_of T k0)) (Ack k0 false)) (revoked_if_left T i)
      (λ k t here. rest-steady (λ (u : Side). Contains (outbox u (owner_of T k0)) (Ack k0 false)) (waits-steady (owner_of T k0) (Ack k0 false)) T i k t
      here) (keys_of_vpe last w) last acks
    where
      other : (a : Ask) (t : Side) → (asker a ≡ w → ⊥) → parked t w ≡ Some (DelegateReady q k0) → parked (ask_ended T i a t) w ≡ Some (DelegateReady q k0)
      other a t away here = cond_both (is_unawaited T i t a) t (ask_refused T i Dead a t) (λ (u : Side). parked u w ≡ Some (DelegateReady q k0)) (λ _. here)
          (λ _. cond_both (kernel_of T (asker a) == i) (call_refused (code_number Dead) (asker a) t) (refusal_sent T Dead a t) (λ (u : Side). parked u w
          ≡ Some (DelegateReady q k0)) (λ _. free (parked t (asker a)) (asker a) away) (λ _. sends a))
        where
          free : (p : Option Parked) (n : ℕ) → (n ≡ w → ⊥) → parked (parked_as n (Ready (code_number Dead)) (promise_freed p n t)) w ≡ Some (DelegateReady q k0)
          free None n off = parked-other t n (Some (Ready (code_number Dead))) w (λ same. off (sym same)) ∙ here
          free (Some (ObtainWait number sel)) n off = parked-other (freed n sel t) n (Some (Ready (code_number Dead))) w (λ same. off (sym same)) ∙ here
          free (Some (ObtainReady key parent object sel)) n off = parked-other t n (Some (Ready (code_number Dead))) w (λ same. off (sym same)) ∙ here
          free (Some ObtainCancelled) n off = parked-other t n (Some (Ready (code_number Dead))) w (λ same. off (sym same)) ∙ here
          free (Some (DelegateWait parent)) n off = parked-other t n (Some (Ready (code_number Dead))) w (λ same. off (sym same)) ∙ here
          free (Some (DelegateReady parent key)) n off = parked-other t n (Some (Ready (code_number Dead))) w (λ same. off (sym same)) ∙ here
          free (Some (RevokeWait j)) n off = parked-other t n (Some (Ready (code_number Dead))) w (λ same. off (sym same)) ∙ here
          free (Some (Ready number)) n off = parked-other t n (Some (Ready (code_number Dead))) w (λ same. off (sym same)) ∙ here

          sends : (b : Ask) → parked (refusal_sent T Dead b t) w ≡ Some (DelegateReady q k0)
          sends (ObtainAsk place target) = here
          sends (DelegateAsk parent object sel) = here
