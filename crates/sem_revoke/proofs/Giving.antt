-- The object of what a step grants, and that it grants no more than the parent's.
use Rattle.std.proofs.Common.{◌≡◌, ℕ, ◌++◌, true, false, Option, Some, None, is_none, slice_get, refl, sym, ◌∙◌, ap, subst}
use Rattle.std.specs.Prelude.{◌==◌}
use Rattle.std.specs.Option.{option_map_or, option_and_then}
use Rattle.std.proofs.lemmas.Bool.{cond_both}
use Rattle.std.proofs.lemmas.Option.{same_Some}
use Rattle.sem_key.specs.declared.key.Kind.{Kind}
use Rattle.sem_key.specs.declared.key.Kind.TheVariants.{Serv as ServKind}
use Rattle.sem_key.specs.declared.object.Object.{Object}
use Rattle.sem_key.specs.declared.object.Object.TheVariants.{Recv, Send}
use Rattle.sem_key.specs.KeyName.{KeyName, key_eq, kind_number}
use Rattle.sem_key.specs.ObjectRanges.{IsValidObject, object_kind, narrows}
use Rattle.sem_key.specs.PlaceName.{PlaceName}
use Rattle.sem_key.specs.Capability.{Capability}
use Rattle.sem_msg.specs.declared.call.Call.{Call}
use Rattle.sem_msg.specs.declared.call.Call.TheVariants.{Derive, Gate, Obtain, Delegate, OpenSession, AskOffer, Revoke, Bind, Read, Write, Send as SendCall}
use Rattle.sem_msg.specs.declared.call.Call.TheVariants.{Credit, Exit, Clear}
use Rattle.sem_msg.specs.declared.event.Act.{Act}
use Rattle.sem_msg.specs.declared.event.Act.TheVariants.{Call as Calls, Fetch, Handle, Upcall, Resume, Flush, Kill}
use Rattle.sem_msg.specs.declared.message.Message.{Message}
use Rattle.sem_msg.specs.declared.message.Target.{Target}
use Rattle.sem_msg.specs.declared.message.Target.TheVariants.{Sel as SelTarget, Serv as ServTarget, Offer as OfferTarget}
use Rattle.sem_msg.specs.declared.setup.Service.{Service}
use Rattle.sem_msg.specs.declared.state.Ask.{Ask}
use Rattle.sem_msg.specs.declared.state.Ask.TheVariants.{Obtain as ObtainAsk, Delegate as DelegateAsk}
use Rattle.sem_msg.specs.declared.state.Parked.{Parked}
use Rattle.sem_msg.specs.declared.state.Parked.TheVariants.{ObtainWait, ObtainReady, ObtainCancelled, DelegateWait, DelegateReady, RevokeWait, Ready}
use Rattle.sem_msg.specs.Setup.{Setup}
use Rattle.sem_msg.specs.Lookups.{kernel_of, denies, offered, service_named}
use Rattle.sem_msg.specs.declared.code.Code.TheVariants.{NoCap, NoService, BadKind}
use Rattle.sem_machine.specs.Sides.{Side, row, cap, own, endpoint, parked, call_counted, unparked, ask_taken}
use Rattle.sem_machine.specs.Steps.{Step, unshown, answer}
use Rattle.sem_machine.specs.Asks.{asker, is_unawaited}
use Rattle.sem_msg.specs.Uses.{memory_tests, send_tests, credit_tests}
use Rattle.sem_machine.specs.Calls.{own_tests, is_of, stays_at_home, is_wider, exceeds_slots, object_passes, destination_tests, child_made, narrowed}
use Rattle.sem_machine.specs.Calls.{derive_tests, gate_tests, ask_made, obtain_tests, open_tests, offer_tests, delegate_tests, bind_tests, call_row}
use Rattle.sem_machine.specs.Upcalls.{source, source_tests, may_not_give, given, child_given, parent_tests, consented, ask_decided, upcall_row}
use Rattle.sem_machine.specs.Resumes.{delegate_granted, delegate_resumed, resumed, resume_row}
use Rattle.sem_machine.specs.Machine.{next_call, local_step}
use Rattle.sem_key.proofs.Members.{found}
use Rattle.sem_key.proofs.KeyTests.{key_eq-true}
use Rattle.sem_machine.proofs.Folds.{option-keeps}
use Rattle.sem_machine.proofs.FirstCodes.{unless-keeps, unless-passed}
use Rattle.sem_revoke.proofs.Events.{own-cap}
use Rattle.sem_revoke.proofs.Narrowing.{narrows-same, narrows-derived, narrows-gate, narrows-given}

-- The object of what is granted.
abbrev pub call_object : Side → ℕ → Call → Object
call_object s v (Derive src dst off len rights) = option_map_or (λ p. narrowed off len rights p.object) (own s v src) (Recv 0)
call_object s v (Gate src dst label credits) = option_map_or (λ p. Send p.key label credits) (own s v src) (Recv 0)
call_object s v (Obtain dst w src) = Recv 0
call_object s v (Delegate src w dst) = Recv 0
call_object s v (OpenSession dst name) = Recv 0
call_object s v (AskOffer dst session index) = Recv 0
call_object s v (Revoke src) = Recv 0
call_object s v (Bind ep src) = Recv 0
call_object s v (Read ep off len) = Recv 0
call_object s v (Write ep off len) = Recv 0
call_object s v (SendCall ep len) = Recv 0
call_object s v (Credit ep) = Recv 0
call_object s v Exit = Recv 0
call_object s v (Clear src) = Recv 0

abbrev pub ask_object : Setup → Side → ℕ → Ask → Object
ask_object T s v (ObtainAsk place target) = option_map_or (given target place.vpe) (source T s v target) (Recv 0)
ask_object T s v (DelegateAsk parent object sel) = object

abbrev pub parked_object : (KeyName → Object) → Option Parked → Object
parked_object ob (Some (DelegateReady parent key)) = ob parent
parked_object ob p = Recv 0

abbrev pub chosen : Setup → (KeyName → Object) → Side → Act → Object
chosen T ob s (Calls v) = option_map_or (call_object (call_counted v s) v) (next_call T s v) (Recv 0)
chosen T ob s (Upcall v) = option_map_or (ask_object T (ask_taken v s) v) (slice_get (row s v).asks 0) (Recv 0)
chosen T ob s (Resume v) = parked_object ob (parked s v)
chosen T ob s (Fetch from) = Recv 0
chosen T ob s Handle = Recv 0
chosen T ob s (Flush to) = Recv 0
chosen T ob s (Kill v) = Recv 0

-- what is known of the objects of a side
pub record Known (s : Side) (ob : KeyName → Object) : Type 0 where
  pub valid : (k : KeyName) (c : Capability) → cap s k ≡ Some c → IsValidObject c.object
  pub kind : (k : KeyName) (c : Capability) → cap s k ≡ Some c → c.key.kind ≡ object_kind c.object
  pub object : (k : KeyName) (c : Capability) → cap s k ≡ Some c → c.object ≡ ob k
  pub targets : (v : ℕ) (place : PlaceName) (service : KeyName) → slice_get (row s v).asks 0 ≡ Some (ObtainAsk place (ServTarget service)) →
      service.kind ≡ ServKind
  pub asked : (v : ℕ) (parent : KeyName) (object : Object) (sel : ℕ) → slice_get (row s v).asks 0 ≡ Some (DelegateAsk parent object sel) →
      (ob parent ≡ object) × (stays_at_home object ≡ false)
  pub waits : (v : ℕ) (parent key : KeyName) → parked s v ≡ Some (DelegateReady parent key) → stays_at_home (ob parent) ≡ false

module _ (T : Setup) (i : ℕ) (s : Side) (ob : KeyName → Object) (R : Known s ob) where
  abbrev pub Under : Object → Step → Type 0
  Under o x = (p k : KeyName) → ◌≡◌ {A = Option (KeyName × KeyName)} x.outcome.grant (Some (p, k)) → (c : Capability) × (cap s p ≡ Some c)
      × (narrows o p c.object ≡ true)

  one : (o : Object) (q k : KeyName) (c : Capability) → cap s q ≡ Some c → narrows o q c.object ≡ true → (p r : KeyName) →
      ◌≡◌ {A = Option (KeyName × KeyName)} (Some (q, k)) (Some (p, r)) → (d : Capability) × (cap s p ≡ Some d) × (narrows o p d.object ≡ true)
  one o q k c held less p r some = subst (λ z. (d : Capability) × (cap s z ≡ Some d)
      × (narrows o z d.object ≡ true)) (ap (λ (g : KeyName × KeyName). g.0) (same_Some (q, k) (p, r) some)) (c, held, less)

  call-under : (v : ℕ) (c : Call) → Under (call_object (call_counted v s) v c) (call_row T i (call_counted v s) v c)
  unfolding call_row
  call-under v (Derive src dst off len rights) =
      let t : Side = call_counted v s in
      let o : Object = call_object t v (Derive src dst off len rights) in
      unless-passed (Under o) (derive_tests t v src dst off len rights) _ _ (λ code p k some. absurd cc)
      (λ passed. option-keeps (Under o) (λ (p : Capability). child_made T v dst (narrowed off len rights p.object) p.key t) (own t v src) (answer NoCap t)
      (λ p held.
      let at = own-cap t v src p held in
      one o p.key _ p at
      (subst (λ q. narrows q p.key p.object ≡ true) (sym (ap (λ x. option_map_or (λ (y : Capability). narrowed off len rights y.object) x (Recv 0)) held))
      (narrows-derived p.key off len rights p.object (sym (ap (object_passes (is_wider off len rights)) held) ∙ passed.1.1.1.0) (R.valid p.key p at))))
      (λ p k some. absurd cc))
  call-under v (Gate src dst label credits) =
      let t : Side = call_counted v s in
      let o : Object = call_object t v (Gate src dst label credits) in
      unless-passed (Under o) (gate_tests t v src dst credits) _ _ (λ code p k some. absurd cc)
      (λ passed. option-keeps (Under o) (λ (p : Capability). child_made T v dst (Send p.key label credits) p.key t) (own t v src) (answer NoCap t)
      (λ p held.
      let at = own-cap t v src p held in
      one o p.key _ p at
      (subst (λ q. narrows q p.key p.object ≡ true) (sym (ap (λ x. option_map_or (λ (y : Capability). Send y.key label credits) x (Recv 0)) held))
      (narrows-gate p.key label credits p.object (sym (ap (object_passes (exceeds_slots credits)) held) ∙ passed.1.1.1.0)))) (λ p k some. absurd cc))
  call-under v (Obtain dst w src) = unless-keeps (Under (Recv 0)) (obtain_tests T i (call_counted v s) v dst w) _ _ (λ code p k some. absurd cc)
      (λ p k some. absurd cc)
  call-under v (Delegate src w dst) = unless-keeps (Under (Recv 0)) (delegate_tests T i (call_counted v s) v src w) _ _ (λ code p k some. absurd cc)
      (option-keeps (Under (Recv 0)) _ (own (call_counted v s) v src) (answer NoCap (call_counted v s)) (λ q held p k some. absurd cc) (λ p k some. absurd cc))
  call-under v (OpenSession dst name) = unless-keeps (Under (Recv 0)) (open_tests T i (call_counted v s) v dst name) _ _ (λ code p k some. absurd cc)
      (option-keeps (Under (Recv 0)) (λ (x : Service). ask_made T i v dst (ServTarget x.key) (call_counted v s)) (service_named T name)
      (answer NoService (call_counted v s)) (λ x there p k some. absurd cc) (λ p k some. absurd cc))
  call-under v (AskOffer dst session index) = unless-keeps (Under (Recv 0)) (offer_tests T i (call_counted v s) v dst session) _ _ (λ code p k some. absurd cc)
      (option-keeps (Under (Recv 0)) (λ (k : KeyName). ask_made T i v dst (OfferTarget k index) (call_counted v s)) _ (answer BadKind (call_counted v s))
      (λ q there p k some. absurd cc) (λ p k some. absurd cc))
  call-under v (Revoke src) = option-keeps (Under (Recv 0)) _ (own (call_counted v s) v src) (answer NoCap (call_counted v s)) (λ q held p k some. absurd cc)
      (λ p k some. absurd cc)
  call-under v (Bind ep src) = unless-keeps (Under (Recv 0)) (bind_tests (call_counted v s) v src) _ _ (λ code p k some. absurd cc)
      (option-keeps (Under (Recv 0)) _ (own (call_counted v s) v src) (answer NoCap (call_counted v s)) (λ q held p k some. absurd cc) (λ p k some. absurd cc))
  call-under v (Read ep off len) = unless-keeps (Under (Recv 0)) (memory_tests 1 off len (endpoint (call_counted v s) v ep)) _ _ (λ code p k some. absurd cc)
      (λ p k some. absurd cc)
  call-under v (Write ep off len) = unless-keeps (Under (Recv 0)) (memory_tests 2 off len (endpoint (call_counted v s) v ep)) _ _ (λ code p k some. absurd cc)
      (λ p k some. absurd cc)
  call-under v (SendCall ep len) = unless-keeps (Under (Recv 0)) (send_tests (endpoint (call_counted v s) v ep)) _ _ (λ code p k some. absurd cc)
      (λ p k some. absurd cc)
  call-under v (Credit ep) = unless-keeps (Under (Recv 0)) (credit_tests (endpoint (call_counted v s) v ep)) _ _ (λ code p k some. absurd cc)
      (λ p k some. absurd cc)
  call-under v Exit = λ p k some. absurd cc
  call-under v (Clear src) = unless-keeps (Under (Recv 0)) (own_tests (own (call_counted v s) v src)) _ _ (λ code p k some. absurd cc)
      (option-keeps (Under (Recv 0)) _ (own (call_counted v s) v src) (answer NoCap (call_counted v s)) (λ q held p k some. absurd cc) (λ p k some. absurd cc))

  found-key : (k : KeyName) (c : Capability) → cap s k ≡ Some c → c.key ≡ k
  found-key k c held = key_eq-true c.key k (found (λ (x : Capability). key_eq x.key k) s.caps c held).1

  source-cap : (v : ℕ) (target : Target) (p : Capability) → source T (ask_taken v s) v target ≡ Some p → cap s p.key ≡ Some p
  source-cap v (SelTarget w sel) p held = own-cap (ask_taken v s) v sel p held
  source-cap v (ServTarget service) p held = subst (λ q. cap s q ≡ Some p) (sym (found-key service p held)) held
  source-cap v (OfferTarget service index) p held = from (offered T service index) held
    where
      from : (o : Option ℕ) → option_and_then (own (ask_taken v s) v) o ≡ Some p → cap s p.key ≡ Some p
      from None none = absurd cc
      from (Some sel) some = own-cap (ask_taken v s) v sel p some

  serves : (v : ℕ) (place : PlaceName) (target : Target) → slice_get (row s v).asks 0 ≡ Some (ObtainAsk place target) → (p : Capability) →
      source T (ask_taken v s) v target ≡ Some p → (service : KeyName) → target ≡ ServTarget service → (p.key ≡ service) × (is_of ServKind p.object ≡ true)
  serves v place (SelTarget w sel) there p held service is = absurd cc
  serves v place (OfferTarget q index) there p held service is = absurd cc
  serves v place (ServTarget q) there p held service is =
      let at = source-cap v (ServTarget q) p held in
      let kind : p.key.kind ≡ ServKind = ap (λ (z : KeyName). z.kind) (found-key q p held) ∙ R.targets v place q there in
      let of : object_kind p.object ≡ ServKind = sym (R.kind p.key p at) ∙ kind in
      (found-key q p held ∙ ap service_of is, subst (λ (z : Kind). (kind_number z == kind_number ServKind) ≡ true) (sym of) refl)
    where
      service_of : Target → KeyName
      service_of (SelTarget w sel) = q
      service_of (ServTarget z) = z
      service_of (OfferTarget z index) = z

  consented-under : (v : ℕ) (a : Ask) → slice_get (row s v).asks 0 ≡ Some a → Under (ask_object T (ask_taken v s) v a) (consented T i v a (ask_taken v s))
  consented-under v (ObtainAsk place target) there =
      let t : Side = ask_taken v s in
      let o : Object = ask_object T t v (ObtainAsk place target) in
      unless-passed (Under o) (source_tests target (source T t v target)) _ _ (λ code p k some. absurd cc)
      (λ passed. option-keeps (Under o) (child_given T i place target t) (source T t v target) (unshown t) (λ p held.
      one o p.key _ p (source-cap v target p held)
      (subst (λ q. narrows q p.key p.object ≡ true) (sym (ap (λ x. option_map_or (given target place.vpe) x (Recv 0)) held))
      (narrows-given target place.vpe p (serves v place target there p held) (sym (ap (object_passes (may_not_give target)) held) ∙ passed.1.1.0))))
      (λ p k some. absurd cc))
  consented-under v (DelegateAsk parent object sel) there =
      let t : Side = ask_taken v s in
      cond_both (kernel_of T parent.vpe == i) _ _ (Under object)
      (λ _. unless-passed (Under object) (parent_tests (cap t parent) ++ destination_tests t v sel) _ _ (λ code p k some. absurd cc)
      (λ passed. held (cap s parent) refl passed.0))
      (λ _. unless-keeps (Under object) (destination_tests t v sel) _ _ (λ code p k some. absurd cc) (λ p k some. absurd cc))
    where
      held : (o : Option Capability) → cap s parent ≡ o → is_none o ≡ false → {k : KeyName} → (p r : KeyName) →
          ◌≡◌ {A = Option (KeyName × KeyName)} (Some (parent, k)) (Some (p, r)) → (d : Capability) × (cap s p ≡ Some d) × (narrows object p d.object ≡ true)
      held None at none = absurd cc
      held (Some c) at some =
          let ask = R.asked v parent object sel there in
          one object parent _ c at (subst (λ z. narrows object parent z ≡ true) (sym (R.object parent c at ∙ ask.0)) (narrows-same parent object ask.1))

  upcall-under : (v : ℕ) → Under (chosen T ob s (Upcall v)) (upcall_row T i s v)
  unfolding upcall_row
  upcall-under v = from (slice_get (row s v).asks 0) refl
    where
      from : (o : Option Ask) → slice_get (row s v).asks 0 ≡ o →
          Under (option_map_or (ask_object T (ask_taken v s) v) o (Recv 0)) (option_map_or (λ (a : Ask). ask_decided T i v a (ask_taken v s)) o (unshown s))
      from None none = λ p k some. absurd cc
      from (Some a) there = cond_both (is_unawaited T i (ask_taken v s) a) _ _ (Under (ask_object T (ask_taken v s) v a)) (λ _ p k some. absurd cc)
          (λ _. cond_both (denies T v (asker a)) _ _ (Under (ask_object T (ask_taken v s) v a)) (λ _ p k some. absurd cc) (λ _. consented-under v a there))

  resumed-under : (v : ℕ) (p : Option Parked) → parked s v ≡ p → Under (parked_object ob p) (resumed T p (unparked v s))
  resumed-under v (Some (DelegateReady parent key)) there = from (cap s parent) refl
    where
      by_mark : (c : Capability) (m : Option ℕ) → cap s parent ≡ Some c → Under (ob parent) (delegate_granted T parent key m (unparked v s))
      by_mark c None at =
          one (ob parent) parent key c at (subst (λ z. narrows (ob parent) parent z ≡ true) (sym (R.object parent c at))
          (narrows-same parent (ob parent) (R.waits v parent key there)))
      by_mark c (Some j) at = λ p k some. absurd cc

      from : (o : Option Capability) → cap s parent ≡ o → Under (ob parent) (delegate_resumed T parent key o (unparked v s))
      from None at = λ p k some. absurd cc
      from (Some c) at = by_mark c c.mark at
  resumed-under v None there = λ p k some. absurd cc
  resumed-under v (Some (ObtainWait number sel)) there = λ p k some. absurd cc
  resumed-under v (Some (ObtainReady key parent object sel)) there = λ p k some. absurd cc
  resumed-under v (Some ObtainCancelled) there = λ p k some. absurd cc
  resumed-under v (Some (DelegateWait parent)) there = λ p k some. absurd cc
  resumed-under v (Some (RevokeWait j)) there = λ p k some. absurd cc
  resumed-under v (Some (Ready code)) there = λ p k some. absurd cc

  pub step-under : (a : Act) (input : Option Message) → Under (chosen T ob s a) (local_step T i s a input)
  unfolding local_step resume_row
  step-under (Calls v) input = from (next_call T s v)
    where
      from : (o : Option Call) →
          Under (option_map_or (call_object (call_counted v s) v) o (Recv 0)) (option_map_or (call_row T i (call_counted v s) v) o (unshown s))
      from None = λ p k some. absurd cc
      from (Some c) = call-under v c
  step-under (Fetch from) input = λ p k some. absurd cc
  step-under Handle input = λ p k some. absurd cc
  step-under (Upcall v) input = upcall-under v
  step-under (Resume v) input = resumed-under v (parked s v) refl
  step-under (Flush to) input = λ p k some. absurd cc
  step-under (Kill v) input = λ p k some. absurd cc
