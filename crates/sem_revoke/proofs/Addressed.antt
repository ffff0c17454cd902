-- Each message that is sent is addressed as it should be: what it names is declared, and of the kernels that it should be of. So nothing in it makes it a
-- stray, but that nobody may wait for it.
use Rattle.std.proofs.Common.{◌≡◌, ℕ, ◌+◌, ◌≤◌, ◌<◌, Bool, true, false, not, ◌||◌, List, ◌++◌, Option, Some, None, slice_get, refl, sym, ap, ◌∙◌, subst, inl}
use Rattle.std.proofs.Common.{inr, arith, eq-eqb}
use Rattle.std.specs.Prelude.{◌==◌}
use Rattle.std.specs.List.{Contains}
use Rattle.std.specs.Option.{option_and_then}
use Rattle.std.proofs.lemmas.Bool.{cases_eq, cond_both, eqb-false, ne_eqb}
use Rattle.std.proofs.lemmas.Option.{same_Some, slice_get_within, get_or_from_slice_get}
use Rattle.sem_key.specs.declared.object.Object.{Object}
use Rattle.sem_key.specs.declared.object.Object.TheVariants.{Mem, Recv, Send as SendObject, Serv, Sess}
use Rattle.sem_key.specs.KeyName.{KeyName, key_eq}
use Rattle.sem_key.specs.PlaceName.{PlaceName, keyed}
use Rattle.sem_key.specs.Lists.{in_turn, put}
use Rattle.sem_key.specs.Capability.{Capability}
use Rattle.sem_key.proofs.Members.{found}
use Rattle.sem_msg.specs.declared.call.Call.{Call}
use Rattle.sem_msg.specs.declared.call.Call.TheVariants.{Derive, Gate, Obtain, Delegate, OpenSession, AskOffer, Revoke, Bind, Read, Write, Send as SendCall}
use Rattle.sem_msg.specs.declared.call.Call.TheVariants.{Credit, Exit, Clear}
use Rattle.sem_msg.specs.declared.code.Code.{Code}
use Rattle.sem_msg.specs.declared.code.Code.TheVariants.{Dead, Refused, NoService, BadKind, NoCap}
use Rattle.sem_msg.specs.Codes.{code_number}
use Rattle.sem_msg.specs.declared.message.Message.{Message}
use Rattle.sem_msg.specs.declared.message.Message.TheVariants.{ObtainReq, ObtainOk, ObtainNo, DelegateReq, DelegatePrepared, DelegateNo, Ack, Orphan, RevokeReq}
use Rattle.sem_msg.specs.declared.message.Message.TheVariants.{RevokeDone, Unlink}
use Rattle.sem_msg.specs.declared.message.Target.{Target}
use Rattle.sem_msg.specs.declared.message.Target.TheVariants.{Sel as SelTarget, Serv as ServTarget, Offer as OfferTarget}
use Rattle.sem_msg.specs.declared.setup.Service.{Service}
use Rattle.sem_msg.specs.declared.state.Ask.{Ask}
use Rattle.sem_msg.specs.declared.state.Ask.TheVariants.{Obtain as ObtainAsk, Delegate as DelegateAsk}
use Rattle.sem_msg.specs.declared.state.Parked.{Parked}
use Rattle.sem_msg.specs.declared.state.Parked.TheVariants.{ObtainWait, ObtainReady, ObtainCancelled, DelegateWait, DelegateReady, RevokeWait, Ready}
use Rattle.sem_msg.specs.declared.state.Pending.{Pending}
use Rattle.sem_msg.specs.Setup.{Setup, IsSetup}
use Rattle.sem_msg.specs.Lookups.{kernel_of, owner_of, place_owner, service_named, denies, offered}
use Rattle.sem_msg.specs.Uses.{memory_tests, send_tests, credit_tests}
use Rattle.sem_machine.specs.Sides.{Side, row, cap, own, parked, endpoint, is_alive, drawn, promised, parked_as, unparked, asked, ask_taken, buried, linked}
use Rattle.sem_machine.specs.Sides.{freed, send, pending_added, pending_removed}
use Rattle.sem_machine.specs.Steps.{Step, unshown, answer}
use Rattle.sem_machine.specs.Asks.{target_vpe, asker, is_unawaited, promise_freed, call_refused, refusal_sent, ask_refused}
use Rattle.sem_machine.specs.Calls.{next_key, next_place, child_made, session_service, own_tests, derive_tests, narrowed, gate_tests, ask_made, obtain_tests}
use Rattle.sem_machine.specs.Calls.{open_tests, offer_tests, offer_made, delegate_tests, bind_tests, call_row, destination_tests}
use Rattle.sem_machine.specs.Upcalls.{source, source_tests, given, given_kind, given_here, child_given, parent_tests, delegate_prepared, consented, ask_decided}
use Rattle.sem_machine.specs.Upcalls.{upcall_row}
use Rattle.sem_machine.specs.Handles.{is_key_declared, is_place_declared, is_target_declared, is_object_declared, is_here, acknowledged, handled}
use Rattle.sem_machine.specs.Resumes.{delegate_granted, delegate_resumed, resumed, resume_row}
use Rattle.sem_machine.specs.Ends.{ask_ended, call_ended, keys_of_vpe, revoked_if_left, ended}
use Rattle.sem_machine.specs.Sound.{IsSound, IsNamed, IsObjectNamed, IsTargetNamed, IsSoundAsk}
use Rattle.sem_machine.proofs.Folds.{in_turn-keeps, in_turn-keeps_each, option-keeps}
use Rattle.sem_machine.proofs.FirstCodes.{unless-keeps}
use Rattle.sem_sound.proofs.Named.{declared-kernel, own-declared}
use Rattle.sem_sound.proofs.Objects.{service-named}
use Rattle.sem_sound.proofs.Calling.{own-among}
use Rattle.sem_revoke.specs.Scales.{Scale, bit, sum_from, of_messages, of_inbox}
use Rattle.sem_revoke.proofs.Growing.{is_plain}
use Rattle.sem_revoke.proofs.Obtained.{or-false}
use Rattle.sem_revoke.proofs.Scaling.{side-send}
use Rattle.sem_revoke.proofs.Steady.{IsSteady, rest-steady, revoked-steady, cleared-steady, requested-steady, done-steady, left_job-steady}
use Rattle.sem_revoke.proofs.Steady.{promise_freed-steady, obtain_ready-steady}
use Rattle.sem_revoke.proofs.Waits.{parked-here, parked-other}
use Rattle.sem_msg.specs.ParkedStates.{state_of}
use Rattle.sem_msg.specs.Rows.{VpeRow}
use Rattle.sem_safety.proofs.Skeleton.{handled-by}

-- whether a message for kernel j names what is not declared, or not of the kernel that it should be of
abbrev pub is_misaddressed : Setup → ℕ → Message → Bool
is_misaddressed T j (ObtainReq place target) = not (is_place_declared T place)
    || (not (is_target_declared T target) || (not (is_here T j (target_vpe target)) || is_here T j place.vpe))
is_misaddressed T j (ObtainOk parent key object) = not (is_key_declared T parent)
    || (not (is_key_declared T key) || (not (is_object_declared T object) || (not (is_here T j key.vpe) || is_here T j parent.vpe)))
is_misaddressed T j (ObtainNo place code) = not (is_place_declared T place) || not (is_here T j place.vpe)
is_misaddressed T j (DelegateReq parent object vpe sel) = not (is_key_declared T parent)
    || (not (is_object_declared T object) || (not (is_here T j vpe) || is_here T j parent.vpe))
is_misaddressed T j (DelegatePrepared parent key) = not (is_key_declared T parent)
    || (not (is_key_declared T key) || (not (is_here T j parent.vpe) || is_here T j key.vpe))
is_misaddressed T j (DelegateNo parent code) = not (is_key_declared T parent) || not (is_here T j parent.vpe)
is_misaddressed T j (Ack key accepted) = not (is_key_declared T key) || not (is_here T j key.vpe)
is_misaddressed T j (Orphan parent key) = false
is_misaddressed T j (RevokeReq key job) = false
is_misaddressed T j (RevokeDone job) = false
is_misaddressed T j (Unlink parent key) = false

abbrev pub misaddressing : Setup → Scale
misaddressing T = record { message = λ from to m. bit (is_misaddressed T to m); job = λ i x. 0 }

not-plain : (T : Setup) (j : ℕ) (m : Message) → is_plain m ≡ false → is_misaddressed T j m ≡ false
not-plain T j (ObtainReq place target) none = absurd cc
not-plain T j (ObtainOk parent key object) none = absurd cc
not-plain T j (ObtainNo place code) none = absurd cc
not-plain T j (DelegateReq parent object vpe sel) none = absurd cc
not-plain T j (DelegatePrepared parent key) none = absurd cc
not-plain T j (DelegateNo parent code) none = absurd cc
not-plain T j (Ack key accepted) none = absurd cc
not-plain T j (Orphan parent key) none = refl
not-plain T j (RevokeReq key job) none = refl
not-plain T j (RevokeDone job) none = refl
not-plain T j (Unlink parent key) none = refl

-- the VPE that asks is declared
abbrev is_declared_asker : Setup → Ask → Bool
is_declared_asker T (ObtainAsk place target) = is_place_declared T place
is_declared_asker T (DelegateAsk parent object sel) = is_key_declared T parent

asker-declared : (T : Setup) (a : Ask) → IsSoundAsk T a → is_declared_asker T a ≡ true
asker-declared T (ObtainAsk place target) sound = sound.0.1
asker-declared T (DelegateAsk parent object sel) sound = sound.0.1

-- what is named is declared
object-declared : (T : Setup) (o : Object) → IsObjectNamed T o → is_object_declared T o ≡ true
object-declared T (Mem base len rights) named = refl
object-declared T (Recv slots) named = refl
object-declared T (SendObject gate label credits) named = named.1
object-declared T (Serv name) named = refl
object-declared T (Sess service ident) named = named.1

target-declared : (T : Setup) (t : Target) → IsTargetNamed T t → is_target_declared T t ≡ true
target-declared T (SelTarget vpe sel) named = refl
target-declared T (ServTarget service) named = named.1
target-declared T (OfferTarget service index) named = named.1

here-so : (T : Setup) (j v : ℕ) → kernel_of T v ≡ j → not (is_here T j v) ≡ false
here-so T j v same = ap not (eq-eqb (kernel_of T v) j same)

away-so : (T : Setup) (j v i : ℕ) → kernel_of T v ≡ i → (i ≡ j → ⊥) → is_here T j v ≡ false
away-so T j v i at away = ne_eqb (kernel_of T v) j (λ same. away (sym at ∙ same))

module _ (T : Setup) (valid : IsSetup T) (i : ℕ) (few : i < T.kernels) (n : ℕ) where
  -- no message more is misaddressed
  abbrev pub Right : Side → Type 0
  Right t = of_inbox (misaddressing T) i t.inbox + sum_from (of_messages (misaddressing T) i) 0 t.outs ≤ n

  pub right-send : (t : Side) (j : ℕ) (m : Message) → is_misaddressed T j m ≡ false → Right t → Right (send j m t)
  right-send t j m right is = let sum = side-send (misaddressing T) i t j m in let none : bit (is_misaddressed T j m) ≡ 0 = ap bit right in
      omega (arith, sum, none, is)

  pub steady : IsSteady Right
  steady = record {
    caps = λ t cs thin is. is;
    restores = λ u t x was among keeps is. is;
    bound = λ t es is. is;
    jobs = λ t js less is. is;
    opens = λ t root up ws is. is;
    frees = λ t v sel is. is;
    wakes = λ t v is. is;
    sends = λ t j m loud is. right-send t j m (not-plain T j m loud) is;
  }

  abbrev Q : Step → Type 0
  Q x = Right x.side

  -- Refusals.
  refused-right : (code : Code) (a : Ask) → is_declared_asker T a ≡ true → (t : Side) → Right t → Right (ask_refused T i code a t)
  refused-right code a declared t is = cond_both (kernel_of T (asker a) == i) _ _ Right
      (λ _. promise_freed-steady Right steady t is (parked t (asker a)) (asker a)) (λ _. sends a declared)
    where
      sends : (b : Ask) → is_declared_asker T b ≡ true → Right (refusal_sent T code b t)
      sends (ObtainAsk place target) declared =
          right-send t (place_owner T place) (ObtainNo place (code_number code))
          (or-false (not (is_place_declared T place)) _ (ap not declared)
          (here-so T (place_owner T place) place.vpe (declared-kernel T place.pe place.vpe declared))) is
      sends (DelegateAsk parent object sel) declared =
          right-send t (owner_of T parent) (DelegateNo parent (code_number code))
          (or-false (not (is_key_declared T parent)) _ (ap not declared)
          (here-so T (owner_of T parent) parent.vpe (declared-kernel T parent.pe parent.vpe declared))) is

  acked-right : (key : KeyName) (accepted : Bool) → is_key_declared T key ≡ true → (t : Side) → Right t → Right (send (owner_of T key) (Ack key accepted) t)
  acked-right key accepted declared t is =
      right-send t (owner_of T key) (Ack key accepted)
      (or-false (not (is_key_declared T key)) _ (ap not declared) (here-so T (owner_of T key) key.vpe (declared-kernel T key.pe key.vpe declared))) is

  -- The end of a VPE.
  pub ended-right : (v : ℕ) (s : Side) → IsSound T i s → Right s → Right (ended T i v s)
  unfolding ended
  ended-right v s sound is =
      let asks : List Ask = (row s v).asks in
      let answered : Side = in_turn (ask_ended T i) asks (buried v s) in
      let told : Right answered × Known answered = in_turn-keeps_each (λ t. Right t × Known t) (ask_ended T i) asks
      (λ a among t here. (
        cond_both (is_unawaited T i t a) t (ask_refused T i Dead a t) Right (λ _. here.0)
            (λ _. refused-right Dead a (asker-declared T a ((sound.rows v).asks a among)) t here.0),
        asked-known a t here.1,
      ))
      (buried v s) (is, λ p k there. (sound.calls v (DelegateReady p k) there).1.2.0.1) in
      let last : Side = call_ended T (parked answered v) v (unparked v answered) in
      in_turn-keeps Right (revoked_if_left T i) (λ k t here. rest-steady Right steady T i k t here) (keys_of_vpe last v) last
      (owes (parked answered v) refl (unparked v answered) told.0 told.1)
    where
      Known : Side → Type 0
      Known t = (p k : KeyName) → parked t v ≡ Some (DelegateReady p k) → is_key_declared T k ≡ true

      ready-known : (w code : ℕ) (t : Side) (vs : List VpeRow) → Known t → Known (record t { vpes = vs; parks = put None t.parks w (Some (Ready code)) })
      ready-known w code t vs here p k there = elim (cases_eq v w) [
        | inl same ↦ let no' : Some (Ready code) ≡ Some (DelegateReady p k) = sym (ap (λ u. state_of (put None t.parks w (Some (Ready code))) u) same
            ∙ parked-here t w (Some (Ready code))) ∙ there in absurd cc
        | inr other ↦ here p k (sym (parked-other t w (Some (Ready code)) v other) ∙ there)
      ]

      asked-known : (a : Ask) (t : Side) → Known t → Known (ask_ended T i a t)
      asked-known a t here = cond_both (is_unawaited T i t a) t (ask_refused T i Dead a t) Known (λ _. here)
          (λ _. cond_both (kernel_of T (asker a) == i) (call_refused (code_number Dead) (asker a) t) (refusal_sent T Dead a t) Known
          (λ _. free (parked t (asker a)) (asker a)) (λ _. sends a))
        where
          free : (p : Option Parked) (w : ℕ) → Known (parked_as w (Ready (code_number Dead)) (promise_freed p w t))
          free None w = ready-known w (code_number Dead) t t.vpes here
          free (Some (ObtainWait number sel)) w = ready-known w (code_number Dead) t (freed w sel t).vpes here
          free (Some (ObtainReady key parent object sel)) w = ready-known w (code_number Dead) t t.vpes here
          free (Some ObtainCancelled) w = ready-known w (code_number Dead) t t.vpes here
          free (Some (DelegateWait parent)) w = ready-known w (code_number Dead) t t.vpes here
          free (Some (DelegateReady parent key)) w = ready-known w (code_number Dead) t t.vpes here
          free (Some (RevokeWait j)) w = ready-known w (code_number Dead) t t.vpes here
          free (Some (Ready number)) w = ready-known w (code_number Dead) t t.vpes here

          sends : (b : Ask) → Known (refusal_sent T Dead b t)
          sends (ObtainAsk place target) = here
          sends (DelegateAsk parent object sel) = here

      owes : (p : Option Parked) → parked (in_turn (ask_ended T i) (row s v).asks (buried v s)) v ≡ p → (t : Side) → Right t →
          Known (in_turn (ask_ended T i) (row s v).asks (buried v s)) → Right (call_ended T p v t)
      owes None at t here known = here
      owes (Some (ObtainWait number sel)) at t here known = here
      owes (Some (ObtainReady key parent object sel)) at t here known = right-send t (owner_of T parent) (Orphan parent key) refl here
      owes (Some ObtainCancelled) at t here known = here
      owes (Some (DelegateWait parent)) at t here known = here
      owes (Some (DelegateReady parent key)) at t here known = acked-right key false (known parent key at) t here
      owes (Some (RevokeWait j)) at t here known = left_job-steady Right steady j v t here
      owes (Some (Ready code)) at t here known = here

  -- Calls.
  module _ (v : ℕ) (local : kernel_of T v ≡ i) (s : Side) (sound : IsSound T i s) where
    ask-right : (dst : ℕ) (target : Target) → IsTargetNamed T target → Right s → Right (ask_made T i v dst target s).side
    ask-right dst target named is =
        let place : PlaceName = next_place T s v in
        let w : ℕ = target_vpe target in
        let declared = (own-declared T valid v (subst (λ k. k < T.kernels) (sym local) few)).0 in
        let waiting : Side = parked_as v (ObtainWait place.number dst) (promised v dst (drawn v s)) in
        cond_both (kernel_of T w == i) (asked w (ObtainAsk place target) waiting) (send (kernel_of T w) (ObtainReq place target) waiting) Right (λ _. is)
        (λ remote. right-send waiting (kernel_of T w) (ObtainReq place target)
        (or-false (not (is_place_declared T place)) _ (ap not declared)
        (or-false (not (is_target_declared T target)) _ (ap not (target-declared T target named))
        (or-false (not (is_here T (kernel_of T w) w)) _ (here-so T (kernel_of T w) w refl)
        (away-so T (kernel_of T w) v i local (λ same. eqb-false (kernel_of T w) i remote (sym same)))))) is)

    offer-right : (w dst src : ℕ) (p : Capability) → own s v src ≡ Some p → Right s → Right (offer_made T i v w dst p s).side
    offer-right w dst src p held is =
        let there = own-among T valid i few s sound v src p held in
        let c = sound.caps p there.0 in
        let waiting : Side = parked_as v (DelegateWait p.key) s in
        cond_both (kernel_of T w == i) (asked w (DelegateAsk p.key p.object dst) waiting) (send (kernel_of T w) (DelegateReq p.key p.object w dst) waiting)
        Right (λ _. is) (λ remote. right-send waiting (kernel_of T w) (DelegateReq p.key p.object w dst)
        (or-false (not (is_key_declared T p.key)) _ (ap not c.own.0.1)
        (or-false (not (is_object_declared T p.object)) _ (ap not (object-declared T p.object c.object.1))
        (or-false (not (is_here T (kernel_of T w) w)) _ (here-so T (kernel_of T w) w refl) (away-so T (kernel_of T w) p.key.vpe i (ap (kernel_of T) there.1
        ∙ local) (λ same. eqb-false (kernel_of T w) i remote (sym same)))))) is)

    session-named : (session : ℕ) (k : KeyName) → option_and_then (λ c. session_service c.object) (own s v session) ≡ Some k → IsNamed T k
    session-named session k at = from (own s v session) refl at
      where
        of_object : (o : Object) → IsObjectNamed T o → session_service o ≡ Some k → IsNamed T k
        of_object (Mem base len rights) named none = absurd cc
        of_object (Recv slots) named none = absurd cc
        of_object (SendObject gate label credits) named none = absurd cc
        of_object (Serv name) named none = absurd cc
        of_object (Sess service ident) named some = subst (IsNamed T) (same_Some service k some) named

        from : (o : Option Capability) → own s v session ≡ o → option_and_then (λ c. session_service c.object) o ≡ Some k → IsNamed T k
        from None held none = absurd cc
        from (Some c) held some = of_object c.object (sound.caps c (own-among T valid i few s sound v session c held).0).object.1 some

    pub call-right : (c : Call) → Right s → Right (call_row T i s v c).side
    unfolding call_row
    call-right (Derive src dst off len rights) is = unless-keeps Q (derive_tests s v src dst off len rights) _ _ (λ code. is)
        (option-keeps Q (λ (p : Capability). child_made T v dst (narrowed off len rights p.object) p.key s) (own s v src) (answer NoCap s) (λ p held. is) is)
    call-right (Gate src dst label credits) is =
        unless-keeps Q (gate_tests s v src dst credits) _ _ (λ code. is)
        (option-keeps Q (λ (p : Capability). child_made T v dst (SendObject p.key label credits) p.key s) (own s v src) (answer NoCap s) (λ p held. is) is)
    call-right (Obtain dst w src) is = unless-keeps Q (obtain_tests T i s v dst w) _ _ (λ code. is) (ask-right dst (SelTarget w src) tt is)
    call-right (Delegate src w dst) is =
        unless-keeps Q (delegate_tests T i s v src w) _ _ (λ code. is) (option-keeps Q (λ (p : Capability). offer_made T i v w dst p s) (own s v src)
        (answer NoCap s) (λ p held. offer-right w dst src p held is) is)
    call-right (OpenSession dst name) is =
        unless-keeps Q (open_tests T i s v dst name) _ _ (λ code. is) (option-keeps Q (λ (x : Service). ask_made T i v dst (ServTarget x.key) s)
        (service_named T name) (answer NoService s)
        (λ x there. let named = service-named T valid x (found (λ (y : Service). y.name == name) T.services x there).0 in
        ask-right dst (ServTarget x.key) (named.0.0, named.1) is) is)
    call-right (AskOffer dst session index) is =
        unless-keeps Q (offer_tests T i s v dst session) _ _ (λ code. is) (option-keeps Q (λ (k : KeyName). ask_made T i v dst (OfferTarget k index) s)
        (option_and_then (λ (c : Capability). session_service c.object) (own s v session)) (answer BadKind s)
        (λ k there. ask-right dst (OfferTarget k index) (session-named session k there) is) is)
    call-right (Revoke src) is = option-keeps Q _ (own s v src) (answer NoCap s) (λ c held. revoked-steady Right steady T i v c.key c.mark s (λ j. is)) is
    call-right (Bind ep src) is = unless-keeps Q (bind_tests s v src) _ _ (λ code. is) (option-keeps Q _ (own s v src) (answer NoCap s) (λ c held. is) is)
    call-right (Read ep off len) is = unless-keeps Q (memory_tests 1 off len (endpoint s v ep)) _ _ (λ code. is) is
    call-right (Write ep off len) is = unless-keeps Q (memory_tests 2 off len (endpoint s v ep)) _ _ (λ code. is) is
    call-right (SendCall ep len) is = unless-keeps Q (send_tests (endpoint s v ep)) _ _ (λ code. is) is
    call-right (Credit ep) is = unless-keeps Q (credit_tests (endpoint s v ep)) _ _ (λ code. is) is
    call-right Exit is = ended-right v s sound is
    call-right (Clear src) is =
        unless-keeps Q (own_tests (own s v src)) _ _ (λ code. is)
        (option-keeps Q _ (own s v src) (answer NoCap s) (λ c held. cleared-steady Right steady T i v c.key s is) is)

  -- Upcalls.
  module _ (v : ℕ) (local : kernel_of T v ≡ i) (s : Side) (sound : IsSound T i s) where
    -- what is given is held
    source-held : (target : Target) (p : Capability) → source T s v target ≡ Some p → Contains s.caps p
    source-held (SelTarget w sel) p held = (own-among T valid i few s sound v sel p held).0
    source-held (ServTarget service) p held = (found (λ (x : Capability). key_eq x.key service) s.caps p held).0
    source-held (OfferTarget service index) p held = from (offered T service index) held
      where
        from : (o : Option ℕ) → option_and_then (own s v) o ≡ Some p → Contains s.caps p
        from None none = absurd cc
        from (Some sel) held = (own-among T valid i few s sound v sel p held).0

    given-named : (target : Target) (w : ℕ) (p : Capability) → IsTargetNamed T target → IsObjectNamed T p.object → IsObjectNamed T (given target w p)
    given-named (SelTarget u sel) w p named is = is
    given-named (ServTarget service) w p named is = named
    given-named (OfferTarget service index) w p named is = is

    given-right : (place : PlaceName) (target : Target) (p : Capability) → IsSoundAsk T (ObtainAsk place target) → Contains s.caps p → Right s →
        Right (child_given T i place target s p).side
    given-right place target p ask among is =
        let k : KeyName = keyed place (given_kind target p) in
        let object : Object = given target place.vpe p in
        let linking : Side = linked p.key k s in
        let c = sound.caps p among in
        cond_both (kernel_of T place.vpe == i) (given_here k p.key object (parked linking place.vpe) linking)
        (send (place_owner T place) (ObtainOk p.key k object) linking) Right (λ _. here k p.key object (parked linking place.vpe) linking is)
        (λ remote. right-send linking (place_owner T place) (ObtainOk p.key k object)
        (or-false (not (is_key_declared T p.key)) _ (ap not c.own.0.1)
        (or-false (not (is_key_declared T k)) _ (ap not ask.0.1)
        (or-false (not (is_object_declared T object)) _ (ap not (object-declared T object (given-named target place.vpe p ask.2 c.object.1)))
        (or-false (not (is_here T (place_owner T place) place.vpe)) _ (here-so T (place_owner T place) place.vpe (declared-kernel T place.pe place.vpe ask.0.1))
        (away-so T (place_owner T place) p.key.vpe i (declared-kernel T p.key.pe p.key.vpe c.own.0.1
        ∙ c.own.1) (λ same. eqb-false (kernel_of T place.vpe) i remote (declared-kernel T place.pe place.vpe ask.0.1 ∙ sym same))))))) is)
      where
        here : (k p : KeyName) (object : Object) (state : Option Parked) (t : Side) → Right t → Right (given_here k p object state t)
        here k p object None t is' = is'
        here k p object (Some (ObtainWait number sel)) t is' = is'
        here k p object (Some (ObtainReady key parent object' sel)) t is' = is'
        here k p object (Some ObtainCancelled) t is' = is'
        here k p object (Some (DelegateWait parent)) t is' = is'
        here k p object (Some (DelegateReady parent key)) t is' = is'
        here k p object (Some (RevokeWait j)) t is' = is'
        here k p object (Some (Ready code)) t is' = is'

    prepared-right : (parent : KeyName) (object : Object) (sel : ℕ) → IsNamed T parent → (kernel_of T parent.vpe == i) ≡ false → Right s →
        Right (delegate_prepared T v parent object sel s).side
    prepared-right parent object sel named remote is =
        let k : KeyName = next_key T s v parent.kind in
        let declared = (own-declared T valid v (subst (λ q. q < T.kernels) (sym local) few)).0 in
        let at = declared-kernel T parent.pe parent.vpe named.1 in
        let preparing : Side = pending_added (record { key = k; parent = parent; object = object; sel = sel }) (promised v sel (drawn v s)) in
        right-send preparing (owner_of T parent) (DelegatePrepared parent k)
        (or-false (not (is_key_declared T parent)) _ (ap not named.1)
        (or-false (not (is_key_declared T k)) _ (ap not declared)
        (or-false (not (is_here T (owner_of T parent) parent.vpe)) _ (here-so T (owner_of T parent) parent.vpe at)
        (away-so T (owner_of T parent) v i local (λ same. eqb-false (kernel_of T parent.vpe) i remote (at ∙ sym same)))))) is

    consented-right : (a : Ask) → IsSoundAsk T a → Right s → Right (consented T i v a s).side
    consented-right (ObtainAsk place target) ask is =
        unless-keeps Q (source_tests target (source T s v target)) _ _ (λ code. refused-right code (ObtainAsk place target) ask.0.1 s is)
        (option-keeps Q (child_given T i place target s) (source T s v target) (unshown s)
        (λ p held. given-right place target p ask (source-held target p held) is) is)
    consented-right (DelegateAsk parent object sel) ask is =
        cond_both (kernel_of T parent.vpe == i) _ _ Q
        (λ _. unless-keeps Q (parent_tests (cap s parent) ++ destination_tests s v sel) _ _
        (λ code. refused-right code (DelegateAsk parent object sel) ask.0.1 s is) is)
        (λ remote. unless-keeps Q (destination_tests s v sel) _ _ (λ code. refused-right code (DelegateAsk parent object sel) ask.0.1 s is)
        (prepared-right parent object sel ask.0 remote is))

    decided-right : (a : Ask) → IsSoundAsk T a → Right s → Right (ask_decided T i v a s).side
    decided-right a ask is =
        cond_both (is_unawaited T i s a) _ _ Q (λ _. is)
        (λ _. cond_both (denies T v (asker a)) _ _ Q (λ _. refused-right Refused a (asker-declared T a ask) s is) (λ _. consented-right a ask is))

  pub upcall-right : (v : ℕ) → kernel_of T v ≡ i → (s : Side) → IsSound T i s → IsSound T i (ask_taken v s) → Right s → Right (upcall_row T i s v).side
  unfolding upcall_row
  upcall-right v local s sound taken is = option-keeps Q (λ (a : Ask). ask_decided T i v a (ask_taken v s)) (slice_get (row s v).asks 0) (unshown s)
      (λ a there. decided-right v local (ask_taken v s) taken a ((sound.rows v).asks a (ask-among s v a there)) is) is
    where
      ask-among : (t : Side) (w : ℕ) (a : Ask) → slice_get (row t w).asks 0 ≡ Some a → Contains (row t w).asks a
      ask-among t w a there = (0, slice_get_within (row t w).asks 0 a there, get_or_from_slice_get (row t w).asks 0 a a there)

  -- Parked calls that go on.
  pub resume-right : (v : ℕ) (s : Side) → IsSound T i s → Right s → Right (resume_row T s v).side
  unfolding resume_row
  resume-right v s sound is = by (parked s v) refl
    where
      t : Side
      t = unparked v s

      granted : (parent key : KeyName) (m : Option ℕ) → is_key_declared T key ≡ true → Right (delegate_granted T parent key m (unparked v s)).side
      granted parent key None declared = acked-right key true declared (linked parent key (unparked v s)) is
      granted parent key (Some j) declared = acked-right key false declared (unparked v s) is

      answered : (parent key : KeyName) (o : Option Capability) → is_key_declared T key ≡ true → Right (delegate_resumed T parent key o (unparked v s)).side
      answered parent key None declared = acked-right key false declared (unparked v s) is
      answered parent key (Some c) declared = granted parent key c.mark declared

      by : (p : Option Parked) → parked s v ≡ p → Right (resumed T p (unparked v s)).side
      by None at = is
      by (Some (ObtainWait number sel)) at = is
      by (Some (ObtainReady key parent object sel)) at = is
      by (Some ObtainCancelled) at = is
      by (Some (DelegateWait parent)) at = is
      by (Some (DelegateReady parent key)) at = answered parent key (cap (unparked v s) parent) (sound.calls v (DelegateReady parent key) at).1.2.0.1
      by (Some (RevokeWait j)) at = is
      by (Some (Ready code)) at = is

  -- Messages.
  not-first : (a b : Bool) → (a || b) ≡ false → (a ≡ false) × (b ≡ false)
  not-first true b none = absurd cc
  not-first false b none = (refl, none)

  not-not : (b : Bool) → not b ≡ false → b ≡ true
  not-not true none = refl
  not-not false none = absurd cc

  pub handled-right : (s : Side) (from : ℕ) (m : Message) → is_misaddressed T i m ≡ false → Right s → Right (handled T i s from m)
  handled-right s from m right is = handled-by Right T i s from m (record {
    same = is;
    asked_obtain = λ place target of. is;
    dead_obtain = λ place target of. refused-right Dead (ObtainAsk place target)
        (not-not (is_place_declared T place) (not-first (not (is_place_declared T place)) _ (sym (ap (is_misaddressed T i) of) ∙ right)).0) s is;
    asked_delegate = λ parent object vpe sel of. is;
    dead_delegate = λ parent object vpe sel of. refused-right Dead (DelegateAsk parent object sel)
        (not-not (is_key_declared T parent) (not-first (not (is_key_declared T parent)) _ (sym (ap (is_misaddressed T i) of) ∙ right)).0) s is;
    given = λ parent key object of. obtain_ready-steady Right steady parent key object s is (λ sel. is) (parked s key.vpe);
    orphaned = λ parent key object of. right-send s (owner_of T parent) (Orphan parent key) refl is;
    no_obtain = λ place code of. promise_freed-steady Right steady s is (parked s place.vpe) place.vpe;
    prepared = λ parent key of. is;
    given_up = λ parent key of. acked-right key false
        (not-not (is_key_declared T key)
        (not-first (not (is_key_declared T key)) _ (not-first (not (is_key_declared T parent)) _ (sym (ap (is_misaddressed T i) of) ∙ right)).1).0) s is;
    no_delegate = λ parent code of. promise_freed-steady Right steady s is (parked s parent.vpe) parent.vpe;
    acked = λ key accepted p of there. acks key accepted p;
    unlinks = λ parent key. is;
    requests = λ key j of. requested-steady Right steady T i from j key (cap s key) s (λ u ready' same here. here) is;
    dones = λ j of. done-steady Right steady T i j s is;
  })
    where
      acks : (key : KeyName) (accepted : Bool) (p : Pending) → Right (acknowledged T key accepted s p)
      acks key true p =
          cond_both (is_alive s key.vpe) _ _ Right (λ _. is) (λ _. right-send (pending_removed key s) (owner_of T p.parent) (Orphan p.parent key) refl is)
      acks key false p = is
