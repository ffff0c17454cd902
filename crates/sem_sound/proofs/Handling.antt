-- Messages keep a side sound, whatever they say as long as they fit.
use Rattle.std.proofs.Common.{◌≡◌, ℕ, ◌<◌, Bool, true, false, not, Option, Some, None, refl, sym, ap, subst, ◌∙◌, inr, arith}
use Rattle.std.proofs.lemmas.Bool.{cond_both, eqb-true, eqb-false, or_parts, not-false, not_from_false, and_from, true_from_ne_false}
use Rattle.std.proofs.lemmas.Option.{same_Some}
use Rattle.sem_key.specs.declared.object.Object.{Object}
use Rattle.sem_key.specs.declared.object.Object.TheVariants.{Mem, Recv, Send, Serv, Sess}
use Rattle.sem_key.specs.KeyName.{KeyName, key_eq}
use Rattle.sem_key.specs.ObjectRanges.{IsValidObject, object_kind}
use Rattle.sem_msg.specs.declared.message.Target.{Target}
use Rattle.sem_msg.specs.declared.message.Target.TheVariants.{Sel as SelTarget, Serv as ServTarget, Offer as OfferTarget}
use Rattle.sem_msg.specs.declared.message.Message.{Message}
use Rattle.sem_msg.specs.declared.message.Message.TheVariants.{ObtainReq, ObtainOk, ObtainNo, DelegateReq, DelegatePrepared, DelegateNo, Ack, Orphan, RevokeReq}
use Rattle.sem_msg.specs.declared.message.Message.TheVariants.{RevokeDone, Unlink}
use Rattle.sem_msg.specs.declared.state.Ask.TheVariants.{Obtain as ObtainAsk, Delegate as DelegateAsk}
use Rattle.sem_msg.specs.declared.state.Parked.{Parked}
use Rattle.sem_msg.specs.declared.state.Parked.TheVariants.{ObtainWait, ObtainReady, ObtainCancelled, DelegateWait, DelegateReady, RevokeWait, Ready}
use Rattle.sem_msg.specs.declared.state.Pending.{Pending}
use Rattle.sem_msg.specs.Message.{Fits, IsValidTarget}
use Rattle.sem_msg.specs.Setup.{Setup, IsSetup}
use Rattle.sem_msg.specs.Lookups.{kernel_of, owner_of}
use Rattle.sem_msg.specs.declared.code.Code.TheVariants.{Dead}
use Rattle.sem_machine.specs.Sound.{IsNamed, IsLocalName, IsTargetNamed, IsSoundObject, IsSoundCall, IsSoundAsk, kept, IsSoundMessage, IsSound}
use Rattle.sem_machine.specs.Sides.{Side, cap, parked, pending, is_alive, parked_as, freed, asked, installed, pending_removed, send}
use Rattle.sem_machine.specs.Asks.{target_vpe, is_obtain_wait, is_delegate_wait, call_refused, ask_refused}
use Rattle.sem_machine.specs.Handles.{is_key_declared, is_place_declared, is_target_declared, is_object_declared, is_here, lives_without, is_stray}
use Rattle.sem_machine.specs.Handles.{obtain_ready, acknowledged, handle_row, handled}
use Rattle.sem_key.proofs.KeyTests.{key_eq-true}
use Rattle.sem_key.proofs.Members.{found}
use Rattle.sem_machine.proofs.Folds.{option-keeps}
use Rattle.sem_sound.proofs.Named.{declared-kernel}
use Rattle.sem_sound.proofs.Changing.{asked-sound, freed-sound, number-dropped, selector-dropped}
use Rattle.sem_sound.proofs.Holding.{unlinked-sound, installed-sound, pending_removed-sound, send-sound}
use Rattle.sem_sound.proofs.Revoking.{reparked-sound, requested-sound, done-sound}
use Rattle.sem_sound.proofs.Parking.{NoMore, no-more, is-one, parked-again}
use Rattle.sem_sound.proofs.Refusing.{IsWaiting, other-owner, call_refused-sound, ask_refused-sound}

target-named : (T : Setup) (t : Target) → IsValidTarget t → is_target_declared T t ≡ true → IsTargetNamed T t
target-named T (SelTarget vpe sel) fits declared = tt
target-named T (ServTarget service) fits declared = (fits.0, declared)
target-named T (OfferTarget service index) fits declared = (fits.0.0, declared)

object-sound : (T : Setup) (o : Object) → IsValidObject o → is_object_declared T o ≡ true → IsSoundObject T o
object-sound T (Mem base len rights) fits declared = (fits, tt)
object-sound T (Recv slots) fits declared = (fits, tt)
object-sound T (Send gate label credits) fits declared = (fits, (fits.0, declared))
object-sound T (Serv name) fits declared = (fits, tt)
object-sound T (Sess service ident) fits declared = (fits, (fits.0, declared))

-- whoever lives and does not live without waiting waits
lives-waiting : (waits : Option Parked → Bool) (s : Side) (v : ℕ) → lives_without waits s v ≡ false → is_alive s v ≡ true → waits (parked s v) ≡ true
lives-waiting waits s v awaited lives =
    true_from_ne_false (waits (parked s v))
    (λ fails. clash awaited (and_from (is_alive s v) (not (waits (parked s v))) lives (not_from_false (waits (parked s v)) fails)))
  where
    clash : {b : Bool} → b ≡ false → b ≡ true → ⊥
    clash no' yes' = cc

waits-obtain : (n : ℕ) (p : Option Parked) → is_obtain_wait n p ≡ true → IsWaiting p
waits-obtain n None waits = absurd cc
waits-obtain n (Some (ObtainWait number sel)) waits = tt
waits-obtain n (Some (ObtainReady key parent object sel)) waits = absurd cc
waits-obtain n (Some ObtainCancelled) waits = absurd cc
waits-obtain n (Some (DelegateWait parent)) waits = tt
waits-obtain n (Some (DelegateReady parent key)) waits = absurd cc
waits-obtain n (Some (RevokeWait j)) waits = absurd cc
waits-obtain n (Some (Ready code)) waits = absurd cc

waits-delegate : (k : KeyName) (p : Option Parked) → is_delegate_wait k p ≡ true → IsWaiting p
waits-delegate k None waits = absurd cc
waits-delegate k (Some (ObtainWait number sel)) waits = tt
waits-delegate k (Some (ObtainReady key parent object sel)) waits = absurd cc
waits-delegate k (Some ObtainCancelled) waits = absurd cc
waits-delegate k (Some (DelegateWait parent)) waits = tt
waits-delegate k (Some (DelegateReady parent key)) waits = absurd cc
waits-delegate k (Some (RevokeWait j)) waits = absurd cc
waits-delegate k (Some (Ready code)) waits = absurd cc

module _ (T : Setup) (valid : IsSetup T) (i : ℕ) (few : i < T.kernels) (s : Side) (is : IsSound T i s) where
  here-is : (v : ℕ) → not (is_here T i v) ≡ false → kernel_of T v ≡ i
  here-is v test = eqb-true (kernel_of T v) i (not-false (is_here T i v) test)

  elsewhere : (v : ℕ) → is_here T i v ≡ false → kernel_of T v ≡ i → ⊥
  elsewhere v test = eqb-false (kernel_of T v) i test

  -- the waiting obtain is ready to install
  ready-sound : (parent key : KeyName) (object : Object) → Fits (ObtainOk parent key object) → is_key_declared T parent ≡ true → is_key_declared T key ≡ true →
      is_object_declared T object ≡ true → kernel_of T key.vpe ≡ i → (kernel_of T parent.vpe ≡ i → ⊥) → (state : Option Parked) → parked s key.vpe ≡ state →
      is_obtain_wait key.number state ≡ true → IsSound T i (obtain_ready parent key object state s) × NoMore s (obtain_ready parent key object state s)
  ready-sound parent key object fits declared_p declared_k declared_o here remote (Some (ObtainWait number sel)) at waits =
      let same : number ≡ key.number = eqb-true number key.number waits in
      let selector = (is.calls key.vpe (ObtainWait number sel) at).1 in (
        reparked-sound T valid i few s is key.vpe here (Some (ObtainWait number sel)) at (λ j none. absurd cc) (Some (ObtainReady key parent object sel))
            (λ x same'. subst (IsSoundCall T i key.vpe) (same_Some (ObtainReady key parent object sel) x same') (
              refl,
              ((fits.1, declared_k), sym (declared-kernel T key.pe key.vpe declared_k) ∙ here),
              ((fits.0, declared_p), λ local. remote (declared-kernel T parent.pe parent.vpe declared_p ∙ local)),
              object-sound T object fits.2 declared_o,
              fits.3,
              selector,
            ))
            (keeps-it key.number number sel (sym same)),
        parked-again s key.vpe (Some (ObtainReady key parent object sel)) (let was = is-one s key.vpe (ObtainWait number sel) at in omega (arith, was)),
      )
    where
      keeps-it : (a b c : ℕ) → a ≡ b → kept (Some (ObtainWait a c)) ≡ kept (Some (ObtainWait b c))
      keeps-it a b c e = ap (λ q. kept (Some (ObtainWait q c))) e
  ready-sound parent key object fits declared_p declared_k declared_o here remote None at waits = absurd cc
  ready-sound parent key object fits declared_p declared_k declared_o here remote (Some (ObtainReady key' parent' object' sel)) at waits = absurd cc
  ready-sound parent key object fits declared_p declared_k declared_o here remote (Some ObtainCancelled) at waits = absurd cc
  ready-sound parent key object fits declared_p declared_k declared_o here remote (Some (DelegateWait parent')) at waits = absurd cc
  ready-sound parent key object fits declared_p declared_k declared_o here remote (Some (DelegateReady parent' key')) at waits = absurd cc
  ready-sound parent key object fits declared_p declared_k declared_o here remote (Some (RevokeWait j)) at waits = absurd cc
  ready-sound parent key object fits declared_p declared_k declared_o here remote (Some (Ready code)) at waits = absurd cc

  -- the delegate goes on
  prepared-sound : (parent key : KeyName) → Fits (DelegatePrepared parent key) → is_key_declared T parent ≡ true → is_key_declared T key ≡ true →
      kernel_of T parent.vpe ≡ i → (kernel_of T key.vpe ≡ i → ⊥) → (state : Option Parked) → parked s parent.vpe ≡ state →
      is_delegate_wait parent state ≡ true → IsSound T i (parked_as parent.vpe (DelegateReady parent key) s)
      × NoMore s (parked_as parent.vpe (DelegateReady parent key) s)
  prepared-sound parent key fits declared_p declared_k here remote (Some (DelegateWait q)) at waits = (
    reparked-sound T valid i few s is parent.vpe here (Some (DelegateWait q)) at (λ j none. absurd cc) (Some (DelegateReady parent key))
        (λ x same'. subst (IsSoundCall T i parent.vpe) (same_Some (DelegateReady parent key) x same') (
          refl,
          ((fits.0, declared_p), sym (declared-kernel T parent.pe parent.vpe declared_p) ∙ here),
          ((fits.1, declared_k), λ local. remote (declared-kernel T key.pe key.vpe declared_k ∙ local)),
        ))
        refl,
    parked-again s parent.vpe (Some (DelegateReady parent key)) (let was = is-one s parent.vpe (DelegateWait q) at in omega (arith, was)),
  )
  prepared-sound parent key fits declared_p declared_k here remote None at waits = absurd cc
  prepared-sound parent key fits declared_p declared_k here remote (Some (ObtainWait number sel)) at waits = absurd cc
  prepared-sound parent key fits declared_p declared_k here remote (Some (ObtainReady key' parent' object' sel)) at waits = absurd cc
  prepared-sound parent key fits declared_p declared_k here remote (Some ObtainCancelled) at waits = absurd cc
  prepared-sound parent key fits declared_p declared_k here remote (Some (DelegateReady parent' key')) at waits = absurd cc
  prepared-sound parent key fits declared_p declared_k here remote (Some (RevokeWait j)) at waits = absurd cc
  prepared-sound parent key fits declared_p declared_k here remote (Some (Ready code)) at waits = absurd cc

  -- an accepted delegation holds, or does not
  acknowledged-sound : (key : KeyName) (accepted : Bool) → kernel_of T key.vpe ≡ i → (q : Pending) → pending s key ≡ Some q →
      IsSound T i (acknowledged T key accepted s q) × NoMore s (acknowledged T key accepted s q)
  acknowledged-sound key true here q there =
      let t : Side = pending_removed key s in
      let at = found (λ (x : Pending). key_eq x.key key) s.pendings q there in
      let sound = is.pendings q at.0 in
      let same : q.key ≡ key = key_eq-true q.key key at.1 in
      let own = subst (λ k. IsLocalName T i k) same sound.own in
      let removes = pending_removed-sound T valid i few None None s key q is there in
      cond_both (is_alive s key.vpe) (installed key (Some q.parent) q.sel q.object t) (send (owner_of T q.parent) (Orphan q.parent key) t) (λ u. IsSound T i u
      × NoMore s u)
      (λ lives. (
        installed-sound T valid i few (Some (key.vpe, q.sel)) None None t key (Some q.parent) q.sel q.object removes (inr refl)
            (record {
              own = own;
              kind = subst (λ (k : KeyName). k.kind ≡ object_kind q.object) same sound.kind;
              object = sound.object;
              selector = sound.selector;
              parent = λ p same'. subst (IsNamed T) (same_Some q.parent p same') sound.parent.0;
              children = λ k none. absurd (let no' = none.1 in
                  omega (arith, no'));
              children_rise = λ a b d lt within. absurd (omega (arith, lt, within));
            }),
        no-more s,
      ))
      (λ dead. let to =
      other-owner T valid i few q.parent.pe q.parent.vpe sound.parent.0.1
      (λ local. sound.parent.1 (sym (declared-kernel T q.parent.pe q.parent.vpe sound.parent.0.1) ∙ local)) in (
        send-sound T valid i few None None None None t
            (selector-dropped T valid i few None None None t key.vpe here q.sel (number-dropped T valid i few (Some (key.vpe, q.sel)) None None t key.vpe here
            (Some (key.vpe, key.number)) removes) dead) (owner_of T q.parent) (Orphan q.parent key) ((sound.parent.0.0, own.0.0), to.0, to.1),
        no-more s,
      ))
  acknowledged-sound key false here q there =
      let t : Side = pending_removed key s in
      let removes = pending_removed-sound T valid i few None None s key q is there in (
        number-dropped T valid i few None None None (freed key.vpe q.sel t) key.vpe here (Some (key.vpe, key.number))
            (freed-sound T valid i few (Some (key.vpe, key.number)) None None t key.vpe here q.sel removes),
        no-more s,
      )

  handle_row-sound : (from : ℕ) (m : Message) → IsSoundMessage T i from m → is_stray T i s m ≡ false → IsSound T i (handle_row T i s from m)
      × NoMore s (handle_row T i s from m)
  unfolding handle_row
  handle_row-sound from (ObtainReq place target) sound stray =
      let one = or_parts (not (is_place_declared T place)) _ stray in
      let two = or_parts (not (is_target_declared T target)) _ one.1 in
      let three = or_parts (not (is_here T i (target_vpe target))) _ two.1 in
      let fits = sound.0 in
      let ask : IsSoundAsk T (ObtainAsk place target) = (
        (fits.0, not-false (is_place_declared T place) one.0),
        fits.1,
        target-named T target fits.1 (not-false (is_target_declared T target) two.0),
      ) in
      cond_both (is_alive s (target_vpe target)) (asked (target_vpe target) (ObtainAsk place target) s) (ask_refused T i Dead (ObtainAsk place target) s)
      (λ t. IsSound T i t × NoMore s t)
      (λ lives. (
        asked-sound T valid i few None None None None s is (target_vpe target) (here-is (target_vpe target) three.0) (ObtainAsk place target) ask,
        no-more s,
      ))
      (λ dead. ask_refused-sound T valid i few s is Dead (ObtainAsk place target) ask (
        omega arith,
        omega arith,
      ) (λ local. absurd (elsewhere place.vpe three.1 local)))
  handle_row-sound from (ObtainOk parent key object) sound stray =
      let one = or_parts (not (is_key_declared T parent)) _ stray in
      let two = or_parts (not (is_key_declared T key)) _ one.1 in
      let three = or_parts (not (is_object_declared T object)) _ two.1 in
      let four = or_parts (not (is_here T i key.vpe)) _ three.1 in
      let five = or_parts (is_here T i parent.vpe) _ four.1 in
      let fits = sound.0 in
      let declared_p = not-false (is_key_declared T parent) one.0 in
      let here = here-is key.vpe four.0 in
      cond_both (is_alive s key.vpe) (obtain_ready parent key object (parked s key.vpe) s) (send (owner_of T parent) (Orphan parent key) s) (λ t. IsSound T i t
      × NoMore s t)
      (λ lives. ready-sound parent key object fits declared_p (not-false (is_key_declared T key) two.0) (not-false (is_object_declared T object) three.0) here
      (elsewhere parent.vpe five.0) (parked s key.vpe) refl (lives-waiting (is_obtain_wait key.number) s key.vpe five.1 lives))
      (λ dead. let to = other-owner T valid i few parent.pe parent.vpe declared_p (elsewhere parent.vpe five.0) in
      (send-sound T valid i few None None None None s is (owner_of T parent) (Orphan parent key) ((fits.0, fits.1), to.0, to.1), no-more s))
  handle_row-sound from (ObtainNo place code) sound stray =
      let one = or_parts (not (is_place_declared T place)) _ stray in
      let two = or_parts (not (is_here T i place.vpe)) _ one.1 in
      cond_both (is_alive s place.vpe) (call_refused code place.vpe s) s (λ t. IsSound T i t × NoMore s t)
      (λ lives. call_refused-sound T valid i few s is code place.vpe sound.0.1.1
      (waits-obtain place.number (parked s place.vpe) (lives-waiting (is_obtain_wait place.number) s place.vpe two.1 lives)))
      (λ dead. (is, no-more s))
  handle_row-sound from (DelegateReq parent object vpe sel) sound stray =
      let one = or_parts (not (is_key_declared T parent)) _ stray in
      let two = or_parts (not (is_object_declared T object)) _ one.1 in
      let three = or_parts (not (is_here T i vpe)) _ two.1 in
      let fits = sound.0 in
      let ask : IsSoundAsk T (DelegateAsk parent object sel) = (
        (fits.0, not-false (is_key_declared T parent) one.0),
        object-sound T object fits.1 (not-false (is_object_declared T object) two.0),
        fits.2,
        fits.3,
        fits.5,
      ) in
      cond_both (is_alive s vpe) (asked vpe (DelegateAsk parent object sel) s) (ask_refused T i Dead (DelegateAsk parent object sel) s) (λ t. IsSound T i t
      × NoMore s t)
      (λ lives. (asked-sound T valid i few None None None None s is vpe (here-is vpe three.0) (DelegateAsk parent object sel) ask, no-more s))
      (λ dead. ask_refused-sound T valid i few s is Dead (DelegateAsk parent object sel) ask (
        omega arith,
        omega arith,
      ) (λ local. absurd (elsewhere parent.vpe three.1 local)))
  handle_row-sound from (DelegatePrepared parent key) sound stray =
      let one = or_parts (not (is_key_declared T parent)) _ stray in
      let two = or_parts (not (is_key_declared T key)) _ one.1 in
      let three = or_parts (not (is_here T i parent.vpe)) _ two.1 in
      let four = or_parts (is_here T i key.vpe) _ three.1 in
      let fits = sound.0 in
      let declared_k = not-false (is_key_declared T key) two.0 in
      cond_both (is_alive s parent.vpe) (parked_as parent.vpe (DelegateReady parent key) s) (send (owner_of T key) (Ack key false) s) (λ t. IsSound T i t
      × NoMore s t)
      (λ lives. prepared-sound parent key fits (not-false (is_key_declared T parent) one.0) declared_k (here-is parent.vpe three.0) (elsewhere key.vpe four.0)
      (parked s parent.vpe) refl (lives-waiting (is_delegate_wait parent) s parent.vpe four.1 lives))
      (λ dead. let to = other-owner T valid i few key.pe key.vpe declared_k (elsewhere key.vpe four.0) in
      (send-sound T valid i few None None None None s is (owner_of T key) (Ack key false) (fits.1, to.0, to.1), no-more s))
  handle_row-sound from (DelegateNo parent code) sound stray =
      let one = or_parts (not (is_key_declared T parent)) _ stray in
      let two = or_parts (not (is_here T i parent.vpe)) _ one.1 in
      cond_both (is_alive s parent.vpe) (call_refused code parent.vpe s) s (λ t. IsSound T i t × NoMore s t)
      (λ lives. call_refused-sound T valid i few s is code parent.vpe sound.0.1.1
      (waits-delegate parent (parked s parent.vpe) (lives-waiting (is_delegate_wait parent) s parent.vpe two.1 lives)))
      (λ dead. (is, no-more s))
  handle_row-sound from (Ack key accepted) sound stray =
      let one = or_parts (not (is_key_declared T key)) _ stray in
      let two = or_parts (not (is_here T i key.vpe)) _ one.1 in
      option-keeps (λ t. IsSound T i t × NoMore s t) (acknowledged T key accepted s) (pending s key) s
      (λ q there. acknowledged-sound key accepted (here-is key.vpe two.0) q there) (is, no-more s)
  handle_row-sound from (Orphan parent key) sound stray = (unlinked-sound T valid i few None None None None s is parent key, no-more s)
  handle_row-sound from (RevokeReq key j) sound stray = requested-sound T valid i few s is from j sound.1 sound.2 sound.0.1 key (cap s key) refl
  handle_row-sound from (RevokeDone j) sound stray = done-sound T valid i few s is j
  handle_row-sound from (Unlink parent key) sound stray = (unlinked-sound T valid i few None None None None s is parent key, no-more s)

  pub handled-sound : (from : ℕ) (m : Message) → IsSoundMessage T i from m → IsSound T i (handled T i s from m) × NoMore s (handled T i s from m)
  handled-sound from m sound = cond_both (is_stray T i s m) s (handle_row T i s from m) (λ t. IsSound T i t × NoMore s t) (λ _. (is, no-more s))
      (λ stray. handle_row-sound from m sound stray)
