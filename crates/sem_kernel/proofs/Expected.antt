-- What is known of a message that is no stray.
use Rattle.std.proofs.Common.{◌≡◌, ◌≢◌, ℕ, Bool, true, false, not, Option, refl}
use Rattle.std.specs.Prelude.{◌||◌, is_none}
use Rattle.std.proofs.lemmas.Bool.{eqb-true, eqb-false, not-false, not_from_false, and_from, true_from_ne_false}
use Rattle.sem_key.specs.declared.object.Object.{Object}
use Rattle.sem_key.specs.KeyName.{KeyName}
use Rattle.sem_key.specs.PlaceName.{PlaceName}
use Rattle.sem_msg.specs.declared.message.Target.{Target}
use Rattle.sem_msg.specs.declared.message.Message.TheVariants.{ObtainReq, ObtainOk, ObtainNo, DelegateReq, DelegatePrepared, DelegateNo, Ack}
use Rattle.sem_msg.specs.declared.state.Parked.{Parked}
use Rattle.sem_msg.specs.Setup.{Setup}
use Rattle.sem_msg.specs.Lookups.{kernel_of, is_declared_at}
use Rattle.sem_machine.specs.Sides.{Side, parked, pending, is_alive}
use Rattle.sem_machine.specs.Asks.{target_vpe, is_obtain_wait, is_delegate_wait}
use Rattle.sem_machine.specs.Handles.{is_here, is_key_declared, is_place_declared, is_target_declared, is_object_declared, lives_without, is_stray}

-- both tests fail where one of them or the other is false
neither : (a b : Bool) → (a || b) ≡ false → (a ≡ false) × (b ≡ false)
neither true b no' = absurd cc
neither false b no' = (refl, no')

-- a VPE of this kernel, and one of another
here : (T : Setup) (i v : ℕ) → not (is_here T i v) ≡ false → kernel_of T v ≡ i
here T i v at = eqb-true (kernel_of T v) i (not-false (is_here T i v) at)

elsewhere : (T : Setup) (i v : ℕ) → is_here T i v ≡ false → kernel_of T v ≢ i
elsewhere T i v at = eqb-false (kernel_of T v) i at

-- whoever lives waits, where nobody lives without waiting
waiting : (waits : Option Parked → Bool) (s : Side) (v : ℕ) → lives_without waits s v ≡ false → is_alive s v ≡ true → waits (parked s v) ≡ true
waiting waits s v awaited lives =
    true_from_ne_false (waits (parked s v))
    (λ fails. clash awaited (and_from (is_alive s v) (not (waits (parked s v))) lives (not_from_false (waits (parked s v)) fails)))
  where
    clash : {b : Bool} → b ≡ false → b ≡ true → ⊥
    clash no' yes' = cc

module _ (T : Setup) (i : ℕ) (s : Side) where
  pub obtain_req-expected : (place : PlaceName) (target : Target) → is_stray T i s (ObtainReq place target) ≡ false → (kernel_of T (target_vpe target) ≡ i)
      × (kernel_of T place.vpe ≢ i) × (is_declared_at T place.pe place.vpe ≡ true)
  obtain_req-expected place target e =
      let one = neither (not (is_place_declared T place)) (not (is_target_declared T target)
      || (not (is_here T i (target_vpe target)) || is_here T i place.vpe)) e in
      let two = neither (not (is_target_declared T target)) (not (is_here T i (target_vpe target)) || is_here T i place.vpe) one.1 in
      let three = neither (not (is_here T i (target_vpe target))) (is_here T i place.vpe) two.1 in
      (here T i (target_vpe target) three.0, elsewhere T i place.vpe three.1, not-false (is_place_declared T place) one.0)

  pub obtain_ok-expected : (parent key : KeyName) (object : Object) → is_stray T i s (ObtainOk parent key object) ≡ false →
      (kernel_of T key.vpe ≡ i) × (is_declared_at T parent.pe parent.vpe ≡ true)
  obtain_ok-expected parent key object e =
      let unasked : Bool = lives_without (is_obtain_wait key.number) s key.vpe in
      let one = neither (not (is_key_declared T parent)) (not (is_key_declared T key)
      || (not (is_object_declared T object) || (not (is_here T i key.vpe) || (is_here T i parent.vpe || unasked)))) e in
      let two = neither (not (is_key_declared T key)) (not (is_object_declared T object) || (not (is_here T i key.vpe) || (is_here T i parent.vpe || unasked)))
      one.1 in
      let three = neither (not (is_object_declared T object)) (not (is_here T i key.vpe) || (is_here T i parent.vpe || unasked)) two.1 in
      let four = neither (not (is_here T i key.vpe)) (is_here T i parent.vpe || unasked) three.1 in
      (here T i key.vpe four.0, not-false (is_key_declared T parent) one.0)

  pub obtain_no-expected : (place : PlaceName) (code : ℕ) → is_stray T i s (ObtainNo place code) ≡ false → kernel_of T place.vpe ≡ i
  obtain_no-expected place code e =
      let unasked : Bool = lives_without (is_obtain_wait place.number) s place.vpe in
      let one = neither (not (is_place_declared T place)) (not (is_here T i place.vpe) || unasked) e in
      let two = neither (not (is_here T i place.vpe)) unasked one.1 in
      here T i place.vpe two.0

  pub delegate_req-expected : (parent : KeyName) (object : Object) (vpe sel : ℕ) → is_stray T i s (DelegateReq parent object vpe sel) ≡ false →
      (kernel_of T vpe ≡ i) × (kernel_of T parent.vpe ≢ i) × (is_declared_at T parent.pe parent.vpe ≡ true)
  delegate_req-expected parent object vpe sel e =
      let one = neither (not (is_key_declared T parent)) (not (is_object_declared T object) || (not (is_here T i vpe) || is_here T i parent.vpe)) e in
      let two = neither (not (is_object_declared T object)) (not (is_here T i vpe) || is_here T i parent.vpe) one.1 in
      let three = neither (not (is_here T i vpe)) (is_here T i parent.vpe) two.1 in
      (here T i vpe three.0, elsewhere T i parent.vpe three.1, not-false (is_key_declared T parent) one.0)

  pub delegate_prepared-expected : (parent key : KeyName) → is_stray T i s (DelegatePrepared parent key) ≡ false →
      (kernel_of T parent.vpe ≡ i) × (is_declared_at T key.pe key.vpe ≡ true)
  delegate_prepared-expected parent key e =
      let unoffered : Bool = lives_without (is_delegate_wait parent) s parent.vpe in
      let one = neither (not (is_key_declared T parent)) (not (is_key_declared T key) || (not (is_here T i parent.vpe) || (is_here T i key.vpe || unoffered))) e
      in
      let two = neither (not (is_key_declared T key)) (not (is_here T i parent.vpe) || (is_here T i key.vpe || unoffered)) one.1 in
      let three = neither (not (is_here T i parent.vpe)) (is_here T i key.vpe || unoffered) two.1 in
      (here T i parent.vpe three.0, not-false (is_key_declared T key) two.0)

  pub delegate_no-expected : (parent : KeyName) (code : ℕ) → is_stray T i s (DelegateNo parent code) ≡ false →
      (kernel_of T parent.vpe ≡ i) × (is_alive s parent.vpe ≡ true → is_delegate_wait parent (parked s parent.vpe) ≡ true)
  delegate_no-expected parent code e =
      let unoffered : Bool = lives_without (is_delegate_wait parent) s parent.vpe in
      let one = neither (not (is_key_declared T parent)) (not (is_here T i parent.vpe) || unoffered) e in
      let two = neither (not (is_here T i parent.vpe)) unoffered one.1 in
      (here T i parent.vpe two.0, waiting (is_delegate_wait parent) s parent.vpe two.1)

  pub ack-expected : (key : KeyName) (yes' : Bool) → is_stray T i s (Ack key yes') ≡ false → kernel_of T key.vpe ≡ i
  ack-expected key yes' e =
      let one = neither (not (is_key_declared T key)) (not (is_here T i key.vpe) || is_none (pending s key)) e in
      let two = neither (not (is_here T i key.vpe)) (is_none (pending s key)) one.1 in
      here T i key.vpe two.0
