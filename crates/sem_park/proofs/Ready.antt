-- A call that is about to install a key, by the selector that was promised to it.
use Rattle.std.proofs.Common.{◌≡◌, ℕ, Bool, true, false, cond, List, Option, Some, None, refl, sym, ◌∙◌, ap, set, get_or, length, ◌<◌}
use Rattle.std.proofs.lemmas.List.{get_or_default}
use Rattle.sem_key.specs.KeyName.{KeyName, key_eq}
use Rattle.sem_msg.specs.declared.state.Parked.{Parked}
use Rattle.sem_msg.specs.declared.state.Parked.TheVariants.{ObtainWait, ObtainReady, ObtainCancelled, DelegateWait, DelegateReady, RevokeWait, Ready}
use Rattle.sem_msg.specs.ParkedStates.{is_ready_with, promised_to, state_of, cancelled}
use Rattle.sem_key.proofs.Puts.{put-set}

promise-true : (test : Bool) (s t : ℕ) → ◌≡◌ {A = Option ℕ} (cond test (Some s) None) (Some t) → test ≡ true
promise-true true s t is = refl
promise-true false s t is = absurd cc

promise-false : (test : Bool) (s : ℕ) → ◌≡◌ {A = Option ℕ} (cond test (Some s) None) None → test ≡ false
promise-false true s is = absurd cc
promise-false false s is = refl

-- a call to which a selector was promised is about to install the key
ready : (k : KeyName) (state : Option Parked) (sel : ℕ) → promised_to k state ≡ Some sel → is_ready_with k state ≡ true
ready k (Some (ObtainReady key parent object at)) sel is = promise-true (key_eq key k) at sel is
ready k (Some (ObtainWait number at)) sel is = absurd cc
ready k (Some ObtainCancelled) sel is = absurd cc
ready k (Some (DelegateWait parent)) sel is = absurd cc
ready k (Some (DelegateReady parent key)) sel is = absurd cc
ready k (Some (RevokeWait job)) sel is = absurd cc
ready k (Some (Ready code)) sel is = absurd cc
ready k None sel is = absurd cc

-- where none was promised, no call is
not-ready : (k : KeyName) (state : Option Parked) → promised_to k state ≡ None → is_ready_with k state ≡ false
not-ready k (Some (ObtainReady key parent object at)) is = promise-false (key_eq key k) at is
not-ready k (Some (ObtainWait number at)) is = refl
not-ready k (Some ObtainCancelled) is = refl
not-ready k (Some (DelegateWait parent)) is = refl
not-ready k (Some (DelegateReady parent key)) is = refl
not-ready k (Some (RevokeWait job)) is = refl
not-ready k (Some (Ready code)) is = refl
not-ready k None is = refl

-- what was promised to the call of the key's VPE, as it was read
module _ (states : List (Option Parked)) (k : KeyName) (place : ℕ) (at : place ≡ k.vpe) (within : k.vpe < length states) (read : Option Parked)
    (promise : Option ℕ) (is : promise ≡ promised_to k (get_or states place read)) where
  promised : promise ≡ promised_to k (state_of states k.vpe)
  promised = is ∙ (ap (λ n. promised_to k (get_or states n read)) at ∙ ap (promised_to k) (get_or_default states k.vpe read None within))

  -- the call is cancelled
  pub cancelled-ready : (sel : ℕ) → promise ≡ Some sel → set states place (Some ObtainCancelled) ≡ cancelled states k
  cancelled-ready sel some =
      let test = ready k (state_of states k.vpe) sel (sym promised ∙ some) in
      rw (test, at) (sym (put-set None states k.vpe (Some ObtainCancelled) within))

  -- there is no such call
  pub cancelled-none : promise ≡ None → states ≡ cancelled states k
  cancelled-none none = rw (not-ready k (state_of states k.vpe) (sym promised ∙ none)) refl
