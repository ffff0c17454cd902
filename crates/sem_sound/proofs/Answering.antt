-- Upcalls and parked calls that go on keep a side sound.
use Rattle.std.proofs.Common.{◌≡◌, ℕ, ◌<◌, Bool, true, false, List, [], ◌∷◌, ◌++◌, Option, Some, None, refl, sym, ap, subst, ◌∙◌, arith}
use Rattle.std.specs.Prelude.{◌==◌, if◌then◌else◌}
use Rattle.std.specs.List.{Contains}
use Rattle.std.specs.Option.{option_and_then}
use Rattle.std.proofs.lemmas.Bool.{cond_both, eqb-true, eqb-false, leb-false}
use Rattle.std.proofs.lemmas.Option.{same_Some}
use Rattle.sem_key.specs.declared.object.Object.{Object}
use Rattle.sem_key.specs.KeyName.{KeyName}
use Rattle.sem_key.specs.declared.limits.TheConstants.{NUMBERS}
use Rattle.sem_key.specs.PlaceName.{PlaceName, keyed}
use Rattle.sem_key.specs.ObjectRanges.{object_kind}
use Rattle.sem_key.specs.Capability.{Capability}
use Rattle.sem_key.specs.CapList.{fresh}
use Rattle.sem_msg.specs.declared.message.Target.{Target}
use Rattle.sem_msg.specs.declared.message.Target.TheVariants.{Sel as SelTarget, Serv as ServTarget, Offer as OfferTarget}
use Rattle.sem_msg.specs.declared.message.Message.TheVariants.{ObtainOk, DelegatePrepared, Ack}
use Rattle.sem_msg.specs.declared.state.Ask.{Ask}
use Rattle.sem_msg.specs.declared.state.Ask.TheVariants.{Obtain as ObtainAsk, Delegate as DelegateAsk}
use Rattle.sem_msg.specs.declared.state.Slot.TheVariants.{Held}
use Rattle.sem_msg.specs.declared.state.Parked.{Parked}
use Rattle.sem_msg.specs.declared.state.Parked.TheVariants.{ObtainWait, ObtainReady, ObtainCancelled, DelegateWait, DelegateReady, RevokeWait, Ready}
use Rattle.sem_msg.specs.declared.state.Pending.{Pending}
use Rattle.sem_msg.specs.Message.{IsRefusal}
use Rattle.sem_msg.specs.Setup.{Setup, IsSetup}
use Rattle.sem_msg.specs.Lookups.{kernel_of, owner_of, place_owner, denies, offered}
use Rattle.sem_msg.specs.declared.code.Code.{Code}
use Rattle.sem_msg.specs.declared.code.Code.TheVariants.{Ok as OkCode, Refused}
use Rattle.sem_msg.specs.Codes.{code_number}
use Rattle.sem_machine.specs.Sound.{IsNamed, IsLocalName, IsSoundObject, IsSoundAsk, IsSoundCall, kept, IsSoundCap, IsSound, one_if}
use Rattle.sem_machine.specs.Sides.{Side, row, slot, cap, own, parked, cap_added, unparked, drawn, promised, ready, linked, installed, pending_added, send}
use Rattle.sem_machine.specs.Steps.{Step, unshown, unless}
use Rattle.sem_machine.specs.Asks.{asker, waits_for, is_unawaited, ask_refused}
use Rattle.sem_machine.specs.Calls.{next_key, destination_tests}
use Rattle.sem_machine.specs.Upcalls.{source, source_tests, given, given_kind, given_here, child_given, obtain_consent, parent_tests, delegate_here}
use Rattle.sem_machine.specs.Upcalls.{delegate_prepared, delegate_consent, consented, ask_decided}
use Rattle.sem_machine.specs.Resumes.{can_resume, delegate_granted, delegate_resumed, resumed}
use Rattle.sem_machine.proofs.Folds.{option-keeps}
use Rattle.sem_machine.proofs.FirstCodes.{Passed}
use Rattle.sem_sound.proofs.Named.{declared-kernel, declared-below}
use Rattle.sem_sound.proofs.Changing.{drawn-sound, promised-sound}
use Rattle.sem_sound.proofs.Holding.{cap-among, linked-sound, pending_added-sound, send-sound}
use Rattle.sem_sound.proofs.Revoking.{parked-slot, granted-sound, reparked-sound}
use Rattle.sem_sound.proofs.Parking.{NoMore, no-more, is-one, parked-again}
use Rattle.sem_sound.proofs.Refusing.{is-waiting, awaited-waits, other-owner, ask_refused-sound}
use Rattle.sem_sound.proofs.Calling.{free-slot, drawn-slot, next_key-local, child-sound, own-among}

-- a step that answers nobody and parks no call
abbrev pub Unanswered : Side → Step → Type 0
Unanswered s x = NoMore s x.side × (one_if x.outcome.reply ≡ 0)

-- the codes of tests are refusals
abbrev pub Coded : List (Bool × Code) → Type 0
Coded [] = Unit {0}
Coded (test ∷ tests) = IsRefusal (code_number test.1) × Coded tests

pub unless-coded : (P : Step → Type 0) (tests : List (Bool × Code)) (refuse : Code → Step) (done : Step) → Coded tests →
    ((code : Code) → IsRefusal (code_number code) → P (refuse code)) → (Passed tests → P done) → P (unless tests refuse done)
unfolding unless
unless-coded P [] refuse done coded each here = here tt
unless-coded P (test ∷ tests) refuse done coded each here = from test.0 refl (unless-coded P tests refuse done coded.1 each)
  where
    from : (b : Bool) → test.0 ≡ b → ((Passed tests → P done) → P (unless tests refuse done)) → P (if b then refuse test.1 else unless tests refuse done)
    from true holds rest = each test.1 coded.0
    from false fails rest = rest (λ passed. here (fails, passed))

module _ (T : Setup) (valid : IsSetup T) (i : ℕ) (few : i < T.kernels) where
  module _ (s : Side) (is : IsSound T i s) where
    -- An ask for a capability.
    module _ (place : PlaceName) (target : Target) (ask : IsSoundAsk T (ObtainAsk place target)) (awaits : kernel_of T place.vpe ≡ i →
        waits_for (ObtainAsk place target) (parked s place.vpe) ≡ true) where
      given-sound : (t : Target) → IsSoundAsk T (ObtainAsk place t) → (c : Capability) → IsSoundCap T i c → IsSoundObject T (given t place.vpe c)
          × (given_kind t c ≡ object_kind (given t place.vpe c))
      given-sound (SelTarget w sel) ask' c sound = (sound.object, sound.kind)
      given-sound (ServTarget service) ask' c sound = (((ask'.1.0, ask'.1.1, ask'.0.0.1), ask'.2), refl)
      given-sound (OfferTarget service index) ask' c sound = (sound.object, sound.kind)

      child_given-sound : (p : Capability) → Contains s.caps p → IsSound T i (child_given T i place target s p).side
          × NoMore s (child_given T i place target s p).side
      child_given-sound p among =
          let sound = is.caps p among in
          let k : KeyName = keyed place (given_kind target p) in
          let object : Object = given target place.vpe p in
          let gives = given-sound target ask p sound in
          let named : IsNamed T k = (ask.0.0, ask.0.1) in
          let linking : Side = linked p.key k s in
          let links : IsSound T i linking = linked-sound T valid i few None None None None s is p.key k named in
          cond_both (kernel_of T place.vpe == i) (given_here k p.key object (parked linking place.vpe) linking)
          (send (place_owner T place) (ObtainOk p.key k object) linking) (λ t. IsSound T i t × NoMore s t)
          (λ here. let local = eqb-true (kernel_of T place.vpe) i here in by_state p sound gives links local named (parked s place.vpe) refl (awaits local))
          (λ remote. let to = other-owner T valid i few place.pe place.vpe ask.0.1 (eqb-false (kernel_of T place.vpe) i remote) in (
            send-sound T valid i few None None None None linking links (place_owner T place) (ObtainOk p.key k object) (
              (
                sound.own.0.0,
                named.0,
                gives.0.0,
                gives.1,
              ),
              to.0,
              to.1,
            ),
            no-more s,
          ))
        where
          by_state : (p : Capability) → IsSoundCap T i p → IsSoundObject T (given target place.vpe p)
              × (given_kind target p ≡ object_kind (given target place.vpe p)) → IsSound T i (linked p.key (keyed place (given_kind target p)) s) →
              kernel_of T place.vpe ≡ i → IsNamed T (keyed place (given_kind target p)) → (state : Option Parked) → parked s place.vpe ≡ state →
              waits_for (ObtainAsk place target) state ≡ true →
              IsSound T i (given_here (keyed place (given_kind target p)) p.key (given target place.vpe p) state
              (linked p.key (keyed place (given_kind target p)) s))
              × NoMore s (given_here (keyed place (given_kind target p)) p.key (given target place.vpe p) state
              (linked p.key (keyed place (given_kind target p)) s))
          by_state p sound gives links local named (Some (ObtainWait number sel)) at waits =
              let k : KeyName = keyed place (given_kind target p) in
              let object : Object = given target place.vpe p in
              let linking : Side = linked p.key k s in
              let same : number ≡ place.number = eqb-true number place.number waits in
              let keeps : kept (Some (ObtainWait number sel)) ≡ Some (k.number, sel) = keeps-it number place.number sel same in
              let selector = (is.calls place.vpe (ObtainWait number sel) at).1 in
              let own' : IsLocalName T i k = (named, sym (declared-kernel T place.pe place.vpe named.1) ∙ local) in
              let grants = granted-sound T valid i few linking links k (ObtainWait number sel) at sel keeps (Some p.key) object
              (record {
                own = own';
                kind = gives.1;
                object = gives.0;
                selector = selector;
                parent = λ q same'. subst (IsNamed T) (same_Some p.key q same') sound.own.0;
                children = λ q none. absurd (let no' = none.1 in
                    omega (arith, no'));
                children_rise = λ a b d lt within. absurd (omega (arith, lt, within));
              }) (Some (Ready (code_number OkCode)))
              (λ x same'. subst (IsSoundCall T i k.vpe) (same_Some (Ready (code_number OkCode)) x same') (omega arith)) refl in (
                subst (IsSound T i)
                    (sym (parked-slot k.vpe sel (Held k) (Some (Ready (code_number OkCode))) (cap_added (fresh k (Some p.key) sel object) linking))) grants,
                parked-again s place.vpe (Some (Ready (code_number OkCode))) (let was = is-one s place.vpe (ObtainWait number sel) at in omega (arith, was)),
              )
            where
              keeps-it : (a b c : ℕ) → a ≡ b → kept (Some (ObtainWait a c)) ≡ kept (Some (ObtainWait b c))
              keeps-it a b c e = ap (λ q. kept (Some (ObtainWait q c))) e
          by_state p sound gives links local named None at waits = absurd cc
          by_state p sound gives links local named (Some (ObtainReady key parent object' sel)) at waits = absurd cc
          by_state p sound gives links local named (Some ObtainCancelled) at waits = absurd cc
          by_state p sound gives links local named (Some (DelegateWait parent)) at waits = absurd cc
          by_state p sound gives links local named (Some (DelegateReady parent key)) at waits = absurd cc
          by_state p sound gives links local named (Some (RevokeWait j)) at waits = absurd cc
          by_state p sound gives links local named (Some (Ready code)) at waits = absurd cc

      source-among : (v : ℕ) (t : Target) (c : Capability) → source T s v t ≡ Some c → Contains s.caps c
      source-among v (SelTarget w sel) c held = (own-among T valid i few s is v sel c held).0
      source-among v (ServTarget service) c held = (cap-among T valid i few None None None None s is service c held).0
      source-among v (OfferTarget service index) c held = from (offered T service index) held
        where
          from : (o : Option ℕ) → option_and_then (own s v) o ≡ Some c → Contains s.caps c
          from None none = absurd cc
          from (Some sel) some = (own-among T valid i few s is v sel c some).0

      obtain_consent-sound : (v : ℕ) → IsSound T i (obtain_consent T i v place target s).side × Unanswered s (obtain_consent T i v place target s)
      obtain_consent-sound v = unless-coded (λ x. IsSound T i x.side × Unanswered s x) (source_tests target (source T s v target)) _ _
          ((omega arith, omega arith), ((omega arith, omega arith), ((omega arith, omega arith), tt)))
          (λ code refusal. let refuses = ask_refused-sound T valid i few s is code (ObtainAsk place target) ask refusal
          (λ local. is-waiting (ObtainAsk place target) (parked s place.vpe) (awaits local)) in (refuses.0, (refuses.1, refl)))
          (λ passed. option-keeps (λ x. IsSound T i x.side × Unanswered s x) (child_given T i place target s) (source T s v target) (unshown s)
          (λ p held. let gives = child_given-sound p (source-among v target p held) in (gives.0, (gives.1, refl))) (is, (no-more s, refl)))

    -- A delegate.
    module _ (parent : KeyName) (object : Object) (sel : ℕ) (ask : IsSoundAsk T (DelegateAsk parent object sel)) (awaits : kernel_of T parent.vpe ≡ i →
        waits_for (DelegateAsk parent object sel) (parked s parent.vpe) ≡ true) (v : ℕ) (local : kernel_of T v ≡ i) where
      delegate_here-sound : kernel_of T parent.vpe ≡ i → Passed (destination_tests s v sel) → IsSound T i (delegate_here T v parent object sel s).side
          × NoMore s (delegate_here T v parent object sel s).side
      delegate_here-sound here passed =
          let free = free-slot (slot s v sel) passed.0 in
          let below = leb-false NUMBERS (row s v).next_number passed.1.0 in
          let k : KeyName = next_key T s v parent.kind in
          let t : Side = linked parent k (drawn v s) in
          let u : Side = installed k (Some parent) sel object t in
          let installs : IsSound T i u = child-sound T valid i few s is v local below sel ask.4 free object ask.1 parent ask.0 parent.kind ask.2 in
          let same : parked u parent.vpe ≡ parked s parent.vpe = refl in
          by_state u installs here (parked s parent.vpe) same (awaits here)
        where
          by_state : (u : Side) → IsSound T i u → kernel_of T parent.vpe ≡ i → (state : Option Parked) → parked u parent.vpe ≡ state →
              waits_for (DelegateAsk parent object sel) state ≡ true → IsSound T i (ready (code_number OkCode) parent.vpe u)
              × NoMore u (ready (code_number OkCode) parent.vpe u)
          by_state u installs here (Some (DelegateWait q)) at waits = (
            reparked-sound T valid i few u installs parent.vpe here (Some (DelegateWait q)) at (λ j none. absurd cc) (Some (Ready (code_number OkCode)))
                (λ x same'. subst (IsSoundCall T i parent.vpe) (same_Some (Ready (code_number OkCode)) x same') (omega arith)) refl,
            parked-again u parent.vpe (Some (Ready (code_number OkCode))) (let was = is-one u parent.vpe (DelegateWait q) at in omega (arith, was)),
          )
          by_state u installs here None at waits = absurd cc
          by_state u installs here (Some (ObtainWait number sel')) at waits = absurd cc
          by_state u installs here (Some (ObtainReady key parent' object' sel')) at waits = absurd cc
          by_state u installs here (Some ObtainCancelled) at waits = absurd cc
          by_state u installs here (Some (DelegateReady parent' key)) at waits = absurd cc
          by_state u installs here (Some (RevokeWait j)) at waits = absurd cc
          by_state u installs here (Some (Ready code)) at waits = absurd cc

      delegate_prepared-sound : (kernel_of T parent.vpe ≡ i → ⊥) → Passed (destination_tests s v sel) →
          IsSound T i (delegate_prepared T v parent object sel s).side × NoMore s (delegate_prepared T v parent object sel s).side
      delegate_prepared-sound remote passed =
          let free = free-slot (slot s v sel) passed.0 in
          let below = leb-false NUMBERS (row s v).next_number passed.1.0 in
          let k : KeyName = next_key T s v parent.kind in
          let key = next_key-local T valid i few s v local below parent.kind in
          let q : Pending = record { key = k; parent = parent; object = object; sel = sel } in
          let t : Side = promised v sel (drawn v s) in
          let draws = drawn-sound T valid i few None None None s v local is below in
          let promises = promised-sound T valid i few (Some (v, (row s v).next_number)) None None (drawn v s) v local sel draws (drawn-slot s v sel ∙ free) in
          let to = other-owner T valid i few parent.pe parent.vpe ask.0.1 remote in
          let adds = pending_added-sound T valid i few None None t q promises (record {
            own = key;
            parent = (ask.0, to.1);
            object = ask.1;
            kind = ask.2;
            parent_kind = refl;
            delegable = ask.3;
            selector = ask.4;
          }) in (
            send-sound T valid i few None None None None (pending_added q t) adds (owner_of T parent) (DelegatePrepared parent k) (
              (ask.0.0, key.0.0),
              to.0,
              to.1,
            ),
            no-more s,
          )

      delegate_consent-sound : IsSound T i (delegate_consent T i v parent object sel s).side × Unanswered s (delegate_consent T i v parent object sel s)
      delegate_consent-sound =
          cond_both (kernel_of T parent.vpe == i) _ _ (λ (x : Step). IsSound T i x.side × Unanswered s x)
          (λ here. unless-coded (λ x. IsSound T i x.side × Unanswered s x) (parent_tests (cap s parent) ++ destination_tests s v sel) _ _
          ((omega arith, omega arith), ((omega arith, omega arith), ((omega arith, omega arith), ((omega arith, omega arith), tt)))) refused
          (λ passed. let holds = delegate_here-sound (eqb-true (kernel_of T parent.vpe) i here) passed.1.1 in (holds.0, (holds.1, refl))))
          (λ remote. unless-coded (λ x. IsSound T i x.side × Unanswered s x) (destination_tests s v sel) _ _ (
            (omega arith, omega arith),
            ((omega arith, omega arith), tt),
          ) refused (λ passed. let prepares =
          delegate_prepared-sound (eqb-false (kernel_of T parent.vpe) i remote) passed in (prepares.0, (prepares.1, refl))))
        where
          refused : (code : Code) → IsRefusal (code_number code) → IsSound T i (ask_refused T i code (DelegateAsk parent object sel) s)
              × Unanswered s (unshown (ask_refused T i code (DelegateAsk parent object sel) s))
          refused code refusal = let refuses = ask_refused-sound T valid i few s is code (DelegateAsk parent object sel) ask refusal
              (λ here. is-waiting (DelegateAsk parent object sel) (parked s parent.vpe) (awaits here)) in (refuses.0, (refuses.1, refl))

    consented-sound : (v : ℕ) → kernel_of T v ≡ i → (a : Ask) → IsSoundAsk T a → (kernel_of T (asker a) ≡ i → waits_for a (parked s (asker a)) ≡ true) →
        IsSound T i (consented T i v a s).side × Unanswered s (consented T i v a s)
    consented-sound v local (ObtainAsk place target) ask awaits = obtain_consent-sound place target ask awaits v
    consented-sound v local (DelegateAsk parent object sel) ask awaits = delegate_consent-sound parent object sel ask awaits v local

    pub decided-sound : (v : ℕ) → kernel_of T v ≡ i → (a : Ask) → IsSoundAsk T a → IsSound T i (ask_decided T i v a s).side
        × Unanswered s (ask_decided T i v a s)
    decided-sound v local a ask =
        cond_both (is_unawaited T i s a) _ _ (λ (x : Step). IsSound T i x.side × Unanswered s x) (λ _. (is, (no-more s, refl)))
        (λ awaited. cond_both (denies T v (asker a)) _ _ (λ (x : Step). IsSound T i x.side × Unanswered s x)
        (λ _. let refuses = ask_refused-sound T valid i few s is Refused a ask (
          omega arith,
          omega arith,
        ) (λ here. is-waiting a (parked s (asker a)) (awaited-waits T i s a awaited here)) in (refuses.0, (refuses.1, refl)))
        (λ _. consented-sound v local a ask (λ here. awaited-waits T i s a awaited here)))

    -- Parked calls.

    none-parked : (v : ℕ) (x : Parked) → None ≡ Some x → IsSoundCall T i v x
    none-parked v x none = absurd cc

    pub resumed-sound : (v : ℕ) → kernel_of T v ≡ i → (p : Option Parked) → parked s v ≡ p → can_resume p ≡ true → IsSound T i (resumed T p (unparked v s)).side
        × NoMore (unparked v s) (resumed T p (unparked v s)).side
    resumed-sound v local (Some (Ready code)) at can =
        (reparked-sound T valid i few s is v local (Some (Ready code)) at (λ j none. absurd cc) None (none-parked v) refl, no-more (unparked v s))
    resumed-sound v local (Some ObtainCancelled) at can =
        (reparked-sound T valid i few s is v local (Some ObtainCancelled) at (λ j none. absurd cc) None (none-parked v) refl, no-more (unparked v s))
    resumed-sound v local (Some (ObtainReady key parent object sel)) at can =
        let call = (is.calls v (ObtainReady key parent object sel) at).1 in
        let vpe : key.vpe ≡ v = call.0 in
        let grants = granted-sound T valid i few s is key (ObtainReady key parent object sel) (ap (parked s) vpe
        ∙ at) sel refl (Some parent) object (record {
          own = call.1;
          kind = call.4;
          object = call.3;
          selector = call.5;
          parent = λ q same'. subst (IsNamed T) (same_Some parent q same') call.2.0;
          children = λ q none. absurd (let no' = none.1 in omega (arith, no'));
          children_rise = λ a b d lt within. absurd (omega (arith, lt, within));
        }) None (none-parked key.vpe) refl in
        (subst (λ w. IsSound T i (installed key (Some parent) sel object (unparked w s))) vpe grants, no-more (unparked v s))
    resumed-sound v local (Some (DelegateReady parent key)) at can =
        let call = (is.calls v (DelegateReady parent key) at).1 in
        let t : Side = unparked v s in
        let out : IsSound T i t = reparked-sound T valid i few s is v local (Some (DelegateReady parent key)) at (λ j none. absurd cc) None
        (none-parked v) refl in
        let kernel = declared-below T valid key.pe key.vpe call.2.0.1 in
        let refuse : IsSound T i (send (owner_of T key) (Ack key false) t) = send-sound T valid i few None None None None t out (owner_of T key) (Ack key false)
        (call.2.0.0, kernel, call.2.1) in
        by_cap t refuse (send-sound T valid i few None None None None (linked parent key t)
        (linked-sound T valid i few None None None None t out parent key call.2.0) (owner_of T key) (Ack key true) (call.2.0.0, kernel, call.2.1))
        (cap t parent)
      where
        by_mark : (t : Side) → IsSound T i (send (owner_of T key) (Ack key false) t) →
            IsSound T i (send (owner_of T key) (Ack key true) (linked parent key t)) → (m : Option ℕ) → IsSound T i (delegate_granted T parent key m t).side
            × NoMore t (delegate_granted T parent key m t).side
        by_mark t no' yes' None = (yes', no-more t)
        by_mark t no' yes' (Some j) = (no', no-more t)

        by_cap : (t : Side) → IsSound T i (send (owner_of T key) (Ack key false) t) → IsSound T i (send (owner_of T key) (Ack key true) (linked parent key t)) →
            (o : Option Capability) → IsSound T i (delegate_resumed T parent key o t).side × NoMore t (delegate_resumed T parent key o t).side
        by_cap t no' yes' None = (no', no-more t)
        by_cap t no' yes' (Some c) = by_mark t no' yes' c.mark
    resumed-sound v local None at can = absurd cc
    resumed-sound v local (Some (ObtainWait number sel)) at can = absurd cc
    resumed-sound v local (Some (DelegateWait parent)) at can = absurd cc
    resumed-sound v local (Some (RevokeWait j)) at can = absurd cc
