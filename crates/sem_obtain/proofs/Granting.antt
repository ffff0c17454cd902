-- What a VPE gives that consents.
use Rattle.std.proofs.Common.{◌≡◌, ℕ, Bool, List, Option, Some, None, true, false, refl, sym, ap, ◌∙◌, eq-eqb}
use Rattle.std.specs.Prelude.{if◌then◌else◌}
use Rattle.std.proofs.lemmas.Bool.{not-false}
use Rattle.sem_key.specs.KeyName.{KeyName}
use Rattle.sem_key.specs.PlaceName.{PlaceName, keyed}
use Rattle.sem_key.specs.ObjectRanges.{object_kind}
use Rattle.sem_key.specs.Capability.{Capability}
use Rattle.sem_key.specs.declared.object.Object.{Object}
use Rattle.sem_msg.specs.declared.code.Code.{Code}
use Rattle.sem_msg.specs.declared.code.Code.TheVariants.{Ok as OkCode, Refused}
use Rattle.sem_msg.specs.declared.entry.Consent.TheVariants.{Yes, No, Dropped}
use Rattle.sem_msg.specs.declared.state.Parked.{Parked}
use Rattle.sem_msg.specs.declared.state.Parked.TheVariants.{ObtainWait, Ready}
use Rattle.sem_msg.specs.declared.message.Target.{Target}
use Rattle.sem_msg.specs.declared.message.Target.TheVariants.{Sel as SelTarget, Serv as ServTarget, Offer as OfferTarget}
use Rattle.sem_msg.specs.declared.state.Ask.TheVariants.{Obtain as ObtainAsk}
use Rattle.sem_msg.specs.Setup.{Setup}
use Rattle.sem_msg.specs.Lookups.{kernel_of, denies}
use Rattle.sem_msg.specs.ParkedStates.{state_of, parked_as}
use Rattle.sem_msg.specs.Codes.{code_number}
use Rattle.sem_caps.specs.CapStore.{CapStore}
use Rattle.sem_vpe.specs.VpeTable.{VpeTable}
use Rattle.sem_machine.specs.Sides.{Side, parked, installed}
use Rattle.sem_machine.specs.Sides
use Rattle.sem_machine.specs.Steps.{Step, first_code, unshown, asking, granting}
use Rattle.sem_machine.specs.Asks.{is_obtain_wait, ask_refused}
use Rattle.sem_machine.specs.Upcalls.{source, source_tests, given, given_kind, given_here, child_given, obtain_consent, ask_decided}
use Rattle.sem_machine.specs.Stores.{installing, with_caps, with_parks, with_vpes}
use Rattle.sem_machine.proofs.FirstCodes.{unless-first}
use Rattle.sem_obtain.specs.Asking.{is_place_unawaited, answer_to, child_sent}

-- an ask that is dropped
pub decided-dropped : (T : Setup) (i v : ℕ) (place : PlaceName) (target : Target) (s : Side) → answer_to T i v s.parks place ≡ Dropped →
    ask_decided T i v (ObtainAsk place target) s ≡ asking place.vpe Dropped (unshown s)
decided-dropped T i v place target s = from (is_place_unawaited T i s.parks place) (denies T v place.vpe) _ _ _
  where
    from : (unawaited denied : Bool) (d n y : Step) → (if unawaited then Dropped else if denied then No else Yes) ≡ Dropped →
        (if unawaited then d else if denied then n else y) ≡ d
    from true denied d n y is = refl
    from false true d n y is = absurd cc
    from false false d n y is = absurd cc

-- one that is denied
pub decided-denied : (T : Setup) (i v : ℕ) (place : PlaceName) (target : Target) (s : Side) → answer_to T i v s.parks place ≡ No →
    ask_decided T i v (ObtainAsk place target) s ≡ asking place.vpe No (unshown (ask_refused T i Refused (ObtainAsk place target) s))
decided-denied T i v place target s = from (is_place_unawaited T i s.parks place) (denies T v place.vpe) _ _ _
  where
    from : (unawaited denied : Bool) (d n y : Step) → (if unawaited then Dropped else if denied then No else Yes) ≡ No →
        (if unawaited then d else if denied then n else y) ≡ n
    from true denied d n y is = absurd cc
    from false true d n y is = refl
    from false false d n y is = absurd cc

-- one to which the VPE consents: an asker of this kernel waits for it
pub decided-consented : (T : Setup) (i v : ℕ) (place : PlaceName) (target : Target) (s : Side) → answer_to T i v s.parks place ≡ Yes →
    ask_decided T i v (ObtainAsk place target) s ≡ asking place.vpe Yes (obtain_consent T i v place target s)
decided-consented T i v place target s = from (is_place_unawaited T i s.parks place) (denies T v place.vpe) _ _ _
  where
    from : (unawaited denied : Bool) (d n y : Step) → (if unawaited then Dropped else if denied then No else Yes) ≡ Yes →
        (if unawaited then d else if denied then n else y) ≡ y
    from true denied d n y is = absurd cc
    from false true d n y is = absurd cc
    from false false d n y is = refl

pub consented-awaited : (T : Setup) (i v : ℕ) (park : List (Option Parked)) (place : PlaceName) → answer_to T i v park place ≡ Yes → kernel_of T place.vpe ≡ i →
    is_obtain_wait place.number (state_of park place.vpe) ≡ true
consented-awaited T i v park place is here =
    let waits : is_place_unawaited T i park place ≡ false = awaited (is_place_unawaited T i park place) is in
    not-false (is_obtain_wait place.number (state_of park place.vpe)) (rw (eq-eqb (kernel_of T place.vpe) i here) at waits)
  where
    awaited : (unawaited : Bool) → (if unawaited then Dropped else if denies T v place.vpe then No else Yes) ≡ Yes → unawaited ≡ false
    awaited true is' = absurd cc
    awaited false is' = refl

-- the first test that holds
pub consent-refused : (T : Setup) (i v : ℕ) (place : PlaceName) (target : Target) (s : Side) (code : Code) →
    Some code ≡ first_code (source_tests target (source T s v target)) →
    obtain_consent T i v place target s ≡ unshown (ask_refused T i code (ObtainAsk place target) s)
consent-refused T i v place target s code first = unless-first (source_tests target (source T s v target)) _ _ ∙ rw (← first) refl

-- no test holds
pub consent-given : (T : Setup) (i v : ℕ) (place : PlaceName) (target : Target) (s : Side) (p : Capability) →
    None ≡ first_code (source_tests target (source T s v target)) → Some p ≡ source T s v target →
    obtain_consent T i v place target s ≡ child_given T i place target s p
consent-given T i v place target s p none held = unless-first (source_tests target (source T s v target)) _ _ ∙ rw (← none, ← held) refl

-- the child is of the kind of its object
pub given-kind : (target : Target) (asker : ℕ) (p : Capability) → p.key.kind ≡ object_kind p.object → object_kind (given target asker p) ≡ given_kind target p
given-kind (SelTarget w sel) asker p kind = sym kind
given-kind (ServTarget service) asker p kind = refl
given-kind (OfferTarget service index) asker p kind = sym kind

-- the child is given
pub child-given : (T : Setup) (i : ℕ) (place : PlaceName) (target : Target) (s : Side) (p : Capability) (k : KeyName) (o : Object) →
    k ≡ keyed place (given_kind target p) → o ≡ given target place.vpe p →
    granting p.key k (unshown (child_sent T i p.key k o s)) ≡ child_given T i place target s p
child-given T i place target s p k o key object = λ j. granting p.key (key j) (unshown (child_sent T i p.key (key j) (object j) s))

-- the child of a VPE of this kernel
pub child-here : (T : Setup) (i : ℕ) (parent key : KeyName) (object : Object) (s : Side) → kernel_of T key.vpe ≡ i →
    given_here key parent object (parked s key.vpe) (Sides.linked parent key s) ≡ child_sent T i parent key object s
child-here T i parent key object s here = rw (eq-eqb (kernel_of T key.vpe) i here) refl

-- it is installed, and the call will succeed
pub given-waiting : (s : Side) (caps caps' : CapStore) (vpes vpes' : VpeTable) (park park' : List (Option Parked)) (k p : KeyName) (o : Object) (number sel : ℕ)
    → state_of park k.vpe ≡ Some (ObtainWait number sel) → park' ≡ parked_as park k.vpe (Ready (code_number OkCode))
    → ((t : Side) → with_caps caps'.caps (with_vpes vpes'.rows t) ≡ installed k (Some p) sel o (with_caps caps.caps (with_vpes vpes.rows t)))
    → installing caps'.caps vpes'.rows park' s ≡ given_here k p o (state_of park k.vpe) (installing caps.caps vpes.rows park s)
given-waiting s caps caps' vpes vpes' park park' k p o number sel waits ready row =
    row (with_parks park' s)
    ∙ (λ i. installed k (Some p) sel o (with_caps caps.caps (with_vpes vpes.rows (with_parks (ready i) s))))
    ∙ ap (λ (state : Option Parked). given_here k p o state (installing caps.caps vpes.rows park s)) (sym waits)
