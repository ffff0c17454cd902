-- What a row of tests says where one holds, and where none does.
use Rattle.std.proofs.Common.{◌≡◌, ℕ, true, [], ◌∷◌, not, Option, Some, None, refl, sym, ap, ◌∙◌}
use Rattle.std.specs.Prelude.{◌==◌, is_none}
use Rattle.std.specs.Option.{option_map, option_map_or, option_and_then}
use Rattle.std.proofs.lemmas.Bool.{not-false}
use Rattle.sem_msg.specs.Setup.{Setup}
use Rattle.sem_msg.specs.declared.setup.Service.{Service}
use Rattle.sem_msg.specs.declared.message.Target.TheVariants.{Serv as ServTarget, Offer as OfferTarget}
use Rattle.sem_msg.specs.Lookups.{is_declared, service_named}
use Rattle.sem_msg.specs.declared.code.Code.TheVariants.{NoVpe, Dead, NoCap, Revoking, BadKind, NoService, SelfExchange}
use Rattle.sem_key.specs.declared.key.Kind.TheVariants.{Sess as SessKind}
use Rattle.sem_key.specs.KeyName.{KeyName}
use Rattle.sem_key.specs.Capability.{Capability}
use Rattle.sem_machine.specs.Sides.{Side, own, is_marked}
use Rattle.sem_machine.specs.Steps.{answer, first_code}
use Rattle.sem_machine.specs.Calls.{ask_made, obtain_tests, open_tests, open_row, offer_tests, offer_row, destination_tests, is_local_dead, is_service_dead}
use Rattle.sem_machine.specs.Calls.{is_of, object_passes, service_passes, session_service}
use Rattle.sem_machine.proofs.FirstCodes.{unless-first, none-at, none-behind}

-- who is asked by an obtain that is not refused is declared, and the destination is free
pub obtain-declared : (T : Setup) (i : ℕ) (s : Side) (v dst w : ℕ) → None ≡ first_code (obtain_tests T i s v dst w) → is_declared T w ≡ true
obtain-declared T i s v dst w none =
    not-false (is_declared T w) (none-at ((w == v, SelfExchange) ∷ []) (not (is_declared T w)) NoVpe ((is_local_dead T i s w, Dead) ∷ destination_tests s v dst)
    (sym none))

pub obtain-free : (T : Setup) (i : ℕ) (s : Side) (v dst w : ℕ) → None ≡ first_code (obtain_tests T i s v dst w) → first_code (destination_tests s v dst) ≡ None
obtain-free T i s v dst w none = none-behind ((w == v, SelfExchange) ∷ (not (is_declared T w), NoVpe) ∷ (is_local_dead T i s w, Dead) ∷ [])
    (destination_tests s v dst) (sym none)

-- an open that is not refused
pub open-done : (T : Setup) (i : ℕ) (s : Side) (v dst name : ℕ) (k : KeyName) → None ≡ first_code (open_tests T i s v dst name) →
    Some k ≡ option_map (λ x. x.key) (service_named T name) → open_row T i s v dst name ≡ ask_made T i v dst (ServTarget k) s
open-done T i s v dst name k none named = unless-first (open_tests T i s v dst name) _ _ ∙ rw (← none) (with_key (service_named T name) named)
  where
    with_key : (o : Option Service) → Some k ≡ option_map (λ x. x.key) o → option_map_or (λ x. ask_made T i v dst (ServTarget x.key) s) o (answer NoService s)
        ≡ ask_made T i v dst (ServTarget k) s
    with_key None is = absurd cc
    with_key (Some x) is = let same : x.key ≡ k = cc in ap (λ q. ask_made T i v dst (ServTarget q) s) same

pub open-free : (T : Setup) (i : ℕ) (s : Side) (v dst name : ℕ) → None ≡ first_code (open_tests T i s v dst name) →
    first_code (destination_tests s v dst) ≡ None
open-free T i s v dst name none =
    let o : Option Service = service_named T name in
    none-behind ((is_none o, NoService) ∷ (service_passes (λ w. w == v) o, SelfExchange) ∷ (service_passes (is_local_dead T i s) o, Dead) ∷ [])
    (destination_tests s v dst) (sym none)

-- an ask that is not refused
pub offer-done : (T : Setup) (i : ℕ) (s : Side) (v dst session index : ℕ) (k : KeyName) → None ≡ first_code (offer_tests T i s v dst session) →
    Some k ≡ option_and_then (λ c. session_service c.object) (own s v session) →
    offer_row T i s v dst session index ≡ ask_made T i v dst (OfferTarget k index) s
offer-done T i s v dst session index k none service = unless-first (offer_tests T i s v dst session) _ _ ∙ rw (← none, ← service) refl

pub offer-free : (T : Setup) (i : ℕ) (s : Side) (v dst session : ℕ) → None ≡ first_code (offer_tests T i s v dst session) →
    first_code (destination_tests s v dst) ≡ None
offer-free T i s v dst session none =
    let o : Option Capability = own s v session in
    none-behind ((is_none o, NoCap) ∷ (is_marked o, Revoking) ∷ (not (object_passes (is_of SessKind) o), BadKind) ∷ (
      object_passes (is_service_dead T i s) o,
      Dead,
    ) ∷ []) (destination_tests s v dst) (sym none)
