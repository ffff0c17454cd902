-- What a row of tests says where one holds, and where none does.
use Rattle.std.proofs.Common.{◌≡◌, ℕ, ◌<◌, [], ◌∷◌, Some, None, refl, ◌∙◌}
use Rattle.std.specs.Prelude.{nat_le}
use Rattle.std.proofs.lemmas.Bool.{leb-false}
use Rattle.sem_key.specs.declared.limits.TheConstants.{NUMBERS}
use Rattle.sem_key.specs.Capability.{Capability}
use Rattle.sem_msg.specs.Setup.{Setup}
use Rattle.sem_msg.specs.VpeRows.{is_taken}
use Rattle.sem_msg.specs.declared.code.Code.TheVariants.{Occupied, Numbers}
use Rattle.sem_machine.specs.Sides.{Side, row, slot, own}
use Rattle.sem_machine.specs.Steps.{first_code}
use Rattle.sem_machine.specs.Calls.{delegate_row, delegate_tests, destination_tests, offer_made}
use Rattle.sem_machine.proofs.FirstCodes.{unless-first, none-at}

-- a delegate that is not refused, of a capability that is held
pub delegate-done : (T : Setup) (i : ℕ) (s : Side) (v src w dst : ℕ) (p : Capability) → None ≡ first_code (delegate_tests T i s v src w) →
    Some p ≡ own s v src → delegate_row T i s v src w dst ≡ offer_made T i v w dst p s
delegate-done T i s v src w dst p first held = unless-first (delegate_tests T i s v src w) _ _ ∙ rw (← first, ← held) refl

-- where a destination passes its tests, a number is left
pub number-left : (s : Side) (v sel : ℕ) → first_code (destination_tests s v sel) ≡ None → (row s v).next_number < NUMBERS
number-left s v sel none =
    leb-false NUMBERS (row s v).next_number (none-at ((is_taken (slot s v sel), Occupied) ∷ []) (nat_le NUMBERS (row s v).next_number) Numbers [] none)
