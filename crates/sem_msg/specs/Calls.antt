-- Calls: the ranges of their numbers ("Calls" in docs/machine.md).
use Rattle.std.specs.Prelude.{ℕ, ◌<◌, ◌≤◌}
use Rattle.sem_key.specs.declared.limits.TheConstants.{SLOTS, RIGHTS}
use Rattle.sem_msg.specs.declared.limits.TheConstants.{SELECTORS, ENDPOINTS}
use Rattle.sem_msg.specs.declared.call.Call.{Call}
use Rattle.sem_msg.specs.declared.call.Call.TheVariants.{Derive, Gate, Obtain, Delegate, OpenSession, AskOffer}
use Rattle.sem_msg.specs.declared.call.Call.TheVariants.{Revoke, Bind, Read, Write, Send as SendCall, Credit, Exit}
use Rattle.sem_msg.specs.declared.call.Call.TheVariants.{Clear}

abbrev pub IsSelector : ℕ → Type 0
IsSelector sel = sel < SELECTORS

abbrev pub IsEndpoint : ℕ → Type 0
IsEndpoint ep = ep < ENDPOINTS

abbrev pub IsWord : ℕ → Type 0
IsWord n = n ≤ 4294967295

-- in a setup with that many VPEs
abbrev pub IsValidCall : ℕ → Call → Type 0
IsValidCall vpes (Derive src dst off len rights) = IsSelector src × IsSelector dst × IsWord off × IsWord len
    × (rights ≤ RIGHTS)
IsValidCall vpes (Gate src dst label credits) = IsSelector src × IsSelector dst × IsWord label × (1 ≤ credits)
    × (credits ≤ SLOTS)
IsValidCall vpes (Obtain dst vpe src) = IsSelector dst × (vpe < vpes) × IsSelector src
IsValidCall vpes (Delegate src vpe dst) = IsSelector src × (vpe < vpes) × IsSelector dst
IsValidCall vpes (OpenSession dst name) = IsSelector dst × (name ≤ 255)
IsValidCall vpes (AskOffer dst session index) = IsSelector dst × IsSelector session × (index ≤ 255)
IsValidCall vpes (Revoke src) = IsSelector src
IsValidCall vpes (Bind ep src) = IsEndpoint ep × IsSelector src
IsValidCall vpes (Read ep off len) = IsEndpoint ep × IsWord off × IsWord len
IsValidCall vpes (Write ep off len) = IsEndpoint ep × IsWord off × IsWord len
IsValidCall vpes (SendCall ep len) = IsEndpoint ep × IsWord len
IsValidCall vpes (Credit ep) = IsEndpoint ep
IsValidCall vpes Exit = Unit {0}
IsValidCall vpes (Clear src) = IsSelector src
