-- The ranges of the numbers of a line with a form ("The trace" in docs/texts.md).
use Rattle.std.specs.Prelude.{ℕ, ◌<◌, ◌≤◌}
use Rattle.sem_msg.specs.Prelude.{NUMBERS, SLOTS, RIGHTS, KeyName, PlaceName, most_vpes, IsSelector, IsValidCall}
use Rattle.sem_msg.specs.Versions.{IsWindow}
use Rattle.sem_msg.specs.Calls.{IsWord}
use Rattle.sem_trace.specs.declared.declaration.Declaration.{Declaration}
use Rattle.sem_trace.specs.declared.declaration.Declaration.TheVariants.{Kernels, Window, Pe, Vpe, Memory, Receive}
use Rattle.sem_trace.specs.declared.declaration.Declaration.TheVariants.{Service, Offer, Deny, Kill, Call, End}

-- a PE or a VPE that a text of that version can name
abbrev pub IsNode : ℕ → ℕ → Type 0
IsNode version n = n < most_vpes version

-- a key of such a PE and such a VPE
abbrev pub IsKeyInText : ℕ → KeyName → Type 0
IsKeyInText version k = IsNode version k.pe × IsNode version k.vpe × (k.number < NUMBERS)

-- the place of such a key
abbrev pub IsPlaceInText : ℕ → PlaceName → Type 0
IsPlaceInText version p = IsNode version p.pe × IsNode version p.vpe × (p.number < NUMBERS)

-- the numbers are in the ranges of their places, in a text with that many kernels
abbrev pub IsInRange : (version kernels : ℕ) → Declaration → Type 0
IsInRange version kernels (Kernels n) = Unit {0}
IsInRange version kernels (Window n) = IsWindow version n
IsInRange version kernels (Pe p kernel) = IsNode version p × (kernel < kernels)
IsInRange version kernels (Vpe v p) = IsNode version v × IsNode version p
IsInRange version kernels (Memory v s base len rights) = IsNode version v × IsSelector s × IsWord base × IsWord len
    × (rights ≤ RIGHTS)
IsInRange version kernels (Receive v s slots) = IsNode version v × IsSelector s × (1 ≤ slots) × (slots ≤ SLOTS)
IsInRange version kernels (Service v s name) = IsNode version v × IsSelector s × (name ≤ 255)
IsInRange version kernels (Offer name index s) = (name ≤ 255) × (index ≤ 255) × IsSelector s
IsInRange version kernels (Deny v asker) = IsNode version v × IsNode version asker
IsInRange version kernels (Kill v replies) = IsNode version v × IsWord replies
IsInRange version kernels (Call v call) = IsNode version v × IsValidCall (most_vpes version) call
IsInRange version kernels End = Unit {0}
