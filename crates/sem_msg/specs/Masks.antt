-- Masks of kernels, which have a bit for each.
use Rattle.std.specs.Prelude.{◌≡◌, ℕ, ◌<◌, ◌==◌, Bool}
use Rattle.std.specs.Int.{bit_at}
use Rattle.sem_key.specs.declared.limits.TheConstants.{KERNELS}

-- whether the mask has a bit for the kernel
abbrev pub has_bit : ℕ → ℕ → Bool
has_bit mask k = bit_at mask k == 1

-- the mask has a bit for each kernel that passes the test, and for no other
abbrev pub IsMaskOf : (ℕ → Bool) → ℕ → Type 0
IsMaskOf test mask = (k : ℕ) → k < KERNELS → has_bit mask k ≡ test k
