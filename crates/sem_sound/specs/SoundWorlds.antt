-- What holds of the messages that a kernel fetches, and of all kernels together ("Sound stores" in
-- docs/proof.md).
use Rattle.std.specs.Prelude.{ℕ, ◌<◌, ◌≤◌, length, sum_by, Contains, Option, Some, None}
use Rattle.sem_machine.specs.Prelude.{Parked, Message, Act, Fetch, JobRow, Setup, World, side, link, Side, IsSound}
use Rattle.sem_msg.specs.Message.{Fits}
use Rattle.sem_machine.specs.Sound.{one_if}

-- the message that a fetch takes out of a link fits
abbrev pub IsSoundInput : Act → Option Message → Type 0
IsSoundInput (Fetch from) None = Unit {0}
IsSoundInput (Fetch from) (Some m) = Fits m
IsSoundInput act input = Unit {0}

-- no job has more tokens out than its count of 64 bits can tell
abbrev pub CountsFit : Side → Type 0
CountsFit s = (x : JobRow) → Contains s.jobs x → x.count ≤ 9223372036854775808

-- the sides of all kernels are sound, and their counts fit; the messages in each link fit, and are
-- no more than the window of the setup
pub record IsSoundWorld (T : Setup) (W : World) : Type 0 where
  pub sides : (i : ℕ) → i < T.kernels → IsSound T i (side W i)
  pub counts : (i : ℕ) → i < T.kernels → CountsFit (side W i)
  pub links : (i j : ℕ) (m : Message) → Contains (link W i j) m → Fits m
  pub windows : (i j : ℕ) → length (link W i j) ≤ T.window

-- how many calls are parked, at a side and in a world
abbrev pub parked_calls : Side → ℕ
parked_calls s = sum_by (λ (p : Option Parked). one_if p) s.parks

abbrev pub all_parked_calls : World → ℕ
all_parked_calls W = sum_by parked_calls W.sides
