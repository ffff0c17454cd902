-- A schedule, as each kernel alone sees it ("Schedules" in docs/machine.md).
use Rattle.std.specs.Prelude.{◌≡◌, ℕ, ◌<◌, true, List, All, Option, None, IsSome}
use Rattle.sem_machine.specs.Prelude.{Message, Act, Fetch, Entry, Setup, part, Side, is_locally_enabled, local_entry}
use Rattle.sem_msg.specs.Journal.{Agrees}
use Rattle.sem_machine.specs.Schedules.{IsLocalRun, local_run, BringsMessage, carried_in}

-- each entry is of a kernel of the setup, the part of each kernel is a local run of it, and the
-- parts agree
pub record AreParts (T : Setup) (J : List Entry) : Type 0 where
  pub owned : All (λ e. e.event.kernel < T.kernels) J
  pub runs : (i : ℕ) → i < T.kernels → IsLocalRun T i (part J i)
  pub agrees : Agrees T J

-- the entry is what kernel i makes next at the side s: its act is locally enabled there, and a
-- fetch brings a message
pub record IsNext (T : Setup) (i : ℕ) (s : Side) (e : Entry) : Type 0 where
  pub enabled : is_locally_enabled T i s e.event.act ≡ true
  pub brings : BringsMessage e.event.act (carried_in e.event.act e.detail)
  pub made : e ≡ local_entry T i s e.event.act (carried_in e.event.act e.detail)

-- the entries are a local run of kernel i, and s is its side after them
pub record RunsTo (T : Setup) (i : ℕ) (L : List Entry) (s : Side) : Type 0 where
  pub run : IsLocalRun T i L
  pub side : local_run T i L ≡ s

-- a fetch gets a message, and no other act does
abbrev pub IsHanded : Act → Option Message → Type 0
IsHanded (Fetch from) input = IsSome input
IsHanded act input = input ≡ None
