-- What is observed of a side and of a world: functions read off them. Facts about schedules are
-- stated with these ("Observations" in docs/proof.md).
use Rattle.std.specs.Prelude.{◌≡◌, ℕ, ◌==◌, Bool, false, List, [], slice_index_or, Option, Some, None, AllPairs}
use Rattle.std.specs.Prelude.{if◌then◌else◌}
use Rattle.std.specs.Option.{option_map, option_and_then}
use Rattle.sem_machine.specs.Prelude.{KeyName, key_eq, Capability, Message, Parked, Pending, JobRow, VpeRow, Side}
use Rattle.sem_machine.specs.Prelude.{cap, row, parked, pending, job, outbox, World, side, link}
use Rattle.sem_msg.specs.Rows.{Endpoint}

-- what is observed of a side
pub record ObservedSide : Type 0 where
  -- the held capability of a key
  pub cap : KeyName → Option Capability
  -- what is kept of a VPE
  pub row : ℕ → VpeRow
  -- the endpoints of a VPE
  pub endpoints : ℕ → List (Option Endpoint)
  -- the state in which the call of a VPE is parked
  pub parked : ℕ → Option Parked
  -- the pending delegation of a key
  pub pending : KeyName → Option Pending
  -- the open job of an id
  pub job : ℕ → Option JobRow
  pub next_job : ℕ
  pub inbox : Option (ℕ × Message)
  -- the messages that wait to be sent to a kernel
  pub outbox : ℕ → List Message

-- the endpoints of a VPE
abbrev pub endpoints : Side → ℕ → List (Option Endpoint)
endpoints s v = slice_index_or s.endpoints v []

abbrev pub seen : Side → ObservedSide
seen s = record {
  cap = cap s;
  row = row s;
  endpoints = endpoints s;
  parked = parked s;
  pending = pending s;
  job = job s;
  next_job = s.next_job;
  inbox = s.inbox;
  outbox = outbox s;
}

-- what is observed of a world
pub record Observed : Type 0 where
  -- what is observed of the side of a kernel
  pub kernel : ℕ → ObservedSide
  -- the link from a kernel to another
  pub link : ℕ → ℕ → List Message
  pub replies : ℕ

abbrev pub observed : World → Observed
observed W = record { kernel = λ i. seen (side W i); link = link W; replies = W.replies }

-- the function with another value at one number
abbrev pub at : {X : Type 0} → ℕ → X → (ℕ → X) → ℕ → X
at i x f j = if j == i then x else f j

-- the function with another value at one key
abbrev pub at_key : {X : Type 0} → KeyName → X → (KeyName → X) → KeyName → X
at_key k x f q = if key_eq q k then x else f q

-- the capabilities whose keys pass a test, changed
abbrev pub caps_changed : (KeyName → Bool) → (Capability → Capability) → (KeyName → Option Capability) → KeyName →
    Option Capability
caps_changed test f caps q = if test q then option_map f (caps q) else caps q

-- the capability, if it passes the test
abbrev pub if_kept : (Capability → Bool) → Option Capability → Option Capability
if_kept test o = option_and_then (λ c. if test c then Some c else None) o

-- the keys of the capabilities are distinct
abbrev pub AreDistinct : List Capability → Type 0
AreDistinct cs = AllPairs (λ a b. key_eq a.key b.key ≡ false) cs
