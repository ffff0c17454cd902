-- What a kernel keeps of its jobs, endpoints and VPEs, as plain data ("State" in docs/machine.md).
use Rattle.std.specs.Prelude.{ℕ, Bool, false, List, [], Option}
use Rattle.sem_key.specs.declared.object.Object.{Object}
use Rattle.sem_key.specs.Prelude.{KeyName}
use Rattle.sem_msg.specs.declared.state.Slot.{Slot}
use Rattle.sem_msg.specs.declared.state.Ask.{Ask}
use Rattle.sem_msg.specs.declared.state.Up.{Up}

-- a job that revokes everything made from its root
pub record JobRow : Type 0 where
  pub id : ℕ
  pub root : KeyName
  -- the job that waits for this one
  pub up : Option Up
  -- the VPEs that wait for it, in rising order
  pub waiters : List ℕ
  -- how many tokens are out for it
  pub count : ℕ
  -- whether it keeps its root, as a `clear` does
  pub keep : Bool

-- what an endpoint is bound to
pub record Endpoint : Type 0 where
  pub key : KeyName
  pub object : Object
  -- the lengths of the messages that were sent and not yet credited, oldest first
  pub ring : List ℕ

-- what a kernel keeps of a VPE
pub record VpeRow : Type 0 where
  pub alive : Bool
  -- its slots, by selector
  pub slots : List Slot
  -- how many numbers it has drawn for its keys
  pub next_number : ℕ
  -- how many calls it has made
  pub next_call : ℕ
  -- its waiting asks, oldest first
  pub asks : List Ask

-- a kernel keeps nothing of a VPE of another kernel
abbrev pub no_vpe : VpeRow
no_vpe = record { alive = false; slots = []; next_number = 0; next_call = 0; asks = [] }
