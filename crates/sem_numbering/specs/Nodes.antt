-- The nodes of a tree of parts, and how one is found.
use Rattle.std.specs.Prelude.{◌≡◌, ℕ, ◌+◌, ◌<◌, ◌≤◌, ◌^◌, List, [], length, slice_get, slice_index_or, Contains}
use Rattle.std.specs.Prelude.{Option, Some}
use Rattle.sem_machine.specs.Prelude.{Message, Event, Entry}
use Rattle.sem_machine.specs.Schedules.{carried_in}

-- A node is the number of a part, and the entry that a part one entry longer adds.
abbrev pub Node : Type 0
Node = ℕ × Entry

-- the entry is one of the event, and carries that message if it is a fetch
pub record IsMadeBy (by : Event) (input : Option Message) (e : Entry) : Type 0 where
  pub event : e.event ≡ by
  pub message : carried_in e.event.act e.detail ≡ input

-- the node at that place goes on from that part by an entry of the event, with that message if it
-- is a fetch
pub record IsNodeAt (nodes : List Node) (from : ℕ) (by : Event) (input : Option Message) (place : ℕ) : Type 0 where
  pub entry : Entry
  pub node : slice_get nodes place ≡ Some (from, entry)
  pub made : IsMadeBy by input entry

-- part n is that of such a node
pub record IsFoundPart (nodes : List Node) (from : ℕ) (by : Event) (input : Option Message) (n : ℕ) : Type 0 where
  pub place : ℕ
  pub number : n ≡ place + 1
  pub node : IsNodeAt nodes from by input place

-- no such node exists
abbrev pub HasNoNode : List Node → ℕ → Event → Option Message → Type 0
HasNoNode nodes from by input = (e : Entry) → IsMadeBy by input e → Contains nodes (from, e) → ⊥

-- no part has lost a child
pub record HasMore (old new : List (List ℕ)) : Type 0 where
  pub long : length old ≤ length new
  pub kept : (i k : ℕ) → Contains (slice_index_or old i []) k → Contains (slice_index_or new i []) k

-- each node stands among the children of its part, by its place
pub record AreChildren (nodes : List Node) (children : List (List ℕ)) : Type 0 where
  pub long : length nodes < length children
  pub few : length nodes < 2 ^ 32
  pub among : (k from : ℕ) (e : Entry) → slice_get nodes k ≡ Some (from, e) →
      Contains (slice_index_or children from []) k
