-- What the endpoints of one kernel keep in their fields.
use Rattle.std.specs.Prelude.{ℕ, ◌≤◌, List, length}
use Rattle.sem_msg.specs.Prelude.{Object, Mem, Recv, Send, Serv, Sess, Endpoint}
use Rattle.sem_key.specs.ObjectRanges.{IsValidObject}
use Rattle.sem_dtu.specs.declared.binding.Binding.{Binding}

-- an endpoint with that binding and these messages
abbrev pub bound_with : List ℕ → Binding → Endpoint
bound_with ring b = record { key = b.key; object = b.object; ring = ring }

-- what an endpoint can be bound to: memory or a gate
abbrev pub IsMemoryOrGate : Object → Type 0
IsMemoryOrGate (Mem base len rights) = Unit {0}
IsMemoryOrGate (Recv slots) = Unit {0}
IsMemoryOrGate (Send gate label credits) = Unit {0}
IsMemoryOrGate (Serv name) = ⊥
IsMemoryOrGate (Sess service ident) = ⊥

-- a send gate has no more messages under way than credits
abbrev pub IsWithinCredits : ℕ → Object → Type 0
IsWithinCredits n (Send gate label credits) = n ≤ credits
IsWithinCredits n object = Unit {0}

-- what always holds of a bound endpoint
pub record IsBound (e : Endpoint) : Type 0 where
  pub kind : IsMemoryOrGate e.object
  pub in_range : IsValidObject e.object
  pub within_credits : IsWithinCredits (length e.ring) e.object
