-- The tokens of a delegation to another kernel: its DelegatePrepared and its Ack in flight, and the
-- call that is ready to grant it ("What is lost is doomed" in docs/proof.md).
use Rattle.std.specs.Prelude.{◌≡◌, ℕ, ◌+◌, ◌≤◌, List, Option, Some, None, if◌then◌else◌, sum_by}
use Rattle.sem_machine.specs.Prelude.{KeyName, key_eq, Message, DelegatePrepared, Ack, Parked, DelegateReady, Entry}
use Rattle.sem_machine.specs.Prelude.{Pending, Setup, owner_of, Side, pending, World, side, world_after}

-- how many tokens the delegation of a key has
module _ (k0 : KeyName) where
  -- one, if it is that key
  abbrev pub of_key : KeyName → ℕ
  of_key k = if key_eq k k0 then 1 else 0

  -- an Ack counts, whether it accepts or not
  abbrev pub of_message : Message → ℕ
  of_message (DelegatePrepared parent key) = of_key key
  of_message (Ack key accepted) = of_key key
  of_message m = 0

  abbrev pub of_messages : List Message → ℕ
  of_messages ms = sum_by of_message ms

  abbrev pub of_parked : Option Parked → ℕ
  of_parked (Some (DelegateReady parent key)) = of_key key
  of_parked p = 0

  abbrev pub of_inbox : Option (ℕ × Message) → ℕ
  of_inbox None = 0
  of_inbox (Some m) = of_message m.1

  abbrev pub of_side : Side → ℕ
  of_side s = sum_by of_parked s.parks + (of_inbox s.inbox + sum_by of_messages s.outs)

  abbrev pub of_links : List (List (List Message)) → ℕ
  of_links links = sum_by (λ ls. sum_by of_messages ls) links

  abbrev pub of_world : World → ℕ
  of_world W = sum_by of_side W.sides + of_links W.links

-- each delegation has at most one token
abbrev pub one_token_each : Setup → List Entry → Type 0
one_token_each T J = (k : KeyName) → of_world k (world_after T J) ≤ 1

-- while it has one, the owner of its key has it pending
abbrev pub tokens_pend : Setup → List Entry → Type 0
tokens_pend T J = (k : KeyName) → 1 ≤ of_world k (world_after T J) →
    (p : Pending) × (pending (side (world_after T J) (owner_of T k)) k ≡ Some p)
