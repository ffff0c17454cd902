-- The states in which the calls of a VPE are parked along a journal.
use Rattle.std.specs.Prelude.{◌≡◌, ℕ, ◌+◌, ◌-◌, ◌≤◌, ◌<◌, List, length, map, slice_index_or, Option, None}
use Rattle.std.specs.List.{range_with_len}
use Rattle.sem_machine.specs.Prelude.{Entry, Parked, Setup}
use Rattle.sem_query.specs.Denials.{state_after}

-- the state after each entry of the journal, from entry b on
abbrev pub states_since : Setup → List Entry → ℕ → ℕ → List (Option Parked)
states_since T J v b = map (λ m. state_after T J v (m + 1)) (range_with_len b (length J - b))

-- the state p is the one at place i
abbrev pub IsStateAt : List (Option Parked) → Option Parked → ℕ → Type 0
IsStateAt states p i = slice_index_or states i None ≡ p

-- i is the first place of the state p, or the number of states if p is not among them
pub record IsFirstPlace (states : List (Option Parked)) (p : Option Parked) (i : ℕ) : Type 0 where
  pub within : i ≤ length states
  pub found : i < length states → IsStateAt states p i
  pub first : (m : ℕ) → m < i → ¬ IsStateAt states p m
