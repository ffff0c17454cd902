-- The list of all outcomes of a setup, each with a run that shows it.
use Rattle.std.specs.Prelude.{◌≡◌, ◌≢◌, ◌↔◌, ℕ, ◌+◌, ◌⊎◌, List, [], ◌∷◌, map, Contains, All, AllPairs}
use Rattle.sem_machine.specs.Prelude.{Entry, Setup, IsComplete}
use Rattle.sem_histories.specs.Outcomes.{RunOutcome, outcome, IsOutcome}

-- an outcome, and the journal of a run that ends with it
pub record Witness : Type 0 where
  pub journal : List Entry
  pub outcome : RunOutcome

-- the outcome of a journal, shown by the journal
abbrev pub witness_of : Setup → List Entry → Witness
witness_of T J = record { journal = J; outcome = outcome T J }

abbrev pub outcomes_of : List Witness → List RunOutcome
outcomes_of witnesses = map (λ d. d.outcome) witnesses

-- the journal is a complete schedule, and has the outcome
pub record IsShown (T : Setup) (witness : Witness) : Type 0 where
  pub complete : IsComplete T witness.journal
  pub comes_to : outcome T witness.journal ≡ witness.outcome

-- The witnesses of these schedules: each is shown, none is missing, and no outcome stands twice.
pub record ListsOutcomes (T : Setup) (V : List (List Entry)) (witnesses : List Witness) : Type 0 where
  pub shown : All (IsShown T) witnesses
  pub whole : (J : List Entry) → Contains V J → IsComplete T J → Contains (outcomes_of witnesses) (outcome T J)
  pub once : AllPairs (λ a b. a ≢ b) (outcomes_of witnesses)

-- All witnesses of the setup: their outcomes are exactly those of its complete schedules.
pub record ListsAllOutcomes (T : Setup) (witnesses : List Witness) : Type 0 where
  pub shown : All (IsShown T) witnesses
  pub exact : (o : RunOutcome) → IsOutcome T o ↔ Contains (outcomes_of witnesses) o
  pub once : AllPairs (λ a b. a ≢ b) (outcomes_of witnesses)

-- the journal is a complete schedule, and ends in the outcome
abbrev pub IsEnding : Setup → RunOutcome → List Entry → Type 0
IsEnding T o J = IsComplete T J × (outcome T J ≡ o)

-- that many of the list have the property
abbrev pub HasSoMany : {A : Type 0} → (A → Type 0) → List A → ℕ → Type 0
HasSoMany P [] n = n ≡ 0
HasSoMany P (x ∷ xs) n = (P x × ((m : ℕ) × (n ≡ m + 1) × HasSoMany P xs m)) ⊎ ((P x → ⊥) × HasSoMany P xs n)
