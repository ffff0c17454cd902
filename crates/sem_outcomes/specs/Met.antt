-- The histories that a search has met, as contracts see them.
use Rattle.std.specs.Prelude.{◌≡◌, ℕ, ◌+◌, ◌<◌, ◌≤◌, List, [], ◌∷◌, ◌++◌, length, map, fold, slice_index_or, All}
use Rattle.sem_machine.specs.Prelude.{Entry, Event, Setup, FabricValue, IsSchedule, world_after}
use Rattle.sem_machine.specs.Schedules.{IsLocalRun}
use Rattle.sem_numbering.specs.Nodes.{Node}
use Rattle.sem_histories.specs.Outcomes.{and_then}
use Rattle.sem_histories.specs.Closed.{CountsAs, ByParts}
use Rattle.sem_histories.specs.Search.{IsSearched, HasGoneOn}
use Rattle.sem_histories.specs.Trees.{IsTree, part_below, AreNumbersOf}
use Rattle.sem_outcomes.specs.declared.steps.Step.{Step}

-- The journals of the histories, by number: the first is empty, each other one goes on from an
-- earlier one by an event.
unfoldable pub journals : Setup → List Step → List (List Entry)
journals T steps = fold (λ V s. V ++ and_then T (slice_index_or V s.from []) s.event ∷ []) ([] ∷ []) steps

-- the journal of that number
abbrev pub journal_at : Setup → List Step → ℕ → List Entry
journal_at T steps n = slice_index_or (journals T steps) n []

-- the parts that the nodes of a tree tell, by number
unfoldable pub kernel_parts : List Node → List (List Entry)
kernel_parts nodes = fold (λ parts n. parts ++ part_below parts n.0 n.1 ∷ []) ([] ∷ []) nodes

-- each step goes on from an earlier history
abbrev pub AreEarlier : List Step → Type 0
AreEarlier steps = (k : ℕ) (d : Step) → k < length steps → (slice_index_or steps k d).from ≤ k

-- each step goes on from an earlier history, and leads to a schedule
pub record AreSteps (T : Setup) (steps : List Step) : Type 0 where
  pub earlier : AreEarlier steps
  pub schedules : All (IsSchedule T) (journals T steps)

-- each tree tells every part once, and only parts that the kernel can have
pub record ArePartTrees (T : Setup) (trees : List (List Node)) : Type 0 where
  pub many : length trees ≡ T.kernels
  pub each : (i : ℕ) → i < T.kernels → IsTree (slice_index_or trees i []) (kernel_parts (slice_index_or trees i []))
  pub runs : (i : ℕ) → i < T.kernels → All (IsLocalRun T i) (kernel_parts (slice_index_or trees i []))

-- the numbers, one for each kernel, are those of its part of the journal
abbrev pub AreNumbersIn : Setup → List (List Node) → List ℕ → List Entry → Type 0
AreNumbersIn T trees numbers J = AreNumbersOf T (map kernel_parts trees) numbers J

-- The histories: each but the first by its step, and each by the numbers of its parts.
pub record HistoriesValue : Type 0 where
  pub steps : List Step
  pub numbers : List (List ℕ)
  pub trees : List (List Node)

-- they are histories of the setup, each with its numbers
pub record AreMet (T : Setup) (h : HistoriesValue) : Type 0 where
  pub steps : AreSteps T h.steps
  pub trees : ArePartTrees T h.trees
  pub many : length h.numbers ≡ length h.steps + 1
  pub numbers : (k : ℕ) → k < length h.numbers
      → AreNumbersIn T h.trees (slice_index_or h.numbers k []) (journal_at T h.steps k)

-- the fabric has the links that the journal leaves
pub record HasLinks (T : Setup) (f : FabricValue) (J : List Entry) : Type 0 where
  pub kernels : f.kernels ≡ T.kernels
  pub links : f.links ≡ (world_after T J).links

-- the list continues the other
abbrev pub Continues : List (List Entry) → List (List Entry) → Type 0
Continues V W = (rest : List (List Entry)) × (W ≡ V ++ rest)

-- A search within its limit has gone on from exactly that many of the first histories.
pub record IsUnderWay (T : Setup) (limit at : ℕ) (h : HistoriesValue) : Type 0 where
  pub met : AreMet T h
  pub few : length h.numbers ≤ limit
  pub searched : IsSearched (CountsAs ByParts T) T (journals T h.steps) at

-- it has also met what each of these events leads to from a history that it had before
pub record HasMet (T : Setup) (limit at : ℕ) (events : List Event) (old new : HistoriesValue) : Type 0 where
  pub now : IsUnderWay T limit at new
  pub grown : Continues (journals T old.steps) (journals T new.steps)
  pub gone_on : HasGoneOn (CountsAs ByParts T) T (journals T new.steps) (journal_at T old.steps at) events
