-- How far a walk has come. These words serve private functions.
use Rattle.std.specs.Prelude.{◌≡◌, ℕ, ◌+◌, ◌<◌, ◌⊎◌, List, [], All, length, take}
use Rattle.std.specs.List.Sorted.{IsNonDecreasingBy}
use Rattle.sem_machine.specs.Prelude.{KeyName, Entry, Setup, start, world_after}
use Rattle.sem_story.specs.declared.rows.StoryRow.{StoryRow}
use Rattle.sem_story.specs.declared.stages.Stage.{Stage}
use Rattle.sem_story.specs.declared.walks.Walk.{Walk}
use Rattle.sem_story.specs.declared.walks.When.{When}
use Rattle.sem_story.specs.Stages.{stage_in}
use Rattle.sem_story.specs.Telling.{entries_of, stage_at, TellsStage, TellStages}

-- the rows of a key with this stage before the first entry
abbrev pub AreFirst : Stage → List StoryRow → Type 0
AreFirst stage rows = (T : Setup) (k : KeyName) → stage ≡ stage_in T (start T) k → TellStages T [] k rows

-- The rows tell of the journal, whose last entry is being noted: they need not yet tell of its end.
pub record AreNoted (T : Setup) (J : List Entry) (k : KeyName) (rows : List StoryRow) : Type 0 where
  pub told : All (TellsStage T J k) rows
  pub rising : IsNonDecreasingBy entries_of rows
  pub earlier : (n : ℕ) → n < length J → stage_at n rows ≡ stage_in T (world_after T (take n J)) k

-- the rows noted for an entry tell the stage of the key after it
abbrev pub Notes : When → List StoryRow → List StoryRow → Type 0
Notes when old new =
    (T : Setup) (J : List Entry) (k : KeyName)
    → when.number + 1 ≡ length J → when.stage ≡ stage_in T (world_after T J) k
    → AreNoted T J k old → AreNoted T J k new

abbrev pub IsOneOf : Stage → Stage → Stage → Type 0
IsOneOf stage one other = (stage ≡ one) ⊎ (stage ≡ other)

-- the walk of the key has gone through the entries
pub record IsAfter (T : Setup) (J : List Entry) (k : KeyName) (w : Walk) : Type 0 where
  pub world : w.world ≡ record { setup = T; world = world_after T J }
  pub stage : w.stage ≡ stage_in T (world_after T J) k
  pub rows : TellStages T J k w.rows.items
