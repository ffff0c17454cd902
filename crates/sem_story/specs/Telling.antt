-- What rows tell.
use Rattle.std.specs.Prelude.{◌≡◌, ℕ, ◌+◌, ◌≤◌, nat_lt, List, All, length, take, fold, if◌then◌else◌}
use Rattle.std.specs.Option.{option_map_or}
use Rattle.std.specs.List.Sorted.{IsNonDecreasingBy}
use Rattle.sem_machine.specs.Prelude.{KeyName, Entry, Setup, world_after}
use Rattle.sem_story.specs.declared.rows.StoryRow.{StoryRow}
use Rattle.sem_story.specs.declared.stages.Stage.{Stage}
use Rattle.sem_story.specs.declared.stages.Stage.TheVariants.{Nowhere}
use Rattle.sem_story.specs.Stages.{stage_in}

-- after how many entries a row tells of the key
abbrev pub entries_of : StoryRow → ℕ
entries_of r = option_map_or (λ n. n + 1) r.entry 0

-- the row tells the stage of the key after its entry, one of the journal
pub record TellsStage (T : Setup) (J : List Entry) (k : KeyName) (r : StoryRow) : Type 0 where
  pub within : entries_of r ≤ length J
  pub stage : r.stage ≡ stage_in T (world_after T (take (entries_of r) J)) k

-- what the last row tells; nowhere if there is none
abbrev pub last_stage : List StoryRow → Stage
last_stage rows = fold (λ stage r. r.stage) Nowhere rows

-- what the last of the rows for at most n entries tells
abbrev pub stage_at : ℕ → List StoryRow → Stage
stage_at n rows = fold (λ stage r. if nat_lt n (entries_of r) then stage else r.stage) Nowhere rows

-- Each row tells the stage of the key after its entry. The entries never fall from row to row.
-- After any number of entries the key has the stage that the last row by then tells.
pub record TellStages (T : Setup) (J : List Entry) (k : KeyName) (rows : List StoryRow) : Type 0 where
  pub told : All (TellsStage T J k) rows
  pub rising : IsNonDecreasingBy entries_of rows
  pub whole : (n : ℕ) → n ≤ length J → stage_at n rows ≡ stage_in T (world_after T (take n J)) k
