use Rattle.sem_story.specs.Telling.{last_stage}
use Rattle.sem_story.specs.Walks.{IsOneOf, Notes}
use Rattle.sem_story.proofs.walks.note_bindings.Given as goal

-- what was noted so far
abbrev pub invariant-loop-endpoint : goal.invariant-loop-endpoint
invariant-loop-endpoint l = record {
  notes : Notes l.when l.initial.rows.items l.rows.items;
  last : IsOneOf (last_stage l.rows.items) (last_stage l.initial.rows.items) l.when.stage;
}
