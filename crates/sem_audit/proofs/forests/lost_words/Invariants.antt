use Rattle.std.proofs.Common.{take}
use Rattle.sem_key.specs.Region.{has_key}
use Rattle.sem_machine.specs.Journals.{grants}
use Rattle.sem_grants.specs.Words.{HasWords}
use Rattle.sem_audit.specs.Losing.{lost}
use Rattle.sem_audit.proofs.forests.lost_words.Given as goal

-- the words of what is lost after the first entries
abbrev pub invariant-loop-entry : goal.invariant-loop-entry
invariant-loop-entry l = HasWords l.words (lost (has_key l.cut.keys) (grants (take l.entry-index l.entry-items)))
