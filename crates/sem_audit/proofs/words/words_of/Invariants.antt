use Rattle.std.proofs.Common.{take}
use Rattle.sem_key.specs.Region.{has_key}
use Rattle.sem_grants.specs.Words.{HasWords}
use Rattle.sem_audit.proofs.words.words_of.Given as goal

-- the words of the first keys
abbrev pub invariant-loop-key : goal.invariant-loop-key
invariant-loop-key l = HasWords l.words (has_key (take l.key-index l.keys))
