use Rattle.std.proofs.Common.{take}
use Rattle.sem_key.specs.Region.{has_key}
use Rattle.sem_grants.specs.Words.{HasWords}
use Rattle.sem_audit.proofs.forests.cut_words.Given as goal

-- the words of the first keys
abbrev pub invariant-loop-word : goal.invariant-loop-word
invariant-loop-word l = HasWords l.words (has_key (take l.word-index l.word-items))
