use Rattle.std.proofs.Common.{take}
use Rattle.sem_key.specs.Region.{has_key}
use Rattle.sem_query.specs.Reaching.{Lists, HasWords}
use Rattle.sem_query.proofs.reach.list_words.Given as goal

-- those of the first keys are listed
abbrev pub invariant-loop-word : goal.invariant-loop-word
invariant-loop-word l = record {
  listed : Lists l.kernel.side.caps (take l.word-index l.word-items) l.fn.keys.items l.keys.items;
  words : HasWords l.words (has_key l.keys.items);
}
