use Rattle.std.proofs.Common.{take}
use Rattle.sem_key.specs.Region.{has_key}
use Rattle.sem_query.specs.Reaching.{Lists, HasWords}
use Rattle.sem_query.proofs.reach.list_all.Given as goal

-- those of the first keys are listed
abbrev pub invariant-loop-key : goal.invariant-loop-key
invariant-loop-key l = record {
  listed : Lists l.kernel.side.caps (take l.key-index l.more) l.fn.keys.items l.keys.items;
  words : HasWords l.words (has_key l.keys.items);
}
