use Rattle.std.proofs.Common.{rules}
use Rattle.sem_caps.proofs.Tally.{tallied-empty}
use Rattle.sem_caps.proofs.caps.Caps.new.Goals as goal

pub invariant_of-result : goal.invariant_of-result
invariant_of-result c = rw (c.new-2.ensures.items, c.in_ok-no_marks.ensures) (search rules, search rules, search rules, tallied-empty)
