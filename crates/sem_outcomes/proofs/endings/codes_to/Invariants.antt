use Rattle.std.proofs.Common.{◌≡◌, take}
use Rattle.sem_histories.specs.Outcomes.{codes_to}
use Rattle.sem_outcomes.proofs.endings.codes_to.Given as goal

-- the codes of the first entries
abbrev pub invariant-loop-entry : goal.invariant-loop-entry
invariant-loop-entry l = l.codes.items ≡ codes_to (take l.entry-index l.entries) l.vpe
