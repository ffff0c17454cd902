use Rattle.std.proofs.Common.{take}
use Rattle.sem_machine.specs.Journals.{has_ended}
use Rattle.sem_grants.specs.Backward.{HasVpes}
use Rattle.sem_grants.proofs.cuts.ended_vpes.Given as goal

-- the VPEs that end in the first entries
abbrev pub invariant-loop-entry : goal.invariant-loop-entry
invariant-loop-entry l = HasVpes l.ended (has_ended (take l.entry-index l.entries))
