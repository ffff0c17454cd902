use Rattle.sem_trace.proofs.PlaceSteps.{line_fault_is, no_line_fault}
use Rattle.sem_trace.proofs.declarations.read_second.Goals as goal

pub returns-in-Ok-clause-fault : goal.returns-in-Ok-clause-fault
returns-in-Ok-clause-fault c = rw (← c.of-words.ensures) (no_line_fault _ _ c.in-Ok.ensures.fault)

pub returns-in-Err-clause-fault : goal.returns-in-Err-clause-fault
returns-in-Err-clause-fault c = rw (c.fault_in.ensures, ← c.of-words.ensures) (line_fault_is _ _ _ _ c.in-Err.ensures.fault)
