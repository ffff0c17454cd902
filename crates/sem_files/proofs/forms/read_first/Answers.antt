use Rattle.sem_trace.proofs.PlaceSteps.{line_fault_is, no_line_fault}
use Rattle.sem_files.proofs.forms.read_first.Goals as goal

pub returns-in-Ok : goal.returns-in-Ok
returns-in-Ok c = rw (← c.of-words.ensures) (no_line_fault _ _ c.in-Ok.ensures)

pub returns-in-Err : goal.returns-in-Err
returns-in-Err c = rw (c.fault_in.ensures, ← c.of-words.ensures) (line_fault_is _ _ _ _ c.in-Err.ensures)
