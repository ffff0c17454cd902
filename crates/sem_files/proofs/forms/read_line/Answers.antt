use Rattle.sem_trace.proofs.PlaceSteps.{line_fault_is, no_line_fault}
use Rattle.sem_files.proofs.forms.read_line.Goals as goal

pub returns-in-Ok : goal.returns-in-Ok
returns-in-Ok c =
    rw (← c.of-words.ensures) (record {
      fault = no_line_fault _ _ c.in-Ok.ensures.fault;
      value = c.in-Ok.ensures.value;
      ranges = c.in-Ok.ensures.ranges;
    })

pub returns-in-Err : goal.returns-in-Err
returns-in-Err c =
    rw (c.fault_in.ensures, ← c.of-words.ensures) (record { fault = line_fault_is _ _ _ _ c.in-Err.ensures.fault; value = tt; ranges = tt })
