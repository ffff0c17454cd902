use Rattle.sem_run.proofs.Ending.{fault-ends}
use Rattle.sem_run.proofs.ReadInput.{reads-trace, reads-refused}
use Rattle.sem_run.proofs.runs.read_setup.Goals as goal

-- the text stands for a setup
pub returns-in-Ok-read_trace-clause-reads : goal.returns-in-Ok-read_trace-clause-reads
returns-in-Ok-read_trace-clause-reads g c asked = reads-trace _ c.in-Ok.bytes.items c.in-Ok.ensures.bytes c.in-Ok-read_trace.setup c.in-Ok.ensures.taken
    (rw c.deref.ensures.value at c.in-Ok-read_trace.ensures.stands) c.keeps_its_rules.ensures

-- it is refused
pub returns-in-Err-Refused-clause-refused : goal.returns-in-Err-Refused-clause-refused
returns-in-Err-Refused-clause-refused g c seed asked is =
    let refused = reads-refused _ c.in-Ok.bytes.items c.deref.result.now c.in-Err-Refused.fault c.in-Err-Refused.field-0 c.in-Ok.ensures.bytes
    c.deref.ensures.value c.in-Err-Refused.ensures.refused c.in-Err-Refused.field-0-is in
    fault-ends _ _ _ (c.in-Ok.bytes.items, c.in-Ok.ensures.taken) c.in-Ok.ensures.quiet c.refuse_trace.ensures.0 seed c.in-Err-Refused.fault is refused
    c.refuse_trace.result.status c.refuse_trace.ensures.1
