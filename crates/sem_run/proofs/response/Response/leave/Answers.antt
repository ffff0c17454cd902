use Rattle.sem_run.specs.Texts.{text_of}
use Rattle.sem_run.proofs.Serving.{written, unwritten}
use Rattle.sem_run.proofs.response.Response.leave.Goals as goal

-- the text was written
pub returns-in-Ok : goal.returns-in-Ok
returns-in-Ok g c given responds =
    let r = c.args.self in
    written given r.journal.entries (text_of r.text r.journal.entries) c.reports_are_accepted.ensures.accepts r.status _ _ _ _ responds c.in-Ok.ensures.ok

-- a write failed
pub returns-in-Err : goal.returns-in-Err
returns-in-Err g c given responds =
    let r = c.args.self in
    unwritten given r.journal.entries (text_of r.text r.journal.entries) c.reports_are_accepted.ensures.accepts r.status _ _ _ _ responds
    c.in-Err.ensures.err c.in-Err.ensures.fault
