use Rattle.std.proofs.Common.{[], ◌∙◌, append-nil}
use Rattle.std.proofs.lemmas.Result.{err_from_is_err_and}
use Rattle.sem_trace.proofs.cursor.Words.last_call.Goals as goal

pub returns-in_err-call-clause-fault : goal.returns-in_err-call-clause-fault
returns-in_err-call-clause-fault c =
    let p = err_from_is_err_and c.from_residual.result c.from_residual.ensures.1 in
    rw (p.1, p.2) (rw append-nil at (c.in_err-call.ensures.reads []))

pub returns-in_err-no_more-clause-fault : goal.returns-in_err-no_more-clause-fault
returns-in_err-no_more-clause-fault c =
    let p = err_from_is_err_and c.from_residual-in_err-no_more.result c.from_residual-in_err-no_more.ensures.1 in
    rw (p.1, p.2) ((rw append-nil at (c.in_ok-call.ensures.reads.filled [])) ∙ c.in_err-no_more.ensures)

pub returns-clause-fault : goal.returns-clause-fault
returns-clause-fault c = (rw append-nil at (c.in_ok-call.ensures.reads.filled [])) ∙ c.in_ok-no_more.ensures
