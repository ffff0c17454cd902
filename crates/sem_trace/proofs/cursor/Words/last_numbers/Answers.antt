use Rattle.std.proofs.Common.{◌≡◌, [], ◌++◌, map, Some, append-nil}
use Rattle.std.proofs.lemmas.Result.{err_from_is_err_and}
use Rattle.sem_trace.specs.Forms.{form_fault}
use Rattle.sem_trace.specs.Places.{number_place, left_at}
use Rattle.sem_trace.proofs.cursor.Words.last_numbers.Goals as goal

pub returns-in_err-values-clause-fault : goal.returns-in_err-values-clause-fault
returns-in_err-values-clause-fault c =
    let p = err_from_is_err_and c.from_residual.result c.from_residual.ensures.1 in
    let h : form_fault (map number_place c.args.ranges.now ++ []) c.args.self.now ≡
    Some (c.in_err-values.field-0.0, left_at c.in_err-values.field-0.0 c.numbers.new.self) = c.in_err-values.ensures.reads [] in
    rw (p.1, p.2) (rw append-nil at h)
