use Rattle.std.proofs.lemmas.Result.{err_from_is_err_and}
use Rattle.sem_files.proofs.acts.read_act.Goals as goal

pub returns-in_err-name : goal.returns-in_err-name
returns-in_err-name c =
    let p = err_from_is_err_and c.from_residual.result c.from_residual.ensures.1 in
    rw (p.1, p.2) (record { fault = c.in_err-name.ensures.err _ _; value = tt; ranges = tt })
