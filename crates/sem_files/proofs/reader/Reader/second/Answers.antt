use Rattle.std.proofs.lemmas.Result.{err_from_is_err_and}
use Rattle.sem_files.proofs.ReadLines.{second_line, second_refused}
use Rattle.sem_files.proofs.reader.Reader.second.Goals as goal

pub returns-in_err-kernels-clause-err : goal.returns-in_err-kernels-clause-err
returns-in_err-kernels-clause-err c =
    let p = err_from_is_err_and c.from_residual.result c.from_residual.ensures.1 in
    rw (p.1, p.2) (λ lines read. second_refused _ lines _ c.args.self.now.tables _ c.requires.stage c.in_err-kernels.ensures.fault read)

pub returns-clause-ok : goal.returns-clause-ok
returns-clause-ok c lines read =
    second_line _ lines _ c.args.self.now.tables c.new.result c.in_ok-kernels.kernels c.requires.stage read c.in_ok-kernels.ensures.fault
    c.in_ok-kernels.ensures.value c.new.ensures.said
