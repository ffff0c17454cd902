use Rattle.std.proofs.lemmas.Result.{err_from_is_err_and}
use Rattle.sem_reader.proofs.ReadLines.{first_line, first_refused}
use Rattle.sem_reader.proofs.reader.Reader.first.Goals as goal

pub returns-in_err-self-clause-err : goal.returns-in_err-self-clause-err
returns-in_err-self-clause-err c =
    let p = err_from_is_err_and c.from_residual.result c.from_residual.ensures.1 in
    rw (p.1, p.2) (λ lines read. first_refused _ lines _ c.args.self.now.tables _ c.requires.stage c.in_err-self.ensures.fault read)

pub returns-clause-ok : goal.returns-clause-ok
returns-clause-ok c lines read = first_line _ lines _ c.args.self.now.tables c.in_ok-self.field-0 c.requires.stage read c.in_ok-self.ensures.fault
    c.in_ok-self.ensures.value c.in_ok-self.ensures.versions
