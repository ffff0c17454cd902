use Rattle.std.proofs.Common.{sym}
use Rattle.std.proofs.lemmas.Result.{err_from_is_err_and}
use Rattle.sem_files.proofs.ReadLines.{opened, open_line, open_ill_formed, open_refused}
use Rattle.sem_files.proofs.reader.Reader.open.Goals as goal

pub returns-in_err-said-clause-err : goal.returns-in_err-said-clause-err
returns-in_err-said-clause-err c =
    let p = err_from_is_err_and c.from_residual.result c.from_residual.ensures.1 in
    rw (p.1, p.2) (λ lines read. open_ill_formed lines _ c.args.self.now.tables _ (opened _ lines _ c.requires.stage read) c.in_err-said.ensures.fault)

pub returns-in-Some-clause-err : goal.returns-in-Some-clause-err
returns-in-Some-clause-err c lines read =
    open_refused lines _ c.args.self.now.tables c.in_ok-said.said _ (opened _ lines _ c.requires.stage read) c.in_ok-said.ensures.fault
    c.in_ok-said.ensures.value (sym c.in-Some.ensures)

pub returns-clause-ok : goal.returns-clause-ok
returns-clause-ok c lines read =
    rw c.stage_after-self.ensures (open_line lines _ c.args.self.now.tables c.enter.new.self c.in_ok-said.said (opened _ lines _ c.requires.stage read)
    c.in_ok-said.ensures.fault c.in_ok-said.ensures.value (sym c.in_default.ensures) c.in_ok-enter.ensures.said)
