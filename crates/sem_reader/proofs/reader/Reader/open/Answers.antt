use Rattle.std.proofs.Common.{sym}
use Rattle.std.proofs.lemmas.Result.{err_from_is_err_and}
use Rattle.sem_reader.proofs.ReadLines.{opened, open_line, open_ill_formed, open_refused}
use Rattle.sem_reader.proofs.reader.Reader.open.Goals as goal

pub returns-in_err-d-clause-err : goal.returns-in_err-d-clause-err
returns-in_err-d-clause-err c =
    let p = err_from_is_err_and c.from_residual.result c.from_residual.ensures.1 in
    rw (p.1, p.2) (λ lines read. open_ill_formed lines _ c.args.self.now.tables _ _ (opened _ lines _ c.requires.stage read) c.kernels.ensures.number
    c.in_err-d.ensures.fault)

pub returns-in-Some-clause-err : goal.returns-in-Some-clause-err
returns-in-Some-clause-err c lines read =
    let o = opened _ lines c.args.self.now.tables c.requires.stage read in
    open_refused lines _ c.args.self.now.tables _ _ _ o c.kernels.ensures.number c.in_ok-d.ensures.fault c.in_ok-d.ensures.value
    (sym (c.in-Some.ensures _ _ _ o.tells))

pub returns-clause-ok : goal.returns-clause-ok
returns-clause-ok c lines read =
    let o = opened _ lines c.args.self.now.tables c.requires.stage read in
    let accepted = sym (c.in_default.ensures _ _ _ o.tells) in
    rw c.stage_after-self.ensures (open_line lines _ c.args.self.now.tables c.enter.new.self _ c.in_ok-d.d o c.kernels.ensures.number c.in_ok-d.ensures.fault
    c.in_ok-d.ensures.value accepted (c.in_ok-enter.ensures.ok _ _ _ o.tells accepted))
