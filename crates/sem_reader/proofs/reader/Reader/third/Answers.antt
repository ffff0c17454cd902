use Rattle.std.proofs.lemmas.Result.{err_from_is_err_and}
use Rattle.sem_reader.proofs.ReadLines.{counted, window_accepted, third_line, third_refused}
use Rattle.sem_reader.proofs.reader.Reader.third.Goals as goal

pub returns-in_err-d-clause-err : goal.returns-in_err-d-clause-err
returns-in_err-d-clause-err c =
    let p = err_from_is_err_and c.from_residual.result c.from_residual.ensures.1 in
    rw (p.1, p.2) (λ lines read. third_refused lines _ c.args.self.now.tables _ (counted _ lines _ c.requires.stage read) c.in_err-d.ensures.fault)

pub enter-requires-clause-range : goal.enter-requires-clause-range
enter-requires-clause-range c = c.in_ok-d.ensures.ranges c.args.self.now.tables.owners.kernels

pub returns-clause-ok : goal.returns-clause-ok
returns-clause-ok c lines read =
    let o = counted _ lines c.args.self.now.tables c.requires.stage read in
    let accepted = window_accepted lines c.args.self.now.tables c.in_ok-d.d o c.in_ok-d.ensures.window in
    third_line lines _ c.args.self.now.tables c.enter.new.self c.in_ok-d.d o c.in_ok-d.ensures.fault c.in_ok-d.ensures.value c.in_ok-d.ensures.window
    (c.in_ok-enter.ensures.ok _ _ _ o.tells accepted)
