use Rattle.std.proofs.lemmas.Result.{err_from_is_err_and, on_ok_weaker, IfErr-weaker}
use Rattle.sem_trace.specs.LineErrors.{Stops}
use Rattle.sem_trace.specs.TextLines.{words_of}
use Rattle.sem_trace.specs.Refusal.{words_fault, line_fault}
use Rattle.sem_trace.proofs.ReadText.{bad_bytes, skips_line, accepts_line, refuses_line, stops_line}
use Rattle.sem_reader.specs.Reads.{IsRead, Refuses, RefusesLine}
use Rattle.sem_reader.proofs.ReadLines.{ended_refused}
use Rattle.sem_reader.proofs.reader.Reader.line.Goals as goal

pub returns-in-Some-clause-err : goal.returns-in-Some-clause-err
unfolding line_fault
returns-in-Some-clause-err c lines read = bad_bytes words_fault _ lines _ c.in-Some.ensures

pub returns-then-not-is_significant-clause-ok : goal.returns-then-not-is_significant-clause-ok
unfolding line_fault
returns-then-not-is_significant-clause-ok c =
    skips_line words_fault _ c.in_default.ensures (IsRead c.args.self.now) c.if-not-is_significant.ensures

pub returns-in_err-first-in-Start-clause-err : goal.returns-in_err-first-in-Start-clause-err
unfolding line_fault
returns-in_err-first-in-Start-clause-err c =
    let p = err_from_is_err_and c.from_residual.result c.from_residual.ensures.1 in
    rw (p.1, p.2) (refuses_line words_fault _ c.in_default.ensures (IsRead c.args.self.now) c.if-not-is_significant.ensures _ c.in_err-first-in-Start.ensures.err)

pub returns-in_err-second-in-Named-clause-err : goal.returns-in_err-second-in-Named-clause-err
unfolding line_fault
returns-in_err-second-in-Named-clause-err c =
    let p = err_from_is_err_and c.from_residual-in_err-second-in-Named.result c.from_residual-in_err-second-in-Named.ensures.1 in
    rw (p.1, p.2) (refuses_line words_fault _ c.in_default.ensures (IsRead c.args.self.now) c.if-not-is_significant.ensures _ c.in_err-second-in-Named.ensures.err)

pub returns-in_ok-first-in-Start-clause-ok : goal.returns-in_ok-first-in-Start-clause-ok
unfolding line_fault
returns-in_ok-first-in-Start-clause-ok c =
    accepts_line words_fault _ c.in_default.ensures (IsRead c.args.self.now) c.if-not-is_significant.ensures (IsRead c.first.new.self)
    c.in_ok-first-in-Start.ensures.ok

pub returns-in_ok-second-in-Named-clause-ok : goal.returns-in_ok-second-in-Named-clause-ok
unfolding line_fault
returns-in_ok-second-in-Named-clause-ok c =
    accepts_line words_fault _ c.in_default.ensures (IsRead c.args.self.now) c.if-not-is_significant.ensures (IsRead c.second.new.self)
    c.in_ok-second-in-Named.ensures.ok

pub returns-in-Counted-clause-ok : goal.returns-in-Counted-clause-ok
unfolding line_fault
returns-in-Counted-clause-ok c =
    on_ok_weaker c.third.result (accepts_line words_fault _ c.in_default.ensures (IsRead c.args.self.now) c.if-not-is_significant.ensures
    (IsRead c.third.new.self)) c.third.ensures.ok

pub returns-in-Counted-clause-err : goal.returns-in-Counted-clause-err
unfolding line_fault
returns-in-Counted-clause-err c =
    IfErr-weaker c.third.result (Stops (Refuses (words_of c.args.line.now) c.args.self.now)) (Stops (RefusesLine c.args.line.now c.args.self.now))
    (stops_line words_fault _ c.in_default.ensures (IsRead c.args.self.now) c.if-not-is_significant.ensures) c.third.ensures.err

pub returns-in-Open-clause-ok : goal.returns-in-Open-clause-ok
unfolding line_fault
returns-in-Open-clause-ok c =
    on_ok_weaker c.open.result (accepts_line words_fault _ c.in_default.ensures (IsRead c.args.self.now) c.if-not-is_significant.ensures
    (IsRead c.open.new.self)) c.open.ensures.ok

pub returns-in-Open-clause-err : goal.returns-in-Open-clause-err
unfolding line_fault
returns-in-Open-clause-err c =
    IfErr-weaker c.open.result (Stops (Refuses (words_of c.args.line.now) c.args.self.now)) (Stops (RefusesLine c.args.line.now c.args.self.now))
    (stops_line words_fault _ c.in_default.ensures (IsRead c.args.self.now) c.if-not-is_significant.ensures) c.open.ensures.err

pub returns-in-Ended-clause-err : goal.returns-in-Ended-clause-err
unfolding line_fault
returns-in-Ended-clause-err c =
    refuses_line words_fault _ c.in_default.ensures (IsRead c.args.self.now) c.if-not-is_significant.ensures _
    (λ lines read. ended_refused _ lines _ c.args.self.now.tables c.in-Ended.is read)
