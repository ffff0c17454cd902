use Rattle.std.proofs.Common.{arith, length-append, refl}
use Rattle.std.proofs.lemmas.Result.{err_from_is_err_and}
use Rattle.sem_report.specs.ReportRefusal.{held_form}
use Rattle.sem_report.proofs.ReportSteps.{follows_more, stops_at, keys_read, keys_fit}
use Rattle.sem_report.proofs.report_reader.Lines.held_keys.Goals as goal

pub returns-in_err-held-clause-err : goal.returns-in_err-held-clause-err
returns-in_err-held-clause-err c =
    let p = err_from_is_err_and c.from_residual.result c.from_residual.ensures.1 in
    rw (p.1, p.2) (stops_at (held_form c.args.version) c.loop.counter c.args.number _ _ _ _ _ c.loop.invariant.follows (omega arith) c.in_err-held.ensures.err)

pub loop-preserved : goal.loop-preserved
loop-preserved c = record {
  room = c.in_ok-held.ensures.room;
  follows = follows_more (held_form c.args.version) c.loop.counter _ _ _ _ _ _ c.loop.invariant.follows c.in_ok-held.ensures.ok;
  read = keys_read c.in_ok-held.held _ _ _ _ _ c.loop.invariant.read c.in_ok-held.ensures.read c.in-Ok.ensures.ok;
  count = rw (c.in-Ok.ensures.ok, length-append, c.loop.invariant.count) refl;
  fits = keys_fit c.args.version c.in_ok-held.held _ _ c.loop.invariant.fits c.in_ok-held.ensures.fits c.in-Ok.ensures.ok;
}
