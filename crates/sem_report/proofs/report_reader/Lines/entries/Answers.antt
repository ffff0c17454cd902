use Rattle.std.proofs.Common.{arith}
use Rattle.std.proofs.lemmas.Result.{err_from_is_err_and}
use Rattle.sem_journal.specs.EntryForms.{entry_form}
use Rattle.sem_report.proofs.ReportSteps.{follows_more, stops_at, entries_fit, entries_read, entries_count, drop_more}
use Rattle.sem_report.proofs.report_reader.Lines.entries.Goals as goal

pub returns-in_err-append_entry-clause-err : goal.returns-in_err-append_entry-clause-err
returns-in_err-append_entry-clause-err c =
    let p = err_from_is_err_and c.from_residual.result c.from_residual.ensures.1 in
    rw (p.1, p.2) (stops_at (entry_form c.args.version c.args.kernels) c.loop.counter c.args.number _ _ _ _ _ c.loop.invariant.follows
    (omega arith) c.in_err-append_entry.ensures.err)

pub loop-preserved : goal.loop-preserved
loop-preserved c = record {
  room = c.in_ok-append_entry.ensures.room;
  follows = follows_more (entry_form c.args.version c.args.kernels) c.loop.counter _ _ _ _ _ _ c.loop.invariant.follows c.in_ok-append_entry.ensures.ok;
  read = entries_read c.args.version c.args.kernels _ _ _ _ _ c.in_ok-append_entry.ensures.read c.loop.invariant.read;
  behind = drop_more _ _ _ c.loop.counter c.loop.invariant.behind c.in_ok-append_entry.ensures.behind;
  count = entries_count c.args.version c.args.kernels c.loop.counter _ _ _ _ c.in_ok-append_entry.ensures.read c.loop.invariant.count;
  fits = entries_fit c.args.version c.args.kernels _ _ _ _ c.in_ok-append_entry.ensures.read c.loop.invariant.fits;
}
