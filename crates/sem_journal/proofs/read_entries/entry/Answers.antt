use Rattle.std.proofs.Common.{◌∙◌}
use Rattle.std.proofs.lemmas.Result.{err_from_is_err_and}
use Rattle.sem_journal.proofs.EntryParts.{entry_is, kernel_fault, event_fault, shown_fault}
use Rattle.sem_journal.proofs.read_entries.entry.Goals as goal

pub returns-in_err-kernel-clause-fault : goal.returns-in_err-kernel-clause-fault
returns-in_err-kernel-clause-fault c =
    let p = err_from_is_err_and c.from_residual.result c.from_residual.ensures.1 in
    rw (p.1, p.2) (kernel_fault c.args.version c.args.kernels c.args.words.now _ c.in_err-kernel.ensures.reads)

pub returns-in_err-act-clause-fault : goal.returns-in_err-act-clause-fault
returns-in_err-act-clause-fault c =
    let p = err_from_is_err_and c.from_residual-in_err-act.result c.from_residual-in_err-act.ensures.1 in
    rw (p.1, p.2) (event_fault c.args.version c.args.kernels c.args.words.now _ _ c.in_ok-kernel.ensures.reads.filled c.in_err-act.ensures.reads)

pub returns-in_err-shown-clause-fault : goal.returns-in_err-shown-clause-fault
returns-in_err-shown-clause-fault c =
    let p = err_from_is_err_and c.from_residual-in_err-shown.result c.from_residual-in_err-shown.ensures.1 in
    rw (p.1, p.2) (shown_fault c.args.version c.args.kernels c.args.words.now _ _ c.in_ok-kernel.ensures.reads.filled c.in_ok-act.ensures.reads.filled
    ∙ c.in_err-shown.ensures.fault)

pub returns-clause-fault : goal.returns-clause-fault
returns-clause-fault c =
    shown_fault c.args.version c.args.kernels c.args.words.now _ _ c.in_ok-kernel.ensures.reads.filled c.in_ok-act.ensures.reads.filled
    ∙ c.in_ok-shown.ensures.fault

pub returns-clause-printed : goal.returns-clause-printed
returns-clause-printed c =
    c.in_ok-kernel.ensures.reads.spelled
    ∙ entry_is c.in_ok-kernel.kernel c.in_ok-act.act c.in_ok-act.detail c.in_ok-shown.shown _ _ c.in_ok-act.ensures.reads.spelled
    c.in_ok-shown.ensures.spelled

pub returns-clause-fits : goal.returns-clause-fits
returns-clause-fits c short = record {
  kernel = c.in_ok-kernel.ensures.fits;
  event = c.in_ok-act.ensures.fits;
  grant = c.in_ok-shown.ensures.fits.grant;
  cut = c.in_ok-shown.ensures.fits.cut;
  reply = c.in_ok-shown.ensures.fits.reply;
  memory = short;
}
