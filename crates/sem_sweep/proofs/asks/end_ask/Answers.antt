use Rattle.std.proofs.Common.{sym, ◌∙◌, ap}
use Rattle.sem_machine.specs.Ends.{ask_ended}
use Rattle.sem_machine.specs.Stores.{with_vpes, with_vpes_parks_outs}
use Rattle.sem_sweep.proofs.asks.end_ask.Goals as goal

pub returns-in-Obtain-clause-row : goal.returns-in-Obtain-clause-row
returns-in-Obtain-clause-row c s =
    c.end_obtain.ensures.row c.in-Obtain.target s
    ∙ ap (λ a. ask_ended c.args.setup.now c.args.kernel a (with_vpes_parks_outs c.args.vpes.now.rows c.args.park.now c.args.outs.now.boxes s)) (sym c.in-Obtain.is)

pub returns-in-Delegate-clause-row : goal.returns-in-Delegate-clause-row
returns-in-Delegate-clause-row c s =
    c.end_offer.ensures.row c.in-Delegate.object c.in-Delegate.sel (with_vpes c.args.vpes.now.rows s)
    ∙ ap (λ a. ask_ended c.args.setup.now c.args.kernel a (with_vpes_parks_outs c.args.vpes.now.rows c.args.park.now c.args.outs.now.boxes s)) (sym c.in-Delegate.is)
