use Rattle.std.proofs.Common.{is_some, sym, ◌∙◌, ap}
use Rattle.std.proofs.lemmas.Bool.{false≢true}
use Rattle.sem_kernel.proofs.Peers.{flush-peer, flush-some, flush-fits}
use Rattle.sem_kernel.proofs.carrying.send.Goals as goal

pub front-requires : goal.front-requires
front-requires c = (flush-peer c.args.kernel.now c.args.fabric.now c.args.to c.requires.able).0

-- a message waits
pub unreachable-requires : goal.unreachable-requires
unreachable-requires c = false≢true (sym (ap is_some (sym c.front.ensures ∙ c.in_default.is))
    ∙ flush-some c.args.kernel.now c.args.fabric.now c.args.to c.requires.able)

pub flush-requires-clause-other : goal.flush-requires-clause-other
flush-requires-clause-other c same = (flush-peer c.args.kernel.now c.args.fabric.now c.args.to c.requires.able).1 (sym same ∙ c.id.ensures)

pub flush-requires-clause-fits : goal.flush-requires-clause-fits
flush-requires-clause-fits c = flush-fits c.args.kernel.now c.args.fabric.now c.args.to c.requires.able c.in-Some.message (sym c.front.ensures ∙ c.in-Some.is)
