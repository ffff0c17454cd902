use Rattle.std.proofs.Common.{sym, ◌∙◌, subst}
use Rattle.sem_kernel.specs.Worlds.{NamesPeer}
use Rattle.sem_kernel.proofs.Peers.{able-peer}
use Rattle.sem_node.specs.Stepping.{HasTried}
use Rattle.sem_node.proofs.Trying.{try-told}
use Rattle.sem_node.proofs.linking.link_step.Goals as goal

pub fetched_link-full-requires-clause-peer : goal.fetched_link-full-requires-clause-peer
fetched_link-full-requires-clause-peer c = subst (λ i. NamesPeer c.args.fabric.now.kernels i c.args.act) (sym c.id.ensures)
    (able-peer c.args.kernel.now c.args.fabric.now c.args.act c.requires.can.able)

pub returns : goal.returns
returns c =
    subst (λ d. HasTried d c.args.kernel.now c.args.fabric.now c.args.act c.try_step.new.self c.try_step.new.fabric) (sym c.is_some-done.ensures)
    (try-told c.args.kernel.now c.args.fabric.now c.args.act c.requires.can (sym c.only_moves.ensures ∙ c.if-not-only_moves.false) c.try_step.new.self
    c.try_step.new.fabric c.try_step.result c.try_step.ensures.allowed c.try_step.ensures.done c.try_step.ensures.not_done)
