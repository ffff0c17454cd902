use Rattle.std.proofs.Common.{◌∙◌, sym, subst}
use Rattle.std.proofs.lemmas.Bool.{and_parts}
use Rattle.sem_machine.specs.Machine.{is_locally_enabled}
use Rattle.sem_kernel.specs.KernelValue.{is_timely}
use Rattle.sem_kernel.specs.Worlds.{NamesPeer}
use Rattle.sem_kernel.proofs.Peers.{enabled-peer}
use Rattle.sem_kernel.proofs.events.can_do.Goals as goal

-- an enabled act names another kernel
pub is_passable-requires-clause-peer : goal.is_passable-requires-clause-peer
is_passable-requires-clause-peer c =
    let k = c.args.kernel.now in
    let enabled = (and_parts (is_locally_enabled k.setup k.id k.side c.args.act) (is_timely k.setup c.replies.result c.args.act) (sym c.enabled.ensures
    ∙ c.if-enabled.true)).0 in
    subst (λ i. NamesPeer c.args.fabric.now.kernels i c.args.act) (sym c.id.ensures) (subst (λ n. NamesPeer n k.id c.args.act) (sym c.requires.fabric.kernels)
    (enabled-peer k.setup k.id k.side c.args.act enabled))
