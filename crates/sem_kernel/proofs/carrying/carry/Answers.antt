use Rattle.std.proofs.Common.{◌<◌, sym, ◌∙◌, subst}
use Rattle.sem_kernel.specs.Worlds.{CanAct}
use Rattle.sem_kernel.proofs.Peers.{fetch-peer}
use Rattle.sem_kernel.proofs.carrying.carry.Goals as goal

pub fetch-requires-clause-kernels : goal.fetch-requires-clause-kernels
fetch-requires-clause-kernels c =
    let peer = fetch-peer c.args.kernel.now c.args.fabric.now c.in-Fetch.from
    (subst (CanAct c.args.kernel.now c.args.fabric.now) c.in-Fetch.is c.requires.able) in
    (peer.0.0, subst (λ n. n < c.args.fabric.now.kernels) (sym c.id.ensures) peer.0.1)

pub fetch-requires-clause-other : goal.fetch-requires-clause-other
fetch-requires-clause-other c same =
    (fetch-peer c.args.kernel.now c.args.fabric.now c.in-Fetch.from (subst (CanAct c.args.kernel.now c.args.fabric.now) c.in-Fetch.is c.requires.able)).1
    (same ∙ c.id.ensures)
