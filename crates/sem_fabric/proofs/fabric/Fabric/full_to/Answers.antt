use Rattle.std.proofs.Common.{◌<◌, length, subst}
use Rattle.std.specs.Prelude.{nat_le}
use Rattle.sem_msg.specs.Fabric.{link_in}
use Rattle.sem_msg.specs.Masks.{IsMaskOf}
use Rattle.sem_fabric.proofs.FabricRows.{links_of}
use Rattle.sem_fabric.proofs.Marks.{mask-at}
use Rattle.sem_fabric.proofs.fabric.Fabric.full_to.Goals as goal

pub returns : goal.returns
returns c =
    let f = c.self.inside in
    let links = links_of f.rows.items in
    let marked = c.self.invariant.5 in
    let few : c.args.from < f.kernels = rw (← c.self.view_is) at c.requires in
    let at = mask-at f.full.items c.args.from f.kernels c.index.result.now few marked.senders c.index.ensures in
    rw (← c.self.view_is)
    (subst (IsMaskOf (λ to. nat_le f.window (length (link_in links c.args.from to)))) at (marked.filled c.args.from))
