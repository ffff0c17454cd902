use Rattle.std.proofs.Common.{◌<◌, length, subst}
use Rattle.std.specs.Prelude.{nat_lt}
use Rattle.sem_msg.specs.Fabric.{link_in}
use Rattle.sem_msg.specs.Masks.{IsMaskOf}
use Rattle.sem_fabric.proofs.FabricRows.{links_of}
use Rattle.sem_fabric.proofs.Marks.{mask-few, mask-at}
use Rattle.sem_fabric.proofs.fabric.Fabric.coming.Goals as goal

pub returns : goal.returns
returns c =
    let f = c.self.inside in
    let links = links_of f.rows.items in
    let marked = c.self.invariant.5 in
    let few : c.args.to < f.kernels = rw (← c.self.view_is) at c.requires in
    let at = mask-at f.coming.items c.args.to f.kernels c.index.result.now few marked.receivers c.index.ensures in
    rw (← c.self.view_is)
    (mask-few f.kernels links c.self.invariant.0 c.args.to c.index.result.now (subst (IsMaskOf (λ from. nat_lt 0 (length (link_in links from c.args.to)))) at
    (marked.waiting c.args.to)))
