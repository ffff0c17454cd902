use Rattle.std.proofs.Common.{ap, arith}
use Rattle.sem_msg.specs.Fabric.{FabricValue}
use Rattle.sem_fabric.proofs.FabricRows.{row-wide, window-here}
use Rattle.sem_fabric.proofs.fabric.Fabric.waiting.Goals as goal

pub waiting-requires : goal.waiting-requires
waiting-requires c =
    let f = c.self.inside in
    let kernels = rw (← c.self.view_is) at c.requires.kernels in
    row-wide f.rows.items f.kernels f.window c.self.invariant.0 c.self.invariant.1 c.args.from c.args.to kernels.0 kernels.1 c.index.result.now c.index.ensures

pub returns-clause-within : goal.returns-clause-within
returns-clause-within c =
    let f = c.self.inside in
    let kernels = rw (← c.self.view_is) at c.requires.kernels in
    let room = window-here f.rows.items f.kernels f.window c.self.invariant.0 c.self.invariant.1 c.args.from c.args.to kernels.0 kernels.1 c.index.result.now
    c.index.ensures in
    let same = ap (λ (x : FabricValue). x.window) c.self.view_is in
    omega (arith, c.waiting.ensures.within, room, same)
