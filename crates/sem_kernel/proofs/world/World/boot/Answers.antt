use Rattle.sem_kernel.proofs.Beginning.{boots-together, boots-world}
use Rattle.sem_kernel.proofs.world.World.boot.Goals as goal

pub invariant_of-result : goal.invariant_of-result
invariant_of-result c = boots-together c.args.setup.now c.in_ok-copy.field-0 c.in_ok-copy.ensures c.in_ok-kernels.kernels.items c.in_ok-kernels.ensures
    c.in_ok-fabric.fabric c.in_ok-fabric.ensures c.keeps_its_rules.ensures

pub returns : goal.returns
returns c = boots-world c.args.setup.now c.in_ok-copy.field-0 c.in_ok-copy.ensures c.in_ok-kernels.kernels.items c.in_ok-kernels.ensures c.in_ok-fabric.fabric
    c.in_ok-fabric.ensures
