use Rattle.std.proofs.Common.{set, arith}
use Rattle.sem_kernel.specs.Worlds.{world_of}
use Rattle.sem_kernel.proofs.Happened.{enabled-few, can-do, stepped-together, stepped-replied, stepped-after, stepped-journal, stepped-same_journal}
use Rattle.sem_kernel.proofs.Happened.{stepped-unchanged}
use Rattle.sem_kernel.proofs.Stands.{stands-after}
use Rattle.sem_kernel.proofs.events.advance.Goals as goal

pub index_mut-kernel-requires : goal.index_mut-kernel-requires
index_mut-kernel-requires c =
    let few = enabled-few c.args.setup.now (world_of c.args.kernels.now.items c.args.fabric.now) c.args.event c.requires.enabled in
    let many = c.requires.together.many in
    omega (arith, few, many)

pub step-requires : goal.step-requires
step-requires c = can-do c.args.setup.now c.args.kernels.now.items c.args.fabric.now c.requires.together c.args.event.kernel
    (enabled-few c.args.setup.now (world_of c.args.kernels.now.items c.args.fabric.now) c.args.event c.requires.enabled) c.index_mut-kernel.result.now
    c.index_mut-kernel.ensures.value c.keeps_its_rules.ensures c.args.event.act c.requires.enabled

pub returns-clause-together : goal.returns-clause-together
returns-clause-together c = stepped-together c.args.setup.now c.args.kernels.now.items c.args.fabric.now c.requires.together c.args.event.kernel
    (enabled-few c.args.setup.now (world_of c.args.kernels.now.items c.args.fabric.now) c.args.event c.requires.enabled) c.index_mut-kernel.result.now
    c.index_mut-kernel.ensures.value c.args.event.act c.step.new.kernel c.step.new.fabric c.step.result c.step.ensures.ok c.step.ensures.err

pub returns-clause-replied : goal.returns-clause-replied
returns-clause-replied c = stepped-replied c.args.setup.now c.args.kernels.now.items c.args.fabric.now c.requires.together c.args.event.kernel
    (enabled-few c.args.setup.now (world_of c.args.kernels.now.items c.args.fabric.now) c.args.event c.requires.enabled) c.index_mut-kernel.result.now
    c.index_mut-kernel.ensures.value c.args.event.act c.step.new.kernel c.step.new.fabric c.step.result c.step.ensures.ok

pub returns-clause-after : goal.returns-clause-after
returns-clause-after c = stepped-after c.args.setup.now c.args.kernels.now.items c.args.fabric.now c.requires.together c.args.event.kernel
    (enabled-few c.args.setup.now (world_of c.args.kernels.now.items c.args.fabric.now) c.args.event c.requires.enabled) c.index_mut-kernel.result.now
    c.index_mut-kernel.ensures.value c.args.event.act c.step.new.kernel c.step.new.fabric c.step.result c.step.ensures.ok

pub returns-clause-unchanged : goal.returns-clause-unchanged
returns-clause-unchanged c = stepped-unchanged c.args.setup.now c.args.kernels.now.items c.args.fabric.now c.requires.together c.args.event.kernel
    (enabled-few c.args.setup.now (world_of c.args.kernels.now.items c.args.fabric.now) c.args.event c.requires.enabled) c.index_mut-kernel.result.now
    c.index_mut-kernel.ensures.value c.step.new.kernel c.step.new.fabric c.step.result c.step.ensures.err

pub returns-clause-journal : goal.returns-clause-journal
returns-clause-journal c = stepped-journal c.args.setup.now c.args.kernels.now.items c.args.fabric.now c.requires.together c.args.event.kernel
    (enabled-few c.args.setup.now (world_of c.args.kernels.now.items c.args.fabric.now) c.args.event c.requires.enabled) c.index_mut-kernel.result.now
    c.index_mut-kernel.ensures.value c.args.event.act c.step.new.kernel c.step.new.fabric c.step.result c.step.ensures.ok

pub returns-clause-same_journal : goal.returns-clause-same_journal
returns-clause-same_journal c = stepped-same_journal c.args.setup.now c.args.kernels.now.items c.args.fabric.now c.requires.together c.args.event.kernel
    (enabled-few c.args.setup.now (world_of c.args.kernels.now.items c.args.fabric.now) c.args.event c.requires.enabled) c.index_mut-kernel.result.now
    c.index_mut-kernel.ensures.value c.step.new.kernel c.step.new.fabric c.step.result c.step.ensures.err

pub returns-clause-stands : goal.returns-clause-stands
returns-clause-stands c = λ at.
    stands-after c.args.setup.now c.args.kernels.now.items c.args.fabric.now at (set c.args.kernels.now.items c.args.event.kernel c.step.new.kernel)
    c.step.new.fabric (returns-clause-together c) c.args.event c.requires.enabled c.step.result (returns-clause-after c) (returns-clause-journal c)
    (returns-clause-unchanged c) (returns-clause-same_journal c)
