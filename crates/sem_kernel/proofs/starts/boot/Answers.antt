use Rattle.sem_kernel.proofs.Stands.{stands-at-start}
use Rattle.sem_kernel.proofs.starts.boot.Goals as goal

pub returns-clause-stand : goal.returns-clause-stand
returns-clause-stand c = stands-at-start c.args.setup.now c.keeps_its_rules.ensures c.in_ok-kernels.kernels.items c.in_ok-kernels.ensures
    c.in_ok-fabric.fabric c.in_ok-fabric.ensures
