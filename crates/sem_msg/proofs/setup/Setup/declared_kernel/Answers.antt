use Rattle.std.proofs.Common.{◌≤◌, subst, arith}
use Rattle.sem_msg.specs.Setup.{IsSetup}
use Rattle.sem_msg.proofs.Declared.{declared-below, declared-vpe}
use Rattle.sem_msg.proofs.setup.Setup.declared_kernel.Goals as goal

-- a declared VPE has a kernel
pub unreachable-requires : goal.unreachable-requires
unreachable-requires c =
    let below = declared-below c.args.self.now (subst IsSetup c.self.view_is c.self.invariant) c.args.vpe c.requires in
    let above : c.args.self.now.kernels ≤ c.kernel_of-kernel.result = rw (← c.self.view_is) c.if-kernel-self.true in
    omega (arith, below, above, c.kernel_of-kernel.ensures)

pub returns-clause-vpe : goal.returns-clause-vpe
returns-clause-vpe c = declared-vpe c.args.self.now (subst IsSetup c.self.view_is c.self.invariant) c.args.vpe c.requires
