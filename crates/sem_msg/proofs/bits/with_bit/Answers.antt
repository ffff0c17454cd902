use Rattle.std.proofs.Common.{arith}
use Rattle.sem_msg.proofs.Masks.{bit-set, bit-cleared, bit-beyond}
use Rattle.sem_msg.proofs.bits.with_bit.Goals as goal

-- there is no such kernel
pub returns-then-kernel-ge-KERNELS : goal.returns-then-kernel-ge-KERNELS
returns-then-kernel-ge-KERNELS c = bit-beyond c.args.mask c.args.kernel c.args.set c.if-kernel-ge-KERNELS.true

pub returns-then-set : goal.returns-then-set
returns-then-set c = bit-set c.args.mask c.args.kernel c.args.set (omega (arith, c.if-kernel-ge-KERNELS.false)) c.if-set.true

pub returns-else-set : goal.returns-else-set
returns-else-set c = bit-cleared c.args.mask c.args.kernel c.args.set (omega (arith, c.if-kernel-ge-KERNELS.false)) c.if-set.false
