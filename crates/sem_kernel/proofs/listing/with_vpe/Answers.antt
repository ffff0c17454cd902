use Rattle.sem_kernel.proofs.VpeMasks.{bit-set}
use Rattle.sem_kernel.proofs.listing.with_vpe.Goals as goal

pub returns : goal.returns
returns c = bit-set c.args.mask c.args.vpe c.requires
