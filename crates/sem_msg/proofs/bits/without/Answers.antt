use Rattle.std.proofs.Common.{rules}
use Rattle.sem_msg.proofs.Masks.{mask-without}
use Rattle.sem_msg.proofs.bits.without.Goals as goal

pub returns : goal.returns
returns c = mask-without c.args.mask c.args.other (search rules)
