use Rattle.sem_safety.proofs.HeldOnce.{one-kernel, keys-distinct}
use Rattle.sem_safety.proofs.once.each_key_is_held_once.Goals as goal

pub returns-clause-kernel : goal.returns-clause-kernel
returns-clause-kernel c = one-kernel

pub returns-clause-distinct : goal.returns-clause-distinct
returns-clause-distinct c = keys-distinct
