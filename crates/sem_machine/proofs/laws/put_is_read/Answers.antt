use Rattle.sem_key.proofs.Puts.{get_or-put_same, get_or-put_other, put-set}
use Rattle.sem_machine.proofs.laws.put_is_read.Goals as goal

pub returns-clause-same : goal.returns-clause-same
returns-clause-same g c = get_or-put_same

pub returns-clause-other : goal.returns-clause-other
returns-clause-other g c = get_or-put_other

pub returns-clause-within : goal.returns-clause-within
returns-clause-within g c = put-set
