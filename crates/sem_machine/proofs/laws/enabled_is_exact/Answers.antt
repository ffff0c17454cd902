use Rattle.sem_machine.proofs.EnabledList.{enabled-exact}
use Rattle.sem_machine.proofs.laws.enabled_is_exact.Goals as goal

pub returns : goal.returns
returns c = enabled-exact
