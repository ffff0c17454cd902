use Rattle.sem_safety.proofs.OneLife.{all-new, all-grown}
use Rattle.sem_safety.proofs.once.each_key_is_made_once.Goals as goal

pub returns-clause-new : goal.returns-clause-new
returns-clause-new c = all-new

pub returns-clause-grown : goal.returns-clause-grown
returns-clause-grown c = all-grown
