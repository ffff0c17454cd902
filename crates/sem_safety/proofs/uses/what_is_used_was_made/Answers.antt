use Rattle.sem_safety.proofs.CarryingWorlds.{used-made}
use Rattle.sem_safety.proofs.uses.what_is_used_was_made.Goals as goal

pub returns : goal.returns
returns c = record { made = used-made }
