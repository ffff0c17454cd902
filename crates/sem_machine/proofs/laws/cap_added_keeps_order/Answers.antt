use Rattle.sem_key.proofs.Finds.{with_cap-rises}
use Rattle.sem_machine.proofs.laws.cap_added_keeps_order.Goals as goal

pub returns : goal.returns
returns c = with_cap-rises
