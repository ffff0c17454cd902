use Rattle.sem_key.proofs.InTurns.{in_turn-append}
use Rattle.sem_machine.proofs.laws.in_turn_is_joined.Goals as goal

pub returns : goal.returns
returns g c = in_turn-append
