use Rattle.sem_gen.proofs.Loads.{none-killed, none-exits, calls-counted}
use Rattle.sem_gen.proofs.laws.generated_vpes_go_on.Goals as goal

pub returns-clause-kills : goal.returns-clause-kills
returns-clause-kills c = none-killed

pub returns-clause-exits : goal.returns-clause-exits
returns-clause-exits c = none-exits

pub returns-clause-calls : goal.returns-clause-calls
returns-clause-calls c = calls-counted
