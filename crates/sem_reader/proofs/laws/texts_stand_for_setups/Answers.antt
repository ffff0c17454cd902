use Rattle.sem_reader.proofs.StandingSetup.{stands_setup}
use Rattle.sem_reader.proofs.laws.texts_stand_for_setups.Goals as goal

pub returns : goal.returns
returns c = stands_setup
