use Rattle.sem_audit.proofs.Straying.{none-stray}
use Rattle.sem_audit.proofs.laws.nothing_is_stray.Goals as goal

pub returns : goal.returns
returns c = record { stray = none-stray }
