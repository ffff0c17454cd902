use Rattle.sem_bytes.proofs.SampleRuns.{alone-runs, alone-contents}
use Rattle.sem_bytes.proofs.laws.later_writes_win.Goals as goal

pub returns-clause-schedule : goal.returns-clause-schedule
returns-clause-schedule c = alone-runs

pub returns-clause-text : goal.returns-clause-text
returns-clause-text c = alone-contents
