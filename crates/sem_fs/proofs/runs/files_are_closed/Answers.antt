use Rattle.sem_fs.proofs.OneClient.{files-of-one, schedule-of-one, closed-in-one}
use Rattle.sem_fs.proofs.runs.files_are_closed.Goals as goal

pub returns-clause-files : goal.returns-clause-files
returns-clause-files c = files-of-one

pub returns-clause-schedule : goal.returns-clause-schedule
returns-clause-schedule c = schedule-of-one

pub returns-clause-closed : goal.returns-clause-closed
returns-clause-closed c = closed-in-one
