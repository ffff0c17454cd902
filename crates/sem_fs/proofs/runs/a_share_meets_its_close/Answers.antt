use Rattle.sem_fs.proofs.SharedFile.{files-of-two, schedule-of-two, closes-while-sharing, closed-in-two}
use Rattle.sem_fs.proofs.runs.a_share_meets_its_close.Goals as goal

pub returns-clause-files : goal.returns-clause-files
returns-clause-files c = files-of-two

pub returns-clause-schedule : goal.returns-clause-schedule
returns-clause-schedule c = schedule-of-two

pub returns-clause-meets : goal.returns-clause-meets
returns-clause-meets c = closes-while-sharing

pub returns-clause-closed : goal.returns-clause-closed
returns-clause-closed c = closed-in-two
