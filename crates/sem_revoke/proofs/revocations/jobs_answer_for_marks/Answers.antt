use Rattle.sem_revoke.proofs.Above.{waited-below, marked-below}
use Rattle.sem_revoke.proofs.Marking.{marks-spread, marks-named, roots-marked, keepers-alone, tokens-counted}
use Rattle.sem_revoke.proofs.revocations.jobs_answer_for_marks.Goals as goal

pub returns-clause-spread : goal.returns-clause-spread
returns-clause-spread c = marks-spread

pub returns-clause-marks : goal.returns-clause-marks
returns-clause-marks c = marks-named

pub returns-clause-roots : goal.returns-clause-roots
returns-clause-roots c = roots-marked

pub returns-clause-keepers : goal.returns-clause-keepers
returns-clause-keepers c = keepers-alone

pub returns-clause-counted : goal.returns-clause-counted
returns-clause-counted c = tokens-counted

pub returns-clause-waited : goal.returns-clause-waited
returns-clause-waited c = waited-below

pub returns-clause-below : goal.returns-clause-below
returns-clause-below c = marked-below
