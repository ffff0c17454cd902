use Rattle.sem_safety.proofs.MarkCauses.{link-granted, mark-caused, request-caused}
use Rattle.sem_safety.proofs.causes.marks_have_a_cause.Goals as goal

pub returns-clause-links : goal.returns-clause-links
returns-clause-links c = link-granted

pub returns-clause-marks : goal.returns-clause-marks
returns-clause-marks c = mark-caused

pub returns-clause-requests : goal.returns-clause-requests
returns-clause-requests c = request-caused
