use Rattle.sem_revoke.proofs.Births.{born-live, near-lasts}
use Rattle.sem_revoke.proofs.Consents.{given-lasts}
use Rattle.sem_revoke.proofs.Dooming.{mark-doomed, request-doomed}
use Rattle.sem_revoke.proofs.Forests.{forest-spared, root-not-lost}
use Rattle.sem_revoke.proofs.Granted.{granted-lasts}
use Rattle.sem_revoke.proofs.Lasting.{held-lasts}
use Rattle.sem_revoke.proofs.ReadyCalls.{ready-lasts}
use Rattle.sem_revoke.proofs.revocations.what_is_lost_is_doomed.Goals as goal

pub returns-clause-lasts : goal.returns-clause-lasts
returns-clause-lasts c = held-lasts

pub returns-clause-ready : goal.returns-clause-ready
returns-clause-ready c = ready-lasts

pub returns-clause-given : goal.returns-clause-given
returns-clause-given c = given-lasts

pub returns-clause-granted : goal.returns-clause-granted
returns-clause-granted c = granted-lasts

pub returns-clause-marks : goal.returns-clause-marks
returns-clause-marks c = mark-doomed

pub returns-clause-requests : goal.returns-clause-requests
returns-clause-requests c = request-doomed

pub returns-clause-spared : goal.returns-clause-spared
returns-clause-spared c = forest-spared

pub returns-clause-born : goal.returns-clause-born
returns-clause-born c = born-live

pub returns-clause-roots : goal.returns-clause-roots
returns-clause-roots c = root-not-lost

pub returns-clause-near : goal.returns-clause-near
returns-clause-near c = near-lasts
