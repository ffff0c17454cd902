use Rattle.sem_fs.proofs.Serving.{all-going, all-supplied, all-succeed}
use Rattle.sem_fs.proofs.services.services_go_on.Goals as goal

pub returns-clause-going : goal.returns-clause-going
returns-clause-going c = all-going

pub returns-clause-supplied : goal.returns-clause-supplied
returns-clause-supplied c = all-supplied

pub returns-clause-succeed : goal.returns-clause-succeed
returns-clause-succeed c = all-succeed
