use Rattle.sem_revoke.proofs.Completing.{told-free, told-parked}
use Rattle.sem_revoke.proofs.revocations.living_vpes_have_their_replies.Goals as goal

pub returns-clause-free : goal.returns-clause-free
returns-clause-free c = told-free

pub returns-clause-parked : goal.returns-clause-parked
returns-clause-parked c = told-parked
