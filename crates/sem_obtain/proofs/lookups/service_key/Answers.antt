use Rattle.std.proofs.Common.{subst}
use Rattle.sem_msg.specs.Setup.{IsSetup}
use Rattle.sem_obtain.proofs.Services.{service-declared}
use Rattle.sem_obtain.proofs.lookups.service_key.Goals as goal

-- the services of a setup are those of its VPEs
pub returns-clause-declared : goal.returns-clause-declared
returns-clause-declared c = service-declared c.args.setup.now (subst IsSetup c.setup.view_is c.setup.invariant) c.args.name c.in_ok-service.service.now
    c.in_ok-service.ensures
