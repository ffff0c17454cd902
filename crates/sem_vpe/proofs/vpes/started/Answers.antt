use Rattle.sem_vpe.proofs.Starts.{startable}
use Rattle.sem_vpe.proofs.vpes.started.Goals as goal

-- a setup keeps what a declaration has to keep
pub new-requires : goal.new-requires
new-requires c = startable c.args.setup.now c.in-Some.decl.now c.in-Some.ensures.valid
