use Rattle.sem_fs.specs.Owning.{OwnsBelow}
use Rattle.sem_fs.proofs.setups.owners.Given as goal

abbrev pub invariant-loop-pe : goal.invariant-loop-pe
invariant-loop-pe l = OwnsBelow l.files l.pe l.owners
