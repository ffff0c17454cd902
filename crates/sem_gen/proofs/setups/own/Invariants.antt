use Rattle.std.proofs.Common.{◌≡◌}
use Rattle.sem_gen.specs.Generated.{owners_of}
use Rattle.sem_gen.proofs.setups.own.Given as goal

-- the first PEs have their owners
abbrev pub invariant-loop-pe : goal.invariant-loop-pe
invariant-loop-pe l = l.owners ≡ record { kernels = l.kernels; owners = owners_of l.kernels l.pe }
