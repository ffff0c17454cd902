use Rattle.std.proofs.Common.{◌≡◌, take}
use Rattle.sem_trace.specs.SetupOfText.{services_among}
use Rattle.sem_reader.proofs.setups.services_among.Given as goal

-- the services of the VPEs so far
abbrev pub invariant-loop-declared : goal.invariant-loop-declared
invariant-loop-declared l = l.services ≡ services_among (take l.declared-index l.vpes)
