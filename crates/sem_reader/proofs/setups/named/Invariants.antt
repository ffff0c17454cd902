use Rattle.std.proofs.Common.{◌≡◌, drop}
use Rattle.sem_trace.specs.SetupOfText.{named}
use Rattle.sem_reader.proofs.setups.named.Given as goal

-- none of the services so far has the name
abbrev pub invariant-loop-service : goal.invariant-loop-service
invariant-loop-service l = named l.services l.name ≡ named (drop l.service-index l.services) l.name
