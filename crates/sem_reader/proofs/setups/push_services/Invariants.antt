use Rattle.std.proofs.Common.{◌≡◌, ◌++◌, take}
use Rattle.sem_msg.specs.Setup.{services_from}
use Rattle.sem_reader.proofs.setups.push_services.Given as goal

-- the services among the roots so far were appended
abbrev pub invariant-loop-number : goal.invariant-loop-number
invariant-loop-number l = l.services ≡ l.initial.services ++ services_from l.declared 0 (take l.number l.declared.roots)
