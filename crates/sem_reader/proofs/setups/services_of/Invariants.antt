use Rattle.std.proofs.Common.{◌≡◌}
use Rattle.std.specs.List.{filter_map}
use Rattle.sem_trace.specs.Refusal.{numbers}
use Rattle.sem_trace.specs.SetupOfText.{named, services_among}
use Rattle.sem_reader.proofs.setups.services_of.Given as goal

-- the services of the names so far
abbrev pub invariant-loop-name : goal.invariant-loop-name
invariant-loop-name l = l.services ≡ filter_map (named (services_among l.vpes)) (numbers l.name)
