use Rattle.std.proofs.Common.{◌≡◌, ◌++◌, map, take, drop}
use Rattle.sem_msg.specs.EndpointRows.{unbound_from}
use Rattle.sem_dtu.proofs.dtus.unbind_all_of.Given as goal

-- the endpoints so far are not bound to the keys, and the others are as they were
abbrev pub invariant-loop-endpoint : goal.invariant-loop-endpoint
invariant-loop-endpoint l =
    l.endpoint-items ≡ map (unbound_from l.keys) (take l.endpoint-index l.initial.endpoint-items) ++ drop l.endpoint-index l.initial.endpoint-items
