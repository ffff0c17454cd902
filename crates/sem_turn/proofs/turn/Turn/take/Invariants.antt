use Rattle.std.proofs.Common.{◌≡◌, ◌≤◌}
use Rattle.sem_turn.specs.declared.turn.TheConstants.{TRIES}
use Rattle.sem_turn.proofs.turn.Turn.take.Given as goal

abbrev pub invariant-loop : goal.invariant-loop
invariant-loop g l =
    (goal.iterator-loop g).can_next l.iterator' × (goal.iterator-loop g).is_finite l.iterator' × (l.pass ≡ l.initial.pass) × (l.tries ≤ TRIES)
