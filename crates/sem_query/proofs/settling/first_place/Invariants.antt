use Rattle.std.proofs.Common.{ℕ, ◌<◌}
use Rattle.sem_query.specs.Parking.{IsStateAt}
use Rattle.sem_query.proofs.settling.first_place.Given as goal

-- the state is at none of the places before
abbrev pub invariant-loop-place : goal.invariant-loop-place
invariant-loop-place l = (m : ℕ) → m < l.place → ¬ IsStateAt l.states l.state m
