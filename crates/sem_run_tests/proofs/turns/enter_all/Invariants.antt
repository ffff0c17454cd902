use Rattle.std.proofs.Common.{◌≡◌, None}
use Rattle.sem_run_tests.proofs.turns.enter_all.Given as goal

abbrev pub invariant-loop : goal.invariant-loop
invariant-loop g l = l.pass.taken ≡ None
