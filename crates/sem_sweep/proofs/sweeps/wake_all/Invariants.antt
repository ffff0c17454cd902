use Rattle.std.proofs.Common.{◌≡◌}
use Rattle.std.specs.Prelude.{nat_lt, filter}
use Rattle.sem_machine.specs.Revokes.{all_woken}
use Rattle.sem_sweep.proofs.sweeps.wake_all.Given as goal

-- the calls of the first VPEs will succeed
abbrev pub invariant-loop-vpe : goal.invariant-loop-vpe
invariant-loop-vpe l = l.park ≡ all_woken (filter (λ w. nat_lt w l.vpe) l.waiters) l.fn.park
