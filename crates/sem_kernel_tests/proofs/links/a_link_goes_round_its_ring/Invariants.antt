use Rattle.std.proofs.Common.{◌≡◌}
use Rattle.sem_kernel_tests.proofs.links.a_link_goes_round_its_ring.Given as goal

-- the kernels stay as many as they were
abbrev pub invariant-loop-number : goal.invariant-loop-number
invariant-loop-number g l = l.fabric.kernels ≡ 32
