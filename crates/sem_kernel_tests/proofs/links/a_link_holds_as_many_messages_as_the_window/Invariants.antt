use Rattle.std.proofs.Common.{◌≡◌}
use Rattle.sem_kernel_tests.proofs.links.a_link_holds_as_many_messages_as_the_window.Given as goal

-- the kernels stay as many as they were
abbrev pub invariant-loop-number : goal.invariant-loop-number
invariant-loop-number g l = l.fabric.kernels ≡ 2
