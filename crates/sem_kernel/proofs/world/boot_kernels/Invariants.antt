use Rattle.std.proofs.Common.{◌≡◌, map}
use Rattle.std.specs.List.{range_with_len}
use Rattle.sem_kernel.specs.Worlds.{booted}
use Rattle.sem_kernel.proofs.world.boot_kernels.Given as goal

-- the first kernels were booted
abbrev pub invariant-loop-id : goal.invariant-loop-id
invariant-loop-id l = l.kernels.items ≡ map (booted l.setup) (range_with_len 0 l.id)
