use Rattle.std.proofs.Common.{◌≡◌, map}
use Rattle.std.specs.List.{range_with_len}
use Rattle.sem_kernel.specs.Worlds.{world_of}
use Rattle.sem_kernel.specs.Listing.{enabled_of}
use Rattle.sem_serial.proofs.lists.list_all.Given as goal

-- the events of the first kernels were listed
abbrev pub invariant-loop-kernel : goal.invariant-loop-kernel
invariant-loop-kernel l = map (λ list. list.items) l.lists.items ≡ map (enabled_of l.setup (world_of l.kernels l.fabric)) (range_with_len 0 l.kernel)
