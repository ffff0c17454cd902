use Rattle.std.proofs.Common.{◌≡◌}
use Rattle.std.specs.List.{flat_map, range_with_len}
use Rattle.sem_machine.specs.Machine.{kernel_events}
use Rattle.sem_kernel.specs.Worlds.{world_of}
use Rattle.sem_kernel.specs.Listing.{enabled_among}
use Rattle.sem_kernel.proofs.listing.enabled_events.Given as goal

-- the events of the first kernels were tried
abbrev pub invariant-loop-kernel : goal.invariant-loop-kernel
invariant-loop-kernel l = l.events.items ≡ enabled_among l.setup (world_of l.kernels l.fabric) (flat_map (kernel_events l.setup) (range_with_len 0 l.kernel))
