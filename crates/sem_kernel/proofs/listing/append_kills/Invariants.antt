use Rattle.std.proofs.Common.{◌≡◌, ◌++◌, map, take}
use Rattle.sem_msg.specs.declared.event.Act.TheVariants.{Kill}
use Rattle.sem_machine.specs.Machine.{event}
use Rattle.sem_kernel.specs.Worlds.{world_of}
use Rattle.sem_kernel.specs.Listing.{enabled_among}
use Rattle.sem_kernel.proofs.listing.append_kills.Given as goal

-- the first kills were tried
abbrev pub invariant-loop-kill : goal.invariant-loop-kill
invariant-loop-kill l = l.out.items ≡ l.initial.out.items
    ++ enabled_among l.setup (world_of l.kernels l.fabric) (map (λ k. event l.kernel (Kill k.0)) (take l.kill-index l.setup.kills))
