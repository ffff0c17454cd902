use Rattle.std.proofs.Common.{◌≡◌, ◌++◌, length, map}
use Rattle.sem_machine.specs.Machine.{event}
use Rattle.sem_msg.proofs.Masks.{kernels_in}
use Rattle.sem_kernel.specs.Listing.{others_in, peer_act}
use Rattle.sem_kernel.proofs.listing.append_peers.Given as goal

-- the events for the kernels that are left are still to be appended
abbrev pub invariant-loop-left : goal.invariant-loop-left
invariant-loop-left l = l.out.items ++ map (λ j. event l.kernel (peer_act l.row j)) (kernels_in l.left) ≡ l.initial.out.items
    ++ map (λ j. event l.kernel (peer_act l.row j)) (others_in l.mask l.kernel)

abbrev pub decreases-loop-left : goal.decreases-loop-left
decreases-loop-left l = length (kernels_in l.left)
