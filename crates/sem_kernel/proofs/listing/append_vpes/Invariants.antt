use Rattle.std.proofs.Common.{◌≡◌, ◌++◌, length}
use Rattle.sem_kernel.specs.Listing.{vpes_in, vpe_events}
use Rattle.sem_kernel.proofs.listing.append_vpes.Given as goal

-- the events for the VPEs that are left are still to be appended
abbrev pub invariant-loop-left : goal.invariant-loop-left
invariant-loop-left l = l.out.items ++ vpe_events l.kernel l.row l.left ≡ l.initial.out.items ++ vpe_events l.kernel l.row l.mask

abbrev pub decreases-loop-left : goal.decreases-loop-left
decreases-loop-left l = length (vpes_in l.left)
