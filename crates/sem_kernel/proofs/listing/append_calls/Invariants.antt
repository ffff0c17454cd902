use Rattle.std.proofs.Common.{◌≡◌, ◌++◌, map, take}
use Rattle.sem_machine.specs.Machine.{event}
use Rattle.sem_kernel.specs.declared.listing.VpeRow.TheVariants.{Calls, Resumes, Upcalls}
use Rattle.sem_kernel.specs.declared.own.OwnVpe.{OwnVpe}
use Rattle.sem_kernel.specs.Worlds.{world_of}
use Rattle.sem_kernel.specs.Listing.{enabled_among, vpe_act, IsVpeMaskOf}
use Rattle.sem_kernel.specs.Owning.{own_rows}
use Rattle.sem_kernel.proofs.VpeMasks.{can_among}
use Rattle.sem_kernel.proofs.listing.append_calls.Given as goal

-- the first of its VPEs were looked at: the enabled calls among them are appended, and the masks
-- have the other events
abbrev pub invariant-loop-own : goal.invariant-loop-own
invariant-loop-own l =
    (l.out.items ≡ l.initial.out.items
    ++ enabled_among l.setup (world_of l.kernels l.fabric)
    (map (λ (o : OwnVpe). event l.kernel (vpe_act Calls o.vpe)) (take l.own-index (own_rows l.setup l.kernel))))
    × IsVpeMaskOf (can_among l.setup (world_of l.kernels l.fabric) l.kernel Resumes (take l.own-index (own_rows l.setup l.kernel))) l.resumes
    × IsVpeMaskOf (can_among l.setup (world_of l.kernels l.fabric) l.kernel Upcalls (take l.own-index (own_rows l.setup l.kernel))) l.upcalls
