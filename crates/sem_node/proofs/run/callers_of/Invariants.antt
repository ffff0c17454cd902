use Rattle.std.proofs.Common.{◌≡◌, map, take}
use Rattle.sem_kernel.specs.Owning.{own_rows}
use Rattle.sem_node.proofs.run.callers_of.Given as goal

-- the first VPEs of the kernel
abbrev pub invariant-loop-own : goal.invariant-loop-own
invariant-loop-own g l = map (λ c. record { vpe = c.vpe; calls = c.calls }) l.callers.items ≡ take l.own-index (own_rows l.kernel.setup l.kernel.id)
