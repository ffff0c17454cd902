use Rattle.std.proofs.Common.{◌≡◌, drop, map, reverse}
use Rattle.std.specs.List.{flat_map}
use Rattle.sem_machine.specs.Sides.{Side}
use Rattle.sem_kernel.specs.KernelValue.{KernelValue}
use Rattle.sem_audit.specs.Holding.{holding}
use Rattle.sem_audit.proofs.holds.found_held.Given as goal

-- what the kernels from that one on hold
abbrev pub invariant-loop-at : goal.invariant-loop-at
invariant-loop-at l = l.found.items ≡ reverse (map holding (flat_map (λ (s : Side). s.caps) (drop l.at (map (λ (k : KernelValue). k.side) l.kernels))))
