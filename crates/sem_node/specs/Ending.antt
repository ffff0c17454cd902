-- Kernels and their fabric after they have run in threads.
use Rattle.std.specs.Prelude.{◌≡◌, List, map}
use Rattle.sem_machine.specs.Prelude.{Setup, FabricValue, IsSchedule, world_after}
use Rattle.sem_kernel.specs.KernelValue.{KernelValue}
use Rattle.sem_kernel.specs.Worlds.{world_of, AreKernelsOf}
use Rattle.sem_parts.specs.SidesAfter.{AreSidesAfter}

-- They are the kernels and the fabric of the setup, and the part of each kernel is a local run to
-- its side. So the journal is a schedule, and they are the world after it.
pub record HaveRun (T : Setup) (ks : List KernelValue) (f : FabricValue) : Type 0 where
  pub together : AreKernelsOf T ks f
  pub parts : AreSidesAfter T (map (λ k. k.side) ks) f
  pub schedule : IsSchedule T f.journal
  pub world : world_of ks f ≡ world_after T f.journal
