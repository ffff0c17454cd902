-- Kernels and a fabric that stand at a schedule.
use Rattle.std.specs.Prelude.{◌≡◌, List}
use Rattle.sem_machine.specs.Prelude.{Setup, FabricValue, IsSchedule, world_after}
use Rattle.sem_kernel.specs.KernelValue.{KernelValue}
use Rattle.sem_kernel.specs.Worlds.{world_of, AreKernelsOf}

-- they are the kernels and the fabric of the setup, the journal is a schedule, and they are the
-- world after it
pub record StandsAt (T : Setup) (ks : List KernelValue) (f : FabricValue) : Type 0 where
  pub together : AreKernelsOf T ks f
  pub schedule : IsSchedule T f.journal
  pub world : world_of ks f ≡ world_after T f.journal
