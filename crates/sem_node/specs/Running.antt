-- Kernels that run in threads, each with its pass.
use Rattle.std.specs.Prelude.{◌≡◌, ◌<◌}
use Rattle.sem_machine.specs.Prelude.{Setup, IsSetup, IsSound}
use Rattle.sem_kernel.specs.KernelValue.{KernelValue}
use Rattle.sem_turn.specs.Passes.{PassValue}
use Rattle.sem_parts.specs.Parts.{RunsTo}

-- The kernel is the pass's, of the setup. The entries of the pass are a local run of it to its
-- side, which is sound.
pub record HasRun (T : Setup) (k : KernelValue) (p : PassValue) : Type 0 where
  pub valid : IsSetup T
  pub setup : k.setup ≡ T
  pub id : k.id ≡ p.kernel
  pub few : k.id < T.kernels
  pub runs : RunsTo T k.id p.entries k.side
  pub sound : IsSound T k.id k.side

-- what the lock of a kernel guards
pub record CellValue : Type 0 where
  pub kernel : KernelValue
  pub pass : PassValue
