-- A setup of two kernels that have nothing to do.
use Rattle.std.specs.Prelude.{[], None, replicate}
use Rattle.sem_machine.specs.Prelude.{Setup}

unfoldable pub lonely : Setup
lonely = record {
  version = 1;
  window = 4;
  kernels = 2;
  owners = record { kernels = 2; owners = replicate 128 None };
  vpes = [];
  services = [];
  offers = [];
  denies = [];
  kills = [];
}
