-- The name that no run has.
use Rattle.std.specs.Prelude.{[]}
use Rattle.atomic_table.specs.Seated.{TableId}
use Rattle.sem_msg.specs.Prelude.{Setup}

abbrev pub no_table : TableId
no_table = record { words = 0; slots = 0; views_name = 0; atom = 0; block = 0; offset = 0; slot_names = [] }

abbrev pub no_setup : Setup
no_setup = record {
  version = 0;
  window = 0;
  kernels = 0;
  owners = record { kernels = 0; owners = [] };
  vpes = [];
  services = [];
  offers = [];
  denies = [];
  kills = [];
}
