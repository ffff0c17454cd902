-- The fabric at the start of a run.
use Rattle.std.specs.Prelude.{ℕ, true, false, [], replicate, slice_set}
use Rattle.sem_msg.specs.Prelude.{Setup, FabricValue}

-- all links and the journal are empty, and no kernel has a place
abbrev pub new_fabric : Setup → FabricValue
new_fabric T = record {
  kernels = T.kernels;
  window = T.window;
  kills = T.kills;
  journal = [];
  links = replicate T.kernels (replicate T.kernels []);
  places = replicate T.kernels false;
}

-- the kernel has a place in the journal
abbrev pub placed : ℕ → FabricValue → FabricValue
placed kernel f = record f { places = slice_set f.places kernel true }
