-- The extents of files, as the functions that look them up promise.
use Rattle.std.specs.Prelude.{ℕ, ◌==◌, ◌<◌, List, [], ◌∷◌, map, find}
use Rattle.std.specs.Option.{option_map_or}
use Rattle.sem_machine.specs.Prelude.{VpeDecl}
use Rattle.sem_files.specs.declared.files.FileDecl.{FileDecl}
use Rattle.sem_files.specs.Compiled.{SERVER, service_root, root_of_extent}

-- how many extents a file has among these; 0 if it is not declared
abbrev pub extents_among : List FileDecl → ℕ → ℕ
extents_among files f = option_map_or (λ d. d.extents) (find (λ d. d.file == f) files) 0

-- the number of an extent
abbrev pub IsExtent : ℕ → Type 0
IsExtent x = x < 64

-- the server with the service and these extents
abbrev pub server_with : List ℕ → VpeDecl
server_with extents = record {
  vpe = SERVER;
  pe = SERVER;
  roots = service_root ∷ map root_of_extent extents;
  calls = [];
}
