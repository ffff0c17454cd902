use Rattle.std.proofs.Common.{◌≡◌}
use Rattle.std.specs.List.{flat_map}
use Rattle.sem_files.specs.Compiled.{below}
use Rattle.sem_fs.proofs.AllExtents.{extents_at}
use Rattle.sem_fs.proofs.servers.all_extents.Given as goal

-- the extents of the files so far
abbrev pub invariant-loop-file : goal.invariant-loop-file
invariant-loop-file l = l.numbers ≡ flat_map (extents_at l.files) (below l.file)
