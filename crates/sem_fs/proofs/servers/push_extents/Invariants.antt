use Rattle.std.proofs.Common.{◌≡◌, ◌++◌, map}
use Rattle.sem_files.specs.Compiled.{below, extent_number}
use Rattle.sem_fs.proofs.servers.push_extents.Given as goal

-- the numbers of the extents so far were appended
abbrev pub invariant-loop-extent : goal.invariant-loop-extent
invariant-loop-extent l = l.numbers ≡ l.initial.numbers ++ map (extent_number l.file) (below l.extent)
