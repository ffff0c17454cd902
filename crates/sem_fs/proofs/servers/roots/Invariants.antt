use Rattle.std.proofs.Common.{◌≡◌, ◌∷◌, map, take}
use Rattle.sem_files.specs.Compiled.{service_root, root_of_extent}
use Rattle.sem_fs.proofs.servers.roots.Given as goal

-- the service, and the extents so far
abbrev pub invariant-loop-extent : goal.invariant-loop-extent
invariant-loop-extent l =
    l.roots ≡ service_root ∷ map root_of_extent (take l.extent-index l.extents)
