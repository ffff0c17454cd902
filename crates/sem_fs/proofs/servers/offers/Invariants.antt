use Rattle.std.proofs.Common.{◌≡◌, map, take}
use Rattle.sem_files.specs.Compiled.{offer_of_extent}
use Rattle.sem_fs.proofs.servers.offers.Given as goal

-- the offers of the extents so far
abbrev pub invariant-loop-extent : goal.invariant-loop-extent
invariant-loop-extent l = l.offers ≡ map offer_of_extent (take l.extent-index l.extents)
