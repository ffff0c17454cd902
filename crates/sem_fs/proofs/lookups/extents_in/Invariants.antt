use Rattle.std.proofs.Common.{◌≡◌, drop}
use Rattle.sem_fs.specs.Extents.{extents_among}
use Rattle.sem_fs.proofs.lookups.extents_in.Given as goal

-- none of the files so far is the one
abbrev pub invariant-loop-declared : goal.invariant-loop-declared
invariant-loop-declared l =
    extents_among l.files l.file ≡ extents_among (drop l.declared-index l.files) l.file
