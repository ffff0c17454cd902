use Rattle.std.proofs.Common.{◌≡◌, ◌++◌}
use Rattle.sem_fs.specs.Acts.{parts_accessed}
use Rattle.sem_fs.proofs.acts.push_accesses.Given as goal

-- the calls for the extents so far were appended
abbrev pub invariant-loop-extent : goal.invariant-loop-extent
invariant-loop-extent l = l.calls ≡ l.initial.calls ++ parts_accessed l.way l.handle l.off l.len l.extent
