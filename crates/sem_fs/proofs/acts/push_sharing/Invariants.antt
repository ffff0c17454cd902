use Rattle.std.proofs.Common.{◌≡◌, ◌++◌}
use Rattle.sem_files.specs.declared.files.FileAct.TheVariants.{Share}
use Rattle.sem_files.specs.Compiled.{calls_of_act}
use Rattle.sem_fs.proofs.acts.push_sharing.Given as goal

-- the calls for the extents so far were appended
abbrev pub invariant-loop-extent : goal.invariant-loop-extent
invariant-loop-extent l = l.calls ≡ l.initial.calls ++ calls_of_act l.extent (Share l.handle l.to l.other)
