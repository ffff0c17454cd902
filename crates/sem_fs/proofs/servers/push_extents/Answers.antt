use Rattle.sem_files.specs.Compiled.{extent_number}
use Rattle.sem_fs.proofs.Growing.{one-more}
use Rattle.sem_fs.proofs.servers.push_extents.Goals as goal

pub loop-extent-preserved : goal.loop-extent-preserved
loop-extent-preserved c = one-more (extent_number c.args.file) c.loop-extent.extent _ _ _
    c.loop-extent.invariant (rw c.number_of_extent-number.ensures at c.in_ok-push.ensures.ok)
