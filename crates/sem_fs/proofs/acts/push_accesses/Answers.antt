use Rattle.sem_files.specs.Compiled.{part_accessed}
use Rattle.sem_fs.specs.Acts.{access_call}
use Rattle.sem_fs.proofs.Growing.{some-more}
use Rattle.sem_fs.proofs.acts.push_accesses.Goals as goal

pub loop-extent-preserved : goal.loop-extent-preserved
loop-extent-preserved c = some-more
    (part_accessed (access_call c.args.way) c.args.handle c.args.off c.args.len) c.loop-extent.extent _ _ _
    c.loop-extent.invariant c.in_ok-push_part.ensures
