use Rattle.sem_msg.specs.declared.call.Call.TheVariants.{Delegate}
use Rattle.sem_files.specs.Compiled.{opened_at, given_at}
use Rattle.sem_fs.proofs.Growing.{one-more}
use Rattle.sem_fs.proofs.acts.push_sharing.Goals as goal

pub loop-extent-preserved : goal.loop-extent-preserved
loop-extent-preserved c = one-more
    (λ i. Delegate (opened_at c.args.handle i) c.args.to (given_at c.args.other i)) c.loop-extent.extent _ _ _
    c.loop-extent.invariant (rw (c.opened_selector-src.ensures, c.given_selector-dst.ensures) at c.in_ok-push.ensures.ok)
