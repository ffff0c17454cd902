use Rattle.sem_msg.specs.declared.call.Call.TheVariants.{Revoke}
use Rattle.sem_files.specs.Compiled.{opened_at}
use Rattle.sem_fs.proofs.Growing.{one-more}
use Rattle.sem_fs.proofs.acts.push_closing.Goals as goal

pub loop-extent-preserved : goal.loop-extent-preserved
loop-extent-preserved c = one-more (λ i. Revoke (opened_at c.args.handle i)) c.loop-extent.extent _ _ _
    c.loop-extent.invariant (rw c.opened_selector-src.ensures at c.in_ok-push.ensures.ok)
