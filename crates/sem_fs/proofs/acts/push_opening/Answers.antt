use Rattle.sem_msg.specs.declared.call.Call.TheVariants.{AskOffer}
use Rattle.sem_files.specs.Compiled.{SESSION, extent_number, opened_at}
use Rattle.sem_fs.proofs.Growing.{one-more}
use Rattle.sem_fs.proofs.acts.push_opening.Goals as goal

pub loop-extent-preserved : goal.loop-extent-preserved
loop-extent-preserved c = one-more
    (λ i. AskOffer (opened_at c.args.handle i) SESSION (extent_number c.args.file i)) c.loop-extent.extent _ _ _
    c.loop-extent.invariant (rw (c.opened_selector-dst.ensures, c.number_of_extent-index.ensures) at c.in_ok-push.ensures.ok)
