use Rattle.std.proofs.Common.{arith}
use Rattle.sem_grants.proofs.Backward.{gathered-more, gathered-all}
use Rattle.sem_grants.proofs.cuts.cut_off_keys.Goals as goal

-- one entry more
pub loop-at-preserved : goal.loop-at-preserved
loop-at-preserved c = gathered-more c.args.entries.now c.loop-at.at c.index-entries-at.result _ _ _ _ _ (omega arith) (omega arith) c.index-entries-at.is
    c.push_cleared_child.ensures.valid c.loop-at.invariant c.in_ok-push_cleared_child.ensures.found c.in_ok-push_revoked.ensures c.in_ok-add_cleared.ensures

pub returns : goal.returns
returns c = gathered-all c.args.entries.now c.loop-at.at c.loop-at.found.items c.loop-at.cleared (omega arith) c.loop-at.invariant
