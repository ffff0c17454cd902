use Rattle.std.proofs.Common.{arith}
use Rattle.sem_audit.proofs.Order.{held-none, held-more, held-all}
use Rattle.sem_audit.proofs.holds.push_held.Goals as goal

pub loop-place-init : goal.loop-place-init
loop-place-init c = held-none c.args.kernel.now.side.caps _ _ c.capability_count-place.ensures

-- what is held at one place more
pub loop-place-preserved : goal.loop-place-preserved
loop-place-preserved c = held-more c.args.kernel.now.side.caps c.loop-place.place c.args.found.now.items c.loop-place.found.items _ (omega arith)
    c.loop-place.invariant c.in_ok-push_held_at.ensures

pub returns : goal.returns
returns c = held-all c.args.kernel.now.side.caps c.loop-place.place c.args.found.now.items c.loop-place.found.items (omega arith) c.loop-place.invariant
