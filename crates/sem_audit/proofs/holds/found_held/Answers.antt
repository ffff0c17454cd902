use Rattle.std.proofs.Common.{arith}
use Rattle.sem_audit.proofs.Order.{kernels-none, kernels-more, kernels-all}
use Rattle.sem_audit.proofs.holds.found_held.Goals as goal

pub loop-at-init : goal.loop-at-init
loop-at-init c = kernels-none c.args.kernels.now _ c.new-found.ensures.items

-- what one kernel more holds
pub loop-at-preserved : goal.loop-at-preserved
loop-at-preserved c = kernels-more c.args.kernels.now c.loop-at.at c.index-kernels-at.result c.loop-at.found.items _ (omega arith) (omega arith)
    c.index-kernels-at.is c.loop-at.invariant c.in_ok-push_held.ensures

pub returns : goal.returns
returns c = kernels-all c.args.kernels.now c.loop-at.at c.loop-at.found.items (omega arith) c.loop-at.invariant
