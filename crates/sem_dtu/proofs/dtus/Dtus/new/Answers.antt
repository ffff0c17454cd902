use Rattle.std.proofs.Common.{◌≡◌, arith}
use Rattle.sem_key.specs.declared.limits.TheConstants.{VPES}
use Rattle.sem_dtu.proofs.Started.{IsStarted-more, IsStarted-all, IsEndpointTable-new}
use Rattle.sem_dtu.proofs.dtus.Dtus.new.Goals as goal

-- one more VPE has its endpoints
pub loop-vpe-preserved : goal.loop-vpe-preserved
loop-vpe-preserved c =
    rw (c.in_ok-push.ensures.items) (IsStarted-more c.args.setup.now c.args.kernel c.loop-vpe.rows.items c.loop-vpe.vpe c.in_ok-new.field-0 c.loop-vpe.invariant
    (rw c.is_own.ensures at c.in_ok-new.ensures.ours) (rw c.is_own.ensures at c.in_ok-new.ensures.endpoints))

-- all have
pub returns : goal.returns
returns c = let all : c.loop-vpe.vpe ≡ VPES = omega arith in
    IsStarted-all c.args.setup.now c.args.kernel c.loop-vpe.rows.items c.loop-vpe.vpe c.loop-vpe.invariant all

pub invariant_of-result : goal.invariant_of-result
invariant_of-result c = let all : c.loop-vpe.vpe ≡ VPES = omega arith in
    rw (IsStarted-all c.args.setup.now c.args.kernel c.loop-vpe.rows.items c.loop-vpe.vpe c.loop-vpe.invariant all)
    (IsEndpointTable-new c.args.setup.now c.args.kernel)
