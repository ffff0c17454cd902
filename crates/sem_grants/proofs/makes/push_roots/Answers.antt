use Rattle.std.proofs.Common.{length, refl, ap, append-nil, arith}
use Rattle.sem_grants.proofs.Roots.{root_keys_from-none, roots_more}
use Rattle.sem_grants.proofs.makes.push_roots.Goals as goal

pub loop-number-init : goal.loop-number-init
loop-number-init c = rw (root_keys_from-none c.args.decl.now 0, append-nil) refl

pub loop-number-preserved : goal.loop-number-preserved
loop-number-preserved c = roots_more c.args.decl.now c.loop-number.number c.root-item.result c.kind.result _ _ _
    (omega (arith, ap length c.as_slice-root-items.ensures)) (rw c.as_slice-root-items.ensures at c.root-item.is) c.kind.ensures c.loop-number.invariant
    c.in_ok-push.ensures.items
