use Rattle.std.proofs.Common.{length, ap, arith}
use Rattle.sem_kernel.proofs.Boots.{IsAdding-none, IsAdding-more, next-absent}
use Rattle.sem_kernel.proofs.booting.add_roots.Goals as goal

pub loop-number-init : goal.loop-number-init
loop-number-init c = IsAdding-none c.args.decl.now c.args.caps.now.caps c.requires.before

pub add_root-requires-clause-absent : goal.add_root-requires-clause-absent
add_root-requires-clause-absent c = next-absent c.args.decl.now c.args.caps.now.caps c.loop-number.caps.caps c.loop-number.number c.root-item.result
    c.loop-number.invariant

pub loop-number-preserved : goal.loop-number-preserved
loop-number-preserved c = IsAdding-more c.args.decl.now c.args.caps.now.caps c.loop-number.caps.caps c.add_root.new.caps.caps c.loop-number.number
    c.root-item.result c.loop-number.invariant (omega (arith, ap length c.as_slice-root-items.ensures)) (rw c.as_slice-root-items.ensures at c.root-item.is)
    c.in_ok-add_root.ensures
