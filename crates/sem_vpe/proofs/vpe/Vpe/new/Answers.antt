use Rattle.std.proofs.Common.{length, ap, refl, arith}
use Rattle.sem_vpe.proofs.Starts.{IsAdding-none, IsAdding-more, IsAdding-all}
use Rattle.sem_vpe.proofs.vpe.Vpe.new.Goals as goal

-- a copy of a free selector is free
pub loop-root-init : goal.loop-root-init
loop-root-init c = IsAdding-none c.args.decl.now _ (rw (c.in_ok-vec.ensures.items_if_clones_equal (λ y same. same), c.in_ok-with_capacity.ensures) refl)

pub loop-root-preserved : goal.loop-root-preserved
loop-root-preserved c = IsAdding-more c.args.decl.now c.loop-root.vpe c.add_root.new.self c.loop-root.root-index c.root-item.result c.loop-root.invariant
    (omega (arith, ap length c.as_slice-root-items.ensures)) (rw c.as_slice-root-items.ensures at c.root-item.is) c.add_root.ensures.root c.add_root.ensures.row

-- there are no more roots than selectors
pub add_root-requires-clause-number : goal.add_root-requires-clause-number
add_root-requires-clause-number c = omega (arith, c.loop-root.invariant.number, c.requires.few_roots, ap length c.as_slice-root-items.ensures)

pub returns-clause-start : goal.returns-clause-start
returns-clause-start c = IsAdding-all c.args.decl.now c.loop-root.vpe c.loop-root.root-index c.loop-root.invariant
    (omega (arith, ap length c.as_slice-root-items.ensures))
