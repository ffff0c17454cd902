use Rattle.std.proofs.Common.{◌≡◌, ◌<◌, length, sym, eq-eqb, ◌∙◌, ap, subst, arith}
use Rattle.std.proofs.lemmas.Bool.{ne_eqb}
use Rattle.std.specs.Prelude.{◌==◌}
use Rattle.sem_msg.specs.Lookups.{pe_owner}
use Rattle.sem_msg.specs.contracts.setup.Setup.{the_view}
use Rattle.sem_kernel.proofs.Boots.{IsStarting, IsStarting-none, IsStarting-more, IsStarting-skip, IsStarting-all, startable-at}
use Rattle.sem_kernel.proofs.booting.start_caps.Goals as goal
use Rattle.sem_kernel.proofs.booting.start_caps.Goals.{then-pe_owner-kernel+in_ok-add_roots, else-pe_owner-kernel}

pub loop-decl-init : goal.loop-decl-init
loop-decl-init c = subst (λ cs. IsStarting c.args.setup.now c.args.kernel cs 0) (sym c.in_ok-caps.ensures.caps) (IsStarting-none c.args.setup.now c.args.kernel)

pub add_roots-requires-clause-startable : goal.add_roots-requires-clause-startable
add_roots-requires-clause-startable c = startable-at _ c.loop-decl.decl-index c.decl-item.result c.setup.invariant
    (omega (arith, ap length c.as_slice-decl-items.ensures)) (rw c.as_slice-decl-items.ensures at c.decl-item.is)

-- a VPE is added where the kernel owns its PE
pub loop-decl-preserved : goal.loop-decl-preserved
loop-decl-preserved c =
    let so_far = rw (← c.setup.view_is) at c.loop-decl.invariant in
    let more : c.loop-decl.decl-index < length c.setup.inside.vpes = omega (arith, ap length c.as_slice-decl-items.ensures) in
    let found = rw c.as_slice-decl-items.ensures at c.decl-item.is in
    let owner : c.pe_owner.result ≡ pe_owner (the_view c.setup.inside) c.decl-item.result.pe = rw (← c.setup.view_is) at c.pe_owner.ensures in
    let tested = ap (λ n. n == c.args.kernel) (sym owner) in
    elim c.if-pe_owner-kernel.branch [
      | then-pe_owner-kernel+in_ok-add_roots w ↦ rw (
        w.caps-is,
        ← c.setup.view_is,
      ) (IsStarting-more (the_view c.setup.inside) c.args.kernel c.loop-decl.caps.caps w.add_roots.new.caps.caps c.loop-decl.decl-index
          c.decl-item.result c.setup.invariant so_far more found (tested
          ∙ eq-eqb _ _ w.if-pe_owner-kernel.true) w.in_ok-add_roots.ensures.row w.in_ok-add_roots.ensures.upto)
      | else-pe_owner-kernel w ↦ rw (
        w.caps-is,
        ← c.setup.view_is,
      ) (IsStarting-skip (the_view c.setup.inside) c.args.kernel c.loop-decl.caps.caps c.loop-decl.decl-index c.decl-item.result so_far
          more found (tested ∙ ne_eqb _ _ w.if-pe_owner-kernel.false))
    ]

pub returns : goal.returns
returns c = IsStarting-all c.args.setup.now c.args.kernel c.loop-decl.caps.caps c.loop-decl.decl-index c.loop-decl.invariant
    (rw (← c.setup.view_is) (omega (arith, ap length c.as_slice-decl-items.ensures)))
