use Rattle.std.proofs.Common.{List, get_or, sym, ◌∙◌, ap, subst}
use Rattle.std.specs.List.{Contains}
use Rattle.std.proofs.lemmas.List.Elements.{Contains-get_or}
use Rattle.sem_msg.specs.Setup.{Setup}
use Rattle.sem_kernel.specs.declared.own.OwnVpe.{OwnVpe}
use Rattle.sem_kernel.specs.Owning.{own_rows}
use Rattle.sem_kernel.proofs.Owned.{own-here}
use Rattle.sem_node.proofs.run.callers_of.Goals as goal

-- it is a VPE of the kernel
pub invariant_of-push : goal.invariant_of-push
invariant_of-push g c =
    let T = g.N.RunName.setup in
    let i = c.args.kernel.now.id in
    let none : OwnVpe = record { vpe = 0; calls = 0 } in
    let os = c.own_vpes-own-items.result.now in
    let x : OwnVpe = get_or os c.loop-own.own-index none in
    let are = c.own_vpes-own-items.ensures ∙ ap (λ (S : Setup). own_rows S i) c.requires.setup in record {
      own = own-here T c.requires.valid i x
          (subst (λ (xs : List OwnVpe). Contains xs x) are (Contains-get_or os c.loop-own.own-index none c.loop-own-test.true)) ∙ sym c.id.ensures;
    }
