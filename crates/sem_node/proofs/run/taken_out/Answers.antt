use Rattle.std.proofs.Common.{◌≡◌, None, length, length-append, sym, ap, subst, arith}
use Rattle.std.specs.Prelude.{All}
use Rattle.std.proofs.lemmas.List.Elements.{All-push}
use Rattle.sem_turn.specs.Passes.{PassValue}
use Rattle.sem_node.specs.Running.{HasRun}
use Rattle.sem_node.proofs.Zips.{zip_pushed}
use Rattle.sem_node.proofs.run.taken_out.Goals as goal

pub loop-node-preserved : goal.loop-node-preserved
loop-node-preserved g c =
    let i = c.loop-node.invariant in
    let o = c.into_parts-kernel.ensures in
    let R = HasRun g.N.RunName.setup in
    let p = c.in_ok-push-2.ensures.ok in record {
      run = zip_pushed R _ _ _ _ _ _ c.in_ok-push.ensures.items p i.run o.run;
      free = subst (All (λ (q : PassValue). q.taken ≡ None)) (sym p) (All-push (λ (q : PassValue). q.taken ≡ None) _ _ i.free o.free);
      count = omega (arith, i.count, ap length p, length-append {A = PassValue}, c.in-Some.ensures.cases);
    }
