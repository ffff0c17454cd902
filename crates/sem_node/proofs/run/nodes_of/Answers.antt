use Rattle.std.proofs.Common.{◌≡◌, List, ◌++◌, ◌∷◌, [], None, Some, subst, arith}
use Rattle.std.specs.List.{AllZip}
use Rattle.std.proofs.lemmas.List.Elements.{All-pop}
use Rattle.sem_turn.specs.Passes.{PassValue}
use Rattle.sem_node.specs.Running.{HasRun}
use Rattle.sem_node.proofs.Zips.{zip_snoc, zip_some}
use Rattle.sem_node.proofs.run.nodes_of.Goals as goal

pub unreachable-requires : goal.unreachable-requires
unreachable-requires g c =
    let R = HasRun g.N.RunName.setup in
    zip_some R c.pop.new.self.items c.in-Some.kernel
    (subst (λ (ps : List PassValue). AllZip R (c.pop.new.self.items ++ c.in-Some.kernel ∷ []) ps) c.in_default-pop.ensures.none
    (subst (λ xs. AllZip R xs c.loop-kernel.passes) c.in-Some.ensures.items c.loop-kernel.invariant.run))

pub node_of-requires-clause-run : goal.node_of-requires-clause-run
node_of-requires-clause-run g c =
    let R = HasRun g.N.RunName.setup in
    let first = subst (λ xs. AllZip R xs c.loop-kernel.passes) c.in-Some.ensures.items c.loop-kernel.invariant.run in
    (zip_snoc R _ _ _ _ (subst (λ (ps : List PassValue). AllZip R (c.pop.new.self.items ++ c.in-Some.kernel ∷ []) ps) c.in-Some-pop.ensures.last first)).1

pub node_of-requires-clause-free : goal.node_of-requires-clause-free
node_of-requires-clause-free g c =
    (All-pop (λ (p : PassValue). p.taken ≡ None) _ _ (Some c.in-Some-pop.pass) c.in-Some-pop.ensures.last c.loop-kernel.invariant.free).1

pub loop-kernel-preserved : goal.loop-kernel-preserved
loop-kernel-preserved g c =
    let i = c.loop-kernel.invariant in
    let R = HasRun g.N.RunName.setup in
    let first = subst (λ xs. AllZip R xs c.loop-kernel.passes) c.in-Some.ensures.items i.run in record {
      run = (zip_snoc R _ _ _ _ (subst (λ (ps : List PassValue). AllZip R (c.pop.new.self.items ++ c.in-Some.kernel ∷ []) ps) c.in-Some-pop.ensures.last
          first)).0;
      free = (All-pop (λ (p : PassValue). p.taken ≡ None) _ _ (Some c.in-Some-pop.pass) c.in-Some-pop.ensures.last i.free).0;
      count = omega (arith, i.count, c.in_ok-push.ensures.len, c.in-Some.ensures.cases);
    }
