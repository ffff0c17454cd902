use Rattle.std.proofs.Common.{ap, sym, subst, arith}
use Rattle.sem_msg.specs.declared.event.Event.{Event}
use Rattle.sem_msg.specs.Fabric.{IsOwnAct}
use Rattle.sem_turn.specs.Passes.{IsWhole}
use Rattle.sem_run_tests.proofs.turns.enter.Goals as goal

pub give_back-requires-2-clause-whole : goal.give_back-requires-2-clause-whole
give_back-requires-2-clause-whole g c =
    let T = g.N.RunName.setup in
    let f = c.take-fabric-2.result in
    let whole : IsWhole T f = c.take-fabric-2.ensures.whole in
    let kernel = ap (λ (e : Event). e.kernel) c.handled.ensures in
    let act = ap (λ (e : Event). e.act) c.handled.ensures in
    let same = whole.agrees.same_kernels in
    let below = c.kernel-kernel.ensures.below in
    subst (IsWhole T) (sym c.enter.ensures) (record {
      agrees = c.entries_keep_agreement.ensures.own T f whole.agrees c.handled.result (omega (arith, kernel, same, below)) (subst IsOwnAct (sym act) tt);
      square = whole.square;
    })
