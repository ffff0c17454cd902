use Rattle.std.proofs.Common.{sym, subst, arith}
use Rattle.std.specs.Option.{IsSomeAnd}
use Rattle.sem_turn.specs.Passes.{PassValue, IsWhole, Follows}
use Rattle.sem_node.specs.Stepping.{MayGetPlace}
use Rattle.sem_node.proofs.Trying.{entered-follows, entered-whole}
use Rattle.sem_node.proofs.turns.enter.Goals as goal

pub give_back-requires-clause-held : goal.give_back-requires-clause-held
give_back-requires-clause-held g c =
    let f = c.take-fabric.result in
    let h = c.next_place-placed.new.fabric in
    let p = c.args.pass.now in
    let got : MayGetPlace p.kernel c.enter.new.self h =
    subst (λ m. MayGetPlace m c.enter.new.self h) c.kernel-kernel.ensures.number c.next_place-placed.ensures.same in
    subst (λ (q : PassValue). IsSomeAnd q.taken (λ x. Follows q.kernel x h)) (sym c.take-fabric.ensures.pass)
    (entered-follows g.N.RunName.setup f c.enter.new.self h c.args.entry p.kernel c.requires.kernel c.enter.ensures got)

pub give_back-requires-clause-whole : goal.give_back-requires-clause-whole
give_back-requires-clause-whole g c =
    let T = g.N.RunName.setup in
    let f = c.take-fabric.result in
    let h = c.next_place-placed.new.fabric in
    let p = c.args.pass.now in
    let whole : IsWhole T f = c.take-fabric.ensures.whole in
    let same = whole.agrees.same_kernels in
    let below = c.take-fabric.ensures.kernel in
    let kernel = c.requires.kernel in
    let got : MayGetPlace p.kernel c.enter.new.self h =
    subst (λ m. MayGetPlace m c.enter.new.self h) c.kernel-kernel.ensures.number c.next_place-placed.ensures.same in
    entered-whole T f c.enter.new.self h c.args.entry p.kernel c.requires.kernel c.enter.ensures got
    (subst (IsWhole T) (sym c.enter.ensures) (record {
      agrees = c.entries_keep_agreement.ensures.own T f whole.agrees c.args.entry (omega (arith, kernel, same, below)) c.requires.own;
      square = whole.square;
    }))
