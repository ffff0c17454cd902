use Rattle.std.proofs.Common.{◌≡◌, false, subst}
use Rattle.std.specs.Prelude.{MatchBool}
use Rattle.std.specs.Result.{result_ok}
use Rattle.sem_node.specs.Running.{CellValue}
use Rattle.sem_node.specs.Telling.{HasOneMore, has_moved}
use Rattle.sem_node.proofs.Within.{can-try, held-on, whole-on, cell-on, told-on}
use Rattle.sem_node.proofs.cell.KernelCell.act_within.Goals as goal

pub turn_step-tried-requires-clause-can : goal.turn_step-tried-requires-clause-can
turn_step-tried-requires-clause-can g c =
    can-try g.N.RunName.setup c.self.inside.kernel c.room.new.self c.self.inside.pass c.take-fabric.new.pass c.args.act 18446744073709551615 c.enabled.result
    c.take-fabric.result
    c.self.invariant.0 c.enabled.ensures c.if-not-enabled.false c.in_ok-room.ensures.ok c.take-fabric.ensures.pass c.take-fabric.ensures.entries
    c.take-fabric.ensures.whole

pub give_back-requires-clause-held : goal.give_back-requires-clause-held
give_back-requires-clause-held g c =
    held-on g.N.RunName.setup c.self.inside.kernel c.room.new.self c.self.inside.pass c.take-fabric.new.pass c.args.act 18446744073709551615 c.enabled.result
    c.take-fabric.result
    c.self.invariant.0 c.enabled.ensures c.if-not-enabled.false c.in_ok-room.ensures.ok c.take-fabric.ensures.pass c.take-fabric.ensures.entries
    c.take-fabric.ensures.whole
    c.turn_step-tried.new.kernel c.turn_step-tried.new.fabric (has_moved (result_ok c.turn_step-tried.result.linked)) c.turn_step-tried.ensures.tried

pub give_back-requires-clause-whole : goal.give_back-requires-clause-whole
give_back-requires-clause-whole g c =
    whole-on g.N.RunName.setup c.self.inside.kernel c.room.new.self c.self.inside.pass c.take-fabric.new.pass c.args.act 18446744073709551615 c.enabled.result
    c.take-fabric.result
    c.self.invariant.0 c.enabled.ensures c.if-not-enabled.false c.in_ok-room.ensures.ok c.take-fabric.ensures.pass c.take-fabric.ensures.entries
    c.take-fabric.ensures.whole
    c.turn_step-tried.new.kernel c.turn_step-tried.new.fabric (has_moved (result_ok c.turn_step-tried.result.linked)) c.turn_step-tried.ensures.tried

pub invariant_of-self-in_err-tried : goal.invariant_of-self-in_err-tried
invariant_of-self-in_err-tried g c =
    cell-on g.N.RunName.setup c.self.inside.kernel c.room.new.self c.self.inside.pass c.take-fabric.new.pass c.args.act 18446744073709551615 c.enabled.result
    c.take-fabric.result
    c.self.invariant.0 c.enabled.ensures c.if-not-enabled.false c.in_ok-room.ensures.ok c.take-fabric.ensures.pass c.take-fabric.ensures.entries
    c.take-fabric.ensures.whole
    c.turn_step-tried.new.kernel c.turn_step-tried.new.fabric c.give_back.new.pass c.turn_step-tried.result.placed
    (has_moved (result_ok c.turn_step-tried.result.linked)) c.turn_step-tried.ensures.tried
    c.give_back.ensures c.turn_step-tried.ensures.place

pub invariant_of-self-2 : goal.invariant_of-self-2
invariant_of-self-2 g c =
    cell-on g.N.RunName.setup c.self.inside.kernel c.room.new.self c.self.inside.pass c.take-fabric.new.pass c.args.act 18446744073709551615 c.enabled.result
    c.take-fabric.result
    c.self.invariant.0 c.enabled.ensures c.if-not-enabled.false c.in_ok-room.ensures.ok c.take-fabric.ensures.pass c.take-fabric.ensures.entries
    c.take-fabric.ensures.whole
    c.turn_step-tried.new.kernel c.turn_step-tried.new.fabric c.give_back.new.pass c.turn_step-tried.result.placed
    (has_moved (result_ok c.turn_step-tried.result.linked)) c.turn_step-tried.ensures.tried
    c.give_back.ensures c.turn_step-tried.ensures.place

pub returns-clause-told : goal.returns-clause-told
returns-clause-told g c =
    let act = c.args.act in
    let p = c.self.inside.pass in
    let q = c.give_back.new.pass in
    subst (λ (v : CellValue). MatchBool c.in_ok-tried.field-0.done (HasOneMore act false v.pass.entries q.entries) (q.entries ≡ v.pass.entries)) c.self.view_is
    (subst (λ r. MatchBool (has_moved (result_ok r)) (HasOneMore act false p.entries q.entries) (q.entries ≡ p.entries)) c.in_ok-tried.was
    (told-on g.N.RunName.setup c.self.inside.kernel c.room.new.self p c.take-fabric.new.pass act 18446744073709551615 c.enabled.result
    c.take-fabric.result
    c.self.invariant.0 c.enabled.ensures c.if-not-enabled.false c.in_ok-room.ensures.ok c.take-fabric.ensures.pass c.take-fabric.ensures.entries
    c.take-fabric.ensures.whole
    c.turn_step-tried.new.kernel c.turn_step-tried.new.fabric q c.give_back.ensures
    (has_moved (result_ok c.turn_step-tried.result.linked)) c.turn_step-tried.ensures.tried))
