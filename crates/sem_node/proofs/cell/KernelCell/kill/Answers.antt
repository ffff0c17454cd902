use Rattle.std.proofs.Common.{◌≡◌, Bool, false, List, ◌++◌, ◌∷◌, [], None, sym, ◌∙◌, ap, subst}
use Rattle.std.specs.Prelude.{MatchBool}
use Rattle.sem_msg.specs.declared.event.Act.TheVariants.{Kill}
use Rattle.sem_msg.specs.declared.entry.Entry.{Entry}
use Rattle.sem_machine.specs.Machine.{local_entry}
use Rattle.sem_turn.specs.Passes.{PassValue}
use Rattle.sem_node.specs.Running.{CellValue}
use Rattle.sem_node.specs.Telling.{HasOneMore}
use Rattle.sem_node.proofs.Stepping.{IsMade, step-made, made-on}
use Rattle.sem_node.proofs.KilledEntry.{kill-tells}
use Rattle.sem_node.proofs.cell.KernelCell.kill.Goals as goal

pub invariant_of-self-then-killed : goal.invariant_of-self-then-killed
invariant_of-self-then-killed g c =
    let T = g.N.RunName.setup in
    let r = c.room.new.self in
    let l = c.step.new.self in
    let p = c.self.inside.pass in
    let w = c.reserve.new.pass in
    let q = c.enter_kill-killed.new.pass in
    let e : Entry = c.step.result in
    let own : Entry = local_entry r.setup r.id r.side (Kill c.args.vpe) None in
    let made : IsMade T l p (Kill c.args.vpe) e = step-made T c.self.inside.kernel r l p (Kill c.args.vpe) 18446744073709551615 c.enabled.result None e
    c.self.invariant.0 c.enabled.ensures c.if-not-enabled.false c.in_ok-room.ensures.ok tt c.step.ensures.entry c.step.ensures.step in
    let put : q.entries ≡ w.entries ++ own ∷ [] =
    subst (λ (b : Bool). MatchBool b (q.entries ≡ w.entries ++ own ∷ []) (q.entries ≡ w.entries)) c.if-killed.true c.enter_kill-killed.ensures.entries in
    let pushed : q.entries ≡ w.entries ++ e ∷ [] = put ∙ ap (λ (x : Entry). w.entries ++ x ∷ []) (sym c.step.ensures.entry) in (
      made-on T l p w q (Kill c.args.vpe) e made c.reserve.ensures.same c.enter_kill-killed.ensures.kernel pushed,
      c.enter_kill-killed.ensures.free,
      c.enter_kill-killed.ensures.place,
    )

pub returns-then-killed-clause-told : goal.returns-then-killed-clause-told
returns-then-killed-clause-told g c =
    let r = c.room.new.self in
    let v = c.args.vpe in
    let w = c.reserve.new.pass in
    let old : List Entry = c.args.self.now.pass.entries in
    let new : List Entry = c.enter_kill-killed.new.pass.entries in
    let own : Entry = local_entry r.setup r.id r.side (Kill v) None in
    let put : new ≡ w.entries ++ own ∷ [] =
    subst (λ (b : Bool). MatchBool b (new ≡ w.entries ++ own ∷ []) (new ≡ w.entries)) c.if-killed.true c.enter_kill-killed.ensures.entries in
    let came : new ≡ old ++ own ∷ [] = put
    ∙ (ap (λ (x : PassValue). x.entries ++ own ∷ []) c.reserve.ensures.same ∙ ap (λ (x : CellValue). x.pass.entries ++ own ∷ []) c.self.view_is) in
    subst (λ (b : Bool). MatchBool b (HasOneMore (Kill v) false old new) (new ≡ old)) (sym c.if-killed.true)
    (kill-tells r.setup r.id r.side v old new came)
