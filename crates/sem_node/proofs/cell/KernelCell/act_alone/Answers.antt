use Rattle.std.proofs.Common.{◌≡◌, List, ◌∷◌, [], ◌++◌, None, sym, ◌∙◌, ap, subst}
use Rattle.sem_msg.specs.declared.entry.Entry.{Entry}
use Rattle.sem_msg.specs.Fabric.{IsOwnAct}
use Rattle.sem_turn.specs.Passes.{PassValue}
use Rattle.sem_node.specs.declared.cell.Progress.{Progress}
use Rattle.sem_node.specs.Running.{CellValue}
use Rattle.sem_node.specs.Telling.{TellsProgress}
use Rattle.sem_node.proofs.Stepping.{IsMade, own-input, step-made, made-on, made-kernel-on, tells-alone}
use Rattle.sem_node.proofs.cell.KernelCell.act_alone.Goals as goal

pub enter-entered-requires-clause-kernel : goal.enter-entered-requires-clause-kernel
enter-entered-requires-clause-kernel g c =
    let T = g.N.RunName.setup in
    let l = c.step-entry.new.self in
    let p = c.self.inside.pass in
    let e = c.step-entry.result in
    let made : IsMade T l p c.args.act e = step-made T c.self.inside.kernel c.room.new.self l p c.args.act 0 c.enabled.result None e c.self.invariant.0
    c.enabled.ensures c.if-not-enabled.false c.in_ok-room.ensures.ok (own-input c.args.act c.requires) c.step-entry.ensures.entry c.step-entry.ensures.step
    in
    made-kernel-on T l p c.reserve.new.pass c.args.act e made c.reserve.ensures.same

pub enter-entered-requires-clause-own : goal.enter-entered-requires-clause-own
enter-entered-requires-clause-own g c =
    let T = g.N.RunName.setup in
    let l = c.step-entry.new.self in
    let p = c.self.inside.pass in
    let e = c.step-entry.result in
    let made : IsMade T l p c.args.act e = step-made T c.self.inside.kernel c.room.new.self l p c.args.act 0 c.enabled.result None e c.self.invariant.0
    c.enabled.ensures c.if-not-enabled.false c.in_ok-room.ensures.ok (own-input c.args.act c.requires) c.step-entry.ensures.entry c.step-entry.ensures.step
    in
    subst IsOwnAct (sym made.act) c.requires

pub invariant_of-self-2 : goal.invariant_of-self-2
invariant_of-self-2 g c =
    let T = g.N.RunName.setup in
    let l = c.step-entry.new.self in
    let p = c.self.inside.pass in
    let e = c.step-entry.result in
    let made : IsMade T l p c.args.act e = step-made T c.self.inside.kernel c.room.new.self l p c.args.act 0 c.enabled.result None e c.self.invariant.0
    c.enabled.ensures c.if-not-enabled.false c.in_ok-room.ensures.ok (own-input c.args.act c.requires) c.step-entry.ensures.entry c.step-entry.ensures.step
    in (
      made-on T l p c.reserve.new.pass c.enter-entered.new.pass c.args.act e made c.reserve.ensures.same c.enter-entered.ensures.kernel
          c.enter-entered.ensures.entries,
      c.enter-entered.ensures.free,
      c.enter-entered.ensures.place,
    )

pub returns-clause-told : goal.returns-clause-told
returns-clause-told g c =
    let T = g.N.RunName.setup in
    let l = c.step-entry.new.self in
    let p = c.self.inside.pass in
    let e = c.step-entry.result in
    let made : IsMade T l p c.args.act e = step-made T c.self.inside.kernel c.room.new.self l p c.args.act 0 c.enabled.result None e c.self.invariant.0
    c.enabled.ensures c.if-not-enabled.false c.in_ok-room.ensures.ok (own-input c.args.act c.requires) c.step-entry.ensures.entry c.step-entry.ensures.step
    in
    let old : List Entry = c.args.self.now.pass.entries in
    let new : List Entry = c.enter-entered.new.pass.entries in
    let came : new ≡ old ++ e ∷ [] = c.enter-entered.ensures.entries
    ∙ (ap (λ (x : PassValue). x.entries ++ e ∷ []) c.reserve.ensures.same ∙ ap (λ (v : CellValue). v.pass.entries ++ e ∷ []) c.self.view_is) in
    subst (λ (x : Progress). TellsProgress c.args.act old new x) (sym c.progress_of.ensures)
    (tells-alone c.args.act old new e c.is_some-replied.result c.enter-entered.result.replies came made.act c.is_some-replied.ensures)
