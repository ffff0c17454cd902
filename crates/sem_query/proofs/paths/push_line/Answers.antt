use Rattle.std.proofs.Common.{◌<◌, ◌≤◌, length, sym, ◌∙◌, arith}
use Rattle.sem_machine.specs.Journals.{grants}
use Rattle.sem_query.proofs.Lines.{told-start, told-next, told-root, told-all}
use Rattle.sem_query.proofs.paths.push_line.Goals as goal

pub loop-init : goal.loop-init
loop-init c = told-start c.args.cut.now.keys (grants c.args.journal.now.entries) (length c.args.journal.now.entries) c.args.key c.args.out.now.items
    c.push_step.new.out.items c.in_ok-push_step.ensures

pub returns-in_default : goal.returns-in_default
returns-in_default c = told-root c.args.cut.now.keys (grants c.args.journal.now.entries) (length c.args.journal.now.entries) c.loop.counter c.loop.last _
    c.loop.out.items (sym c.parent_of.ensures ∙ c.in_default.is) c.loop.invariant

pub loop-preserved : goal.loop-preserved
loop-preserved c =
    let within : c.loop.counter < length c.args.journal.now.entries = omega arith in
    told-next c.args.cut.now.keys (grants c.args.journal.now.entries) (length c.args.journal.now.entries) c.loop.counter c.loop.last c.in-Some.parent _
    c.loop.out.items c.push_step-in-loop.new.out.items within (sym c.parent_of.ensures ∙ c.in-Some.is) c.loop.invariant c.in_ok-push_step-2.ensures

pub returns : goal.returns
returns c =
    let all : length c.args.journal.now.entries ≤ c.loop.counter = omega arith in
    told-all c.args.cut.now.keys (grants c.args.journal.now.entries) (length c.args.journal.now.entries) c.loop.counter c.loop.last _ c.loop.out.items all
    c.loop.invariant
