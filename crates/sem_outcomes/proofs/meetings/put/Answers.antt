use Rattle.std.proofs.Common.{arith}
use Rattle.sem_outcomes.proofs.Meeting.{when-there, when-many, when-new}
use Rattle.sem_outcomes.proofs.meetings.put.Goals as goal

pub returns-then-not-added-clause-met : goal.returns-then-not-added-clause-met
returns-then-not-added-clause-met c =
    let out = c.in_ok-added.ensures.there c.if-not-added.true in
    when-there c.args.setup.now c.args.limit c.args.at c.args.histories.now _ c.histories.view_is c.requires.search c.requires.at c.args.event
    c.requires.enabled
    c.args.numbers.items c.requires.numbers c.add.new.self out.0 out.1

pub returns-then-len-limit-clause-many : goal.returns-then-len-limit-clause-many
returns-then-len-limit-clause-many c _ =
    let out = c.in_ok-added.ensures.added c.if-not-added.false in
    when-many c.args.setup.now c.args.limit c.args.at c.args.histories.now _ c.histories.view_is c.requires.search c.requires.at c.args.event c.requires.enabled
    c.args.numbers.items c.requires.numbers c.add.new.self out.0 out.1 (omega arith)

pub returns-clause-met : goal.returns-clause-met
returns-clause-met c =
    let out = c.in_ok-added.ensures.added c.if-not-added.false in
    when-new c.args.setup.now c.args.limit c.args.at c.args.histories.now _ c.histories.view_is c.requires.search c.requires.at c.args.event c.requires.enabled
    c.args.numbers.items c.requires.numbers c.add.new.self c.add_step.new.steps.items out.0 out.1 (omega arith) c.in_ok-add_step.ensures
