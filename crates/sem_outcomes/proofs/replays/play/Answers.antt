use Rattle.std.proofs.Common.{arith}
use Rattle.sem_outcomes.proofs.Playing.{played-start, go-some, go-within, go-enabled, go-more}
use Rattle.sem_outcomes.proofs.replays.play.Goals as goal

pub loop-number-init : goal.loop-number-init
loop-number-init c =
    played-start c.args.setup.now c.args.steps.now c.args.at c.in_ok-way.way.items c.in_ok-kernels.kernels.items c.in_ok-kernels.fabric
    c.in_ok-way.ensures c.in_ok-kernels.ensures.stand c.in_ok-kernels.ensures.journal

pub overflow_sub-number : goal.overflow_sub-number
overflow_sub-number c =
    let l = c.loop-number in
    let some = go-some c.args.setup.now c.args.steps.now c.requires.steps c.args.at c.in-Some.number c.pop.new.self.items l.way.items l.kernels.items l.fabric
    l.invariant c.in-Some.ensures.items in
    omega (arith, some)

pub bounds-steps-number : goal.bounds-steps-number
bounds-steps-number c =
    let l = c.loop-number in
    go-within c.args.setup.now c.args.steps.now c.requires.steps c.args.at c.in-Some.number c.pop.new.self.items l.way.items l.kernels.items l.fabric
    l.invariant c.in-Some.ensures.items

pub offset_bounds-steps-number : goal.offset_bounds-steps-number
offset_bounds-steps-number c =
    let l = c.loop-number in
    let less = go-within c.args.setup.now c.args.steps.now c.requires.steps c.args.at c.in-Some.number c.pop.new.self.items l.way.items l.kernels.items l.fabric
    l.invariant c.in-Some.ensures.items in
    omega (arith, less)

pub take_step-requires-clause-enabled : goal.take_step-requires-clause-enabled
take_step-requires-clause-enabled c =
    let l = c.loop-number in
    go-enabled c.args.setup.now c.args.steps.now c.requires.steps c.args.at c.in-Some.number c.pop.new.self.items l.way.items l.kernels.items l.fabric
    l.invariant c.in-Some.ensures.items _

pub loop-number-preserved : goal.loop-number-preserved
loop-number-preserved c =
    let l = c.loop-number in
    go-more c.args.setup.now c.args.steps.now c.requires.steps c.args.at c.in-Some.number c.pop.new.self.items l.way.items l.kernels.items l.fabric l.invariant
    c.in-Some.ensures.items _
    c.take_step.new.kernels.items c.take_step.new.fabric c.take_step.ensures.stand c.in_ok-take_step.ensures.journal
