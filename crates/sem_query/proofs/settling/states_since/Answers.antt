use Rattle.std.proofs.Common.{◌≡◌, ◌+◌, ◌∷◌, [], ◌++◌, ap, ◌∙◌, take}
use Rattle.sem_msg.specs.Lookups.{kernel_of}
use Rattle.sem_machine.specs.Sides.{parked}
use Rattle.sem_machine.specs.Machine.{side}
use Rattle.sem_machine.specs.Schedules.{world_after}
use Rattle.sem_query.proofs.StatesSince.{no-states, next-enabled, next-world, states-same, states-more}
use Rattle.sem_query.proofs.settling.states_since.Goals as goal
use Rattle.sem_query.proofs.settling.states_since.Goals.{then-from-place+in_ok-push, else-from-place}

pub loop-place-init : goal.loop-place-init
loop-place-init c = record {
  world = c.in_ok-world.ensures;
  states = c.new-states.ensures.items
      ∙ no-states c.args.setup.now c.args.entries.now c.args.vpe c.args.from;
}

pub advance-requires : goal.advance-requires
advance-requires c = next-enabled c.args.setup.now c.args.entries.now c.requires.schedule c.loop-place.place c.index-entries-place.result c.loop-place.world
    c.loop-place.invariant.world c.loop-place-test.true c.index-entries-place.is

pub loop-place-preserved : goal.loop-place-preserved
loop-place-preserved c =
    let T = c.args.setup.now in
    let J = c.args.entries.now in
    let next : c.advance.new.self ≡ record { setup = T; world = world_after T (take (c.loop-place.place + 1) J) } =
    next-world T J c.requires.schedule c.loop-place.place c.index-entries-place.result c.loop-place.world c.loop-place.invariant.world c.loop-place-test.true
    c.index-entries-place.is c.advance.new.self c.in_ok-advance.ensures.ok in
    record {
      world = next;
      states = elim c.if-from-place.branch [
        | then-from-place+in_ok-push w ↦
            let state : w.parked_state.result ≡ parked (side c.advance.new.self.world (kernel_of T c.args.vpe)) c.args.vpe = w.parked_state.ensures
            ∙ ap (λ k. parked (side c.advance.new.self.world k) c.args.vpe) c.kernel_of-kernel.ensures in
            let pushed : w.push.new.self.items ≡ c.loop-place.states.items ++ w.parked_state.result ∷ [] = w.in_ok-push.ensures.items in
            rw w.states-is (pushed
            ∙ (ap (λ o. c.loop-place.states.items ++ o ∷ []) state
            ∙ states-more T J c.args.vpe c.args.from c.loop-place.place c.advance.new.self c.loop-place.states.items w.if-from-place.true next
            c.loop-place.invariant.states))
        | else-from-place w ↦
            rw w.states-is (c.loop-place.invariant.states ∙ states-same T J c.args.vpe c.args.from c.loop-place.place w.if-from-place.false)
      ];
    }
