use Rattle.std.proofs.Common.{◌∷◌, [], ◌++◌, get_or, Err, sym, ◌∙◌, ap, subst, arith}
use Rattle.std.proofs.lemmas.List.{get_or_default}
use Rattle.sem_msg.specs.declared.event.Act.TheVariants.{Call as Calls}
use Rattle.sem_msg.specs.declared.event.Event.{Event}
use Rattle.sem_machine.specs.Machine.{is_enabled}
use Rattle.sem_machine.specs.Schedules.{IsSchedule}
use Rattle.sem_kernel.specs.declared.events.StepError.TheVariants.{NotEnabled}
use Rattle.sem_revoke.proofs.Safe.{all-safe}
use Rattle.sem_machine.proofs.Pushing.{schedule-empty}
use Rattle.sem_serial.proofs.Played.{playing-start, playing-more, played-none, stops, ok-enabled}
use Rattle.sem_serial.proofs.plays.play.Goals as goal

pub returns-in_err-world-clause-schedule : goal.returns-in_err-world-clause-schedule
returns-in_err-world-clause-schedule c = schedule-empty c.args.setup.now c.args.journal.now.entries c.requires

pub loop-at-init : goal.loop-at-init
loop-at-init c = (
  playing-start c.args.setup.now c.args.events.now c.in_ok-world.world c.new-played.result.entries c.new-played.ensures c.in_ok-world.ensures,
  c.requires,
)

pub returns-in-Err-NotEnabled-clause-not_enabled : goal.returns-in-Err-NotEnabled-clause-not_enabled
returns-in-Err-NotEnabled-clause-not_enabled c =
    let l = c.loop-at in
    let e : Event = get_or c.args.events.now l.at (record { kernel = 0; act = Calls 0 }) in
    stops c.args.setup.now c.args.events.now l.world l.played.entries l.at l.invariant.0 e (omega arith)
    (get_or_default c.args.events.now l.at (record { kernel = 0; act = Calls 0 }) e (omega arith))
    (c.in-Err-NotEnabled.ensures.not_enabled.0 (ap Err c.in-Err-NotEnabled.field-0-is)) c.room.new.self.entries c.room.ensures.entries

pub loop-at-preserved : goal.loop-at-preserved
loop-at-preserved c =
    let l = c.loop-at in
    let e : Event = get_or c.args.events.now l.at (record { kernel = 0; act = Calls 0 }) in
    let more = playing-more c.args.setup.now c.args.events.now l.world l.played.entries l.at l.invariant.0 e c.in-Ok.entry c.step.new.self
    c.push.new.self.entries (omega arith) (get_or_default c.args.events.now l.at (record { kernel = 0; act = Calls 0 }) e (omega arith))
    (ok-enabled c.in-Ok.entry NotEnabled (is_enabled l.world.setup l.world.world e) c.in-Ok.ensures.not_enabled) c.in-Ok.ensures.entry c.in-Ok.ensures.after
    (c.push.ensures.entries ∙ ap (λ es. es ++ c.in-Ok.entry ∷ []) c.room.ensures.entries) in
    (more, l.invariant.1)

-- a schedule is safe
pub returns-in_err-world-clause-safe : goal.returns-in_err-world-clause-safe
returns-in_err-world-clause-safe c = all-safe c.args.setup.now c.keeps_its_rules.ensures c.args.journal.now.entries
    (schedule-empty c.args.setup.now c.args.journal.now.entries c.requires)

pub returns-in_err-room-clause-schedule : goal.returns-in_err-room-clause-schedule
returns-in_err-room-clause-schedule c = schedule-empty c.args.setup.now c.loop-at.journal.entries c.loop-at.invariant.1

pub returns-in_err-room-clause-safe : goal.returns-in_err-room-clause-safe
returns-in_err-room-clause-safe c = all-safe c.args.setup.now c.keeps_its_rules.ensures c.loop-at.journal.entries
    (schedule-empty c.args.setup.now c.loop-at.journal.entries c.loop-at.invariant.1)

pub returns-in_err-room-clause-events : goal.returns-in_err-room-clause-events
returns-in_err-room-clause-events c = played-none c.args.events.now c.loop-at.journal.entries c.loop-at.invariant.1

pub returns-in_err-room-clause-memory : goal.returns-in_err-room-clause-memory
returns-in_err-room-clause-memory c = λ memory. c.loop-at.invariant.1

pub returns-in-Err-NotEnabled-clause-safe : goal.returns-in-Err-NotEnabled-clause-safe
returns-in-Err-NotEnabled-clause-safe c = all-safe c.args.setup.now c.keeps_its_rules.ensures c.room.new.self.entries
    (subst (IsSchedule c.args.setup.now) (sym c.room.ensures.entries) c.loop-at.invariant.0.schedule)

pub returns-in-Err-Memory-clause-schedule : goal.returns-in-Err-Memory-clause-schedule
returns-in-Err-Memory-clause-schedule c = schedule-empty c.args.setup.now c.loop-at.journal.entries c.loop-at.invariant.1

pub returns-in-Err-Memory-clause-safe : goal.returns-in-Err-Memory-clause-safe
returns-in-Err-Memory-clause-safe c = all-safe c.args.setup.now c.keeps_its_rules.ensures c.loop-at.journal.entries
    (schedule-empty c.args.setup.now c.loop-at.journal.entries c.loop-at.invariant.1)

pub returns-in-Err-Memory-clause-events : goal.returns-in-Err-Memory-clause-events
returns-in-Err-Memory-clause-events c = played-none c.args.events.now c.loop-at.journal.entries c.loop-at.invariant.1

pub returns-in-Err-Memory-clause-memory : goal.returns-in-Err-Memory-clause-memory
returns-in-Err-Memory-clause-memory c = λ memory. c.loop-at.invariant.1

pub returns-clause-safe : goal.returns-clause-safe
returns-clause-safe c = all-safe c.args.setup.now c.keeps_its_rules.ensures c.loop-at.played.entries c.loop-at.invariant.0.schedule
