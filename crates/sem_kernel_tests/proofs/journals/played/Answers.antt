use Rattle.std.proofs.lemmas.Bool.{true_from_ne_false}
use Rattle.sem_machine.specs.Machine.{is_enabled}
use Rattle.sem_kernel_tests.proofs.Played.{HasPlayed-none, HasPlayed-more}
use Rattle.sem_kernel_tests.proofs.journals.played.Goals as goal

pub loop-event-init : goal.loop-event-init
loop-event-init c = HasPlayed-none c.args.setup.now _ _ c.new-journal.ensures c.in_ok-world.ensures

pub loop-event-preserved : goal.loop-event-preserved
loop-event-preserved c =
    let enabled = true_from_ne_false (is_enabled c.loop-event.world.setup c.loop-event.world.world _) (λ refused. let wrong =
    c.in-Ok.ensures.not_enabled.1 refused in cc wrong) in
    HasPlayed-more c.args.setup.now _ _ _ _ _ c.in-Ok.entry c.loop-event.invariant enabled c.in-Ok.ensures.entry c.in-Ok.ensures.after
    (rw c.in_ok-room.ensures.entries at c.push.ensures.entries)
