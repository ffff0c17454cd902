use Rattle.std.proofs.Common.{◌∙◌}
use Rattle.sem_kernel.proofs.Happened.{enabled-here, enabled-nowhere}
use Rattle.sem_kernel.proofs.events.is_enabled.Goals as goal

pub returns-then-event-setup : goal.returns-then-event-setup
returns-then-event-setup c = c.can_do.ensures
    ∙ enabled-here c.args.setup.now c.args.kernels.now c.args.fabric.now c.requires c.args.event.kernel (rw (← c.setup.view_is) c.if-event-setup.true)
    c.index-kernels-event.result c.index-kernels-event.is c.args.event.act

-- no such kernel
pub returns-else-event-setup : goal.returns-else-event-setup
returns-else-event-setup c = rw (← c.setup.view_is) (enabled-nowhere _ _ c.args.event c.if-event-setup.false)
