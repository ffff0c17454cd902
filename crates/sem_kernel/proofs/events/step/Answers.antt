use Rattle.sem_kernel.proofs.Doing.{can-try}
use Rattle.sem_kernel.proofs.events.step.Goals as goal

pub try_step-requires : goal.try_step-requires
try_step-requires c = can-try c.args.kernel.now c.args.fabric.now c.args.act c.make_room.new.self c.in_ok-make_room.ensures.ok c.id.result c.id.ensures
    c.reserve.new.self c.in_ok-reserve.ensures.ok c.requires c.in_ok-reserve.ensures.place
