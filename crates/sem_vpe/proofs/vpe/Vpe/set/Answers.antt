use Rattle.std.proofs.Common.{◌<◌, length, refl, arith}
use Rattle.sem_msg.specs.declared.state.Slot.TheVariants.{Free}
use Rattle.sem_key.proofs.Puts.{put-set}
use Rattle.sem_vpe.proofs.vpe.Vpe.set.Goals as goal

-- the selector is in the list
pub returns-clause-slots : goal.returns-clause-slots
returns-clause-slots c =
    let within : c.args.sel < length c.self.inside.slots.items = omega (arith, c.self.invariant.0.selectors) in
    rw (← c.self.view_is, c.from.ensures, put-set Free c.self.inside.slots.items c.args.sel c.args.state within) refl
