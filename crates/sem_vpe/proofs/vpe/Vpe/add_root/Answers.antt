use Rattle.std.proofs.Common.{◌<◌, length, refl, arith}
use Rattle.sem_msg.specs.declared.state.Slot.TheVariants.{Free, Held}
use Rattle.sem_msg.specs.Setup.{root_key}
use Rattle.sem_key.proofs.Puts.{put-set}
use Rattle.sem_vpe.proofs.vpe.Vpe.add_root.Goals as goal

-- the selector is in the list
pub returns-clause-root : goal.returns-clause-root
returns-clause-root c =
    let within : c.args.root.now.sel < length c.self.inside.slots.items = omega (arith, c.self.invariant.0.selectors) in
    rw (
      ← c.self.view_is,
      c.from.ensures,
      c.kind.ensures,
      put-set Free c.self.inside.slots.items c.args.root.now.sel (Held (root_key c.args.decl.now c.self.inside.next_number c.args.root.now)) within,
    ) refl
