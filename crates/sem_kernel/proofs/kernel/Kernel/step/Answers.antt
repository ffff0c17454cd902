use Rattle.std.proofs.Common.{◌≡◌, true, sym, ap, subst, rules}
use Rattle.sem_machine.specs.Steps.{Step}
use Rattle.sem_machine.specs.Sound.{IsSound}
use Rattle.sem_machine.specs.Machine.{is_locally_enabled}
use Rattle.sem_sound.proofs.Stepping.{step-sound}
use Rattle.sem_kernel.specs.KernelStores.{side_of}
use Rattle.sem_kernel.proofs.Entries.{sound-input, entry-is}
use Rattle.sem_kernel.proofs.kernel.Kernel.step.Goals as goal

pub invariant_of-self : goal.invariant_of-self
invariant_of-self c =
    let enabled : is_locally_enabled c.self.inside.setup c.self.inside.id (side_of c.self.inside.stores) c.args.act ≡ true =
    rw (← c.self.view_is) at c.requires.enabled in
    let side = ap (λ (x : Step). x.side) (rw c.get.ensures at c.act-detail.ensures.step) in
    let are = c.self.invariant.are in
    record {
      are = record {
        setup = are.setup;
        is_one = are.is_one;
        stores = rw c.get.ensures at c.act-detail.ensures.stores;
        sound = subst (IsSound c.self.inside.setup c.self.inside.id) (sym side)
            (step-sound c.self.inside.setup are.setup c.self.inside.id are.is_one (side_of c.self.inside.stores) are.sound c.args.act enabled c.args.input
            (sound-input c.args.act c.args.input c.requires.input)).0;
      };
      room = tt;
      known = c.self.invariant.known;
    }

pub returns-clause-entry : goal.returns-clause-entry
returns-clause-entry c =
    rw (← c.self.view_is) (entry-is c.self.inside.setup c.self.inside.id (side_of c.self.inside.stores) c.args.act c.args.input c.act-detail.result.0
    c.act-detail.result.1 c.map.result (side_of c.act-detail.new.self) (rw c.get.ensures at c.act-detail.ensures.step)
    (rw c.get.ensures at c.act-detail.ensures.detail_is) (search rules))
