use Rattle.std.proofs.Common.{sym, subst}
use Rattle.sem_kernel.specs.Worlds.{NamesPeer}
use Rattle.sem_kernel.proofs.Peers.{able-peer}
use Rattle.sem_kernel.proofs.Doing.{made-few, made-place, all-done}
use Rattle.sem_kernel.proofs.events.try_step.Goals as goal

pub is_passable-requires-clause-peer : goal.is_passable-requires-clause-peer
is_passable-requires-clause-peer c = subst (λ i. NamesPeer c.args.fabric.now.kernels i c.args.act) (sym c.id.ensures)
    (able-peer c.args.kernel.now c.args.fabric.now c.args.act c.requires.able)

pub enter-requires-clause-kernel : goal.enter-requires-clause-kernel
enter-requires-clause-kernel c = made-few c.args.kernel.now c.args.fabric.now c.args.act c.requires c.carry-input.result c.carry-input.ensures.taken
    c.carry-input.new.fabric c.carry-input.ensures.carried c.step-entry.result c.step-entry.ensures.entry

pub enter-requires-clause-place : goal.enter-requires-clause-place
enter-requires-clause-place c = made-place c.args.kernel.now c.args.fabric.now c.args.act c.requires c.carry-input.result c.carry-input.ensures.taken
    c.carry-input.new.fabric c.carry-input.ensures.carried c.step-entry.result c.step-entry.ensures.entry

pub returns-clause-done : goal.returns-clause-done
returns-clause-done c = record {
  entry = c.step-entry.result;
  done = all-done c.args.kernel.now c.args.fabric.now c.args.act c.requires c.carry-input.result c.carry-input.ensures.taken c.carry-input.new.fabric
      c.carry-input.ensures.carried c.step-entry.result c.step-entry.ensures.entry c.carry-input.ensures.input c.step-entry.new.self
      c.step-entry.ensures.step c.enter.new.fabric c.enter.ensures;
  told = c.is_some.ensures;
}
