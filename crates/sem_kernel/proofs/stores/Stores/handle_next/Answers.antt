use Rattle.std.proofs.Common.{◌≡◌, ◌∙◌, ℕ, Option, Some, true, false, ap, sym, rules}
use Rattle.std.specs.Prelude.{is_some}
use Rattle.sem_msg.specs.declared.message.Message.{Message}
use Rattle.sem_msg.specs.declared.entry.Outcome.{Outcome}
use Rattle.sem_machine.specs.Steps.{step_of}
use Rattle.sem_kernel.specs.KernelStores.{side_of}
use Rattle.sem_kernel.proofs.Enabled.{handle-some}
use Rattle.sem_kernel.proofs.Nexts.{handle-step, handle-detail}
use Rattle.sem_kernel.proofs.stores.Stores.handle_next.Goals as goal

pub unreachable-requires : goal.unreachable-requires
unreachable-requires c = clash (sym (ap (λ (o : Option (ℕ × Message)). is_some o) c.in_default.is)
    ∙ handle-some c.args.setup.now c.args.kernel (side_of c.args.self.now) c.requires.can.enabled)
  where
    clash : false ≡ true → ⊥
    clash no' = cc

pub receive-requires-clause-sound : goal.receive-requires-clause-sound
receive-requires-clause-sound c =
    let inbox : c.args.self.now.inbox ≡ Some (c.in-Some.from, c.in-Some.message) = search rules in
    c.requires.can.are.sound.inbox c.in-Some.from c.in-Some.message inbox

pub returns : goal.returns
returns c =
    let inbox : c.args.self.now.inbox ≡ Some (c.in-Some.from, c.in-Some.message) = search rules in
    record {
      step = ap (λ (o : Outcome). step_of o (side_of c.receive.new.self)) c.nothing.ensures
          ∙ handle-step c.args.setup.now c.args.kernel (side_of c.args.self.now) (side_of c.receive.new.self) c.in-Some.from c.in-Some.message inbox
          c.receive.ensures.row;
      detail_is = handle-detail c.args.setup.now (side_of c.args.self.now) c.in-Some.from c.in-Some.message c.nothing.result inbox;
      stores = c.receive.ensures.stores;
    }
