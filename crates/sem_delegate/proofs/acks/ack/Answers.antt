use Rattle.std.proofs.Common.{◌≡◌, Option, None, sym, ap, ◌∙◌}
use Rattle.std.specs.Option.{option_map_or}
use Rattle.sem_msg.specs.declared.state.Pending.{Pending}
use Rattle.sem_machine.specs.Handles.{acknowledged, handle_row}
use Rattle.sem_machine.specs.Sides.{Side}
use Rattle.sem_delegate.specs.Delegating.{acking}
use Rattle.sem_delegate.specs.PendingStore.{pending_of}
use Rattle.sem_delegate.proofs.Removing.{none-removed}
use Rattle.sem_delegate.proofs.acks.ack.Goals as goal

-- no such delegation is pending
pub returns-in_default-clause-row : goal.returns-in_default-clause-row
unfolding handle_row
returns-in_default-clause-row c from s =
    let store = c.args.pendings.now in
    let side : Side = acking c.args.caps.now c.args.vpes.now store c.args.outs.now s in
    let none : pending_of store.pendings c.args.key ≡ None = sym c.take-pending.ensures.pending ∙ c.in_default.is in
    ap (λ ps. record side { pendings = ps }) (c.take-pending.ensures.pendings ∙ none-removed store.pendings c.args.key none)
    ∙ sym (ap (λ (o : Option Pending). option_map_or (acknowledged c.args.setup.now c.args.key c.args.yes side) o side) none)
