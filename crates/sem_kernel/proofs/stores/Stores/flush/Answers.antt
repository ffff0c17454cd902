use Rattle.std.proofs.Common.{◌∙◌, Option, ap, refl, arith}
use Rattle.std.specs.Option.{option_map_or}
use Rattle.sem_msg.specs.declared.message.Message.{Message}
use Rattle.sem_msg.specs.declared.entry.Detail.TheVariants.{Carried, Nothing}
use Rattle.sem_machine.specs.Machine.{local_step}
use Rattle.sem_machine.proofs.Placed.{boxes-sent}
use Rattle.sem_kernel.specs.KernelStores.{side_of}
use Rattle.sem_kernel.proofs.Enabled.{flush-to}
use Rattle.sem_kernel.proofs.stores.Stores.flush.Goals as goal

pub pop-message-requires : goal.pop-message-requires
pop-message-requires c =
    let to = flush-to c.args.setup.now c.args.kernel (side_of c.args.self.now) c.args.to c.requires.can.enabled in
    let boxes = c.requires.can.are.stores.boxes in
    omega (arith, to, boxes)

pub returns : goal.returns
unfolding local_step
returns c =
    let to = flush-to c.args.setup.now c.args.kernel (side_of c.args.self.now) c.args.to c.requires.can.enabled in
    let boxes = c.requires.can.are.stores.boxes in
    record {
      step = rw (c.pop-message.ensures.boxes, c.nothing.ensures) refl;
      detail_is = c.carried.ensures ∙ ap (λ (o : Option Message). option_map_or (λ m. Carried c.args.to m) o Nothing) c.pop-message.ensures.front;
      stores = record {
        vpes = c.requires.can.are.stores.vpes;
        endpoints = c.requires.can.are.stores.endpoints;
        boxes = boxes-sent c.args.setup.now c.args.self.now.outs c.pop-message.new.self c.args.to _ (omega (arith, to, boxes)) c.pop-message.ensures.boxes
            c.requires.can.are.stores.boxes;
      };
    }
