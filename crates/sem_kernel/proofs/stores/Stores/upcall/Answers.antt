use Rattle.std.proofs.Common.{◌≡◌, Option, Some, ◌∙◌, ap, rules, slice_get}
use Rattle.std.specs.Option.{option_map, option_and_then}
use Rattle.sem_msg.specs.declared.state.Ask.{Ask}
use Rattle.sem_msg.specs.declared.state.Ask.TheVariants.{Obtain as ObtainAsk, Delegate as DelegateAsk}
use Rattle.sem_vpe.specs.VpeTable.{VpeTable}
use Rattle.sem_caps.specs.CapStore.{held_key}
use Rattle.sem_machine.specs.Sides.{row}
use Rattle.sem_machine.specs.Upcalls.{source}
use Rattle.sem_kernel.specs.KernelStores.{side_of}
use Rattle.sem_kernel.specs.Rooms.{asked_parent}
use Rattle.sem_kernel.proofs.Meets.{declared-here, owner-below, place-absent}
use Rattle.sem_kernel.proofs.Asked.{upcall-is, place-below, front-sound, source-givable, next-taken}
use Rattle.sem_kernel.proofs.stores.Stores.upcall.Goals as goal

pub obtain_upcall-requires-clause-owner : goal.obtain_upcall-requires-clause-owner
obtain_upcall-requires-clause-owner c =
    let front : slice_get (row (side_of c.args.self.now) c.args.vpe).asks 0 ≡ Some (ObtainAsk c.in-Some-Obtain.place c.in-Some-Obtain.target) = search rules in
    let sound = front-sound c.args.setup.now c.requires.can.are.setup c.args.kernel c.requires.can.are.is_one c.args.self.now c.requires.can.are.sound c.args.vpe
    (ObtainAsk c.in-Some-Obtain.place c.in-Some-Obtain.target) front in
    place-below c.args.setup.now c.requires.can.are.setup c.args.kernel c.requires.can.are.is_one c.in-Some-Obtain.place sound.0

pub obtain_upcall-requires-clause-target : goal.obtain_upcall-requires-clause-target
obtain_upcall-requires-clause-target c =
    let front : slice_get (row (side_of c.args.self.now) c.args.vpe).asks 0 ≡ Some (ObtainAsk c.in-Some-Obtain.place c.in-Some-Obtain.target) = search rules in
    (front-sound c.args.setup.now c.requires.can.are.setup c.args.kernel c.requires.can.are.is_one c.args.self.now c.requires.can.are.sound c.args.vpe
    (ObtainAsk c.in-Some-Obtain.place c.in-Some-Obtain.target) front).1

pub obtain_upcall-requires-clause-source : goal.obtain_upcall-requires-clause-source
obtain_upcall-requires-clause-source c =
    let front : slice_get (row (side_of c.args.self.now) c.args.vpe).asks 0 ≡ Some (ObtainAsk c.in-Some-Obtain.place c.in-Some-Obtain.target) = search rules in
    let room : c.args.self.now.caps.child_room
    ≡ held_key c.args.self.now.caps.caps (option_map (λ p. p.key) (source c.args.setup.now (side_of c.args.self.now) c.args.vpe c.in-Some-Obtain.target)) =
    c.requires.room.child
    ∙ ap (λ (o : Option Ask). held_key c.args.self.now.caps.caps (option_and_then (asked_parent c.args.setup.now (side_of c.args.self.now) c.args.vpe) o))
    front in
    source-givable c.args.setup.now c.requires.can.are.setup c.args.kernel c.requires.can.are.is_one c.args.self.now c.requires.can.are.sound c.args.vpe
    c.in-Some-Obtain.target c.next_ask-ask.new.self.rows (ap (λ (t : VpeTable). t.rows) c.next_ask-ask.ensures.taken) room

pub obtain_upcall-requires-clause-free : goal.obtain_upcall-requires-clause-free
obtain_upcall-requires-clause-free c waits = place-absent c.args.setup.now c.requires.can.are.setup c.args.kernel c.requires.can.are.is_one
    (side_of c.args.self.now) c.requires.can.are.sound c.in-Some-Obtain.place waits

pub delegate_upcall-requires-clause-declared : goal.delegate_upcall-requires-clause-declared
delegate_upcall-requires-clause-declared c = declared-here c.args.setup.now c.requires.can.are.setup
    c.args.kernel c.requires.can.are.is_one c.args.vpe c.requires.can.here

pub delegate_upcall-requires-clause-owner : goal.delegate_upcall-requires-clause-owner
delegate_upcall-requires-clause-owner c =
    let front : slice_get (row (side_of c.args.self.now) c.args.vpe).asks 0
    ≡ Some (DelegateAsk c.in-Some-Delegate.parent c.in-Some-Delegate.object c.in-Some-Delegate.sel) = search rules in
    let sound = front-sound c.args.setup.now c.requires.can.are.setup c.args.kernel c.requires.can.are.is_one c.args.self.now c.requires.can.are.sound c.args.vpe
    (DelegateAsk c.in-Some-Delegate.parent c.in-Some-Delegate.object c.in-Some-Delegate.sel) front in
    owner-below c.args.setup.now c.requires.can.are.setup c.args.kernel c.requires.can.are.is_one c.in-Some-Delegate.parent sound.0

pub delegate_upcall-requires-clause-free : goal.delegate_upcall-requires-clause-free
delegate_upcall-requires-clause-free c =
    next-taken c.args.setup.now c.requires.can.are.setup c.args.kernel c.requires.can.are.is_one c.args.self.now c.requires.can.are.sound c.args.vpe c.requires.can.here
    c.next_ask-ask.new.self.rows (ap (λ (t : VpeTable). t.rows) c.next_ask-ask.ensures.taken)

pub returns-in-Some-Obtain : goal.returns-in-Some-Obtain
returns-in-Some-Obtain c = record {
  row = let front : slice_get (row (side_of c.args.self.now) c.args.vpe).asks 0 ≡ Some (ObtainAsk c.in-Some-Obtain.place c.in-Some-Obtain.target) = search rules in
      upcall-is c.args.setup.now c.args.kernel c.args.vpe (side_of c.args.self.now) (ObtainAsk c.in-Some-Obtain.place c.in-Some-Obtain.target)
      c.next_ask-ask.new.self.rows _ front (ap (λ (t : VpeTable). t.rows) c.next_ask-ask.ensures.taken)
      (c.obtain_upcall.ensures.row (side_of c.args.self.now));
  stores = search rules;
}

pub returns-in-Some-Delegate : goal.returns-in-Some-Delegate
returns-in-Some-Delegate c = record {
  row = let front : slice_get (row (side_of c.args.self.now) c.args.vpe).asks 0
      ≡ Some (DelegateAsk c.in-Some-Delegate.parent c.in-Some-Delegate.object c.in-Some-Delegate.sel) = search rules in
      upcall-is c.args.setup.now c.args.kernel c.args.vpe (side_of c.args.self.now)
      (DelegateAsk c.in-Some-Delegate.parent c.in-Some-Delegate.object c.in-Some-Delegate.sel) c.next_ask-ask.new.self.rows _ front
      (ap (λ (t : VpeTable). t.rows) c.next_ask-ask.ensures.taken) (c.delegate_upcall.ensures.row (side_of c.args.self.now));
  stores = search rules;
}
