use Rattle.std.proofs.Common.{◌≡◌, ◌∙◌, Option, Some, None, true, ap, sym, subst, rules, arith, length, false, slice_index_or, IsTrue, refl}
use Rattle.std.specs.Prelude.{is_some}
use Rattle.sem_msg.specs.declared.call.Call.{Call}
use Rattle.std.specs.Option.{option_map_or}
use Rattle.sem_caps.specs.CapStore.{held_key}
use Rattle.sem_vpe.specs.VpeTable.{VpeTable}
use Rattle.sem_machine.specs.Machine.{next_call}
use Rattle.sem_sound.proofs.Meeting.{calls-fit}
use Rattle.sem_sound.proofs.Stepping.{call-valid, none-is}
use Rattle.sem_kernel.proofs.Enabled.{call-here, call-idle}
use Rattle.sem_kernel.proofs.Nexts.{counted-sound_side, counted-pays_side, counted-parent_side, counted-asks, call-step, call-detail}
use Rattle.sem_kernel.specs.Rooms.{is_revoking}
use Rattle.sem_kernel.specs.KernelStores.{side_of}
use Rattle.sem_kernel.proofs.stores.Stores.call_next.Goals as goal

pub next_call-index-requires : goal.next_call-index-requires
next_call-index-requires c =
    c.requires.can.are.stores.vpes c.args.vpe (call-here c.args.setup.now c.args.kernel (side_of c.args.self.now) c.args.vpe c.requires.can.enabled)

pub next_call-requires-clause-here : goal.next_call-requires-clause-here
next_call-requires-clause-here c = call-here c.args.setup.now c.args.kernel (side_of c.args.self.now) c.args.vpe c.requires.can.enabled

pub unreachable-requires : goal.unreachable-requires
unreachable-requires c =
    let idle = call-idle c.args.setup.now c.args.kernel (side_of c.args.self.now) c.args.vpe c.requires.can.enabled in
    let none : next_call c.args.setup.now (side_of c.args.self.now) c.args.vpe ≡ None = search rules in
    clash (sym (ap (λ (o : Option Call). is_some o) none) ∙ idle.1)
  where
    clash : false ≡ true → ⊥
    clash no' = cc

pub advance-requires-clause-ours : goal.advance-requires-clause-ours
advance-requires-clause-ours c =
    c.requires.can.are.stores.vpes c.args.vpe (call-here c.args.setup.now c.args.kernel (side_of c.args.self.now) c.args.vpe c.requires.can.enabled)

pub advance-requires-clause-few : goal.advance-requires-clause-few
advance-requires-clause-few c = calls-fit c.args.setup.now c.requires.can.are.setup c.args.kernel c.requires.can.are.is_one
    (side_of c.args.self.now) c.requires.can.are.sound c.args.vpe

pub call-outcome-requires-clause-can : goal.call-outcome-requires-clause-can
call-outcome-requires-clause-can c =
    let here = call-here c.args.setup.now c.args.kernel (side_of c.args.self.now) c.args.vpe c.requires.can.enabled in
    let next : next_call c.args.setup.now (side_of c.args.self.now) c.args.vpe ≡ Some c.in-Some.call = search rules in
    record {
      are = record {
        setup = c.requires.can.are.setup;
        is_one = c.requires.can.are.is_one;
        stores = record {
          vpes = λ v own. subst (λ o. IsTrue (slice_index_or o v false)) (sym (ap (λ (t : VpeTable). t.ours) c.advance.ensures))
              (c.requires.can.are.stores.vpes v own);
          endpoints = c.requires.can.are.stores.endpoints;
          boxes = c.requires.can.are.stores.boxes;
        };
        sound = counted-sound_side c.args.setup.now c.requires.can.are.setup c.args.kernel c.requires.can.are.is_one (side_of c.args.self.now) c.requires.can.are.sound
            c.args.vpe here c.advance.new.self.rows (ap (λ (t : VpeTable). t.rows) c.advance.ensures) c.in-Some.call next;
      };
      here = here;
    }

pub call-outcome-requires-clause-idle : goal.call-outcome-requires-clause-idle
call-outcome-requires-clause-idle c = none-is _ (call-idle c.args.setup.now c.args.kernel (side_of c.args.self.now) c.args.vpe c.requires.can.enabled).0

pub call-outcome-requires-clause-pays : goal.call-outcome-requires-clause-pays
call-outcome-requires-clause-pays c =
    let next : next_call c.args.setup.now (side_of c.args.self.now) c.args.vpe ≡ Some c.in-Some.call = search rules in
    counted-pays_side c.args.setup.now c.requires.can.are.setup c.args.kernel c.requires.can.are.is_one (side_of c.args.self.now) c.requires.can.are.sound c.args.vpe
    (call-here c.args.setup.now c.args.kernel (side_of c.args.self.now) c.args.vpe c.requires.can.enabled) c.advance.new.self.rows
    (ap (λ (t : VpeTable). t.rows) c.advance.ensures) c.in-Some.call next

pub call-outcome-requires-clause-valid : goal.call-outcome-requires-clause-valid
call-outcome-requires-clause-valid c =
    let next : next_call c.args.setup.now (side_of c.args.self.now) c.args.vpe ≡ Some c.in-Some.call = search rules in
    call-valid c.args.setup.now c.requires.can.are.setup c.args.kernel c.requires.can.are.is_one c.args.vpe _ c.in-Some.call next

pub call-outcome-requires-clause-room : goal.call-outcome-requires-clause-room
call-outcome-requires-clause-room c =
    let next : next_call c.args.setup.now (side_of c.args.self.now) c.args.vpe ≡ Some c.in-Some.call = search rules in
    let room = c.requires.can.ready.room refl in
    record {
      caps = room.caps;
      child = room.child
          ∙ ap (held_key c.args.self.now.caps.caps) (counted-parent_side c.args.setup.now c.requires.can.are.setup c.args.kernel c.requires.can.are.is_one
          (side_of c.args.self.now) c.requires.can.are.sound c.args.vpe
          (call-here c.args.setup.now c.args.kernel (side_of c.args.self.now) c.args.vpe c.requires.can.enabled) c.advance.new.self.rows
          (ap (λ (t : VpeTable). t.rows) c.advance.ensures) c.in-Some.call next);
      pendings = room.pendings;
      outs = room.outs;
      gone = room.gone;
    }

pub call-outcome-requires-clause-revoke : goal.call-outcome-requires-clause-revoke
call-outcome-requires-clause-revoke c revoking =
    let next : next_call c.args.setup.now (side_of c.args.self.now) c.args.vpe ≡ Some c.in-Some.call = search rules in
    let room = c.requires.can.ready.revoke (ap (λ (o : Option Call). option_map_or is_revoking o false) next ∙ revoking) in
    let asks = ap length (counted-asks c.args.setup.now c.requires.can.are.setup c.args.kernel c.requires.can.are.is_one
    (side_of c.args.self.now) c.requires.can.are.sound
    c.args.vpe (call-here c.args.setup.now c.args.kernel (side_of c.args.self.now) c.args.vpe c.requires.can.enabled) c.advance.new.self.rows
    (ap (λ (t : VpeTable). t.rows) c.advance.ensures) c.in-Some.call next) in
    record {
      jobs = room.jobs;
      outs = (let have = room.outs in omega (arith, have, asks));
      keys = room.keys;
      links = room.links;
      gone = room.gone;
      ended = room.ended;
    }

pub returns : goal.returns
returns c =
    let next : next_call c.args.setup.now (side_of c.args.self.now) c.args.vpe ≡ Some c.in-Some.call = search rules in
    record {
      step = call-step c.args.setup.now c.args.kernel c.args.vpe (side_of c.args.self.now) c.advance.new.self.rows c.in-Some.call _
          (ap (λ (t : VpeTable). t.rows) c.advance.ensures) next c.call-outcome.ensures.row;
      detail_is = call-detail c.args.setup.now c.args.vpe c.next_call-index.result (side_of c.args.self.now) c.in-Some.call c.call-outcome.result
          c.next_call-index.ensures next;
      stores = c.call-outcome.ensures.stores;
    }
