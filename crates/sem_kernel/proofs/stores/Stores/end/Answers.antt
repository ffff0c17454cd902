use Rattle.std.proofs.Common.{false, slice_index_or, sym, ◌∙◌, subst, arith, IsTrue}
use Rattle.sem_machine.specs.Sound.{IsSound}
use Rattle.sem_sound.proofs.Refusing.{ended_but_held-sound}
use Rattle.sem_kernel.specs.KernelStores.{side_of}
use Rattle.sem_kernel.proofs.Leavings.{askers, owes, listed-is, listed-few, ended-row}
use Rattle.sem_kernel.proofs.Shrinking.{open-few}
use Rattle.sem_kernel.proofs.stores.Stores.end.Goals as goal

pub end_vpe-requires-clause-asks : goal.end_vpe-requires-clause-asks
end_vpe-requires-clause-asks c = askers c.args.setup.now c.requires.are.setup c.args.kernel c.requires.are.is_one (side_of c.args.self.now) c.requires.are.sound
    c.args.vpe

pub end_vpe-requires-clause-call : goal.end_vpe-requires-clause-call
end_vpe-requires-clause-call c = owes c.args.setup.now c.requires.are.setup c.args.kernel c.requires.are.is_one (side_of c.args.self.now) c.requires.are.sound
    c.args.vpe

pub revoke_ended-requires-clause-are : goal.revoke_ended-requires-clause-are
revoke_ended-requires-clause-are c = record {
  setup = c.requires.are.setup;
  is_one = c.requires.are.is_one;
  stores = record {
    vpes = λ v here. subst (λ o. IsTrue (slice_index_or o v false)) (sym c.end_vpe.ensures.ours) (c.requires.are.stores.vpes v here);
    endpoints = c.requires.are.stores.endpoints;
    boxes = c.end_vpe.ensures.boxes;
  };
  sound = subst (IsSound c.args.setup.now c.args.kernel) (sym (c.end_vpe.ensures.row (side_of c.args.self.now)))
      (ended_but_held-sound c.args.setup.now c.requires.are.setup c.args.kernel c.requires.are.is_one (side_of c.args.self.now) c.requires.are.sound c.args.vpe
      c.requires.here).0;
}

pub revoke_ended-requires-clause-room : goal.revoke_ended-requires-clause-room
revoke_ended-requires-clause-room c =
    let items = listed-is c.args.self.now.caps.caps c.args.vpe c.clear.new.self.items c.append_keys_of.new.keys.items c.append_keys_of.ensures.keys
    c.clear.ensures.items in
    let few = listed-few c.args.self.now.caps.caps c.args.vpe c.append_keys_of.new.keys.items items in
    let links = open-few c.args.self.now.caps.caps in
    record {
      jobs = (let have = c.requires.room.jobs in let spare = c.end_vpe.ensures.job_spare in omega (arith, few, have, spare));
      outs = (let have = c.requires.room.outs in let spare = c.end_vpe.ensures.spare in let jobs = c.end_vpe.ensures.count in
          omega (arith, few, links, have, spare, jobs));
      keys = c.requires.room.keys;
      links = c.requires.room.links;
      gone = c.requires.room.gone;
    }

pub returns-clause-row : goal.returns-clause-row
returns-clause-row c =
    let items = listed-is c.args.self.now.caps.caps c.args.vpe c.clear.new.self.items c.append_keys_of.new.keys.items c.append_keys_of.ensures.keys
    c.clear.ensures.items in
    c.revoke_ended.ensures.row
    ∙ ended-row c.args.setup.now c.args.kernel c.args.vpe (side_of c.args.self.now) _ c.append_keys_of.new.keys.items
    (c.end_vpe.ensures.row (side_of c.args.self.now)) items
