use Rattle.std.proofs.Common.{◌≡◌, ◌∙◌, true, false, sym, rules, arith}
use Rattle.sem_machine.specs.Sides.{cap}
use Rattle.sem_sound.proofs.Meeting.{ids-fit}
use Rattle.sem_kernel.specs.Ending.{is_unmarked}
use Rattle.sem_kernel.proofs.Openings.{lead-home}
use Rattle.sem_kernel.proofs.Leavings.{left-middle, plain-jobs, plain-caps, opened-fewer, children-open, revoked-open, revoked-other, finished-caps}
use Rattle.sem_kernel.proofs.Leavings.{finished-links, finished-open}
use Rattle.sem_kernel.specs.KernelStores.{side_of}
use Rattle.sem_kernel.proofs.stores.Stores.revoke_if_left.Goals as goal

pub begin_revoke-done-requires-clause-ids : goal.begin_revoke-done-requires-clause-ids
begin_revoke-done-requires-clause-ids c = ids-fit c.args.setup.now c.requires.are.setup c.args.kernel c.requires.are.is_one
    (side_of c.args.self.now) c.requires.are.sound

pub begin_revoke-done-requires-clause-owners : goal.begin_revoke-done-requires-clause-owners
begin_revoke-done-requires-clause-owners c = lead-home c.args.setup.now c.requires.are.setup c.args.kernel c.requires.are.is_one
    (side_of c.args.self.now) c.requires.are.sound

pub begin_revoke-done-requires-clause-spare : goal.begin_revoke-done-requires-clause-spare
begin_revoke-done-requires-clause-spare c =
    let links = children-open c.args.self.now.caps.caps c.args.key in
    let room = c.requires.room.outs in
    omega (arith, links, room)

pub finish-requires-clause-sound : goal.finish-requires-clause-sound
finish-requires-clause-sound c =
    let open' : is_unmarked (cap (side_of c.args.self.now) c.args.key) ≡ true = search rules in
    left-middle c.args.setup.now c.requires.are.setup c.args.kernel c.requires.are.is_one (side_of c.args.self.now) c.requires.are.sound c.args.key open'
    c.begin_revoke-done.result _ c.begin_revoke-done.ensures.same (c.begin_revoke-done.ensures.opened (side_of c.args.self.now))

pub finish-requires-clause-outs : goal.finish-requires-clause-outs
finish-requires-clause-outs c some =
    let jobs = plain-jobs c.args.setup.now c.args.kernel c.args.key (side_of c.args.self.now) _ (c.begin_revoke-done.ensures.opened (side_of c.args.self.now))
    in
    let links = children-open c.args.self.now.caps.caps c.args.key in
    let spare = c.begin_revoke-done.ensures.spare in
    let room = c.requires.room.outs in
    omega (arith, jobs, links, spare, room)

pub finish-requires-clause-gone : goal.finish-requires-clause-gone
finish-requires-clause-gone c some =
    let caps = plain-caps c.args.setup.now c.args.kernel c.args.key (side_of c.args.self.now) _ (c.begin_revoke-done.ensures.opened (side_of c.args.self.now))
    in
    let gone = c.begin_revoke-done.ensures.gone in
    let room = c.requires.room.gone in
    omega (arith, caps, gone, room)

pub returns-then-not-is_unmarked-clause-row : goal.returns-then-not-is_unmarked-clause-row
returns-then-not-is_unmarked-clause-row c =
    let other : is_unmarked (cap (side_of c.args.self.now) c.args.key) ≡ false = search rules in
    sym (revoked-other c.args.setup.now c.args.kernel c.args.key (side_of c.args.self.now) other)

pub returns-then-not-is_unmarked-clause-room : goal.returns-then-not-is_unmarked-clause-room
returns-then-not-is_unmarked-clause-room c n room = record {
  jobs = (let have = room.jobs in omega (arith, have));
  outs = (let have = room.outs in omega (arith, have));
  keys = room.keys;
  links = room.links;
  gone = room.gone;
}

pub returns-clause-row : goal.returns-clause-row
returns-clause-row c =
    let open' : is_unmarked (cap (side_of c.args.self.now) c.args.key) ≡ true = search rules in
    c.finish.ensures.row
    ∙ (c.begin_revoke-done.ensures.row (side_of c.args.self.now)
    ∙ sym (revoked-open c.args.setup.now c.args.kernel c.args.key (side_of c.args.self.now) open'))

pub returns-clause-room : goal.returns-clause-room
returns-clause-room c n room =
    let is_opened = c.begin_revoke-done.ensures.opened (side_of c.args.self.now) in
    let jobs = plain-jobs c.args.setup.now c.args.kernel c.args.key (side_of c.args.self.now) _ is_opened in
    let caps = plain-caps c.args.setup.now c.args.kernel c.args.key (side_of c.args.self.now) _ is_opened in
    let fewer = opened-fewer c.args.setup.now c.args.kernel c.args.key (side_of c.args.self.now) _ is_opened in
    let done_caps = finished-caps c.args.setup.now c.args.kernel c.begin_revoke-done.result _ _ c.finish.ensures.row in
    let done_links = finished-links c.args.setup.now c.args.kernel c.begin_revoke-done.result _ _ c.finish.ensures.row in
    let done_open = finished-open c.args.setup.now c.args.kernel c.begin_revoke-done.result _ _ c.finish.ensures.row in
    let space = c.begin_revoke-done.ensures.space in
    record {
      jobs = (let have = room.jobs in let one = c.begin_revoke-done.ensures.job_spare in let later = c.finish.ensures.jobs in omega (arith, have, one, later));
      outs = (let have = room.outs in let spare = c.begin_revoke-done.ensures.spare in let later = c.finish.ensures.outs in
          omega (arith, have, spare, later, jobs, fewer, done_open));
      keys = (let have = space.keys in let same = c.finish.ensures.keys in omega (arith, have, same, done_caps));
      links = (let have = space.links in let same = c.finish.ensures.links in omega (arith, have, same, done_links));
      gone = (let have = room.gone in let first = c.begin_revoke-done.ensures.gone in let then' = c.finish.ensures.gone in
          omega (arith, have, first, then', caps, done_caps));
    }
