use Rattle.std.proofs.Common.{◌≡◌, [], ◌∷◌, ◌++◌, List, length, sym, ap, ◌∙◌, arith}
use Rattle.sem_key.specs.Capability.{capability_of}
use Rattle.sem_msg.specs.declared.message.Message.{Message}
use Rattle.sem_msg.specs.declared.message.Message.TheVariants.{RevokeDone}
use Rattle.sem_msg.specs.declared.state.Up.TheVariants.{Remote}
use Rattle.sem_msg.specs.Outboxes.{box_for, with_box}
use Rattle.sem_machine.specs.Sides.{Side, send}
use Rattle.sem_machine.specs.Revokes.{obtain_cancelled, with_up}
use Rattle.sem_machine.specs.Stores.{with_parks, with_vpes}
use Rattle.sem_machine.proofs.Placed.{boxes-sent}
use Rattle.sem_mark.specs.Marking.{revoking}
use Rattle.sem_mark.proofs.Begun.{children-few, finish-none, request-absent, request-marked, request-open}
use Rattle.sem_mark.proofs.requests.revoke_request.Goals as goal

-- the key is not held
pub returns-in_default-clause-row : goal.returns-in_default-clause-row
returns-in_default-clause-row c s =
    let T = c.args.setup.now in
    let side : Side = revoking c.args.caps.now c.args.vpes.now c.args.dtus.now c.args.jobs.now c.args.park.now c.args.outs.now s in
    let half : Side = revoking c.args.caps.now c.cancel_obtain.new.vpes c.args.dtus.now c.args.jobs.now c.cancel_obtain.new.park c.args.outs.now s in
    let after : Side = revoking c.args.caps.now c.cancel_obtain.new.vpes c.args.dtus.now c.args.jobs.now c.cancel_obtain.new.park c.send.new.self s in
    let boxes = c.send.ensures.boxes
    ∙ ap (λ (m : Message). with_box c.args.outs.now.boxes c.args.from (box_for c.args.outs.now.boxes c.args.from ++ m ∷ [])) c.done.ensures.message in
    let told : after ≡ send c.args.from (RevokeDone c.args.job) half = ap (λ (bs : List (List Message)). record half { outs = bs }) boxes in
    let cancelled : half ≡ obtain_cancelled c.args.key side = c.cancel_obtain.ensures.row side in
    finish-none T c.args.kernel (length after.jobs) after
    ∙ told
    ∙ ap (send c.args.from (RevokeDone c.args.job)) cancelled
    ∙ sym (request-absent T c.args.kernel side c.args.from c.args.job c.args.key c.in_default.ensures.cap)

-- there are as many outboxes after a message was sent
pub returns-in_default-clause-boxes : goal.returns-in_default-clause-boxes
returns-in_default-clause-boxes c = boxes-sent c.args.setup.now c.args.outs.now c.send.new.self c.args.from _ (omega (arith, c.requires.from, c.requires.boxes))
    c.send.ensures.boxes c.requires.boxes

-- a job has marked it
pub returns-in-Some-mark-clause-row : goal.returns-in-Some-mark-clause-row
returns-in-Some-mark-clause-row c s =
    let T = c.args.setup.now in
    let side : Side = revoking c.args.caps.now c.args.vpes.now c.args.dtus.now c.args.jobs.now c.args.park.now c.args.outs.now s in
    let after : Side = revoking c.args.caps.now c.args.vpes.now c.args.dtus.now c.set_up.new.self c.args.park.now c.args.outs.now s in
    let waits : after ≡ with_up (Remote c.args.from c.args.job) c.in-Some-mark.marker side =
    λ i. revoking c.args.caps.now c.args.vpes.now c.args.dtus.now (c.set_up.ensures i) c.args.park.now c.args.outs.now s in
    finish-none T c.args.kernel (length after.jobs) after
    ∙ waits
    ∙ sym (request-marked T c.args.kernel side c.args.from c.args.job c.args.key (capability_of c.in-Some.cap.now) c.in-Some-mark.marker c.in-Some.ensures.cap
    c.in-Some-mark.is)

-- no job has marked it
pub begin_revoke-requires-clause-spare : goal.begin_revoke-requires-clause-spare
begin_revoke-requires-clause-spare c = let few = children-few c.args.caps.now.caps c.args.key in omega (arith, few, c.requires.spare)

pub returns-clause-spare : goal.returns-clause-spare
returns-clause-spare c = let few = children-few c.args.caps.now.caps c.args.key in omega (arith, few, c.begin_revoke.ensures.spare)

pub returns-clause-opened : goal.returns-clause-opened
returns-clause-opened c is s = c.begin_revoke.ensures.opened (with_vpes c.args.vpes.now.rows (with_parks c.args.park.now s))

pub returns-clause-row : goal.returns-clause-row
returns-clause-row c s =
    let T = c.args.setup.now in
    let side : Side = revoking c.args.caps.now c.args.vpes.now c.args.dtus.now c.args.jobs.now c.args.park.now c.args.outs.now s in
    c.begin_revoke.ensures.row (with_vpes c.args.vpes.now.rows (with_parks c.args.park.now s))
    ∙ sym (request-open T c.args.kernel side c.args.from c.args.job c.args.key (capability_of c.in-Some.cap.now) c.in-Some.ensures.cap c.in_default-mark.is)
