use Rattle.std.proofs.Common.{◌≡◌, List, Option, ◌∙◌, ap}
use Rattle.sem_key.specs.Capability.{Capability}
use Rattle.sem_msg.specs.declared.state.Parked.{Parked}
use Rattle.sem_msg.specs.Rows.{JobRow}
use Rattle.sem_machine.specs.Revokes.{swept, woken, all_woken}
use Rattle.sem_machine.specs.Stores.{installing, with_parks}
use Rattle.sem_sweep.specs.Sweeping.{marked_removed}
use Rattle.sem_sweep.proofs.Swept.{spared-ours}
use Rattle.sem_sweep.proofs.sweeps.close.Goals as goal

pub remove_caps-requires-clause-ours : goal.remove_caps-requires-clause-ours
remove_caps-requires-clause-ours c =
    rw c.spare_root.ensures.caps (spared-ours c.args.vpes.now c.args.caps.now.caps c.args.finished.now.root c.args.finished.now.keep c.requires.ours)

pub returns-clause-row : goal.returns-clause-row
returns-clause-row c s =
    let x : JobRow = c.args.finished.now in
    let vpes = c.args.vpes.now.rows in
    let parks = c.args.park.now in
    let id : c.finished.inside.id ≡ x.id = ap (λ (y : JobRow). y.id) c.finished.view_is in
    let waiters : c.finished.inside.slots ≡ x.waiters = ap (λ (y : JobRow). y.waiters) c.finished.view_is in
    let removed : installing c.remove_caps.new.caps.caps c.remove_caps.new.vpes.rows parks s ≡ swept x (installing c.args.caps.now.caps vpes parks s) =
    c.remove_caps.ensures.row (with_parks parks s)
    ∙ ap (λ j. marked_removed j (installing c.spare_root.new.caps.caps vpes parks s)) id
    ∙ ap (λ (cs : List Capability). marked_removed x.id (installing cs vpes parks s)) c.spare_root.ensures.caps in
    let park : c.wake_all.new.park ≡ all_woken x.waiters parks = c.wake_all.ensures ∙ ap (λ vs. all_woken vs parks) waiters in
    ap (λ (ps : List (Option Parked)). installing c.remove_caps.new.caps.caps c.remove_caps.new.vpes.rows ps s) park ∙ ap (woken x.waiters) removed

pub returns-clause-kept : goal.returns-clause-kept
returns-clause-kept c T i can = c.remove_caps.ensures.kept T i (c.spare_root.ensures.kept T i can)
