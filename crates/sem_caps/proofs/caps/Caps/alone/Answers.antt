use Rattle.std.proofs.Common.{◌≡◌, ◌≤◌, length, Some, sym, arith}
use Rattle.std.specs.List.{slice_get}
use Rattle.sem_key.specs.Capability.{capability_of}
use Rattle.sem_key.specs.CapList.{marked_by}
use Rattle.sem_caps.specs.Stored.{capabilities_in, rows_of}
use Rattle.sem_caps.proofs.Tally.{marked-few, alone-here}
use Rattle.sem_caps.proofs.caps.Caps.alone.Goals as goal

-- it is marked, and no other of its group is
pub returns-then-has_mark : goal.returns-then-has_mark
returns-then-has_mark c =
    let rows = rows_of c.self.inside.slab c.self.inside.spots.items in
    let few = marked-few c.args.job rows c.self.inside.marks.items c.self.invariant.3 in
    let one : length (marked_by c.args.job (capabilities_in rows)) ≤ 1 = omega (arith, few, c.count_of.ensures, c.if-count_of-ne1.false) in
    let here : slice_get (capabilities_in rows) c.in_ok-at.at ≡ Some (capability_of c.in_ok-cap.cap.now) = rw (← c.self.view_is) at (sym c.in_ok-cap.ensures) in
    rw (← c.self.view_is) (alone-here c.args.job (capabilities_in rows) c.in_ok-at.at (capability_of c.in_ok-cap.cap.now) here (sym c.if-has_mark.ensures) one)
