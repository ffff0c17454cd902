use Rattle.std.proofs.Common.{arith, ◌≡◌, ◌<◌, ◌+◌, List, length, ◌++◌, take, drop, set, get_or, ◌∙◌, ap}
use Rattle.std.proofs.lemmas.List.{get_or_default}
use Rattle.std.proofs.lemmas.List.Edits.{map_over_more}
use Rattle.sem_msg.specs.Rows.{JobRow}
use Rattle.sem_msg.specs.JobRows.{without_number, waiter_removed}
use Rattle.sem_jobs.specs.declared.spot.IdSpot.{IdSpot}
use Rattle.sem_jobs.specs.Stored.{rows_of}
use Rattle.sem_jobs.proofs.Places.{length-rows, row-read, rows-set, placed-set}
use Rattle.sem_jobs.proofs.Searched.{some_spot}
use Rattle.sem_jobs.proofs.jobs.leave_all.Goals as goal

-- the VPE waits for one job less
pub loop-spot-preserved : goal.loop-spot-preserved
loop-spot-preserved c =
    let vpe = c.args.vpe in
    let slab = c.loop-spot.slab in
    let spots = c.args.spots.now in
    let before : List JobRow = rows_of c.args.slab.now spots in
    let i = c.loop-spot.spot-index in
    let spot : IdSpot = get_or spots i some_spot in
    let f = λ (x : JobRow). record x { waiters = without_number x.waiters vpe } in
    let row : JobRow = c.index_mut-open.result.now in
    let within : i < length spots = omega (arith, c.loop-spot-test.true, c.loop-spot.auto.spot-index-end) in
    let read : spot ≡ get_or spots i spot = get_or_default spots i some_spot spot within in
    let value = c.index_mut-open.ensures.value in
    let here : row ≡ get_or (rows_of slab spots) i row = row-read slab spots c.loop-spot.invariant.placed i within spot read row value in
    let inside : i < length before = omega (arith, length-rows c.args.slab.now spots, within) in
    let more : set (rows_of slab spots) i (f row) ≡ waiter_removed vpe (take (i + 1) before) ++ drop (i + 1) before =
    map_over_more f before (rows_of slab spots) i row inside c.loop-spot.invariant.jobs here in
    record {
      jobs = rows-set slab spots c.loop-spot.invariant.placed i within spot read row value c.leave.new.self
          ∙ (ap (set (rows_of slab spots) i) c.leave.ensures ∙ more);
      placed = placed-set slab spots c.loop-spot.invariant.placed i within spot read row value c.leave.new.self (ap (λ (x : JobRow). x.id) c.leave.ensures);
      capacity = c.loop-spot.invariant.capacity;
    }
