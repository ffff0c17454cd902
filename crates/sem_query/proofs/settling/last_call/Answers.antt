use Rattle.std.proofs.Common.{◌≤◌, arith}
use Rattle.std.proofs.lemmas.Bool.{iff_false}
use Rattle.sem_query.proofs.Settlements.{call-before, later-more}
use Rattle.sem_query.proofs.settling.last_call.Goals as goal

pub overflow_sub-place : goal.overflow_sub-place
overflow_sub-place c = call-before c.args.journal.now.entries c.args.vpe c.args.n c.loop-place.place c.loop-place.invariant.later c.requires
    (iff_false c.is_call_at.ensures c.loop-place-test.true)

pub loop-place-smaller : goal.loop-place-smaller
loop-place-smaller c =
    let some : 1 ≤ c.loop-place.place = call-before c.args.journal.now.entries c.args.vpe c.args.n c.loop-place.place c.loop-place.invariant.later c.requires
    (iff_false c.is_call_at.ensures c.loop-place-test.true) in
    omega arith

pub loop-place-preserved : goal.loop-place-preserved
loop-place-preserved c = record {
  by_then = omega arith;
  later = later-more c.args.journal.now.entries c.args.vpe c.args.n c.loop-place.place c.loop-place.invariant.later
      (iff_false c.is_call_at.ensures c.loop-place-test.true);
}
