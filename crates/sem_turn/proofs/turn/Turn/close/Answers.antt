use Rattle.std.proofs.Common.{◌≡◌, ◌+◌, ℕ, [], length, ap, arith}
use Rattle.sem_turn.specs.Passes.{times}
use Rattle.sem_turn.specs.Rule.{carries}
use Rattle.sem_turn.proofs.Hands.{popped_free, popped_count, popped_once, popped_fits, parts_none}
use Rattle.sem_turn.proofs.turn.Turn.close.Goals as goal

pub into_seat-seat-requires : goal.into_seat-seat-requires
into_seat-seat-requires g c = (popped_free _ _ _ c.in-Some.ensures.last c.requires.free).1

pub loop-pass-init : goal.loop-pass-init
loop-pass-init g c =
    let p = c.in-Some.ensures.last in
    let o = c.into_seat-seat.ensures in record {
      idle = o.idle;
      free = (popped_free _ _ _ p c.requires.free).0;
      count = popped_count _ _ c.in-Some.last p [] _ o.carries (length c.args.passes) (omega arith);
      once = λ k. popped_once _ _ c.in-Some.last p [] _ o.carries k (times k c.args.passes) (omega arith);
      fits = λ f. popped_fits _ _ c.in-Some.last p [] _ o.carries f c.args.passes (λ _ h. h);
    }

pub join-requires-clause-pass : goal.join-requires-clause-pass
join-requires-clause-pass g c = (popped_free _ _ _ c.in-Some-pop.ensures.last c.loop-pass.invariant.free).1

pub loop-pass-preserved : goal.loop-pass-preserved
loop-pass-preserved g c =
    let i = c.loop-pass.invariant in
    let p = c.in-Some-pop.ensures.last in
    let o = c.join.ensures in record {
      idle = o.idle;
      free = (popped_free _ _ _ p i.free).0;
      count = popped_count _ _ c.in-Some-pop.pass p _ _ o.carries _ i.count;
      once = λ k. popped_once _ _ c.in-Some-pop.pass p _ _ o.carries k _ (i.once k);
      fits = λ f. popped_fits _ _ c.in-Some-pop.pass p _ _ o.carries f c.args.passes (i.fits f);
    }

pub returns-clause-parts : goal.returns-clause-parts
returns-clause-parts g c =
    let i = c.loop-pass.invariant in
    i.fits c.finish.result c.finish.ensures.fits (parts_none _ _ c.in_default-pop.ensures.none)

pub returns-clause-once : goal.returns-clause-once
returns-clause-once g c = λ k lt.
    let all = c.loop-pass.invariant.once k in
    let none : times k c.loop-pass.passes ≡ 0 = ap (times k) c.in_default-pop.ensures.none in
    let one = c.finish.ensures.once k lt in
    let a : ℕ = carries k c.loop-pass.seat.me.0 in
    let b : ℕ = times k c.loop-pass.passes in
    let t : ℕ = times k c.args.passes in
    let all' : a + b ≡ t = all in
    let none' : b ≡ 0 = none in
    let one' : a ≡ 1 = one in
    let r : t ≡ 1 = omega (arith, all', none', one') in r
