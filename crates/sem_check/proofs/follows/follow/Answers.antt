use Rattle.std.proofs.Common.{◌<◌, length, arith, subst, ◌∙◌}
use Rattle.sem_check.proofs.Following.{following-start, following-step, next-after, next-entries}
use Rattle.sem_check.proofs.follows.follow.Goals as goal

pub loop-place-init : goal.loop-place-init
loop-place-init g c = record {
  follows = following-start c.args.setup.now c.args.entries.now c.args.world.now c.requires.start;
  gathered = c.begin.ensures.gathered;
  same = c.begin.ensures.same;
}

pub after-requires-clause-follows : goal.after-requires-clause-follows
after-requires-clause-follows g c =
    let l = c.loop-place in
    let within : l.place < length c.args.entries.now = omega arith in
    next-after c.args.setup.now c.args.entries.now l.world l.place l.invariant.follows c.index-entries-place.result c.take_step.new.world within
    c.index-entries-place.is (c.in_ok-difference.ensures.same c.in_default.is)

pub loop-place-preserved : goal.loop-place-preserved
loop-place-preserved g c =
    let l = c.loop-place in
    let T = c.args.setup.now in
    let J = c.args.entries.now in
    let x = c.index-entries-place.result in
    let within : l.place < length J = omega arith in
    let next = next-entries T J l.world l.place l.invariant.follows x within c.index-entries-place.is in
    record {
      follows = following-step T J l.world l.place l.invariant.follows x c.take_step.new.world within c.index-entries-place.is
          (c.in_ok-difference.ensures.same c.in_default.is);
      gathered = subst (λ K. g.W.Watch.gathers T K c.after.new.self) next c.in_ok-after.ensures.gathered;
      same = c.in_ok-after.ensures.same ∙ (c.in_ok-before.ensures.same ∙ l.invariant.same);
    }
