use Rattle.std.proofs.Common.{◌≡◌, take}
use Rattle.sem_check.proofs.Following.{IsFollowing}
use Rattle.sem_check.proofs.follows.follow.Given as goal

-- the first entries are followed and watched
abbrev pub invariant-loop-place : goal.invariant-loop-place
invariant-loop-place g l = record {
  follows : IsFollowing l.setup l.entries l.world l.place;
  gathered : g.W.Watch.gathers l.setup (take l.place l.entries) l.watch;
  same : g.W.Watch.subject l.watch ≡ g.W.Watch.subject l.fn.watch;
}
