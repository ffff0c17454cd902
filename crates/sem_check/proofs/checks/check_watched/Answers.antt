use Rattle.std.proofs.Common.{Result, Ok, Err, rules}
use Rattle.std.specs.Prelude.{OnOk}
use Rattle.sem_bound.proofs.Spent.{limited}
use Rattle.sem_check.proofs.Following.{start-after}
use Rattle.sem_check.proofs.checks.check_watched.Goals as goal

pub follow-requires-clause-start : goal.follow-requires-clause-start
follow-requires-clause-start g c = start-after c.args.setup.now c.in_ok-world.world c.in_ok-world.ensures

-- what is so at all is so after Ok
on-ok : {V E X : Type 0} (r : Result V E) → X → OnOk r X
on-ok (Ok v) x = x
on-ok (Err e) x = tt

pub returns-in-None-clause-few : goal.returns-in-None-clause-few
returns-in-None-clause-few g c =
    let stands = rw c.as_slice-entries.ensures at (c.in_ok-follow.ensures.all (search rules)) in
    on-ok c.judge.result (limited c.args.setup.now c.keeps_its_rules.ensures c.args.journal.now.entries stands.schedule)
