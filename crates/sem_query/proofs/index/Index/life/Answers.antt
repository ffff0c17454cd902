use Rattle.std.proofs.Common.{sym}
use Rattle.sem_query.proofs.Searching.{life-found, life-absent}
use Rattle.sem_query.proofs.index.Index.life.Goals as goal

-- the life is read at its place
pub returns-in-Ok : goal.returns-in-Ok
returns-in-Ok c =
    let there = life-found c.as_slice-lives.result.now (rw c.as_slice-lives.ensures c.place.ensures.lives) c.args.key c.in-Ok.at c.index-lives-at.result
    (rw c.as_slice-lives.ensures c.in-Ok.ensures.found) c.index-lives-at.is in
    sym (rw c.as_slice-lives.ensures at there)

-- the key has none
pub returns-in-Err : goal.returns-in-Err
returns-in-Err c = sym (life-absent c.args.self.now c.place.ensures.lives c.args.key _ c.in-Err.ensures.absent)
