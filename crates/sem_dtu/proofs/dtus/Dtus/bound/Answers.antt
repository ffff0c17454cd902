use Rattle.sem_dtu.proofs.Edited.{ours-place, endpoint-within, endpoint-here}
use Rattle.sem_dtu.proofs.dtus.Dtus.bound.Goals as goal

-- the endpoint is there
pub index-requires-2 : goal.index-requires-2
index-requires-2 c =
    let ours = ours-place c.self.inside.rows.items c.args.self.now c.args.vpe c.from.result c.self.view_is c.from.ensures c.requires.ours in
    endpoint-within c.self.inside.rows.items c.from.result c.index.result.now ours c.index.ensures c.self.invariant c.args.ep c.from-2.result c.requires.ep
    c.from-2.ensures

-- and its key is read
pub returns-clause-key : goal.returns-clause-key
returns-clause-key c =
    let ours = ours-place c.self.inside.rows.items c.args.self.now c.args.vpe c.from.result c.self.view_is c.from.ensures c.requires.ours in
    let here = endpoint-here c.self.inside.rows.items c.from.result c.index.result.now ours c.index.ensures c.self.invariant c.args.ep c.from-2.result
    c.index-2.result.now c.requires.ep c.from-2.ensures c.index-2.ensures in
    rw (← c.self.view_is, ← c.from.ensures, here) c.key.ensures
