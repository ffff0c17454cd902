use Rattle.std.proofs.Common.{refl}
use Rattle.sem_dtu.proofs.Edited.{ours-place, endpoint-within, is_table-row, endpoint-here, table-used}
use Rattle.sem_dtu.proofs.dtus.Dtus.use_endpoint.Goals as goal

-- the endpoint is there
pub index_mut-endpoint-requires : goal.index_mut-endpoint-requires
index_mut-endpoint-requires c =
    let ours = ours-place c.self.inside.rows.items c.args.self.now c.args.vpe c.from.result c.self.view_is c.from.ensures c.requires.ours in
    endpoint-within c.self.inside.rows.items c.from.result c.index_mut-row.result.now ours c.index_mut-row.ensures.value c.self.invariant c.args.ep
    c.from-2.result c.requires.ep c.from-2.ensures

-- the endpoint refuses
pub returns-clause-refusal : goal.returns-clause-refusal
returns-clause-refusal c =
    let ours = ours-place c.self.inside.rows.items c.args.self.now c.args.vpe c.from.result c.self.view_is c.from.ensures c.requires.ours in
    let here = endpoint-here c.self.inside.rows.items c.from.result c.index_mut-row.result.now ours c.index_mut-row.ensures.value c.self.invariant c.args.ep
    c.from-2.result c.index_mut-endpoint.result.now c.requires.ep c.from-2.ensures c.index_mut-endpoint.ensures.value in
    rw (← c.self.view_is, ← c.from.ensures, here) c.operate.ensures.refusal

-- and what it was tried at is what it leaves
pub returns-clause-table : goal.returns-clause-table
returns-clause-table c =
    let ours = ours-place c.self.inside.rows.items c.args.self.now c.args.vpe c.from.result c.self.view_is c.from.ensures c.requires.ours in
    rw (
      ← c.self.view_is,
      ← c.from.ensures,
    ) (table-used c.self.inside.rows.items c.from.result c.index_mut-row.result.now ours c.index_mut-row.ensures.value _ refl
    c.self.invariant c.args.op c.args.ep c.from-2.result c.index_mut-endpoint.result.now _ c.requires.ep c.from-2.ensures c.index_mut-endpoint.ensures.value
    c.operate.ensures.tried refl)

-- there are as many endpoints as before
pub invariant_of-self : goal.invariant_of-self
invariant_of-self c =
    let ours = ours-place c.self.inside.rows.items c.args.self.now c.args.vpe c.from.result c.self.view_is c.from.ensures c.requires.ours in
    is_table-row c.self.inside.rows.items c.from.result c.index_mut-row.result.now ours c.index_mut-row.ensures.value _ refl c.self.invariant refl
