use Rattle.std.proofs.Common.{refl}
use Rattle.sem_dtu.proofs.Edited.{ours-place, endpoint-within, is_table-row, table-endpoint}
use Rattle.sem_dtu.proofs.dtus.Dtus.bind.Goals as goal

-- the endpoint is there
pub index_mut-endpoint-requires : goal.index_mut-endpoint-requires
index_mut-endpoint-requires c =
    let ours = ours-place c.self.inside.rows.items c.args.self.now c.args.vpe c.from.result c.self.view_is c.from.ensures c.requires.ours in
    endpoint-within c.self.inside.rows.items c.from.result c.index_mut-row.result.now ours c.index_mut-row.ensures.value c.self.invariant c.args.ep
    c.from-2.result c.requires.ep c.from-2.ensures

-- the endpoint has its new binding
pub returns : goal.returns
returns c =
    let ours = ours-place c.self.inside.rows.items c.args.self.now c.args.vpe c.from.result c.self.view_is c.from.ensures c.requires.ours in
    rw (
      ← c.self.view_is,
      ← c.from.ensures,
    ) (table-endpoint c.self.inside.rows.items c.from.result c.index_mut-row.result.now ours c.index_mut-row.ensures.value _ refl
    c.self.invariant c.args.ep _ c.requires.ep (rw (c.from-2.ensures, c.bind.ensures) refl))

-- there are as many endpoints as before
pub invariant_of-self : goal.invariant_of-self
invariant_of-self c =
    let ours = ours-place c.self.inside.rows.items c.args.self.now c.args.vpe c.from.result c.self.view_is c.from.ensures c.requires.ours in
    is_table-row c.self.inside.rows.items c.from.result c.index_mut-row.result.now ours c.index_mut-row.ensures.value _ refl c.self.invariant refl
