use Rattle.std.proofs.Common.{◌≡◌, [], ◌∷◌, map, length, get_or, refl, ◌∙◌, ap, subst}
use Rattle.std.proofs.lemmas.List.{length-map}
use Rattle.sem_key.specs.KeyName.{KeyName}
use Rattle.sem_msg.specs.EndpointRows.{unbound_from}
use Rattle.sem_dtu.proofs.Edited.{ours-place, is_table-row, table-written}
use Rattle.sem_dtu.proofs.dtus.Dtus.unbind_key.Goals as goal

-- the endpoints of the VPE were written back without the key
pub returns : goal.returns
returns c =
    let row = c.index_mut-row.result.now in
    let vpe : c.from.result ≡ c.args.key.vpe = c.from.ensures ∙ ap (λ (k : KeyName). k.vpe) c.key.view_is in
    let ours = ours-place c.self.inside.rows.items c.args.self.now c.args.key.vpe c.args.key.vpe c.self.view_is refl c.requires in
    let read : row ≡ get_or c.self.inside.rows.items c.args.key.vpe row =
    subst (λ n. row ≡ get_or c.self.inside.rows.items n row) vpe c.index_mut-row.ensures.value in
    let unbind = unbound_from (c.args.key ∷ []) in
    let same_length : length c.unbind_each.new.endpoints ≡ length c.deref_mut.result.now = ap length c.unbind_each.ensures
    ∙ length-map c.deref_mut.result.now unbind in
    rw (
      ← c.self.view_is,
      vpe,
    ) (table-written c.self.inside.rows.items c.args.key.vpe row ours read _ refl (λ es. map unbind es) _ c.deref_mut.result.now
    c.unbind_each.new.endpoints c.deref_mut.ensures.value c.unbind_each.ensures same_length c.deref_mut.ensures.len refl)

-- there are as many endpoints as before
pub invariant_of-self : goal.invariant_of-self
invariant_of-self c =
    let row = c.index_mut-row.result.now in
    let vpe : c.from.result ≡ c.args.key.vpe = c.from.ensures ∙ ap (λ (k : KeyName). k.vpe) c.key.view_is in
    let ours = ours-place c.self.inside.rows.items c.args.self.now c.args.key.vpe c.from.result c.self.view_is vpe c.requires in
    is_table-row c.self.inside.rows.items c.from.result row ours c.index_mut-row.ensures.value _ refl c.self.invariant refl
