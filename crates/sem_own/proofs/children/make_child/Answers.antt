use Rattle.std.proofs.Common.{◌≡◌, ap, ◌∙◌}
use Rattle.sem_key.specs.KeyName.{KeyName}
use Rattle.sem_key.specs.CapList.{cap_of}
use Rattle.sem_msg.specs.Lookups.{pe_of}
use Rattle.sem_msg.specs.VpeRows.{row}
use Rattle.sem_caps.specs.CapStore.{CapStore}
use Rattle.sem_key.proofs.Finds.{absent-linked}
use Rattle.sem_own.proofs.children.make_child.Goals as goal

-- the number was not drawn before
pub insert-requires-clause-absent : goal.insert-requires-clause-absent
insert-requires-clause-absent c =
    let free = c.requires.free c.kind.result in
    let k : KeyName = record { pe = c.pe_of-pe.result; vpe = c.args.vpe; kind = c.kind.result; number = c.in-Ok.number } in
    let same : k ≡ record {
      pe = pe_of c.args.setup.now c.args.vpe;
      vpe = c.args.vpe;
      kind = c.kind.result;
      number = (row c.args.vpes.now.rows c.args.vpe).next_number;
    } =
    λ i. record { pe = c.pe_of-pe.ensures.pe i; vpe = c.args.vpe; kind = c.kind.result; number = c.in-Ok.ensures.number i } in
    ap (λ (store : CapStore). cap_of store.caps k) c.link.ensures ∙ absent-linked c.args.caps.now.caps c.args.parent k k (ap (cap_of c.args.caps.now.caps) same
    ∙ free)
