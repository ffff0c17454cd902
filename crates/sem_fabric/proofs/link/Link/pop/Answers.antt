use Rattle.std.proofs.Common.{sym, ap, subst}
use Rattle.std.specs.List.{All}
use Rattle.std.proofs.lemmas.List.Elements.{All-drop}
use Rattle.sem_wire.specs.MessageOfBytes.{IsRecord}
use Rattle.sem_fabric.proofs.link.Link.pop.Goals as goal

-- the records that are left are records
pub invariant_of-self-2 : goal.invariant_of-self-2
invariant_of-self-2 c = subst (All IsRecord) (sym (ap (λ b. b.items) c.in_ok-bytes.ensures.items))
    (All-drop IsRecord 1 c.self.inside.records.items c.self.invariant)
