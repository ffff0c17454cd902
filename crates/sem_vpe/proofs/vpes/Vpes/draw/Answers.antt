use Rattle.std.proofs.Common.{◌+◌}
use Rattle.std.proofs.lemmas.Result.{on_ok_weaker}
use Rattle.sem_msg.specs.Rows.{VpeRow}
use Rattle.sem_vpe.proofs.Places.{changed, table-kept}
use Rattle.sem_vpe.proofs.vpes.Vpes.draw.Goals as goal

-- one row has changed, and it is kept as rows are
pub invariant_of-self : goal.invariant_of-self
invariant_of-self c = table-kept c.self.inside.places.items c.args.vpe c.from.result c.index_mut.result.now c.in-Some.kept c.draw.new.self c.self.invariant
    (rw (← c.self.view_is) at c.requires) c.from.ensures c.index_mut.ensures.value c.in-Some.is c.draw.ensures.row

pub returns-clause-ok : goal.returns-clause-ok
returns-clause-ok c =
    rw (← c.self.view_is)
    (on_ok_weaker c.draw.result (changed c.self.inside.places.items c.args.vpe c.from.result c.index_mut.result.now c.in-Some.kept c.draw.new.self
    c.self.invariant (rw (← c.self.view_is) at c.requires) c.from.ensures c.index_mut.ensures.value c.in-Some.is
    (λ (r : VpeRow). record r { next_number = r.next_number + 1 })) c.draw.ensures.ok)
