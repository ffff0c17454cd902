use Rattle.std.proofs.Common.{false}
use Rattle.sem_msg.specs.Rows.{VpeRow}
use Rattle.sem_vpe.proofs.Places.{changed, table-kept}
use Rattle.sem_vpe.proofs.vpes.Vpes.end.Goals as goal

-- one row has changed, and it is kept as rows are
pub invariant_of-self : goal.invariant_of-self
invariant_of-self c = table-kept c.self.inside.places.items c.args.vpe c.from.result c.index_mut.result.now c.in-Some.kept c.end.new.self c.self.invariant
    (rw (← c.self.view_is) at c.requires) c.from.ensures c.index_mut.ensures.value c.in-Some.is c.end.ensures.row

pub returns : goal.returns
returns c = rw (← c.self.view_is) (changed c.self.inside.places.items c.args.vpe c.from.result c.index_mut.result.now c.in-Some.kept c.end.new.self
    c.self.invariant (rw (← c.self.view_is) at c.requires) c.from.ensures c.index_mut.ensures.value c.in-Some.is (λ (r : VpeRow). record r { alive = false })
    c.end.ensures.alive)
