use Rattle.std.proofs.Common.{drop}
use Rattle.sem_msg.specs.Rows.{VpeRow}
use Rattle.sem_vpe.proofs.Places.{changed, table-kept}
use Rattle.sem_vpe.proofs.vpes.Vpes.next_ask.Goals as goal

-- one row has changed, and it is kept as rows are
pub invariant_of-self : goal.invariant_of-self
invariant_of-self c = table-kept c.self.inside.places.items c.args.vpe c.from.result c.index_mut.result.now c.in-Some.kept c.next_ask.new.self c.self.invariant
    (rw (← c.self.view_is) at c.requires) c.from.ensures c.index_mut.ensures.value c.in-Some.is c.next_ask.ensures.row

pub returns-clause-taken : goal.returns-clause-taken
returns-clause-taken c =
    rw (← c.self.view_is) (changed c.self.inside.places.items c.args.vpe c.from.result c.index_mut.result.now c.in-Some.kept c.next_ask.new.self
    c.self.invariant (rw (← c.self.view_is) at c.requires) c.from.ensures c.index_mut.ensures.value c.in-Some.is
    (λ (r : VpeRow). record r { asks = drop 1 r.asks }) c.next_ask.ensures.asks)
