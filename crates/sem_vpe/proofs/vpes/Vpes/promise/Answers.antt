use Rattle.std.proofs.lemmas.Result.{on_ok_weaker}
use Rattle.sem_key.specs.Lists.{put}
use Rattle.sem_msg.specs.declared.state.Slot.TheVariants.{Free, Promised}
use Rattle.sem_msg.specs.Rows.{VpeRow}
use Rattle.sem_vpe.proofs.Places.{changed, table-kept}
use Rattle.sem_vpe.proofs.vpes.Vpes.promise.Goals as goal

-- one row has changed, and it is kept as rows are
pub invariant_of-self : goal.invariant_of-self
invariant_of-self c = table-kept c.self.inside.places.items c.args.vpe c.from.result c.index_mut.result.now c.in-Some.kept c.promise.new.self c.self.invariant
    (rw (← c.self.view_is) at c.requires) c.from.ensures c.index_mut.ensures.value c.in-Some.is c.promise.ensures.row

pub returns-clause-ok : goal.returns-clause-ok
returns-clause-ok c =
    rw (← c.self.view_is)
    (on_ok_weaker c.promise.result (changed c.self.inside.places.items c.args.vpe c.from.result c.index_mut.result.now c.in-Some.kept c.promise.new.self
    c.self.invariant (rw (← c.self.view_is) at c.requires) c.from.ensures c.index_mut.ensures.value c.in-Some.is
    (λ (r : VpeRow). record r { slots = put Free r.slots c.args.sel Promised })) c.promise.ensures.ok)
