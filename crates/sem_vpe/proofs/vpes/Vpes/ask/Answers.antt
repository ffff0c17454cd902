use Rattle.std.proofs.Common.{[], ◌∷◌, ◌++◌, length, ap, ◌∙◌}
use Rattle.std.specs.Prelude.{nat_lt, if◌then◌else◌}
use Rattle.sem_msg.specs.declared.limits.TheConstants.{ASKS}
use Rattle.sem_msg.specs.Rows.{VpeRow}
use Rattle.sem_vpe.proofs.Places.{changed, table-kept, row-here, row-changed, appended-here}
use Rattle.sem_vpe.proofs.vpes.Vpes.ask.Goals as goal

-- one row has changed, and it is kept as rows are
pub invariant_of-self : goal.invariant_of-self
invariant_of-self c = table-kept c.self.inside.places.items c.args.vpe c.from.result c.index_mut.result.now c.in-Some.kept c.ask.new.self c.self.invariant
    (rw (← c.self.view_is) at c.requires) c.from.ensures c.index_mut.ensures.value c.in-Some.is c.ask.ensures.row

pub returns-clause-asked : goal.returns-clause-asked
returns-clause-asked c =
    rw (← c.self.view_is) (changed c.self.inside.places.items c.args.vpe c.from.result c.index_mut.result.now c.in-Some.kept c.ask.new.self c.self.invariant
    (rw (← c.self.view_is) at c.requires) c.from.ensures c.index_mut.ensures.value c.in-Some.is
    (λ (r : VpeRow). record r { asks = if nat_lt (length r.asks) ASKS then r.asks ++ c.args.ask ∷ [] else r.asks }) c.ask.ensures.asks)

pub returns-clause-appended : goal.returns-clause-appended
returns-clause-appended c =
    let here = row-here c.self.inside.places.items c.args.vpe c.from.result c.index_mut.result.now c.in-Some.kept c.ask.new.self c.self.invariant
    (rw (← c.self.view_is) at c.requires) c.from.ensures c.index_mut.ensures.value c.in-Some.is in
    let there = row-changed c.self.inside.places.items c.args.vpe c.from.result c.index_mut.result.now c.in-Some.kept c.ask.new.self c.self.invariant
    (rw (← c.self.view_is) at c.requires) c.from.ensures c.index_mut.ensures.value c.in-Some.is in
    let appended = appended-here c.in-Some.kept c.ask.new.self c.args.ask c.ask.ensures.asks in
    rw (← c.self.view_is, here) (λ room. ap (λ (r : VpeRow). r.asks) there ∙ appended room)
