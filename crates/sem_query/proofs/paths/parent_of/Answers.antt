use Rattle.std.proofs.Common.{◌<◌, length, sym, ◌∙◌, arith}
use Rattle.sem_query.proofs.Parents.{parent-more, parent-found}
use Rattle.sem_query.proofs.paths.parent_of.Goals as goal

pub returns-in-Some : goal.returns-in-Some
returns-in-Some c =
    let within : c.loop-entry.entry-index < length c.as_slice-entry-items.result.now = omega arith in
    let found = parent-found c.args.key c.as_slice-entry-items.result.now c.loop-entry.entry-index c.entry-item.result within c.entry-item.is
    c.loop-entry.invariant c.in-Some.parent (sym c.parent_by.ensures ∙ c.in-Some.is) in
    sym (rw c.as_slice-entry-items.ensures at found)

pub loop-entry-preserved : goal.loop-entry-preserved
loop-entry-preserved c =
    let within : c.loop-entry.entry-index < length c.as_slice-entry-items.result.now = omega arith in
    parent-more c.args.key c.as_slice-entry-items.result.now c.loop-entry.entry-index c.entry-item.result within c.entry-item.is c.loop-entry.invariant
    (sym c.parent_by.ensures ∙ c.in_default.is)
