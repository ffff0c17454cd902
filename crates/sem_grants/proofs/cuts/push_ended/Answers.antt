use Rattle.std.proofs.Common.{nat_eq, sym, ◌∙◌, arith}
use Rattle.indexmap.specs.IndexSet.{contains}
use Rattle.sem_grants.proofs.Reading.{chosen_more, chosen_skip}
use Rattle.sem_grants.proofs.cuts.push_ended.Goals as goal
use Rattle.sem_grants.proofs.cuts.push_ended.Goals.{then-contains+in_ok-push, else-contains}

pub loop-key-preserved : goal.loop-key-preserved
loop-key-preserved c = elim c.if-contains.branch [
  | then-contains+in_ok-push w ↦ rw w.found-is
      (chosen_more (λ k. contains nat_eq c.args.ended.now k.vpe) c.args.made.now c.loop-key.key-index c.key-item.result _ _
      (omega arith) c.key-item.is c.loop-key.invariant w.push.new.self.items (rw (← c.key.view_is) (sym c.contains.ensures ∙ w.if-contains.true))
      (rw (← c.key.view_is) w.in_ok-push.ensures.items))
  | else-contains w ↦ rw w.found-is (chosen_skip (λ k. contains nat_eq c.args.ended.now k.vpe) c.args.made.now c.loop-key.key-index c.key-item.result _ _
      (omega arith) c.key-item.is c.loop-key.invariant (rw (← c.key.view_is) (sym c.contains.ensures ∙ w.if-contains.false)))
]
