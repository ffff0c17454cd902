use Rattle.std.proofs.Common.{length, arith, ap, sym, ◌∙◌}
use Rattle.sem_msg.specs.Journal.{replies}
use Rattle.sem_fabric.proofs.Entries.{replies-kept}
use Rattle.sem_fabric.proofs.fabric.Fabric.keep_replies.Goals as goal

pub invariant_of-self : goal.invariant_of-self
invariant_of-self c =
    let J = c.self.inside.journal.entries in
    let kept = ap (λ K. length (replies K)) c.keep_replies.ensures.entries ∙ ap length (replies-kept J) in (
      c.self.invariant.0,
      c.self.invariant.1,
      c.self.invariant.2,
      omega (arith, c.self.invariant.3, c.keep_replies.ensures.spare),
      c.self.invariant.4 ∙ sym kept,
      c.self.invariant.5,
    )
