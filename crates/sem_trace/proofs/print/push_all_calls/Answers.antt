use Rattle.std.proofs.Common.{◌∷◌, map, rules}
use Rattle.std.specs.Prelude.{codes, decimal}
use Rattle.sem_msg.specs.declared.setup.VpeDecl.{VpeDecl}
use Rattle.sem_trace.specs.Words.{call_words}
use Rattle.sem_trace.proofs.LinesSoFar.{text-more}
use Rattle.sem_trace.proofs.print.push_all_calls.Goals as goal

pub loop-declared-preserved : goal.loop-declared-preserved
loop-declared-preserved c = text-more (λ (d : VpeDecl). map (λ call. codes "call" ∷ decimal d.vpe ∷ call_words call) d.calls) c.args.vpes.now
    c.loop-declared.declared-index c.declared-item.result _ _ _ (search rules) (rw c.as_slice-declared-items.ensures at c.declared-item.is)
    c.loop-declared.invariant c.in_ok-push_calls.ensures.ok
