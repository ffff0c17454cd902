use Rattle.std.proofs.Common.{◌≡◌, ap}
use Rattle.sem_msg.specs.Setup.{Setup}
use Rattle.sem_trace.proofs.LinesSoFar.{text-trace}
use Rattle.sem_trace.proofs.print.push_trace.Goals as goal

pub returns : goal.returns
returns c =
    let vpes : c.setup.inside.vpes ≡ c.args.setup.now.vpes = ap (λ (T : Setup). T.vpes) c.setup.view_is in
    record {
      ok = text-trace c.args.setup.now _ _ _ _ _ _ c.in_ok-push_first.ensures.ok c.in_ok-push_members.ensures.ok c.in_ok-push_terms.ensures.ok
          (rw vpes at c.in_ok-push_all_calls.ensures.ok) c.in_ok-push_line.ensures.ok;
    }
