use Rattle.sem_cli.proofs.Appends.{summed}
use Rattle.sem_cli.proofs.summaries.push_summary.Goals as goal

pub returns : goal.returns
returns c = record {
  ok = summed _ _ _ _ _ _ _ _ _ _ _ c.in_ok-extend_from_slice.ensures.items c.in_ok-push_count.ensures.ok c.in_ok-push_count-2.ensures.ok
      c.in_ok-push_count-3.ensures.ok c.in_ok-push_count-4.ensures.ok;
}
