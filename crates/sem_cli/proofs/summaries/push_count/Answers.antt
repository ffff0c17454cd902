use Rattle.sem_cli.proofs.Appends.{three-appended}
use Rattle.sem_cli.proofs.summaries.push_count.Goals as goal

pub returns : goal.returns
returns c = record { ok = three-appended _ _ _ _ _ _ _ c.in_ok-extend_from_slice.ensures.items c.in_ok-push_number.ensures.ok c.in_ok-push.ensures.items }
