use Rattle.sem_check.proofs.Longest.{no-difference}
use Rattle.sem_check.proofs.OneVerdict.{one-difference, not-quiet, one-next}
use Rattle.sem_check.proofs.laws.a_journal_has_one_verdict.Goals as goal

pub returns : goal.returns
returns c = record {
  schedule = λ T J n x a differs schedule. no-difference T J n x a schedule differs;
  quiet = not-quiet;
  one_difference = one-difference;
  one_next = one-next;
}
