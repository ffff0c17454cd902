use Rattle.std.proofs.Common.{subst, sym}
use Rattle.sem_machine.proofs.Versions.{window-four, setup-second, runs-same}
use Rattle.sem_machine.proofs.laws.same_runs.Goals as goal

pub returns : goal.returns
returns c = record {
  window = window-four;
  setup = setup-second;
  same = λ T J first. (λ runs. subst (λ X. X) (sym (runs-same T J 2)) runs, λ runs. subst (λ X. X) (runs-same T J 2) runs);
}
