use Rattle.sem_histories.proofs.Closing.{all-represented, all-outcomes, among-outcome}
use Rattle.sem_histories.proofs.Counted.{few-apart}
use Rattle.sem_histories.proofs.closed.closed_sets_have_all_outcomes.Goals as goal

pub returns-clause-all : goal.returns-clause-all
returns-clause-all c = all-represented

pub returns-clause-exact : goal.returns-clause-exact
returns-clause-exact c = λ by T valid V closed o. (all-outcomes by T V closed valid o, among-outcome T V o)

pub returns-clause-most : goal.returns-clause-most
returns-clause-most c = λ by T V W closed. few-apart by T V closed W
