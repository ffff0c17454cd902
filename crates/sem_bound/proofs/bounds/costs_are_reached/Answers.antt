use Rattle.sem_bound.proofs.TightCosts.{each-setup, each-schedule, each-kinds, each-made, each-all}
use Rattle.sem_bound.proofs.bounds.costs_are_reached.Goals as goal

pub returns-clause-setup : goal.returns-clause-setup
returns-clause-setup c = each-setup

pub returns-clause-schedule : goal.returns-clause-schedule
returns-clause-schedule c = each-schedule

pub returns-clause-costs : goal.returns-clause-costs
returns-clause-costs c = each-kinds

pub returns-clause-journal : goal.returns-clause-journal
returns-clause-journal c = each-made

pub returns-clause-declared : goal.returns-clause-declared
returns-clause-declared c = each-all
