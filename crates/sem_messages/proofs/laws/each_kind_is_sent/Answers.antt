use Rattle.sem_messages.proofs.Sample.{each-setup, each-schedule, each-quiet, obtains-sent, delegates-sent, acks-sent}
use Rattle.sem_messages.proofs.Sample.{revokes-sent, notices-sent, grants-made}
use Rattle.sem_messages.proofs.laws.each_kind_is_sent.Goals as goal

pub returns-clause-setup : goal.returns-clause-setup
returns-clause-setup c = each-setup

pub returns-clause-schedule : goal.returns-clause-schedule
returns-clause-schedule c = each-schedule

pub returns-clause-quiet : goal.returns-clause-quiet
returns-clause-quiet c = each-quiet

pub returns-clause-obtains : goal.returns-clause-obtains
returns-clause-obtains c = obtains-sent

pub returns-clause-delegates : goal.returns-clause-delegates
returns-clause-delegates c = delegates-sent

pub returns-clause-acks : goal.returns-clause-acks
returns-clause-acks c = acks-sent

pub returns-clause-revokes : goal.returns-clause-revokes
returns-clause-revokes c = revokes-sent

pub returns-clause-notices : goal.returns-clause-notices
returns-clause-notices c = notices-sent

pub returns-clause-grants : goal.returns-clause-grants
returns-clause-grants c = grants-made.0

pub returns-clause-sent : goal.returns-clause-sent
returns-clause-sent c = grants-made.1
