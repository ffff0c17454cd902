use Rattle.sem_wire.proofs.Records.{message_of_record, one_message, grammar_exact}
use Rattle.sem_wire.proofs.laws.a_message_has_one_record.Goals as goal

pub returns-clause-again : goal.returns-clause-again
returns-clause-again c = message_of_record

pub returns-clause-one : goal.returns-clause-one
returns-clause-one c = one_message

pub returns-clause-grammar : goal.returns-clause-grammar
returns-clause-grammar c = grammar_exact
