use Rattle.std.proofs.Common.{sym, ◌∙◌}
use Rattle.sem_trace.proofs.PrintedNumbers.{number_is_part, one_number}
use Rattle.sem_trace.proofs.dotted.last_part.Goals as goal

pub returns-then-is_number-clause-part : goal.returns-then-is_number-clause-part
returns-then-is_number-clause-part c = number_is_part c.args.text.now (sym c.is_number.ensures ∙ c.if-is_number.true)

pub returns-else-is_number-clause-err : goal.returns-else-is_number-clause-err
returns-else-is_number-clause-err c a = one_number a c.args.text.now ∙ (sym c.is_number.ensures ∙ c.if-is_number.false)
