use Rattle.std.proofs.Common.{◌∷◌, sym, ◌∙◌}
use Rattle.sem_trace.proofs.PrintedNumbers.{first_not_number, short_parts}
use Rattle.sem_trace.proofs.dotted.first_part.Goals as goal

pub returns-in_default-clause-err : goal.returns-in_default-clause-err
returns-in_default-clause-err c a b ranges = short_parts c.args.text.now ranges a b c.in_default.ensures

pub returns-else-is_number-clause-err : goal.returns-else-is_number-clause-err
returns-else-is_number-clause-err c a b ranges = rw c.in-Some.ensures (first_not_number _ _ (b ∷ ranges) a (sym c.is_number.ensures ∙ c.if-is_number.false))
