use Rattle.std.proofs.Common.{arith, ◌++◌, ◌%◌, ◌∙◌, ap}
use Rattle.sem_text.specs.Number.{three_digits}
use Rattle.sem_text.proofs.Digits.{last_digits}
use Rattle.sem_text.proofs.numbers.put_four_digits.Goals as goal

-- the last three digits follow the first
pub returns-else-value-lt1000-clause-items : goal.returns-else-value-lt1000-clause-items
returns-else-value-lt1000-clause-items c =
    c.put_last_digits.ensures.items
    ∙ (ap (λ ds. ds ++ three_digits (c.args.value % 1000)) c.put_digit.ensures.items
    ∙ last_digits c.args.out.now.items c.args.value (omega arith) (omega arith))
