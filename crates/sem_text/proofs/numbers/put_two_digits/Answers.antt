use Rattle.std.proofs.Common.{arith, ◌++◌, ◌∷◌, ◌+◌, ◌%◌, ◌∙◌, [], ap}
use Rattle.sem_text.proofs.Digits.{last_digit}
use Rattle.sem_text.proofs.numbers.put_two_digits.Goals as goal

-- the last digit follows the first
pub returns-else-value-lt10-clause-items : goal.returns-else-value-lt10-clause-items
returns-else-value-lt10-clause-items c =
    c.put_digit-else-value-lt10-2.ensures.byte
    ∙ ap (λ ds. ds ++ (48 + c.args.value % 10) ∷ []) c.put_digit-else-value-lt10.ensures.items
    ∙ last_digit c.args.out.now.items c.args.value (omega arith) (omega arith)
