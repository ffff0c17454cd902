use Rattle.std.proofs.Common.{◌++◌, ◌∙◌, ap, sym}
use Rattle.std.proofs.lemmas.Fmt.{decimal_digit}
use Rattle.sem_text.proofs.numbers.put_digit.Goals as goal

-- a number of one digit is written as that
pub returns-clause-items : goal.returns-clause-items
returns-clause-items c = c.push_reserved.ensures.items ∙ ap (λ ds. c.args.out.now.items ++ ds) (sym (decimal_digit c.args.digit c.requires.digit))
