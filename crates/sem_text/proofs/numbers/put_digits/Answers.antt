use Rattle.std.proofs.Common.{arith, ◌≡◌, ◌++◌, ◌/◌, ◌%◌, ◌∙◌, decimal, ap}
use Rattle.sem_text.specs.Number.{three_digits}
use Rattle.sem_text.proofs.Digits.{last_digits}
use Rattle.sem_text.proofs.numbers.put_digits.Goals as goal

-- the last three digits follow the first
pub returns-then-value-lt1000000-clause-items : goal.returns-then-value-lt1000000-clause-items
returns-then-value-lt1000000-clause-items c =
    c.put_last_digits.ensures.items
    ∙ (ap (λ ds. ds ++ three_digits (c.args.value % 1000)) c.put_three_digits-then-value-lt1000000.ensures.items
    ∙ last_digits c.args.out.now.items c.args.value (omega arith) (omega arith))

-- and three more follow those
pub returns-else-value-lt1000000-clause-items : goal.returns-else-value-lt1000000-clause-items
returns-else-value-lt1000000-clause-items c =
    let out = c.args.out.now.items in
    let n = c.args.value in
    let millions : n / 1000000 ≡ n / 1000 / 1000 = omega arith in
    c.put_last_digits-else-value-lt1000000-2.ensures.items
    ∙ (ap (λ ds. ds ++ three_digits (n % 1000)) (
    c.put_last_digits-else-value-lt1000000.ensures.items
    ∙ (ap (λ ds. ds ++ three_digits (n / 1000 % 1000)) (c.put_four_digits.ensures.items ∙ ap (λ m. out ++ decimal m) millions)
    ∙ last_digits out (n / 1000) (omega arith) (omega arith)))
    ∙ last_digits out n (omega arith) (omega arith))
