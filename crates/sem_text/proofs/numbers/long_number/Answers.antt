use Rattle.std.proofs.Common.{arith}
use Rattle.std.proofs.lemmas.Grind.{common_steps}
use Rattle.sem_text.proofs.Digits.{out_of_range}
use Rattle.sem_text.proofs.numbers.long_number.Goals as goal

-- a value above `most` stays above it
pub returns-in_err-value : goal.returns-in_err-value
returns-in_err-value c =
    let out = out_of_range c.args.word.now c.loop-byte.byte-index c.args.most in
    grind (arith, common_steps, out, c.in_err-value.ensures, c.from_residual.ensures)
