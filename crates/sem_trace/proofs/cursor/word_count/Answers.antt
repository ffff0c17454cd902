use Rattle.std.proofs.Common.{◌≤◌, length, arith, rules}
use Rattle.sem_trace.proofs.FirstParts.{few_words}
use Rattle.sem_trace.proofs.cursor.word_count.Goals as goal

pub overflow_add-number : goal.overflow_add-number
overflow_add-number c =
    let short : length c.args.line.now ≤ 9223372036854775807 = search rules in
    omega (arith, few_words c.args.line.now, c.loop-behind.invariant)

pub returns-clause-few : goal.returns-clause-few
returns-clause-few c =
    let short : length c.args.line.now ≤ 9223372036854775807 = search rules in
    omega (arith, few_words c.args.line.now, c.loop-behind.invariant)
