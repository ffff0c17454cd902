use Rattle.std.proofs.Common.{rules, ◌≡◌, get_or, arith, ltb-true}
use Rattle.sem_trace.proofs.FirstParts.{byte_word_first, byte_word_last}
use Rattle.sem_trace.proofs.text_lines.begins_with_byte_word.Goals as goal

pub returns-in-32-clause-words : goal.returns-in-32-clause-words
returns-in-32-clause-words c above =
    let first : get_or c.args.line.now 0 0 ≡ 32 = search rules in
    byte_word_last c.args.line.now (omega (arith, c.in-32.len_at_least, c.in-32.len_below)) first (ltb-true _ _ above)

pub returns-in-32-2-clause-words : goal.returns-in-32-2-clause-words
returns-in-32-2-clause-words c above =
    let first : get_or c.args.line.now 0 0 ≡ 32 = search rules in
    let third : get_or c.args.line.now 2 0 ≡ 32 = search rules in
    byte_word_first c.args.line.now c.in-32-2.len_at_least first (ltb-true _ _ above) third
