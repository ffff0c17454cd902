use Rattle.std.proofs.Common.{sym, arith}
use Rattle.sem_trace.proofs.FirstParts.{word_found, no_word}
use Rattle.sem_trace.proofs.text_lines.next_word_of_any_length.Goals as goal

pub returns-in_err-begin : goal.returns-in_err-begin
returns-in_err-begin c = rw c.from_residual.ensures (no_word c.args.line.now (sym c.in_err-begin.ensures))

pub split_at-requires : goal.split_at-requires
split_at-requires c = (word_found c.args.line.now c.in_ok-begin.begin c.in_ok-begin.end c.in_ok-begin.ensures).within

pub split_at-requires-2 : goal.split_at-requires-2
split_at-requires-2 c =
    let found = word_found c.args.line.now c.in_ok-begin.begin c.in_ok-begin.end c.in_ok-begin.ensures in
    omega (arith, found.begins, c.split_at.ensures.front_len)

pub returns : goal.returns
returns c =
    let found = word_found c.args.line.now c.in_ok-begin.begin c.in_ok-begin.end c.in_ok-begin.ensures in
    rw (c.split_at-2.ensures.back, c.split_at.ensures.front, c.split_at.ensures.back) found.words
