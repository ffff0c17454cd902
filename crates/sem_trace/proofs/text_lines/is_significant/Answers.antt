use Rattle.std.proofs.Common.{sym}
use Rattle.sem_trace.proofs.FirstParts.{first_byte}
use Rattle.sem_trace.proofs.text_lines.is_significant.Goals as goal

pub returns-in-len1-up : goal.returns-in-len1-up
returns-in-len1-up c = sym (first_byte c.args.line.now c.in-len1-up.len_at_least c.if-first-gt32.true)
