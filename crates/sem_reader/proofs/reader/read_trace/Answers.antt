use Rattle.std.proofs.Common.{arith}
use Rattle.std.proofs.lemmas.Result.{IfOk-weaker, IfErr-weaker}
use Rattle.sem_reader.proofs.ReadText.{too_long, refused_lines, accepted_lines}
use Rattle.sem_reader.proofs.reader.read_trace.Goals as goal

pub returns-then-bytes-gt-TRACE_BYTES-clause-refused : goal.returns-then-bytes-gt-TRACE_BYTES-clause-refused
returns-then-bytes-gt-TRACE_BYTES-clause-refused c = rw c.refused.ensures (too_long c.args.bytes.now (omega arith))

pub returns-clause-stands : goal.returns-clause-stands
returns-clause-stands c = IfOk-weaker c.read_section.result _ _ (λ T declare. accepted_lines c.args.bytes.now T (omega arith) declare)
    c.read_section.ensures.declared

pub returns-clause-refused : goal.returns-clause-refused
returns-clause-refused c = IfErr-weaker c.read_section.result _ _ (λ e why. refused_lines c.args.bytes.now e (omega arith) why)
    c.read_section.ensures.refused
