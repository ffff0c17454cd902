use Rattle.std.proofs.lemmas.Result.{err_from_is_err_and}
use Rattle.sem_trace.specs.TextLines.{lines_of}
use Rattle.sem_trace.specs.Refusal.{first_fault, end_fault}
use Rattle.sem_trace.proofs.ReadText.{first_why}
use Rattle.sem_reader.proofs.ReadText.{no_end, whole_text}
use Rattle.sem_reader.proofs.reader.read_section.Goals as goal

pub returns-in_err-reader-clause-refused : goal.returns-in_err-reader-clause-refused
returns-in_err-reader-clause-refused c =
    let p = err_from_is_err_and c.from_residual.result c.from_residual.ensures.1 in
    rw (p.1, p.2) (first_why (first_fault (lines_of c.args.bytes.now)) (end_fault (lines_of c.args.bytes.now)) _ c.in_err-reader.ensures.refused)

pub returns-in-Ok-clause-declared : goal.returns-in-Ok-clause-declared
returns-in-Ok-clause-declared c = whole_text c.args.bytes.now c.in_ok-reader.lines c.in_ok-reader.reader _ c.in_ok-reader.ensures.read c.in-Ended.is
    c.in-Ok.ensures.setup

pub returns : goal.returns
returns c = record {
  declared = tt;
  refused = rw c.refused.ensures (no_end c.args.bytes.now c.in_ok-reader.lines c.in_ok-reader.reader c.in_ok-reader.ensures.read c.in_default.not-Ended);
}
