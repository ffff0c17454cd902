use Rattle.std.proofs.lemmas.Result.{err_from_is_err_and}
use Rattle.sem_trace.specs.TextLines.{lines_of}
use Rattle.sem_trace.proofs.ReadText.{first_why}
use Rattle.sem_files.specs.FileRefusal.{first_fault, end_fault}
use Rattle.sem_files.proofs.ReadText.{no_end, whole_text}
use Rattle.sem_files.proofs.reader.read_all.Goals as goal

pub returns-in_err-reader-clause-refused : goal.returns-in_err-reader-clause-refused
returns-in_err-reader-clause-refused c =
    let p = err_from_is_err_and c.from_residual.result c.from_residual.ensures.1 in
    rw (p.1, p.2) (first_why (first_fault (lines_of c.args.bytes.now)) (end_fault (lines_of c.args.bytes.now)) _ c.in_err-reader.ensures.refused)

pub returns-in-Ended-clause-said : goal.returns-in-Ended-clause-said
returns-in-Ended-clause-said c = whole_text c.args.bytes.now c.in_ok-reader.lines c.in_ok-reader.reader _ c.in_ok-reader.ensures.read c.in-Ended.is
    c.into_files.ensures

pub returns-in_default : goal.returns-in_default
returns-in_default c =
    record {
      said = tt;
      refused = rw c.refused.ensures (no_end c.args.bytes.now c.in_ok-reader.lines c.in_ok-reader.reader c.in_ok-reader.ensures.read c.in_default.not-Ended);
    }
