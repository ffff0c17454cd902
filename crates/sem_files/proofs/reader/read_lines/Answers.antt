use Rattle.std.proofs.Common.{refl}
use Rattle.sem_trace.proofs.ReadText.{read_nothing, read_more, read_stops}
use Rattle.sem_files.specs.FileRefusal.{line_fault, fault_at, first_fault}
use Rattle.sem_files.specs.Reads.{IsRead}
use Rattle.sem_files.proofs.reader.read_lines.Goals as goal

pub loop-line-init : goal.loop-line-init
loop-line-init c = record {
  lines = read_nothing line_fault _ c.args.bytes.now _ c.of-lines.ensures.lines c.of-lines.ensures.few refl;
  tells = c.new.ensures.tells;
}

pub loop-line-preserved : goal.loop-line-preserved
loop-line-preserved c = record {
  lines = read_more line_fault (IsRead c.loop-line.reader) c.args.bytes.now c.in-Some.line.now _ _ c.loop-line.number c.loop-line.invariant.lines
      c.in-Some.ensures (IsRead c.line.new.self) c.in_default-line.ensures.ok;
  tells = c.in_default-line.ensures.tells;
}

pub returns-in-Err-clause-refused : goal.returns-in-Err-clause-refused
unfolding first_fault fault_at
returns-in-Err-clause-refused c =
    rw c.at_line.ensures (read_stops line_fault (IsRead c.loop-line.reader) c.args.bytes.now c.in-Some.line.now _ _ c.loop-line.number
    c.loop-line.invariant.lines c.in-Some.ensures c.in-Err.e c.in-Err.ensures.err)
