use Rattle.std.proofs.Common.{refl}
use Rattle.sem_trace.proofs.ReadText.{read_nothing, read_more, read_stops}
use Rattle.sem_trace.specs.Refusal.{line_fault, fault_at, first_fault}
use Rattle.sem_reader.specs.Reads.{IsRead}
use Rattle.sem_reader.proofs.reader.read_lines.Goals as goal

pub loop-line-init : goal.loop-line-init
loop-line-init c = record {
  lines = read_nothing line_fault _ c.args.bytes.now _ c.of-lines.ensures.lines c.of-lines.ensures.few (refl, c.in-Ok.ensures.tells);
  sizes = c.in-Ok.ensures.sizes;
}

pub loop-line-preserved : goal.loop-line-preserved
loop-line-preserved c = record {
  lines = read_more line_fault (IsRead c.loop-line.reader) c.args.bytes.now c.in-Some.line.now _ _ c.loop-line.number c.loop-line.invariant.lines
      c.in-Some.ensures (IsRead c.line.new.self) c.in_default-line.ensures.ok;
  sizes = c.in_default-line.ensures.sizes;
}

pub returns-in-Err-clause-refused : goal.returns-in-Err-clause-refused
unfolding first_fault fault_at
returns-in-Err-clause-refused c =
    rw c.at_line.ensures (read_stops line_fault (IsRead c.loop-line.reader) c.args.bytes.now c.in-Some.line.now _ _ c.loop-line.number
    c.loop-line.invariant.lines c.in-Some.ensures c.in-Err.e c.in-Err.ensures.err)
