use Rattle.std.proofs.Common.{length}
use Rattle.sem_files.specs.Reads.{IsReadUpTo}
use Rattle.sem_files.proofs.reader.read_lines.Given as goal

-- the lines but for those that are left are read
abbrev pub invariant-loop-line : goal.invariant-loop-line
invariant-loop-line l = IsReadUpTo l.bytes l.lines l.number l.reader

abbrev pub decreases-loop-line : goal.decreases-loop-line
decreases-loop-line l = length l.lines
