use Rattle.std.proofs.Common.{◌+◌, ◌-◌, vec_len}
use Rattle.sem_io.proofs.Moves.{IsReading}
use Rattle.sem_io.proofs.transfer.read_all.Given as goal

-- what was read so far was taken from the source
abbrev pub invariant-loop-piece : goal.invariant-loop-piece
invariant-loop-piece g l = IsReading (g.S.Source.left l.initial.input) (g.S.Source.left l.input) (g.S.Source.faults l.initial.input)
    (g.S.Source.faults l.input) l.bytes.items l.limit

abbrev pub decreases-loop-piece : goal.decreases-loop-piece
decreases-loop-piece g l = l.limit + 1 - vec_len l.bytes
