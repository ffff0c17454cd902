use Rattle.std.proofs.Common.{◌-◌, length}
use Rattle.sem_io.proofs.Moves.{IsWriting}
use Rattle.sem_io.proofs.transfer.write_all.Given as goal

-- the first bytes were appended, as many as are done
abbrev pub invariant-loop-done : goal.invariant-loop-done
invariant-loop-done g l = IsWriting (g.K.Sink.written l.initial.out) (g.K.Sink.written l.out) (g.K.Sink.faults l.initial.out)
    (g.K.Sink.faults l.out) l.bytes l.done

abbrev pub decreases-loop-done : goal.decreases-loop-done
decreases-loop-done g l = length l.bytes - l.done
