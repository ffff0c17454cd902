use Rattle.std.proofs.Common.{◌≡◌, ◌+◌, ℕ, length}
use Rattle.std.specs.Prelude.{All}
use Rattle.sem_msg.specs.Fabric.{FabricValue}
use Rattle.sem_turn.specs.Passes.{times}
use Rattle.sem_turn.specs.Rule.{IsShareOf, carries}
use Rattle.sem_turn.specs.Seats.{IsIdleSeat}
use Rattle.sem_turn.proofs.Hands.{HaveParts, AreFree}
use Rattle.sem_turn.proofs.turn.Turn.close.Given as goal

abbrev pub invariant-loop-pass : goal.invariant-loop-pass
invariant-loop-pass g l = record {
  idle : IsIdleSeat g.N.RunName.table l.seat;
  free : AreFree l.passes;
  count : length l.seat.me.0.shares + length l.passes ≡ length l.fn.passes;
  once : (k : ℕ) → carries k l.seat.me.0 + times k l.passes ≡ times k l.fn.passes;
  fits : (f : FabricValue) → All (IsShareOf f) l.seat.me.0.shares → HaveParts f.journal l.passes → HaveParts f.journal l.fn.passes;
}

abbrev pub decreases-loop-pass : goal.decreases-loop-pass
decreases-loop-pass g l = length l.passes
