use Rattle.sem_io.proofs.Moves.{writes_on}
use Rattle.sem_io.proofs.transfer.write_all.Goals as goal

-- one more piece was given
pub loop-done-preserved : goal.loop-done-preserved
loop-done-preserved g c = writes_on _ _ _ _ _ _ _ _ _ c.loop-done.invariant c.in_ok-done.ensures.given c.in_ok-done.ensures.within c.in_ok-done.ensures.quiet
