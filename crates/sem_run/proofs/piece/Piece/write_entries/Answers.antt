use Rattle.sem_io.proofs.Moves.{holds_on_err}
use Rattle.sem_run.proofs.Pieces.{OnErr-then, line-more, cut-short, lines-from}
use Rattle.sem_run.proofs.piece.Piece.write_entries.Goals as goal

-- one line more was put
pub loop-entry-preserved : goal.loop-entry-preserved
loop-entry-preserved g c = line-more _ _ _ _ _ _ _ _ _ _ _ _ c.loop-entry.invariant c.in_ok-put_line.ensures.ok c.in_ok-put_line.ensures.quiet
    (lines-from c.args.entries.now c.loop-entry.entry-index c.entry-item.result c.loop-entry-test.true c.entry-item.is)

-- a write on the way failed
pub returns-in_err-put_line-clause-err : goal.returns-in_err-put_line-clause-err
returns-in_err-put_line-clause-err g c = holds_on_err _ (cut-short _ _ _ _ _ _ _ _ c.loop-entry.invariant c.in_err-put_line.ensures.err)

-- the last write failed
pub returns-clause-err : goal.returns-clause-err
returns-clause-err g c = OnErr-then c.write_all.result (rw c.deref.ensures.value at c.write_all.ensures.err)
    (cut-short _ _ _ _ _ _ _ _ c.loop-entry.invariant)
