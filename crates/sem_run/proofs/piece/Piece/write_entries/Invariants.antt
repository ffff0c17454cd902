use Rattle.std.proofs.Common.{◌++◌, map, drop}
use Rattle.sem_text.specs.Lines.{text}
use Rattle.sem_journal.specs.EntryText.{entry_words}
use Rattle.sem_run.proofs.Pieces.{IsOnWay}
use Rattle.sem_run.proofs.piece.Piece.write_entries.Given as goal

-- all but the piece and the lines from here on was written
abbrev pub invariant-loop-entry : goal.invariant-loop-entry
invariant-loop-entry g l = IsOnWay (g.K.Sink.written l.initial.out) (g.K.Sink.written l.out) (g.K.Sink.faults l.initial.out)
    (g.K.Sink.faults l.out) (l.initial.self.bytes.items ++ text (map entry_words l.entries)) l.self.bytes.items
    (text (map entry_words (drop l.entry-index l.entries)))
