use Rattle.sem_journal.proofs.LineLength.{short_line}
use Rattle.sem_journal.proofs.laws.entry_lines_are_short.Goals as goal

pub returns : goal.returns
returns c = short_line
