-- The text of a response.
use Rattle.std.specs.Prelude.{ℕ, List, ◌++◌, map}
use Rattle.sem_msg.specs.declared.entry.Entry.{Entry}
use Rattle.sem_text.specs.Lines.{text}
use Rattle.sem_journal.specs.EntryText.{entry_words}
use Rattle.sem_run.specs.declared.text.Text.{Text}
use Rattle.sem_run.specs.declared.text.Text.TheVariants.{Whole, Report}

-- the text of a response with that journal
abbrev pub text_of : Text → List Entry → List ℕ
text_of (Whole bytes) J = bytes.items
text_of (Report head tail) J = head.bytes.items ++ text (map entry_words J) ++ tail.items
