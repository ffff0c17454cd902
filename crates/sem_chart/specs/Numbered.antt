-- The rows of a chart before they are drawn.
use Rattle.std.specs.Prelude.{ℕ, ◌-◌, List, take, drop}
use Rattle.sem_msg.specs.declared.entry.Entry.{Entry}

-- the entries of a journal from the entry `from` on, up to the one before the entry `to`
abbrev pub entries_between : ℕ → ℕ → List Entry → List Entry
entries_between from to J = take (to - from) (drop from J)
