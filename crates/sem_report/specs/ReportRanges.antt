-- Which reports can be told: the ranges of their parts ("The report" in docs/texts.md).
use Rattle.std.specs.Prelude.{ℕ, ◌≤◌, List, length}
use Rattle.std.specs.List.{All}
use Rattle.sem_msg.specs.Prelude.{KeyName, Setup}
use Rattle.sem_msg.specs.declared.entry.Entry.{Entry}
use Rattle.sem_msg.specs.Setup.{IsSetup}
use Rattle.sem_trace.specs.Ranges.{IsKeyInText}
use Rattle.sem_journal.specs.EntryRanges.{EntryFits}

-- a held key with its selector, in a report of that version
abbrev pub HeldFits : ℕ → KeyName × ℕ → Type 0
HeldFits version h = IsKeyInText version h.0 × (h.1 ≤ 255)

-- a report of this setup, journal and audit
pub record ReportFits (T : Setup) (J : List Entry) (made cut : ℕ) (held : List (KeyName × ℕ)) : Type 0 where
  pub trace : IsSetup T
  pub entries : All (EntryFits T.version T.kernels) J
  pub few_entries : length J ≤ 4294967295
  pub few_made : made ≤ 4294967295
  pub few_cut : cut ≤ 4294967295
  pub few_held : length held ≤ 4294967295
  pub keys : All (HeldFits T.version) held
