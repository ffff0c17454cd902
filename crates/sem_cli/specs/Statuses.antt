-- The exit statuses of the program ("The command line" in docs/texts.md).
use Rattle.std.specs.Prelude.{ℕ}
use Rattle.sem_cli.specs.declared.statuses.Status.{Status}
use Rattle.sem_cli.specs.declared.statuses.Status.TheVariants.{Done, Usage, TraceRefused, ReadFault, WriteFault}
use Rattle.sem_cli.specs.declared.statuses.Status.TheVariants.{Memory, ReportRefused}

abbrev pub status_number : Status → ℕ
status_number Done = 0
status_number Usage = 1
status_number TraceRefused = 2
status_number ReadFault = 3
status_number WriteFault = 4
status_number Memory = 5
status_number ReportRefused = 9
