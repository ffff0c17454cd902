-- Words of private contracts: a question about a report, with what is found while it is checked.
use Rattle.std.specs.Prelude.{◌≡◌, List, []}
use Rattle.sem_machine.specs.Prelude.{Entry, Setup, IsSchedule}
use Rattle.sem_mem.specs.Accounts.{IsAccount, IsAccountOf, IsAccountBefore}
use Rattle.sem_query.specs.Sightings.{IsSeen, IsReadied}
use Rattle.sem_cli.specs.declared.forms.Question.{Question}
use Rattle.sem_cli.specs.declared.forms.Question.TheVariants.{Check, Contents, Holder, Path, Denied}
use Rattle.sem_report.specs.declared.verdict.Verdict.{Verdict}
use Rattle.sem_report.specs.declared.verdict.Verdict.TheVariants.{Accepted, BadLine, BadEntry, NotOver, BadAudit}
use Rattle.sem_run.specs.declared.findings.Finding.{Finding}
use Rattle.sem_run.specs.declared.findings.Finding.TheVariants.{Nothing, Accounted, Sighted, Line, Denial}

-- the question that the finding is about
abbrev pub question_about : Finding → Question
question_about Nothing = Check
question_about (Accounted x) = Contents
question_about (Sighted s) = Holder s.key s.count
question_about (Line key) = Path key
question_about (Denial entry) = Denied entry

-- nothing was found yet
abbrev pub IsNew : Finding → Type 0
IsNew Nothing = Unit {0}
IsNew (Accounted x) = IsAccount [] x
IsNew (Sighted s) = Unit {0}
IsNew (Line key) = Unit {0}
IsNew (Denial entry) = Unit {0}

-- what is found of a schedule
abbrev pub IsFound : Setup → List Entry → Finding → Type 0
IsFound T J Nothing = Unit {0}
IsFound T J (Accounted x) = IsAccountOf T J x
IsFound T J (Sighted s) = IsSeen T J s
IsFound T J (Line key) = Unit {0}
IsFound T J (Denial entry) = Unit {0}

-- the same, once the world before the next entry was seen too
abbrev pub IsFoundBefore : Setup → List Entry → Entry → Finding → Type 0
IsFoundBefore T J e Nothing = Unit {0}
IsFoundBefore T J e (Accounted x) = IsAccountBefore T J e x
IsFoundBefore T J e (Sighted s) = IsReadied T J e s
IsFoundBefore T J e (Line key) = Unit {0}
IsFoundBefore T J e (Denial entry) = Unit {0}

-- what holds of the setup and the journal of an accepted report
abbrev pub IfAccepted : (Setup → List Entry → Type 0) → Verdict → Type 0
IfAccepted P (Accepted T journal due) = P T journal.entries
IfAccepted P (BadLine fault) = Unit {0}
IfAccepted P (BadEntry journal n entered replayed) = Unit {0}
IfAccepted P (NotOver journal next) = Unit {0}
IfAccepted P (BadAudit line due) = Unit {0}

-- an accepted report has this setup and this journal
abbrev pub IsOf : Setup → List Entry → Verdict → Type 0
IsOf T J verdict = IfAccepted (λ S K. (S ≡ T) × (K ≡ J)) verdict

-- an accepted report tells a schedule, and all that the question needs was found, so that it has an
-- answer
abbrev pub IsAskable : Finding → Verdict → Type 0
IsAskable f verdict = IfAccepted (λ T J. IsSchedule T J × IsFound T J f) verdict
