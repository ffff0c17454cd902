-- A text is read line by line.
use Rattle.std.proofs.Common.{◌≡◌, ℕ, ◌+◌, ◌<◌, ◌≤◌, true, false, List, [], length, map, drop, Some, None}
use Rattle.std.proofs.Common.{refl, ◌∙◌, subst, lt-ltb, le-ltb}
use Rattle.sem_trace.specs.declared.fault.Cause.TheVariants.{Missing, InputTooLong}
use Rattle.sem_trace.specs.declared.fault.TraceError.{TraceError}
use Rattle.sem_trace.specs.declared.fault.TraceError.TheVariants.{Refused, Memory}
use Rattle.sem_trace.specs.TextLines.{lines_of, significant}
use Rattle.sem_trace.specs.SetupOfText.{IsWhy}
use Rattle.sem_files.specs.Files.{Files}
use Rattle.sem_files.specs.Said.{said, is_ended}
use Rattle.sem_files.specs.FileRefusal.{line_fault, fault_at, first_fault, said_by, end_fault, lines_refusal, refusal}
use Rattle.sem_trace.specs.Refusal.{kernels_of}
use Rattle.sem_files.specs.FilesOfText.{FilesStand}
use Rattle.sem_files.specs.declared.reader.Stage.{Stage}
use Rattle.sem_files.specs.declared.reader.Stage.TheVariants.{Start, Named, Open, Ended}
use Rattle.sem_files.specs.declared.reader.Reader.{Reader}
use Rattle.sem_files.specs.declared.tables.Tables.{Tables}
use Rattle.sem_files.specs.Tells.{files_in}
use Rattle.sem_files.specs.Reads.{IsOpened, IsReadTo, IsRead, IsReadUpTo, Say}
use Rattle.sem_trace.proofs.ReadText.{all_read, line_number, none_bad}

-- no line that is read is bad
no_first_fault : (bytes : List ℕ) (number : ℕ) (r : Reader) → IsReadUpTo bytes [] number r → first_fault (lines_of bytes) ≡ None
unfolding first_fault fault_at
no_first_fault bytes number r whole = none_bad line_fault (IsRead r) bytes number whole.lines

-- a text that is too long
pub too_long : (bytes : List ℕ) → 8388608 < length bytes → refusal bytes ≡ Some (record { line = 0; word = None; cause = InputTooLong })
unfolding refusal
too_long bytes long = rw (lt-ltb _ _ long) refl

-- the refusal of the lines of a text that is not too long
pub refused_lines : (bytes : List ℕ) (e : TraceError) → length bytes ≤ 8388608 → IsWhy (lines_refusal (lines_of bytes)) e → IsWhy (refusal bytes) e
unfolding refusal
refused_lines bytes (Refused fault) short bad = rw (le-ltb _ _ short) bad
refused_lines bytes Memory short bad = tt

pub accepted_lines : (bytes : List ℕ) (F : Files) → length bytes ≤ 8388608 → Say (lines_of bytes) F → FilesStand bytes F
unfolding refusal
accepted_lines bytes F short say = record { accepted = rw (le-ltb _ _ short) say.accepted; said = say.said }

-- a text without its last line
unfinished : (stage : Stage) (lines : List (List (List ℕ))) (t : Tables) → (stage ≡ Ended → ⊥) → IsReadTo stage lines t →
    is_ended (map said (drop 2 lines)) ≡ false
unfolding is_ended
unfinished Start lines t other read = rw read refl
unfinished Named lines t other read = rw read.1 refl
unfinished Open lines t other read = rw read.are read.last
unfinished Ended lines t other read = absurd (other refl)

pub no_end : (bytes : List ℕ) (number : ℕ) (r : Reader) → IsReadUpTo bytes [] number r → (r.stage ≡ Ended → ⊥) →
    lines_refusal (lines_of bytes) ≡ Some (record { line = number + 1; word = None; cause = Missing })
unfolding end_fault said_by
no_end bytes number r whole other =
    let read : is_ended (map said (drop 2 (significant (lines_of bytes)))) ≡ false =
    unfinished r.stage (significant (lines_of bytes)) r.tables other (all_read line_fault (IsRead r) bytes number whole.lines) in
    rw (no_first_fault bytes number r whole, read, line_number line_fault (IsRead r) bytes number whole.lines) refl

-- a text that is read to its end
pub whole_text : (bytes : List ℕ) (number : ℕ) (r : Reader) (F : Files) → IsReadUpTo bytes [] number r → r.stage ≡ Ended → F ≡ files_in r.tables →
    Say (lines_of bytes) F
unfolding end_fault said_by kernels_of
whole_text bytes number r F whole at is =
    let opened : IsOpened (significant (lines_of bytes)) r.tables true =
    subst (λ (s : Stage). IsReadTo s (significant (lines_of bytes)) r.tables) at (all_read line_fault (IsRead r) bytes number whole.lines) in
    record {
      accepted = rw (no_first_fault bytes number r whole, opened.are, opened.last) refl;
      said = rw opened.are (is ∙ opened.says);
    }
