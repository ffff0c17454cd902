-- A text is read line by line.
use Rattle.std.proofs.Common.{◌≡◌, ℕ, ◌+◌, ◌<◌, ◌≤◌, true, false, List, [], length, map, drop, Some, None}
use Rattle.std.proofs.Common.{refl, subst, lt-ltb, le-ltb, Result, Ok, Err}
use Rattle.std.specs.Result.{IfOk}
use Rattle.sem_trace.specs.declared.fault.Cause.TheVariants.{Missing, InputTooLong}
use Rattle.sem_trace.specs.declared.fault.TraceError.{TraceError}
use Rattle.sem_trace.specs.declared.fault.TraceError.TheVariants.{Refused, Memory}
use Rattle.sem_trace.specs.declared.declaration.Declaration.{Declaration}
use Rattle.sem_trace.specs.TextLines.{lines_of, significant}
use Rattle.sem_trace.specs.Declarations.{declaration}
use Rattle.sem_trace.specs.Earlier.{is_ended}
use Rattle.sem_trace.specs.Refusal.{lines_refusal, line_fault, fault_at, first_fault, version_of, kernels_of, declarations_of, end_fault, refusal}
use Rattle.sem_trace.specs.SetupOfText.{Declare, setup_of, Stands, IsWhy}
use Rattle.sem_msg.specs.Setup.{Setup}
use Rattle.sem_reader.specs.declared.reader.Stage.{Stage}
use Rattle.sem_reader.specs.declared.reader.Stage.TheVariants.{Start, Named, Counted, Open, Ended}
use Rattle.sem_reader.specs.declared.reader.Reader.{Reader}
use Rattle.sem_reader.specs.declared.tables.Tables.{Tables}
use Rattle.sem_reader.specs.Tells.{Tells, IsTold}
use Rattle.sem_reader.specs.Reads.{IsOpened, IsReadTo, IsRead, IsReadUpTo}
use Rattle.sem_trace.proofs.ReadText.{all_read, line_number, none_bad}

-- few calls are read so far
pub few_calls : (stage : Stage) (lines : List (List (List ℕ))) (t : Tables) → IsReadTo stage lines t → t.call_number ≤ 20000
few_calls Start lines t read = read.1.few_calls
few_calls Named lines t read = read.2.few_calls
few_calls Counted lines t read = read.tells.few_calls
few_calls Open lines t read = read.tells.few_calls
few_calls Ended lines t read = read.tells.few_calls

-- no line that is read is bad
no_first_fault : (bytes : List ℕ) (number : ℕ) (r : Reader) → IsReadUpTo bytes [] number r → first_fault (lines_of bytes) ≡ None
unfolding first_fault fault_at
no_first_fault bytes number r whole = none_bad line_fault (IsRead r) bytes number whole.lines

-- a text that is too long
pub too_long : (bytes : List ℕ) → 8388608 < length bytes → refusal bytes ≡ Some (record { line = 0; word = None; cause = InputTooLong })
unfolding refusal
too_long bytes long = rw (lt-ltb _ _ long) refl

-- the refusal of the lines of a text that is not too long
pub refused_lines : (bytes : List ℕ) (e : TraceError) → length bytes ≤ 8388608 → IsWhy (lines_refusal (lines_of bytes)) e → IsWhy (refusal bytes) e
unfolding refusal
refused_lines bytes (Refused fault) short bad = rw (le-ltb _ _ short) bad
refused_lines bytes Memory short bad = tt

pub accepted_lines : (bytes : List ℕ) (T : Setup) → length bytes ≤ 8388608 → Declare (lines_of bytes) T → Stands bytes T
unfolding refusal
accepted_lines bytes T short declare = record { accepted = rw (le-ltb _ _ short) declare.accepted; declared = declare.declared }

-- what holds of a result holds so of it
pub if_ok : {X E : Type 0} (r : Result X E) (P Q : X → Type 0) → IfOk r P → ((x : X) → P x → Q x) → IfOk r Q
if_ok (Ok x) P Q holds then' = then' x holds
if_ok (Err e) P Q holds then' = tt

-- a text without its last line
unfinished : (stage : Stage) (lines : List (List (List ℕ))) (t : Tables) → (stage ≡ Ended → ⊥) → IsReadTo stage lines t →
    is_ended (map declaration (drop 2 lines)) ≡ false
unfolding is_ended
unfinished Start lines t other read = rw read.0 refl
unfinished Named lines t other read = rw read.1 refl
unfinished Counted lines t other read = rw read.are read.said
unfinished Open lines t other read = rw read.are read.said
unfinished Ended lines t other read = absurd (other refl)

pub no_end : (bytes : List ℕ) (number : ℕ) (r : Reader) → IsReadUpTo bytes [] number r → (r.stage ≡ Ended → ⊥) →
    lines_refusal (lines_of bytes) ≡ Some (record { line = number + 1; word = None; cause = Missing })
unfolding end_fault declarations_of
no_end bytes number r whole other =
    let read : is_ended (map declaration (drop 2 (significant (lines_of bytes)))) ≡ false =
    unfinished r.stage (significant (lines_of bytes)) r.tables other (all_read line_fault (IsRead r) bytes number whole.lines) in
    rw (no_first_fault bytes number r whole, read, line_number line_fault (IsRead r) bytes number whole.lines) refl

-- what a reader at the end has read
ended : (bytes : List ℕ) (number : ℕ) (r : Reader) → IsReadUpTo bytes [] number r → r.stage ≡ Ended →
    IsOpened (significant (lines_of bytes)) r.tables false true
ended bytes number r whole at =
    subst (λ (s : Stage). IsReadTo s (significant (lines_of bytes)) r.tables) at (all_read line_fault (IsRead r) bytes number whole.lines)

pub whole_text : (bytes : List ℕ) (number : ℕ) (r : Reader) (T : Setup) → IsReadUpTo bytes [] number r → r.stage ≡ Ended →
    ((version kernels : ℕ) (ds : List Declaration) → Tells version kernels ds r.tables → T ≡ setup_of version kernels ds) → Declare (lines_of bytes) T
unfolding end_fault declarations_of version_of kernels_of
whole_text bytes number r T whole at is =
    let opened = ended bytes number r whole at in
    record {
      accepted = rw (no_first_fault bytes number r whole, opened.are, opened.said) refl;
      declared = rw opened.are (is _ _ _ opened.tells);
    }

-- the reader at the end tells some lines
pub told : (bytes : List ℕ) (number : ℕ) (r : Reader) → IsReadUpTo bytes [] number r → r.stage ≡ Ended → IsTold r.tables
told bytes number r whole at = record { version = _; kernels = _; ds = _; tells = (ended bytes number r whole at).tells }
