-- How far a text is read, line by line. It is for private functions, of the crates that read texts.
use Rattle.std.specs.Prelude.{◌≡◌, ℕ, ◌+◌, ◌≤◌, List, ◌++◌, length, Option, None}
use Rattle.sem_trace.specs.declared.fault.LineFault.{LineFault}
use Rattle.sem_trace.specs.TextLines.{lines_of, significant}
use Rattle.sem_trace.specs.Earlier.{first_some}
use Rattle.sem_trace.specs.Refusal.{numbers, fault_by}

-- All lines of the text but those that are left are read. Nothing was wrong with any of them, and
-- IsRead holds of those that say something.
pub record AreRead (line_fault : List (List (List ℕ)) → List ℕ → Option LineFault)
    (IsRead : List (List (List ℕ)) → Type 0) (bytes : List ℕ) (left : List (List ℕ)) (number : ℕ) : Type 0 where
  pub before : List (List ℕ)
  pub lines : lines_of bytes ≡ before ++ left
  pub count : number ≡ length before
  pub fine : first_some (fault_by line_fault (lines_of bytes)) (numbers number) ≡ None
  pub read : IsRead (significant before)
  pub room : number + length left ≤ length bytes
