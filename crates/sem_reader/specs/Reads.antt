-- What the reader keeps of the lines so far that say something, each as its words.
use Rattle.std.specs.Prelude.{◌≡◌, ℕ, Bool, true, false, List, [], ◌∷◌, ◌++◌, map, None, Some}
use Rattle.sem_trace.specs.declared.fault.LineFault.{LineFault}
use Rattle.sem_trace.specs.TextLines.{with_significant}
use Rattle.sem_trace.specs.Declarations.{number_at, declaration}
use Rattle.sem_trace.specs.Earlier.{is_ended}
use Rattle.sem_trace.specs.Refusal.{version_in, is_third, words_fault, line_fault}
use Rattle.sem_trace.specs.LinesRead.{AreRead}
use Rattle.sem_reader.specs.declared.reader.Stage.{Stage}
use Rattle.sem_reader.specs.declared.reader.Stage.TheVariants.{Start, Named, Counted, Open, Ended}
use Rattle.sem_reader.specs.declared.reader.Reader.{Reader}
use Rattle.sem_reader.specs.declared.tables.Tables.{Tables}
use Rattle.sem_reader.specs.Tells.{Tells, HasSizes}

-- after the second line: whether the third line of version 2 comes next, and whether the last line
-- was read
pub record IsOpened (lines : List (List (List ℕ))) (t : Tables) (third ended : Bool) : Type 0 where
  pub first : List (List ℕ)
  pub second : List (List ℕ)
  pub earlier : List (List (List ℕ))
  pub are : lines ≡ first ∷ second ∷ earlier
  pub tells : Tells (version_in first) (number_at second 1) (map declaration earlier) t
  pub due : is_third (version_in first) earlier ≡ third
  pub said : is_ended (map declaration earlier) ≡ ended

abbrev pub IsReadTo : Stage → List (List (List ℕ)) → Tables → Type 0
IsReadTo Start lines t = (lines ≡ []) × Tells 1 1 [] t
IsReadTo Named lines t = (first : List (List ℕ)) × (lines ≡ first ∷ []) × Tells (version_in first) 1 [] t
IsReadTo Counted lines t = IsOpened lines t true false
IsReadTo Open lines t = IsOpened lines t false false
IsReadTo Ended lines t = IsOpened lines t false true

-- the reader has read these lines and found nothing wrong with any
abbrev pub IsRead : Reader → List (List (List ℕ)) → Type 0
IsRead r lines = IsReadTo r.stage lines r.tables

-- nothing is wrong with a line of these words, and the reader has read it too
abbrev pub Accepts : List (List ℕ) → Reader → Reader → Type 0
Accepts words old new = (lines : List (List (List ℕ))) → IsRead old lines →
    (words_fault lines words ≡ None) × IsRead new (lines ++ words ∷ [])

-- the fault is what is wrong with a line of these words
abbrev pub Refuses : List (List ℕ) → Reader → LineFault → Type 0
Refuses words old fault = (lines : List (List (List ℕ))) → IsRead old lines → words_fault lines words ≡ Some fault

-- the same for a line that may say nothing
abbrev pub AcceptsLine : List ℕ → Reader → Reader → Type 0
AcceptsLine line old new = (lines : List (List (List ℕ))) → IsRead old lines →
    (line_fault lines line ≡ None) × IsRead new (with_significant lines line)

abbrev pub RefusesLine : List ℕ → Reader → LineFault → Type 0
RefusesLine line old fault = (lines : List (List (List ℕ))) → IsRead old lines → line_fault lines line ≡ Some fault

-- the reader has read all lines of the text but those that are left
pub record IsReadUpTo (bytes : List ℕ) (left : List (List ℕ)) (number : ℕ) (r : Reader) : Type 0 where
  pub lines : AreRead line_fault (IsRead r) bytes left number
  pub sizes : HasSizes r.tables
