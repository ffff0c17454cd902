-- Ranges of numbers as places of a line, and what a reader of places promises.
use Rattle.std.specs.Prelude.{◌≡◌, ℕ, suc, ◌-◌, ◌<◌, ◌≤◌, List, [], ◌∷◌, ◌++◌, Option, Some, None, length, slice_index}
use Rattle.std.specs.Prelude.{slice_index_or, Result, Ok, Err, MatchResult}
use Rattle.sem_trace.specs.declared.forms.Range.{Range}
use Rattle.sem_trace.specs.declared.fault.Cause.{Cause}
use Rattle.sem_trace.specs.declared.fault.Cause.TheVariants.{Missing}
use Rattle.sem_trace.specs.declared.fault.LineFault.{LineFault}
use Rattle.sem_trace.specs.Forms.{Place, form_fault, at_word}
use Rattle.sem_trace.specs.Forms.Place.{Word, Number, Dotted}
use Rattle.sem_trace.specs.Declarations.{number_at}

abbrev pub number_place : Range → Place
number_place range = Number range.least range.most

-- the number is in the range
pub record IsWithin (range : Range) (n : ℕ) : Type 0 where
  pub least : range.least ≤ n
  pub most : n ≤ range.most

-- the range at a place of a list; past the end the range of 0 only
abbrev pub range_at : List Range → ℕ → Range
range_at ranges i = slice_index_or ranges i (record { least = 0; most = 0 })

abbrev pub least_at : List Range → ℕ → ℕ
least_at ranges i = (range_at ranges i).least

abbrev pub most_at : List Range → ℕ → ℕ
most_at ranges i = (range_at ranges i).most

-- the numbers are those of the first words, each in its range
pub record AreNumbers (ranges : List Range) (words : List (List ℕ)) (numbers : List ℕ) : Type 0 where
  pub values : (i : ℕ) → i < length ranges → slice_index numbers i ≡ number_at words i
  pub least : (i : ℕ) → i < length ranges → least_at ranges i ≤ slice_index numbers i
  pub most : (i : ℕ) → i < length ranges → slice_index numbers i ≤ most_at ranges i

-- the number can stand in the place
abbrev pub CanStand : Place → ℕ → Type 0
CanStand (Number least most) n = (least ≤ n) × (n ≤ most)
CanStand (Word names) n = Unit {0}
CanStand (Dotted ranges) n = Unit {0}

-- each of the first numbers can stand in its place
abbrev pub CanStandIn : List Place → List ℕ → Type 0
CanStandIn [] ns = Unit {0}
CanStandIn (place ∷ places) [] = Unit {0}
CanStandIn (place ∷ places) (n ∷ ns) = CanStand place n × CanStandIn places ns

-- the first numbers are those of the first words
abbrev pub AreOf : ℕ → List (List ℕ) → List ℕ → Type 0
AreOf count words numbers = (i : ℕ) → i < count → slice_index numbers i ≡ number_at words i

-- the least and the greatest number of a range
abbrev pub bounds : Range → ℕ × ℕ
bounds range = (range.least, range.most)

-- the first words fill the places: whatever places follow, the fault of all words is the fault of
-- the rest
abbrev pub Fills : List Place → List (List ℕ) → List (List ℕ) → Type 0
Fills places words rest = (more : List Place) → form_fault (places ++ more) words ≡ form_fault more rest

-- how many words are left at a fault, the faulty one included, if these are left after it
abbrev pub left_at : Cause → List (List ℕ) → ℕ
left_at Missing rest = 0
left_at cause rest = suc (length rest)

-- the first words do not fill the places, whatever places follow: the fault is at the word before
-- the rest
abbrev pub Fails : List Place → (words rest : List (List ℕ)) → Cause → Type 0
Fails places words rest cause =
    (more : List Place) → form_fault (places ++ more) words ≡ Some (cause, left_at cause rest)

-- the fault that a reader tells, if these words are left
abbrev pub told_fault : {X : Type 0} → Result X Cause → List (List ℕ) → Option (Cause × ℕ)
told_fault (Ok x) rest = None
told_fault (Err cause) rest = Some (cause, left_at cause rest)

-- the fault of that cause in a line with these words, if that many are left after it
abbrev pub fault_after : Cause → (words rest : List (List ℕ)) → LineFault
fault_after cause words rest = at_word (length words - left_at cause rest) cause

-- the words that spell what is read come first and fill the places, and the words after them are
-- left
pub record AreRead (places : List Place) (spelling old new : List (List ℕ)) : Type 0 where
  pub filled : Fills places old new
  pub spelled : old ≡ spelling ++ new

-- what a reader of these places promises: it reads what the first words spell, or its cause is that
-- of their leftmost fault, and the words after it are left
abbrev pub Reads : {X : Type 0} → List Place → (X → List (List ℕ)) → List (List ℕ) → List (List ℕ) → Result X Cause →
    Type 0
Reads places spelling old new result =
    MatchResult result (λ x. AreRead places (spelling x) old new) (Fails places old new)
