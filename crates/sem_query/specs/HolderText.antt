-- The text that tells where a key is.
use Rattle.std.specs.Prelude.{ℕ, List, [], ◌∷◌, codes, decimal}
use Rattle.sem_machine.specs.Prelude.{KeyName, Entry, Setup}
use Rattle.sem_text.specs.Lines.{line}
use Rattle.sem_query.specs.declared.holder.Holder.{Holder}
use Rattle.sem_query.specs.declared.holder.Holder.TheVariants.{Marked, Unmarked, Way, No}
use Rattle.sem_query.specs.Whereabouts.{holder}

abbrev pub holder_words : Holder → List (List ℕ)
holder_words (Marked sel) = codes "held" ∷ decimal sel ∷ codes "marked" ∷ []
holder_words (Unmarked sel) = codes "held" ∷ decimal sel ∷ codes "unmarked" ∷ []
holder_words Way = codes "way" ∷ []
holder_words No = codes "none" ∷ []

-- the line that tells where the key is after the first n entries
abbrev pub holder_text : Setup → List Entry → KeyName → ℕ → List ℕ
holder_text T J k n = line (holder_words (holder T J k n))
