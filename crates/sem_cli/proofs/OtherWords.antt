-- Which lists of words are no form of a command.
use Rattle.std.proofs.Common.{◌≡◌, ◌≢◌, ℕ, List, [], ◌∷◌, map, length, None, refl}
use Rattle.sem_cli.specs.Commands.{command_of}

-- all but those of one word to four
pub no_form : {X : Type 0} (f : X → List ℕ) (words : List X) → length words ≢ 1 → length words ≢ 2 → length words ≢ 3 → length words ≢ 4 →
    None ≡ command_of (map f words)
no_form f [] one two three four = refl
no_form f (a ∷ []) one two three four = absurd (one refl)
no_form f (a ∷ b ∷ []) one two three four = absurd (two refl)
no_form f (a ∷ b ∷ c ∷ []) one two three four = absurd (three refl)
no_form f (a ∷ b ∷ c ∷ d ∷ []) one two three four = absurd (four refl)
no_form f (a ∷ b ∷ c ∷ d ∷ e ∷ words) one two three four = refl
