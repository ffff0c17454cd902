-- The path of a key: the keys that it was made from, and which of them were cut.
use Rattle.std.specs.Prelude.{ℕ, Bool, true, false, List, [], ◌∷◌, map, codes, if◌then◌else◌}
use Rattle.sem_machine.specs.Prelude.{KeyName, has_key, Entry, Setup, made, cut, ancestry}
use Rattle.sem_text.specs.Lines.{text}
use Rattle.sem_trace.specs.Words.{key_word}

abbrev pub cut_word : Bool → List ℕ
cut_word true = codes "cut"
cut_word false = codes "kept"

-- the line of one key of the path
abbrev pub step_words : List KeyName → KeyName → List (List ℕ)
step_words cut_keys k = codes "key" ∷ key_word k ∷ cut_word (has_key cut_keys k) ∷ []

-- the lines of the path: one for each key from k up to its root, or `none` if k was never made
abbrev pub path_lines : Setup → List Entry → KeyName → List (List (List ℕ))
path_lines T J k =
    if has_key (made T J) k
    then map (step_words (cut T J)) (ancestry J k)
    else (codes "none" ∷ []) ∷ []

-- the text of the path
abbrev pub path : Setup → List Entry → KeyName → List ℕ
path T J k = text (path_lines T J k)
