-- The forms of the lines of file commands ("File commands" in docs/texts.md).
use Rattle.std.specs.Prelude.{ℕ, List, [], ◌∷◌, codes}
use Rattle.sem_trace.specs.Forms.{Place, Table, up_to, choice, word_at, second_form as kernels_form}
use Rattle.sem_trace.specs.Forms.Place.{Word, Number}

-- a file, a handle, or the number under which a client receives a file
abbrev pub small : Place
small = up_to 15

abbrev pub client : Place
client = Number 1 63

-- how many extents a file has
abbrev pub extents : Place
extents = Number 1 4

-- the beginning of a range, and its length
abbrev pub offset : Place
offset = up_to 16383

abbrev pub size : Place
size = Number 1 16384

-- what a client does
unfoldable pub acts : Table
acts =
    (codes "open", small ∷ small ∷ [])
    ∷ (codes "read", small ∷ offset ∷ size ∷ [])
    ∷ (codes "write", small ∷ offset ∷ size ∷ [])
    ∷ (codes "share", small ∷ client ∷ small ∷ [])
    ∷ (codes "close", small ∷ [])
    ∷ []

-- the lines after the second
unfoldable pub lines : List (List ℕ) → Table
lines words =
    (codes "kernels", Number 1 16 ∷ [])
    ∷ (codes "file", small ∷ extents ∷ [])
    ∷ (codes "client", client ∷ [])
    ∷ (codes "do", client ∷ choice acts (word_at words 2))
    ∷ (codes "end", [])
    ∷ []

-- the first line
unfoldable pub first_form : List Place
first_form = Word (codes "semper" ∷ []) ∷ Word (codes "files" ∷ []) ∷ Word (codes "1" ∷ []) ∷ []

-- the second line, which is that of a trace of version 1
abbrev pub second_form : List Place
second_form = kernels_form 1

-- a line after the second
unfoldable pub form : List (List ℕ) → List Place
form words = choice (lines words) (word_at words 0)
