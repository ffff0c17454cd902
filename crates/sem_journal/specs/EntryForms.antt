-- The forms of entry lines, and the first fault of their words ("The report" in docs/texts.md).
use Rattle.std.specs.Prelude.{ℕ, ◌+◌, ◌-◌, nat_lt, Bool, ◌&&◌, ◌||◌, List, [], ◌∷◌, ◌++◌, length, drop, codes, Option}
use Rattle.std.specs.Prelude.{Some, None, if◌then◌else◌}
use Rattle.std.specs.Option.{option_or}
use Rattle.sem_trace.specs.declared.fault.LineFault.{LineFault}
use Rattle.sem_trace.specs.declared.fault.Cause.TheVariants.{OutOfRange}
use Rattle.sem_trace.specs.Forms.{Place, Table, choice, word_fault, at_word, word_at, up_to, node, word, key, calls}
use Rattle.sem_trace.specs.Forms.Place.{Word}
use Rattle.sem_trace.specs.MessageForms.{code, message_form}
use Rattle.sem_trace.specs.Declarations.{stands_at, number_at}

-- one of that many kernels
abbrev pub kernel : ℕ → Place
kernel kernels = up_to (kernels - 1)

-- events, from their name on, in a text with that many kernels
unfoldable pub events : (version kernels : ℕ) → List (List ℕ) → Table
events version kernels words =
    (codes "call", node version ∷ word ∷ choice (calls version) (word_at words 3))
    ∷ (codes "fetch", kernel kernels ∷ message_form version (drop 2 words))
    ∷ (codes "handle", kernel kernels ∷ message_form version (drop 2 words))
    ∷ (codes "upcall", node version ∷ node version ∷ Word (codes "yes" ∷ codes "no" ∷ codes "drop" ∷ []) ∷ [])
    ∷ (codes "resume", node version ∷ [])
    ∷ (codes "flush", kernel kernels ∷ message_form version (drop 2 words))
    ∷ (codes "kill", node version ∷ [])
    ∷ []

unfoldable pub event_form : (version kernels : ℕ) → List (List ℕ) → List Place
event_form version kernels words = choice (events version kernels words) (word_at words 0)

-- one of these, if a word is left
abbrev pub if_more : Table → List (List ℕ) → List Place
if_more table [] = []
if_more table (word ∷ words) = choice table word

-- what was replied
abbrev pub reply_row : ℕ → List ℕ × List Place
reply_row version = (codes "reply", node version ∷ code ∷ [])

-- what can follow a cut
unfoldable pub behind_cut : ℕ → List (List ℕ) → List Place
behind_cut version words = if_more (reply_row version ∷ []) words

-- what was cut, and what follows it
abbrev pub cut_row : ℕ → List (List ℕ) → List ℕ × List Place
cut_row version words = (codes "cut", key version ∷ behind_cut version (drop 2 words))

-- what can follow a grant
unfoldable pub behind_grant : ℕ → List (List ℕ) → List Place
behind_grant version words = if_more (cut_row version words ∷ reply_row version ∷ []) words

-- what was granted, and what follows it
abbrev pub grant_row : ℕ → List (List ℕ) → List ℕ × List Place
grant_row version words = (codes "grant", key version ∷ key version ∷ behind_grant version (drop 3 words))

-- what can follow an event
unfoldable pub behind_event : ℕ → List (List ℕ) → List Place
behind_event version words = if_more (grant_row version words ∷ cut_row version words ∷ reply_row version ∷ []) words

-- an entry of a report of that version with that many kernels: its kernel, its event, and what
-- follows
unfoldable pub entry_form : (version kernels : ℕ) → List (List ℕ) → List Place
entry_form version kernels words =
    let event : List Place = event_form version kernels (drop 1 words) in
    kernel kernels ∷ event ++ behind_event version (drop (1 + length event) words)

-- whether memory stands at a place and ends past 2 ^ 32
abbrev pub is_long_at : List (List ℕ) → ℕ → Bool
is_long_at words i = stands_at words i (codes "mem")
    && nat_lt 4294967296 (number_at words (i + 1) + number_at words (i + 2))

-- whether a message carries such memory: it follows the keys of the message
unfoldable pub has_long_memory : List (List ℕ) → Bool
has_long_memory words = (stands_at words 3 (codes "obtain-ok") && is_long_at words 6)
    || (stands_at words 3 (codes "delegate-req") && is_long_at words 5)

-- the word with the length of such memory, counted from 0
abbrev pub long_word : List (List ℕ) → ℕ
long_word words = if stands_at words 3 (codes "obtain-ok") then 8 else 7

-- what is wrong with the words of an entry
unfoldable pub entry_fault : (version kernels : ℕ) → List (List ℕ) → Option LineFault
entry_fault version kernels words =
    option_or (word_fault (entry_form version kernels words) words)
    (if has_long_memory words then Some (at_word (long_word words) OutOfRange) else None)
