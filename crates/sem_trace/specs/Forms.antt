-- The forms of the lines of a trace, and the first fault of words against a form ("The trace" in
-- docs/texts.md).
use Rattle.std.specs.Prelude.{ℕ, ◌-◌, ◌==◌, nat_le, Bool, true, false, not, ◌&&◌, List, [], ◌∷◌, map, codes}
use Rattle.std.specs.Prelude.{length, slice_index_or, Option, Some, None, option_map, if◌then◌else◌}
use Rattle.std.specs.List.{list_any, slice_split}
use Rattle.std.specs.Option.{option_or}
use Rattle.std.specs.Str.{bytes_eq}
use Rattle.sem_msg.specs.Prelude.{NUMBERS, most_vpes}
use Rattle.sem_msg.specs.declared.limits.TheConstants.{ENDPOINTS}
use Rattle.sem_msg.specs.Versions.{most_kernels, least_window, most_window}
use Rattle.sem_text.specs.Number.{is_number, number_value}
use Rattle.sem_trace.specs.declared.fault.Cause.{Cause}
use Rattle.sem_trace.specs.declared.fault.LineFault.{LineFault}
use Rattle.sem_trace.specs.declared.fault.Cause.TheVariants.{UnknownWord, BadNumber, OutOfRange, Missing, TooMany}

-- what can stand in a place of a line: one of some words, a number of a range, or numbers of such
-- ranges with points between
pub data Place : Type 0 where
  Word : (names : List (List ℕ)) → Place
  Number : (least most : ℕ) → Place
  Dotted : (ranges : List (ℕ × ℕ)) → Place

-- the parts of a word between its points (byte 46)
abbrev pub parts_of : List ℕ → List (List ℕ)
parts_of word = slice_split (λ b. b == 46) word

-- whether they are that many numbers
unfoldable pub are_numbers : List (ℕ × ℕ) → List (List ℕ) → Bool
are_numbers [] [] = true
are_numbers [] (part ∷ parts) = false
are_numbers (range ∷ ranges) [] = false
are_numbers (range ∷ ranges) (part ∷ parts) = is_number part && are_numbers ranges parts

-- whether the number of a word is in a range, its ends included
abbrev pub is_between : ℕ × ℕ → List ℕ → Bool
is_between range word = nat_le range.0 (number_value word) && nat_le (number_value word) range.1

-- whether each number is in its range
unfoldable pub are_within : List (ℕ × ℕ) → List (List ℕ) → Bool
are_within [] parts = true
are_within (range ∷ ranges) [] = true
are_within (range ∷ ranges) (part ∷ parts) = is_between range part && are_within ranges parts

-- what is wrong with a word in that place
abbrev pub place_fault : Place → List ℕ → Option Cause
place_fault (Word names) word = if list_any (bytes_eq word) names then None else Some UnknownWord
place_fault (Number least most) word =
    if not (is_number word) then Some BadNumber
    else (if is_between (least, most) word then None else Some OutOfRange)
place_fault (Dotted ranges) word =
    if not (are_numbers ranges (parts_of word)) then Some BadNumber
    else (if are_within ranges (parts_of word) then None else Some OutOfRange)

-- what is wrong with these words in those places: the cause of the leftmost fault, and how many
-- words are left at it, the faulty one included
unfoldable pub form_fault : List Place → List (List ℕ) → Option (Cause × ℕ)
form_fault [] [] = None
form_fault [] (word ∷ words) = Some (TooMany, length (word ∷ words))
form_fault (place ∷ places) [] = Some (Missing, 0)
form_fault (place ∷ places) (word ∷ words) =
    option_or (option_map (λ cause. (cause, length (word ∷ words))) (place_fault place word)) (form_fault places words)

-- the fault of that cause at a word of a line, counted from 0
abbrev pub at_word : ℕ → Cause → LineFault
at_word word cause = record { cause = cause; word = Some word }

-- the fault of that cause of a whole line
abbrev pub whole_line : Cause → LineFault
whole_line cause = record { cause = cause; word = None }

-- the leftmost fault of a line with these words in those places. A missing word stands after all
-- words
unfoldable pub word_fault : List Place → List (List ℕ) → Option LineFault
word_fault places words = option_map (λ fault. at_word (length words - fault.1) fault.0) (form_fault places words)

-- the word at a place, counted from 0; none past the end
abbrev pub word_at : List (List ℕ) → ℕ → List ℕ
word_at words i = slice_index_or words i []

-- names, and which places follow each
abbrev pub Table : Type 0
Table = List (List ℕ × List Place)

-- the places after a word
abbrev pub behind : Table → List ℕ → List Place
behind [] word = []
behind ((name, places) ∷ table) word = if bytes_eq word name then places else behind table word

-- the place of one of the names, and the places after the word that stands there
abbrev pub choice : Table → List ℕ → List Place
choice table word = Word (map (λ row. row.0) table) ∷ behind table word

abbrev pub up_to : ℕ → Place
up_to most = Number 0 most

-- a PE, or a VPE, in a text of that version
abbrev pub node : ℕ → Place
node version = up_to (most_vpes version - 1)

-- a selector, or the name of a service, or an index
abbrev pub byte : Place
byte = up_to 255

abbrev pub endpoint_place : Place
endpoint_place = up_to (ENDPOINTS - 1)

abbrev pub rights : Place
rights = up_to 7

-- slots, or credits
abbrev pub slots : Place
slots = Number 1 64

-- any other number
abbrev pub word : Place
word = up_to 4294967295

-- how many kernels there are
abbrev pub kernel_count : ℕ → Place
kernel_count version = Number 1 (most_kernels version)

-- how many messages a link holds
abbrev pub window : ℕ → Place
window version = Number (least_window version) (most_window version)

-- a key: its PE, its VPE, its kind and its number
abbrev pub key : ℕ → Place
key version = Dotted ((0, most_vpes version - 1) ∷ (0, most_vpes version - 1) ∷ (1, 5) ∷ (0, NUMBERS - 1) ∷ [])

-- a place: a PE, a VPE and a number
abbrev pub key_place : ℕ → Place
key_place version = Dotted ((0, most_vpes version - 1) ∷ (0, most_vpes version - 1) ∷ (0, NUMBERS - 1) ∷ [])

-- the objects that a line `root` declares
unfoldable pub root_objects : Table
root_objects =
    (codes "mem", word ∷ word ∷ rights ∷ [])
    ∷ (codes "recv", slots ∷ [])
    ∷ []

unfoldable pub calls : ℕ → Table
calls version =
    (codes "derive", byte ∷ byte ∷ word ∷ word ∷ rights ∷ [])
    ∷ (codes "gate", byte ∷ byte ∷ word ∷ slots ∷ [])
    ∷ (codes "obtain", byte ∷ node version ∷ byte ∷ [])
    ∷ (codes "delegate", byte ∷ node version ∷ byte ∷ [])
    ∷ (codes "open", byte ∷ byte ∷ [])
    ∷ (codes "ask", byte ∷ byte ∷ byte ∷ [])
    ∷ (codes "revoke", byte ∷ [])
    ∷ (codes "bind", endpoint_place ∷ byte ∷ [])
    ∷ (codes "read", endpoint_place ∷ word ∷ word ∷ [])
    ∷ (codes "write", endpoint_place ∷ word ∷ word ∷ [])
    ∷ (codes "send", endpoint_place ∷ word ∷ [])
    ∷ (codes "credit", endpoint_place ∷ [])
    ∷ (codes "exit", [])
    ∷ (codes "clear", byte ∷ [])
    ∷ []

-- the line that version 2 has and version 1 has not
abbrev pub window_line : ℕ → Table
window_line version = if version == 1 then [] else (codes "window", window version ∷ []) ∷ []

-- the lines after the second, in a text with that many kernels
unfoldable pub lines : (version kernels : ℕ) → List (List ℕ) → Table
lines version kernels words =
    (codes "kernels", kernel_count version ∷ [])
    ∷ (codes "pe", node version ∷ up_to (kernels - 1) ∷ [])
    ∷ (codes "vpe", node version ∷ node version ∷ [])
    ∷ (codes "root", node version ∷ byte ∷ choice root_objects (word_at words 3))
    ∷ (codes "service", node version ∷ byte ∷ byte ∷ [])
    ∷ (codes "offer", byte ∷ byte ∷ byte ∷ [])
    ∷ (codes "deny", node version ∷ node version ∷ [])
    ∷ (codes "kill", node version ∷ word ∷ [])
    ∷ (codes "call", node version ∷ choice (calls version) (word_at words 2))
    ∷ (codes "end", [])
    ∷ window_line version

-- the first line
unfoldable pub first_form : List Place
first_form = Word (codes "semper" ∷ []) ∷ Word (codes "trace" ∷ []) ∷ Word (codes "1" ∷ codes "2" ∷ []) ∷ []

-- the second line
unfoldable pub second_form : ℕ → List Place
second_form version = Word (codes "kernels" ∷ []) ∷ kernel_count version ∷ []

-- the third line of version 2
unfoldable pub third_form : ℕ → List Place
third_form version = Word (codes "window" ∷ []) ∷ window version ∷ []

-- a line after the second
unfoldable pub form : (version kernels : ℕ) → List (List ℕ) → List Place
form version kernels words = choice (lines version kernels words) (word_at words 0)
