-- What is wrong with 64 bytes that are no message's record: the grammar of records, row by row
-- ("Records" in docs/machine.md).
use Rattle.std.specs.Prelude.{ℕ, ◌+◌, ◌^◌, ◌/◌, ◌%◌, Bool, true, false, not, ◌&&◌, ◌||◌, ◌==◌, nat_le, nat_lt}
use Rattle.std.specs.Prelude.{if◌then◌else◌, List, [], ◌∷◌, Option, Some, None}
use Rattle.std.specs.Int.{is_in_range}
use Rattle.std.specs.List.{list_any}
use Rattle.sem_msg.specs.Prelude.{PES, VPES, NUMBERS, SLOTS, ADDRESSES, RIGHTS}
use Rattle.sem_wire.specs.declared.rows.Rows.{Rows}
use Rattle.sem_wire.specs.declared.fault.WireFault.{WireFault}
use Rattle.sem_wire.specs.declared.fault.WireFault.TheVariants.{Tag, Field, Padding}

-- the number of the kind in the word of a key: 1 Mem, 2 Recv, 3 Send, 4 Serv, 5 Sess
abbrev pub kind_in : ℕ → ℕ
kind_in word = word / 2 ^ 32 % 2 ^ 8

-- whether the PE, the VPE and the number in a word are in their ranges
abbrev pub is_owned : ℕ → Bool
is_owned word = nat_lt (word / 2 ^ 56) PES && nat_lt (word / 2 ^ 40 % 2 ^ 16) VPES && nat_lt (word % 2 ^ 32) NUMBERS

-- whether it is the word of a key, of a key of that kind, of a place
abbrev pub is_key : ℕ → Bool
is_key word = is_in_range 1 5 (kind_in word) && is_owned word

abbrev pub is_key_of : ℕ → ℕ → Bool
is_key_of kind word = (kind_in word == kind) && is_owned word

abbrev pub is_place : ℕ → Bool
is_place word = is_key_of 0 word

-- whether the number of the message is one of these
abbrev pub is_one_of : List ℕ → Rows → Bool
is_one_of tags r = list_any (λ tag. r.tag == tag) tags

-- whether it is an ObtainReq with one of these forms of target; whether it is a message with an
-- object of one of these kinds
abbrev pub has_form : List ℕ → Rows → Bool
has_form forms r = (r.tag == 1) && list_any (λ form. r.form == form) forms

abbrev pub has_kind : List ℕ → Rows → Bool
has_kind kinds r = is_one_of (2 ∷ 4 ∷ []) r && list_any (λ kind. r.kind == kind) kinds

-- a row after the first byte: its place, its number, whether the message uses it, and, if it does,
-- whether it allows that number
pub record Row : Type 0 where
  pub at : ℕ
  pub number : ℕ
  pub is_used : Bool
  pub is_allowed : Bool

abbrev pub row_with : ℕ → ℕ → Bool → Bool → Row
row_with at number used allowed = record { at = at; number = number; is_used = used; is_allowed = allowed }

-- a row that no message uses
abbrev pub gap : ℕ → ℕ → Row
gap at number = row_with at number false true

-- what the rows of an object may hold, by its kind
abbrev pub main_allowed : Rows → Bool
main_allowed r =
    if r.kind == 1 then nat_lt r.main (2 ^ 32)
    else if r.kind == 2 then is_in_range 1 SLOTS r.main
    else if r.kind == 3 then is_key_of 2 r.main
    else if r.kind == 4 then nat_lt r.main (2 ^ 8)
    else is_key_of 4 r.main

abbrev pub more_allowed : Rows → Bool
more_allowed r =
    if r.kind == 1 then nat_lt r.more (2 ^ 32) && nat_le (r.main + r.more) ADDRESSES
    else if r.kind == 3 then nat_lt r.more (2 ^ 32)
    else nat_lt r.more VPES

abbrev pub last_allowed : Rows → Bool
last_allowed r = if r.kind == 1 then nat_le r.last RIGHTS else is_in_range 1 SLOTS r.last

-- the form of a target, a code, or yes or no
abbrev pub form_allowed : Rows → Bool
form_allowed r = if r.tag == 1 then is_in_range 1 3 r.form else if r.tag == 7 then nat_le r.form 1
    else is_in_range 1 15 r.form

abbrev pub first_allowed : Rows → Bool
first_allowed r = if is_one_of (1 ∷ 3 ∷ []) r then is_place r.first else is_key r.first

abbrev pub second_allowed : Rows → Bool
second_allowed r = if r.tag == 1 then is_key_of 4 r.second else is_key r.second

-- the object has the kind of the key, and in a delegation the kind of the parent: memory or a gate
abbrev pub kind_allowed : Rows → Bool
kind_allowed r = if r.tag == 2 then r.kind == kind_in r.second
    else is_in_range 1 3 r.kind && (r.kind == kind_in r.first)

abbrev pub grammar : Rows → List Row
grammar r =
    row_with 1 r.form (is_one_of (1 ∷ 3 ∷ 6 ∷ 7 ∷ []) r) (form_allowed r)
    ∷ row_with 2 r.vpe (has_form (1 ∷ []) r || is_one_of (4 ∷ []) r) (nat_lt r.vpe VPES)
    ∷ row_with 4 r.index (has_form (1 ∷ 3 ∷ []) r || is_one_of (4 ∷ []) r) (nat_lt r.index (2 ^ 8))
    ∷ gap 6 r.after_index
    ∷ row_with 8 r.first (not (is_one_of (10 ∷ []) r)) (first_allowed r)
    ∷ row_with 16 r.second (has_form (2 ∷ 3 ∷ []) r || is_one_of (2 ∷ 5 ∷ 8 ∷ 11 ∷ []) r) (second_allowed r)
    ∷ row_with 24 r.job (is_one_of (9 ∷ 10 ∷ []) r) true
    ∷ row_with 28 r.kind (is_one_of (2 ∷ 4 ∷ []) r) (kind_allowed r)
    ∷ gap 29 r.after_kind
    ∷ row_with 32 r.main (is_one_of (2 ∷ 4 ∷ []) r) (main_allowed r)
    ∷ row_with 40 r.more (has_kind (1 ∷ 3 ∷ 5 ∷ []) r) (more_allowed r)
    ∷ row_with 48 r.last (has_kind (1 ∷ 3 ∷ []) r) (last_allowed r)
    ∷ gap 56 r.after_last
    ∷ []

-- a used row must hold an allowed number, and every other row must be 0
abbrev pub row_fault : Row → Option WireFault
row_fault row_with =
    if row_with.is_used then (if row_with.is_allowed then None else Some (Field row_with.at))
    else if row_with.number == 0 then None
    else Some (Padding row_with.at)

-- the fault of the first wrong row
unfoldable pub first_wire_fault : List Row → Option WireFault
first_wire_fault [] = None
first_wire_fault (row_with ∷ rows) =
    elim (row_fault row_with) [ Some fault ↦ Some fault | None ↦ first_wire_fault rows ]

-- what is wrong with a record with these numbers in its rows
abbrev pub wire_fault : Rows → Option WireFault
wire_fault r = if is_in_range 1 11 r.tag then first_wire_fault (grammar r) else Some Tag
