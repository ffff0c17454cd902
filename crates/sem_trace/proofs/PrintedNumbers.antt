-- A number that is read is the one that is printed; the parts of a word with points.
use Rattle.std.proofs.Common.{◌≡◌, ℕ, ◌+◌, ◌-◌, ◌*◌, ◌^◌, ◌<◌, ◌≤◌, ◌==◌, Bool, true, false, ◌&&◌, not, nat_le, nat_lt, true≢false, List, [], ◌∷◌, ◌++◌, length}
use Rattle.std.proofs.Common.{take, drop, Result, Ok, Err, Some, None, inl, inr, refl, sym, ap, ◌∙◌, arith, decimal, append-nil, append_assoc, take-append-drop}
use Rattle.std.proofs.Common.{length-drop}
use Rattle.std.specs.Result.{is_ok}
use Rattle.std.specs.List.{list_all, All, fold, position_or_len, join_with_byte}
use Rattle.std.proofs.Math.Seq.{take-length, drop-length}
use Rattle.std.proofs.lemmas.Bool.{cases_Bool}
use Rattle.std.proofs.lemmas.Bool.Decides.{nat_tests}
use Rattle.std.proofs.lemmas.Fmt.{decimal-digits_value}
use Rattle.std.proofs.lemmas.Str.Parse.{IsNumeralModel, IsDigitsTest, numerals_by_fold}
use Rattle.std.proofs.lemmas.List.Elements.{All-nil, All-cons}
use Rattle.std.proofs.lemmas.List.Splits.{slice_split_none, join_with_byte-slice_split}
use Rattle.std.proofs.lemmas.Option.{none-some, same_Some}
use Rattle.sem_text.specs.Number.{is_digit, is_number, number_value, number_of}
use Rattle.sem_text.specs.declared.numbers.NumberFault.TheVariants.{Bad, Range}
use Rattle.sem_trace.specs.declared.fault.Cause.{Cause}
use Rattle.sem_trace.specs.declared.fault.Cause.TheVariants.{BadNumber, OutOfRange}
use Rattle.sem_trace.specs.Forms.{place_fault, parts_of, are_numbers}
use Rattle.sem_trace.specs.Forms.Place.{Number, Dotted}
use Rattle.sem_trace.proofs.FirstParts.{first_part, behind_part, split_is_cons}

pub and-left : (a b : Bool) → (a && b) ≡ true → a ≡ true
and-left true b both = refl
and-left false b both = absurd (true≢false (sym both))

pub and-right : (a b : Bool) → (a && b) ≡ true → b ≡ true
and-right true b both = both
and-right false b both = absurd (true≢false (sym both))

digit_range : (b : ℕ) → is_digit b ≡ true → (48 ≤ b) × (b ≤ 57)
digit_range b digit = (grind (arith, nat_tests), grind (arith, nat_tests))

range_digit : (b : ℕ) → 48 ≤ b → b ≤ 57 → is_digit b ≡ true
range_digit b least most = grind (arith, nat_tests)

abbrev IsDigits : List ℕ → Type 0
IsDigits ds = list_all is_digit ds ≡ true

digits_test : IsDigitsTest IsDigits
digits_test = record {
  empty = refl;
  parts = λ c cs all. (digit_range c (and-left _ _ all), and-right (is_digit c) _ all);
  more = λ c cs within all. rw (range_digit c within.0 within.1, all) refl;
}

digits_model : IsNumeralModel IsDigits number_value
digits_model = numerals_by_fold IsDigits digits_test (λ n ds. fold (λ m b. m * 10 + (b - 48)) n ds) (record { empty = λ n. refl; more = λ n c cs within. refl })

-- the word of a number is what is printed of its value
pub printed_value : (word : List ℕ) → is_number word ≡ true → number_value word < 2 ^ 64 → word ≡ decimal (number_value word)
printed_value [] number small = absurd (true≢false (sym number))
printed_value (b ∷ []) number small = sym (decimal-digits_value digits_model (b ∷ []) (rw number refl) (omega arith) (λ zero. refl) small)
printed_value (b ∷ c ∷ bs) number small =
    let all : IsDigits (b ∷ c ∷ bs) = and-left _ _ number in
    let first : not (b == 48) ≡ true = and-right (list_all is_digit (b ∷ c ∷ bs)) _ number in
    sym (decimal-digits_value digits_model (b ∷ c ∷ bs) all (omega arith) (λ zero. absurd (not_zero b first zero)) small)
  where
    not_zero : (b : ℕ) → not (b == 48) ≡ true → b ≡ 48 → ⊥
    not_zero b first zero = true≢false (sym first ∙ (rw zero refl))

clash : {E : Type 0} (e : E) (value : ℕ) → Err e ≡ Ok value → ⊥
clash e value same = true≢false (sym (ap (λ r. is_ok r) same))

value_or_0 : {E : Type 0} → Result ℕ E → ℕ
value_or_0 (Ok value) = value
value_or_0 (Err e) = 0

-- a number that is read
pub read_number : (word : List ℕ) (most value : ℕ) → value < 2 ^ 64 → number_of word most ≡ Ok value → (is_number word ≡ true) × (word ≡ decimal value)
unfolding value_or_0
read_number word most value small read =
    elim (cases_Bool (is_number word)) [
      | inl yes' ↦ elim (cases_Bool (nat_lt most (number_value word))) [
        | inl above ↦ absurd (clash Range value (rw (yes', above) at read))
        | inr within ↦
            let same : number_value word ≡ value = ap value_or_0 (rw (yes', within) at read) in
            let printed : number_value word < 2 ^ 64 → word ≡ decimal (number_value word) = printed_value word yes' in
            (yes', rw same at printed (omega arith))
      ]
      | inr no' ↦ absurd (clash Bad value (rw no' at read))
    ]

number_digits : (word : List ℕ) → is_number word ≡ true → IsDigits word
number_digits [] number = absurd (true≢false (sym number))
number_digits (b ∷ []) number = rw number refl
number_digits (b ∷ c ∷ bs) number = and-left _ _ number

no_point : (b : ℕ) → is_digit b ≡ true → (b == 46) ≡ false
no_point b digit = grind (arith, nat_tests)

no_points : (ds : List ℕ) → IsDigits ds → All (λ b. (b == 46) ≡ false) ds
no_points [] all = All-nil (λ b. (b == 46) ≡ false)
no_points (d ∷ ds) all = All-cons (λ b. (b == 46) ≡ false) d ds (no_point d (and-left _ _ all)) (no_points ds (and-right (is_digit d) _ all))

-- a number has no points
pub number_is_part : (word : List ℕ) → is_number word ≡ true → parts_of word ≡ word ∷ []
number_is_part word number = slice_split_none (λ b. b == 46) word (no_points word (number_digits word number))

and-no : (b : Bool) → (b && false) ≡ false
and-no true = refl
and-no false = refl

-- a word without a point is its only part
pub only_part : (word : List ℕ) → position_or_len (λ b. b == 46) word ≡ length word → parts_of word ≡ word ∷ []
only_part word none = first_part (λ b. b == 46) word ∙ (rw (none, drop-length, take-length) refl)

-- a word that should be one number
pub one_number : (range : ℕ × ℕ) (word : List ℕ) → are_numbers (range ∷ []) (parts_of word) ≡ is_number word
unfolding are_numbers
one_number range word =
    elim (cases_Bool (is_number word)) [
      | inl yes' ↦ rw (number_is_part word yes', yes') refl
      | inr no' ↦ rw no' (elim (behind_part (λ b. b == 46) word) [
        | inl nothing ↦ rw (first_part (λ b. b == 46) word, nothing) (rw (whole word nothing, no') refl)
        | inr (b, bs, is, point) ↦
            let split = split_is_cons (λ b. b == 46) bs in
            rw (first_part (λ b. b == 46) word, is, point, split.2) (and-no _)
      ])
    ]
  where
    whole : (word : List ℕ) → drop (position_or_len (λ b. b == 46) word) word ≡ [] → take (position_or_len (λ b. b == 46) word) word ≡ word
    whole word nothing =
        let all : take (position_or_len (λ b. b == 46) word) word ++ drop (position_or_len (λ b. b == 46) word) word ≡ word =
        take-append-drop (position_or_len (λ b. b == 46) word) word in
        sym (append-nil _) ∙ (rw nothing at all)

-- the number in its range, where the word is a number
pub in_range : (least most : ℕ) (word : List ℕ) → is_number word ≡ true → place_fault (Number least most) word ≡ None →
    (nat_le least (number_value word) && nat_le (number_value word) most) ≡ true
in_range least most word number fits =
    elim (cases_Bool (nat_le least (number_value word) && nat_le (number_value word) most)) [
      | inl within ↦ within
      | inr beyond ↦ absurd (none-some OutOfRange (sym (rw (number, beyond) at fits)))
    ]

pub out_of_range : (least most : ℕ) (word : List ℕ) (cause : Cause) → is_number word ≡ true → place_fault (Number least most) word ≡ Some cause →
    (cause ≡ OutOfRange) × ((nat_le least (number_value word) && nat_le (number_value word) most) ≡ false)
out_of_range least most word cause number fault =
    elim (cases_Bool (nat_le least (number_value word) && nat_le (number_value word) most)) [
      | inl within ↦ absurd (none-some cause (rw (number, within) at fault))
      | inr beyond ↦ (same_Some cause OutOfRange (sym (rw (number, beyond) at fault)), beyond)
    ]

-- a word with fewer parts than there should be numbers
pub too_few : (ranges : List (ℕ × ℕ)) (parts : List (List ℕ)) → length parts < length ranges → are_numbers ranges parts ≡ false
unfolding are_numbers
too_few [] parts few = absurd (omega arith)
too_few (range ∷ ranges) [] few = refl
too_few (range ∷ ranges) (part ∷ parts) few = rw (too_few ranges parts (omega arith)) (and-no (is_number part))

pub few_parts : (ranges : List (ℕ × ℕ)) (word : List ℕ) (cause : Cause) → cause ≡ BadNumber → length (parts_of word) < length ranges →
    place_fault (Dotted ranges) word ≡ Some cause
few_parts ranges word cause is few = rw (is, too_few ranges (parts_of word) few) refl

-- the part before a point, where the text is not so many numbers
pub first_not_number : (part : List ℕ) (rest : List (List ℕ)) (ranges : List (ℕ × ℕ)) (range : ℕ × ℕ) → is_number part ≡ false →
    are_numbers (range ∷ ranges) (part ∷ rest) ≡ false
unfolding are_numbers
first_not_number part rest ranges range no' = rw no' refl

pub short_parts : (text : List ℕ) (ranges : List (ℕ × ℕ)) (a b : ℕ × ℕ) → parts_of text ≡ text ∷ [] → are_numbers (a ∷ b ∷ ranges) (parts_of text) ≡ false
unfolding are_numbers
short_parts text ranges a b is = rw is (and-no (is_number text))

-- a text that is cut at its first point
pub cut_at_point : (text : List ℕ) (at : ℕ) (front rest behind : List ℕ) → at ≡ position_or_len (λ b. b == 46) text → at < length text → front ≡ take at text →
    behind ≡ drop 1 rest → rest ≡ drop at text → parts_of text ≡ front ∷ parts_of behind
cut_at_point text at front rest behind first within front_is behind_is rest_is =
    rw (front_is, behind_is, rest_is, first) (elim (behind_part (λ b. b == 46) text) [
      | inl nothing ↦ absurd (let none : length (drop (position_or_len (λ b. b == 46) text) text) ≡ 0 = ap length nothing in
          omega (arith, length-drop (position_or_len (λ b. b == 46) text) text))
      | inr (b, bs, is, point) ↦ first_part (λ b. b == 46) text ∙ (rw (is, point) refl)
    ])

-- a word whose parts these are
pub joined : (word : List ℕ) (parts : List (List ℕ)) → parts_of word ≡ parts → word ≡ join_with_byte 46 parts
joined word parts is = sym (join_with_byte-slice_split 46 word) ∙ ap (join_with_byte 46) is

pub in_row3 : (a b c : List ℕ) → join_with_byte 46 (a ∷ b ∷ c ∷ []) ≡ a ++ 46 ∷ b ++ 46 ∷ c
in_row3 a b c = simp append_assoc

pub in_row4 : (a b c d : List ℕ) → join_with_byte 46 (a ∷ b ∷ c ∷ d ∷ []) ≡ a ++ 46 ∷ b ++ 46 ∷ c ++ 46 ∷ d
in_row4 a b c d = simp append_assoc
