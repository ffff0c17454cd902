-- Numbers in a text ("Lines and words" in docs/texts.md).
use Rattle.std.specs.Prelude.{ℕ, ◌+◌, ◌-◌, ◌*◌, ◌/◌, ◌%◌, ◌==◌, nat_lt, nat_le, Bool, false, not, ◌&&◌, List, [], ◌∷◌}
use Rattle.std.specs.Prelude.{fold, Result, Ok, Err, if◌then◌else◌}
use Rattle.std.specs.List.{list_all}
use Rattle.sem_text.specs.declared.numbers.NumberFault.{NumberFault}
use Rattle.sem_text.specs.declared.numbers.NumberFault.TheVariants.{Bad, Range}

abbrev pub is_digit : ℕ → Bool
is_digit b = nat_le 48 b && nat_le b 57

-- a number is 0, or digits that do not begin with 0
abbrev pub is_number : List ℕ → Bool
is_number [] = false
is_number (b ∷ []) = is_digit b
is_number (b ∷ c ∷ bs) = list_all is_digit (b ∷ c ∷ bs) && not (b == 48)

-- its value
abbrev pub number_value : List ℕ → ℕ
number_value word = fold (λ n b. n * 10 + (b - 48)) 0 word

-- the number that a word is, if it is one and not above the limit
abbrev pub number_of : List ℕ → ℕ → Result ℕ NumberFault
number_of word most = if not (is_number word) then Err Bad
    else (if nat_lt most (number_value word) then Err Range else Ok (number_value word))

-- the last three digits of a number, as text
abbrev pub three_digits : ℕ → List ℕ
three_digits n = (48 + n / 100) ∷ (48 + n / 10 % 10) ∷ (48 + n % 10) ∷ []
