-- Numbers read digit by digit.
use Rattle.std.proofs.Common.{◌≡◌, ℕ, ◌+◌, ◌-◌, ◌*◌, ◌/◌, ◌%◌, ◌<◌, ◌≤◌, true, List, [], ◌∷◌, ◌++◌, length, take, drop, get_or, decimal, Err, refl, ap, sym}
use Rattle.std.proofs.Common.{◌∙◌, append_assoc, arith}
use Rattle.std.specs.List.{fold}
use Rattle.std.proofs.lemmas.Bool.Decides.{nat_tests}
use Rattle.std.proofs.lemmas.Fmt.{decimal_step}
use Rattle.std.proofs.lemmas.Grind.{common_steps}
use Rattle.std.proofs.lemmas.List.Sums.{fold-append}
use Rattle.std.proofs.lemmas.List.{take-append-drop}
use Rattle.sem_text.specs.Number.{is_number, number_value, number_of, three_digits}
use Rattle.sem_text.specs.declared.numbers.NumberFault.TheVariants.{Range}

-- more digits make a value no smaller
pub fold_grows : (n : ℕ) (word : List ℕ) → n ≤ fold (λ n b. n * 10 + (b - 48)) n word
fold_grows n [] = omega arith
fold_grows n (b ∷ bs) = let tail = fold_grows (n * 10 + (b - 48)) bs in omega arith

-- a value that is out of range stays so with more digits
pub out_of_range : (word : List ℕ) (i most : ℕ) → is_number word ≡ true → i < length word → most < number_value (take i word) * 10 + (get_or word i 0 - 48) →
    number_of word most ≡ Err Range
out_of_range word i most number within above =
    let step : number_value (take (i + 1) word) ≡ number_value (take i word) * 10 + (get_or word i 0 - 48) = grind (arith, common_steps) in
    let whole : fold (λ n b. n * 10 + (b - 48)) (number_value (take (i + 1) word)) (drop (i + 1) word) ≡ number_value word =
    rw (← fold-append, take-append-drop) refl in
    let grows = fold_grows (number_value (take (i + 1) word)) (drop (i + 1) word) in
    let more : most < number_value word = omega arith in
    grind (arith, nat_tests)

-- a number of several digits is written as its front, and its last digit behind that
pub last_digit : (out : List ℕ) (n : ℕ) → 10 ≤ n → n < 1000 → out ++ decimal (n / 10) ++ (48 + n % 10) ∷ [] ≡ out ++ decimal n
last_digit out n more few = append_assoc out (decimal (n / 10)) ((48 + n % 10) ∷ []) ∙ ap (λ ds. out ++ ds) (sym (decimal_step n more (omega arith)))

joined : (ds : List ℕ) (a b c : ℕ) → ((ds ++ (a ∷ [])) ++ (b ∷ [])) ++ (c ∷ []) ≡ ds ++ (a ∷ b ∷ c ∷ [])
joined ds a b c = append_assoc (ds ++ (a ∷ [])) (b ∷ []) (c ∷ []) ∙ append_assoc ds (a ∷ []) (b ∷ c ∷ [])

-- a number of more than three digits is written as its front, and its last three digits behind that
pub last_digits : (out : List ℕ) (n : ℕ) → 1000 ≤ n → n < 4294967296 → (out ++ decimal (n / 1000)) ++ three_digits (n % 1000) ≡ out ++ decimal n
last_digits out n more few =
    let front : n / 10 / 10 / 10 ≡ n / 1000 = omega arith in
    let a : n / 10 / 10 % 10 ≡ n % 1000 / 100 = omega arith in
    let b : n / 10 % 10 ≡ n % 1000 / 10 % 10 = omega arith in
    let c : n % 10 ≡ n % 1000 % 10 = omega arith in
    let steps : decimal n ≡ ((decimal (n / 10 / 10 / 10) ++ ((48 + n / 10 / 10 % 10) ∷ [])) ++ ((48 + n / 10 % 10) ∷ [])) ++ ((48 + n % 10) ∷ []) =
    decimal_step n (omega arith) (omega arith)
    ∙ ap (λ ds. ds ++ ((48 + n % 10) ∷ [])) (decimal_step (n / 10) (omega arith) (omega arith)
    ∙ ap (λ ds. ds ++ ((48 + n / 10 % 10) ∷ [])) (decimal_step (n / 10 / 10) (omega arith) (omega arith))) in
    let same : decimal (n / 10 / 10 / 10) ++ ((48 + n / 10 / 10 % 10) ∷ (48 + n / 10 % 10) ∷ (48 + n % 10) ∷ []) ≡ decimal (n / 1000)
    ++ three_digits (n % 1000) =
    λ i. decimal (front i) ++ ((48 + a i) ∷ (48 + b i) ∷ (48 + c i) ∷ []) in
    append_assoc out (decimal (n / 1000)) (three_digits (n % 1000))
    ∙ ap (λ ds. out ++ ds) (sym (steps ∙ (joined _ _ _ _ ∙ same)))
