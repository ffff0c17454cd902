-- The lines and words of a printed text are those that were printed.
use Rattle.std.proofs.Common.{◌≡◌, ℕ, zero, suc, ◌+◌, ◌*◌, ◌<◌, ◌≤◌, ◌^◌, ◌==◌, Bool, true, false, ◌&&◌, nat_le, List, [], ◌∷◌, ◌++◌, length, map, None}
use Rattle.std.proofs.Common.{true≢false, sym, ap, ◌∙◌, refl, arith, append_assoc, append-nil, decimal, length-append, le-ltb}
use Rattle.std.specs.List.{list_all, All, filter, slice_split}
use Rattle.std.proofs.lemmas.Bool.Decides.{nat_tests}
use Rattle.std.proofs.lemmas.List.Splits.{slice_split_none, slice_split_at}
use Rattle.std.proofs.lemmas.List.Elements.{All-nil, All-cons, All-append}
use Rattle.std.proofs.lemmas.List.Folds.{list_all-append}
use Rattle.sem_text.specs.Number.{is_digit, is_number}
use Rattle.sem_text.specs.Words.{is_blank}
use Rattle.sem_text.specs.Lines.{behind_blanks, line, text}
use Rattle.sem_trace.specs.TextLines.{without_empty_last, lines_of, is_word, words_of, is_text, bytes_fault}
use Rattle.sem_reader.proofs.Decimals.{digits-decimal, is_number-decimal}

-- a byte of a printed word
abbrev pub is_plain : ℕ → Bool
is_plain b = nat_le 33 b && nat_le b 126

-- a printed word, which is not empty
abbrev pub is_plain_word : List ℕ → Bool
is_plain_word w = is_word w && list_all is_plain w

abbrev pub are_plain : List (List ℕ) → Bool
are_plain ws = list_all is_plain_word ws

pub and-left : (a b : Bool) → (a && b) ≡ true → a ≡ true
and-left true b both = refl
and-left false b both = absurd (true≢false (sym both))

pub and-right : (a b : Bool) → (a && b) ≡ true → b ≡ true
and-right true b both = both
and-right false b both = absurd (true≢false (sym both))

no_blank : (b : ℕ) → is_plain b ≡ true → is_blank b ≡ false
no_blank b plain = grind (arith, nat_tests)

no_end : (b : ℕ) → is_plain b ≡ true → (b == 10) ≡ false
no_end b plain = grind (arith, nat_tests)

plain_text : (b : ℕ) → is_plain b ≡ true → is_text b ≡ true
plain_text b plain = grind (arith, nat_tests)

no_blanks : (w : List ℕ) → list_all is_plain w ≡ true → All (λ b. is_blank b ≡ false) w
no_blanks [] plain = All-nil (λ b. is_blank b ≡ false)
no_blanks (b ∷ bs) plain = All-cons (λ b. is_blank b ≡ false) b bs (no_blank b (and-left _ _ plain)) (no_blanks bs (and-right (is_plain b) _ plain))

no_ends : (w : List ℕ) → list_all is_plain w ≡ true → All (λ b. (b == 10) ≡ false) w
no_ends [] plain = All-nil (λ b. (b == 10) ≡ false)
no_ends (b ∷ bs) plain = All-cons (λ b. (b == 10) ≡ false) b bs (no_end b (and-left _ _ plain)) (no_ends bs (and-right (is_plain b) _ plain))

all_text : (w : List ℕ) → list_all is_plain w ≡ true → list_all is_text w ≡ true
all_text [] plain = refl
all_text (b ∷ bs) plain = rw (plain_text b (and-left _ _ plain), all_text bs (and-right (is_plain b) _ plain)) refl

-- digits are plain
plain-digit : (b : ℕ) → is_digit b ≡ true → is_plain b ≡ true
plain-digit b digit = grind (arith, nat_tests)

plain-digits : (ds : List ℕ) → list_all is_digit ds ≡ true → list_all is_plain ds ≡ true
plain-digits [] all = refl
plain-digits (d ∷ ds) all = rw (plain-digit d (and-left _ _ all), plain-digits ds (and-right (is_digit d) _ all)) refl

number_is_word : (w : List ℕ) → is_number w ≡ true → is_word w ≡ true
number_is_word [] number = absurd (true≢false (sym number))
number_is_word (b ∷ bs) number = refl

pub plain-decimal : (n : ℕ) → n < 2 ^ 64 → is_plain_word (decimal n) ≡ true
plain-decimal n fits = rw (number_is_word (decimal n) (is_number-decimal n fits), plain-digits (decimal n) (digits-decimal n fits).0) refl

-- a printed line without its end
abbrev pub bare : List (List ℕ) → List ℕ
bare [] = []
bare (w ∷ ws) = w ++ behind_blanks ws

split-words : (w : List ℕ) (ws : List (List ℕ)) → is_plain_word w ≡ true → are_plain ws ≡ true → slice_split is_blank (w ++ behind_blanks ws) ≡ w ∷ ws
split-words w [] plain rest = rw append-nil (slice_split_none is_blank w (no_blanks w (and-right (is_word w) _ plain)))
split-words w (v ∷ vs) plain rest =
    slice_split_at is_blank w 32 (v ++ behind_blanks vs) (no_blanks w (and-right (is_word w) _ plain)) refl
    ∙ ap (λ more. w ∷ more) (split-words v vs (and-left _ _ rest) (and-right (is_plain_word v) _ rest))

keep_words : (ws : List (List ℕ)) → are_plain ws ≡ true → filter is_word ws ≡ ws
keep_words [] plain = refl
keep_words (w ∷ ws) plain = rw (and-left (is_word w) _ (and-left _ _ plain), keep_words ws (and-right (is_plain_word w) _ plain)) refl

pub words_printed : (ws : List (List ℕ)) → are_plain ws ≡ true → words_of (bare ws) ≡ ws
unfolding words_of
words_printed [] plain = refl
words_printed (w ∷ ws) plain = ap (filter is_word) (split-words w ws (and-left _ _ plain) (and-right (is_plain_word w) _ plain)) ∙ keep_words (w ∷ ws) plain

ends-behind : (ws : List (List ℕ)) → are_plain ws ≡ true → All (λ b. (b == 10) ≡ false) (behind_blanks ws)
ends-behind [] plain = All-nil (λ b. (b == 10) ≡ false)
ends-behind (w ∷ ws) plain =
    All-cons (λ b. (b == 10) ≡ false) 32 (w ++ behind_blanks ws) refl
    (All-append (λ b. (b == 10) ≡ false) w (behind_blanks ws) (no_ends w (and-right (is_word w) _ (and-left _ _ plain)))
    (ends-behind ws (and-right (is_plain_word w) _ plain)))

ends-bare : (ws : List (List ℕ)) → are_plain ws ≡ true → All (λ b. (b == 10) ≡ false) (bare ws)
ends-bare [] plain = All-nil (λ b. (b == 10) ≡ false)
ends-bare (w ∷ ws) plain = All-append (λ b. (b == 10) ≡ false) w (behind_blanks ws) (no_ends w (and-right (is_word w) _ (and-left _ _ plain)))
    (ends-behind ws (and-right (is_plain_word w) _ plain))

line_is : (ws : List (List ℕ)) (more : List ℕ) → line ws ++ more ≡ bare ws ++ 10 ∷ more
line_is [] more = refl
line_is (w ∷ ws) more = rw append_assoc refl

split-lines : (ls : List (List (List ℕ))) → list_all are_plain ls ≡ true → slice_split (λ b. b == 10) (text ls) ≡ map bare ls ++ [] ∷ []
split-lines [] plain = refl
split-lines (l ∷ ls) plain =
    ap (slice_split (λ b. b == 10)) (line_is l (text ls))
    ∙ (slice_split_at (λ b. b == 10) (bare l) 10 (text ls) (ends-bare l (and-left _ _ plain)) refl
    ∙ ap (λ more. bare l ∷ more) (split-lines ls (and-right (are_plain l) _ plain)))

drop_last : (xs : List (List ℕ)) → without_empty_last (xs ++ [] ∷ []) ≡ xs
drop_last [] = refl
drop_last ([] ∷ []) = refl
drop_last ((b ∷ bs) ∷ []) = refl
drop_last ([] ∷ x ∷ xs) = ap (λ ys. [] ∷ ys) (drop_last (x ∷ xs))
drop_last ((b ∷ bs) ∷ x ∷ xs) = ap (λ ys. (b ∷ bs) ∷ ys) (drop_last (x ∷ xs))

pub lines_printed : (ls : List (List (List ℕ))) → list_all are_plain ls ≡ true → lines_of (text ls) ≡ map bare ls
unfolding lines_of
lines_printed ls plain = ap without_empty_last (split-lines ls plain) ∙ drop_last (map bare ls)

-- the bytes of a printed line that is short
text-behind : (ws : List (List ℕ)) → are_plain ws ≡ true → list_all is_text (behind_blanks ws) ≡ true
text-behind [] plain = refl
text-behind (w ∷ ws) plain = list_all-append is_text w (behind_blanks ws)
    ∙ (rw (all_text w (and-right (is_word w) _ (and-left _ _ plain)), text-behind ws (and-right (is_plain_word w) _ plain)) refl)

text-bare : (ws : List (List ℕ)) → are_plain ws ≡ true → list_all is_text (bare ws) ≡ true
text-bare [] plain = refl
text-bare (w ∷ ws) plain = list_all-append is_text w (behind_blanks ws)
    ∙ (rw (all_text w (and-right (is_word w) _ (and-left _ _ plain)), text-behind ws (and-right (is_plain_word w) _ plain)) refl)

pub bytes_fit : (ws : List (List ℕ)) → are_plain ws ≡ true → length (bare ws) ≤ 255 → bytes_fault (bare ws) ≡ None
unfolding bytes_fault
bytes_fit ws plain short = rw (le-ltb _ _ short, text-bare ws plain) refl

-- how long words are, each behind a blank
abbrev pub width : List (List ℕ) → ℕ
width [] = 0
width (w ∷ ws) = 1 + length w + width ws

length-behind : (ws : List (List ℕ)) → length (behind_blanks ws) ≡ width ws
length-behind [] = refl
length-behind (w ∷ ws) = let rest = length-behind ws in omega (arith, length-append w (behind_blanks ws))

pub length-bare : (ws : List (List ℕ)) → length (bare ws) ≤ width ws
length-bare [] = omega arith
length-bare (w ∷ ws) = let rest = length-behind ws in omega (arith, length-append w (behind_blanks ws))

pub length-text : (ls : List (List (List ℕ))) → All (λ ws. width ws ≤ 60) ls → length (text ls) ≤ 61 * length ls
length-text [] short = omega arith
length-text (l ∷ ls) short =
    let first : width l ≤ 60 = short zero l (omega arith) in
    let bare_ = length-bare l in
    let rest : length (text ls) ≤ 61 * length ls = length-text ls (λ k d within. short (suc k) d (omega arith)) in
    let whole : length (line l ++ text ls) ≡ length (bare l ++ 10 ∷ text ls) = ap (λ (bs : List ℕ). length bs) (line_is l (text ls)) in
    omega (arith, length-append (bare l) (10 ∷ text ls))
