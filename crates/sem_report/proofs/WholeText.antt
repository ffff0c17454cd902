-- A printed text in lines with their ends.
use Rattle.std.proofs.Common.{◌≡◌, ℕ, zero, suc, ◌/◌, ◌%◌, ◌<◌, ◌==◌, Bool, true, false, ◌&&◌, not, List, [], ◌∷◌, ◌++◌, map, ap, ◌∙◌, refl, arith}
use Rattle.std.proofs.Common.{append_assoc, decimal, inl, inr, lt-ltb}
use Rattle.std.specs.List.{list_all, onto_first}
use Rattle.std.specs.Fmt.{digits, digits_onto, digit_glyph}
use Rattle.std.proofs.lemmas.Bool.{cases_Bool}
use Rattle.std.proofs.lemmas.Bool.Decides.{nat_tests}
use Rattle.std.proofs.lemmas.List.Folds.{list_all-append}
use Rattle.sem_text.specs.Lines.{behind_blanks, line, text}
use Rattle.sem_trace.specs.TextLines.{is_word, words_of}
use Rattle.sem_report.specs.WholeLines.{whole_lines, content}
use Rattle.sem_report.specs.ReportRefusal.{words_in}
use Rattle.sem_reader.proofs.PlainText.{is_plain, is_plain_word, are_plain, and-left, and-right, bare, words_printed}

pub both : (a b : Bool) → a ≡ true → b ≡ true → (a && b) ≡ true
both a b first second = rw (first, second) refl

-- each number is printed as a plain word
digit_plain : (d : ℕ) → d < 10 → is_plain (digit_glyph false d) ≡ true
digit_plain d small = rw (lt-ltb d 10 small) (grind (arith, nat_tests))

onto_plain : (k n : ℕ) (acc : List ℕ) → list_all is_plain acc ≡ true → list_all is_plain (digits_onto k 10 false n acc) ≡ true
onto_plain zero n acc plain = plain
onto_plain (suc k) n acc plain =
    let more : list_all is_plain (digit_glyph false (n % 10) ∷ acc) ≡ true = both _ _ (digit_plain (n % 10) (omega arith)) plain in
    elim (cases_Bool (n / 10 == 0)) [
      | inl last ↦ rw last more
      | inr going ↦ rw going (onto_plain k (n / 10) (digit_glyph false (n % 10) ∷ acc) more)
    ]

onto_word : (k n : ℕ) (acc : List ℕ) → is_word acc ≡ true → is_word (digits_onto k 10 false n acc) ≡ true
onto_word zero n acc word = word
onto_word (suc k) n acc word =
    elim (cases_Bool (n / 10 == 0)) [
      | inl last ↦ rw last refl
      | inr going ↦ rw going (onto_word k (n / 10) (digit_glyph false (n % 10) ∷ acc) refl)
    ]

first_word : (k n : ℕ) → is_word (digits_onto (suc k) 10 false n []) ≡ true
first_word k n =
    elim (cases_Bool (n / 10 == 0)) [
      | inl last ↦ rw last refl
      | inr going ↦ rw going (onto_word k (n / 10) (digit_glyph false (n % 10) ∷ []) refl)
    ]

pub decimal_plain : (n : ℕ) → is_plain_word (decimal n) ≡ true
unfolding digits
decimal_plain n = both _ _ (first_word 63 n) (onto_plain 64 n [] refl)

-- a printed line holds no line end but its own
abbrev pub is_inside : ℕ → Bool
is_inside b = not (b == 10)

plain_inside : (b : ℕ) → is_plain b ≡ true → is_inside b ≡ true
plain_inside b plain = grind (arith, nat_tests)

word_inside : (w : List ℕ) → list_all is_plain w ≡ true → list_all is_inside w ≡ true
word_inside [] plain = refl
word_inside (b ∷ bs) plain = both _ _ (plain_inside b (and-left _ _ plain)) (word_inside bs (and-right (is_plain b) _ plain))

behind_inside : (ws : List (List ℕ)) → are_plain ws ≡ true → list_all is_inside (behind_blanks ws) ≡ true
behind_inside [] plain = refl
behind_inside (w ∷ ws) plain = list_all-append is_inside w (behind_blanks ws)
    ∙ both _ _ (word_inside w (and-right (is_word w) _ (and-left _ _ plain))) (behind_inside ws (and-right (is_plain_word w) _ plain))

bare_inside : (ws : List (List ℕ)) → are_plain ws ≡ true → list_all is_inside (bare ws) ≡ true
bare_inside [] plain = refl
bare_inside (w ∷ ws) plain = list_all-append is_inside w (behind_blanks ws)
    ∙ both _ _ (word_inside w (and-right (is_word w) _ (and-left _ _ plain))) (behind_inside ws (and-right (is_plain_word w) _ plain))

pub line_bare : (ws : List (List ℕ)) → line ws ≡ bare ws ++ 10 ∷ []
line_bare [] = refl
line_bare (w ∷ ws) = refl

other_byte : (b : ℕ) → not (b == 10) ≡ true → (b == 10) ≡ false
other_byte b inside = grind (arith, nat_tests)

inside_whole : (a x : List ℕ) → list_all is_inside a ≡ true → whole_lines (a ++ 10 ∷ x) ≡ (a ++ 10 ∷ []) ∷ whole_lines x
unfolding whole_lines
inside_whole [] x inside = refl
inside_whole (b ∷ bs) x inside = rw (other_byte b (and-left _ _ inside)) (ap (onto_first b) (inside_whole bs x (and-right (not (b == 10)) _ inside)))

inside_content : (a : List ℕ) → list_all is_inside a ≡ true → content (a ++ 10 ∷ []) ≡ a
unfolding content
inside_content [] inside = refl
inside_content (b ∷ bs) inside = rw (and-left (not (b == 10)) _ inside) (ap (λ (xs : List ℕ). b ∷ xs) (inside_content bs (and-right (not (b == 10)) _ inside)))

pub whole_line : (ws : List (List ℕ)) (x : List ℕ) → are_plain ws ≡ true → whole_lines (line ws ++ x) ≡ line ws ∷ whole_lines x
whole_line ws x plain = rw (line_bare ws) (ap whole_lines (append_assoc (bare ws) (10 ∷ []) x) ∙ inside_whole (bare ws) x (bare_inside ws plain))

pub content_line : (ws : List (List ℕ)) → are_plain ws ≡ true → content (line ws) ≡ bare ws
content_line ws plain = ap content (line_bare ws) ∙ inside_content (bare ws) (bare_inside ws plain)

pub words_line : (ws : List (List ℕ)) → are_plain ws ≡ true → words_in (line ws) ≡ ws
words_line ws plain = ap words_of (content_line ws plain) ∙ words_printed ws plain

pub whole_text : (ls : List (List (List ℕ))) → list_all are_plain ls ≡ true → whole_lines (text ls) ≡ map line ls
unfolding whole_lines
whole_text [] plain = refl
whole_text (l ∷ ls) plain = whole_line l (text ls) (and-left _ _ plain)
    ∙ ap (λ (more : List (List ℕ)). line l ∷ more) (whole_text ls (and-right (are_plain l) _ plain))
