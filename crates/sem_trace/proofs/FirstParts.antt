-- The first line of a text and the first word of a line.
use Rattle.std.proofs.Common.{◌≡◌, ◌≢◌, ℕ, suc, ◌+◌, ◌<◌, ◌≤◌, ◌==◌, ◌⊎◌, inl, inr, Bool, true, false, cond, not, true≢false, min, List, [], ◌∷◌, length, take, get_or}
use Rattle.std.proofs.Common.{drop, Some, None, ap, sym, ◌∙◌, refl, arith, drop-drop, one-add, length-drop, length-take, eq-eqb, eqb-true}
use Rattle.std.specs.List.{filter, slice_split, prefix_len, position_or_len}
use Rattle.std.proofs.lemmas.Bool.{cases_Bool}
use Rattle.std.proofs.lemmas.Bool.Decides.{nat_tests}
use Rattle.std.proofs.lemmas.List.{drop_all, drop_min, drop-take}
use Rattle.std.proofs.lemmas.Option.{none-some, same_Some}
use Rattle.std.proofs.lemmas.List.Sums.{prefix_len-le-length, count_by-le-length, length-filter}
use Rattle.std.proofs.lemmas.List.Splits.{length-slice_split}
use Rattle.std.specs.List.{count_by}
use Rattle.sem_text.specs.Words.{is_blank, word_from}
use Rattle.sem_text.specs.Lines.{line_from}
use Rattle.sem_trace.specs.TextLines.{without_empty_last, lines_of, is_word, words_of, is_significant}

module _ (p : ℕ → Bool) where
  -- the first part ends before the first element that passes
  pub first_part : (xs : List ℕ) → slice_split p xs ≡ take (position_or_len p xs) xs ∷ drop 1 (slice_split p (drop (position_or_len p xs) xs))
  first_part [] = refl
  first_part (x ∷ xs) =
      elim (cases_Bool (p x)) [
        | inl passes ↦ rw (passes, passes) refl
        | inr fails ↦ rw (fails, one-add, first_part xs) refl
      ]

  -- what is behind it begins with that element
  rest_begins : (xs : List ℕ) → filter is_word (drop 1 (slice_split p (drop (position_or_len p xs) xs)))
      ≡ filter is_word (slice_split p (drop (position_or_len p xs) xs))
  rest_begins [] = refl
  rest_begins (x ∷ xs) =
      elim (cases_Bool (p x)) [
        | inl passes ↦ rw (passes, passes) refl
        | inr fails ↦ rw (fails, one-add) (rest_begins xs)
      ]

  -- elements that pass at the front part nothing
  skip_front : (xs : List ℕ) → filter is_word (slice_split p xs) ≡ filter is_word (slice_split p (drop (prefix_len p xs) xs))
  skip_front [] = refl
  skip_front (x ∷ xs) =
      elim (cases_Bool (p x)) [
        | inl passes ↦ rw (passes, one-add) (skip_front xs)
        | inr fails ↦ rw (fails, fails) refl
      ]

  -- behind them a part begins, or nothing is left
  part_begins : (xs : List ℕ) → prefix_len p xs ≢ length xs → is_word (take (position_or_len p (drop (prefix_len p xs) xs)) (drop (prefix_len p xs) xs)) ≡ true
  part_begins [] more = absurd (more refl)
  part_begins (x ∷ xs) more =
      elim (cases_Bool (p x)) [
        | inl passes ↦ rw (passes, one-add) (part_begins xs (λ e. more (rw (passes, e) (omega arith))))
        | inr fails ↦ rw (fails, fails, one-add) refl
      ]

  -- the first part that is not empty
  first_filled : (xs : List ℕ) → prefix_len p xs ≢ length xs →
      filter is_word (slice_split p xs) ≡ take (position_or_len p (drop (prefix_len p xs) xs)) (drop (prefix_len p xs) xs)
      ∷ filter is_word (slice_split p (drop (position_or_len p (drop (prefix_len p xs) xs)) (drop (prefix_len p xs) xs)))
  first_filled xs more =
      let rest : List ℕ = drop (prefix_len p xs) xs in
      skip_front xs ∙ (rw (first_part rest, part_begins xs more) (ap (λ parts. take (position_or_len p rest) rest ∷ parts) (rest_begins rest)))

  -- a split has a part
  pub split_is_cons : (xs : List ℕ) → (part : List ℕ) × (parts : List (List ℕ)) × (slice_split p xs ≡ part ∷ parts)
  split_is_cons xs = (_, _, first_part xs)

  -- what stands behind the first part: nothing, or an element that passes
  pub behind_part : (xs : List ℕ) → (drop (position_or_len p xs) xs ≡ []) ⊎ ((x : ℕ) × (rest : List ℕ) × (drop (position_or_len p xs) xs ≡ x ∷ rest)
      × (p x ≡ true))
  behind_part [] = inl refl
  behind_part (x ∷ xs) =
      elim (cases_Bool (p x)) [
        | inl passes ↦ inr (x, xs, rw passes refl, passes)
        | inr fails ↦ rw (fails, one-add) (behind_part xs)
      ]

-- what a first word is
pub record FirstWord (line : List ℕ) (begin end : ℕ) : Type 0 where
  pub within : end ≤ length line
  pub begins : begin ≤ end
  pub words : words_of line ≡ drop begin (take end line) ∷ words_of (drop end line)

found_word : (line : List ℕ) (n : ℕ) → n ≡ prefix_len is_blank line → n ≢ length line → FirstWord line n (n + prefix_len (λ b. not (is_blank b)) (drop n line))
unfolding words_of
found_word line n is more =
    let m : ℕ = prefix_len (λ b. not (is_blank b)) (drop n line) in
    let front : prefix_len is_blank line ≤ length line = prefix_len-le-length is_blank line in
    let word : m ≤ length (drop n line) = prefix_len-le-length (λ b. not (is_blank b)) (drop n line) in
    record {
      within = omega (arith, length-drop n line);
      begins = omega arith;
      words = rw (drop-take n m line, ← drop-drop m n line, is) (first_filled is_blank line (λ e. more (is ∙ e)));
    }

found_cond : {X : Type 0} (b : Bool) (x y : X) → Some x ≡ cond b None (Some y) → (b ≡ false) × (x ≡ y)
found_cond true x y found = absurd (none-some x (sym found))
found_cond false x y found = (refl, same_Some x y found)

none_cond : {X : Type 0} (b : Bool) (y : X) → cond b None (Some y) ≡ None → b ≡ true
none_cond true y found = refl
none_cond false y found = absurd (none-some y (sym found))

pub word_found : (line : List ℕ) (begin end : ℕ) → Some (begin, end) ≡ word_from line 0 → FirstWord line begin end
word_found line begin end found =
    let n : ℕ = 0 + prefix_len is_blank line in
    let h : ((n == length line) ≡ false) × ((begin, end) ≡ (n, n + prefix_len (λ b. not (is_blank b)) (drop n line))) = found_cond (n == length line) (
      begin,
      end,
    ) (n, n + prefix_len (λ b. not (is_blank b)) (drop n line)) found in
    let begins : begin ≡ n = ap (λ (q : ℕ × ℕ). q.0) h.1 in
    let ends : end ≡ n + prefix_len (λ b. not (is_blank b)) (drop n line) = ap (λ (q : ℕ × ℕ). q.1) h.1 in
    rw (begins, ends) (found_word line n (omega arith) (λ e. true≢false (sym (eq-eqb _ _ e) ∙ h.0)))

-- a byte that is no blank begins the first word
begins_word : (b : ℕ) (bs : List ℕ) → is_blank b ≡ false → is_significant (words_of (b ∷ bs)) ≡ not (b == 35)
unfolding words_of
begins_word b bs other = rw (first_part is_blank (b ∷ bs), other, one-add) refl

no_blank : (b : ℕ) → 32 < b → is_blank b ≡ false
no_blank b above = grind (arith, nat_tests)

-- a byte above the blank tells whether the line says something
pub first_byte : (line : List ℕ) → 1 ≤ length line → 32 < get_or line 0 0 → is_significant (words_of line) ≡ not (get_or line 0 0 == 35)
first_byte [] some above = absurd (omega arith)
first_byte (b ∷ bs) some above = begins_word b bs (no_blank b above)

-- a word of one byte between a blank and a blank or the end
byte_word : (b : ℕ) (bs : List ℕ) → is_blank b ≡ false → words_of (32 ∷ b ∷ 32 ∷ bs) ≡ (b ∷ []) ∷ words_of (32 ∷ bs)
unfolding words_of
byte_word b bs other = rw other refl

last_byte_word : (b : ℕ) → is_blank b ≡ false → words_of (32 ∷ b ∷ []) ≡ (b ∷ []) ∷ words_of []
unfolding words_of
last_byte_word b other = rw other refl

pub byte_word_first : (line : List ℕ) → 3 ≤ length line → get_or line 0 0 ≡ 32 → 32 < get_or line 1 0 → get_or line 2 0 ≡ 32 →
    words_of line ≡ drop 1 (take 2 line) ∷ words_of (drop 2 line)
byte_word_first [] long first above third = absurd (omega arith)
byte_word_first (a ∷ []) long first above third = absurd (omega arith)
byte_word_first (a ∷ b ∷ []) long first above third = absurd (omega arith)
byte_word_first (a ∷ b ∷ c ∷ bs) long first above third = rw (first, third) (byte_word b bs (no_blank b above))

pub byte_word_last : (line : List ℕ) → length line ≡ 2 → get_or line 0 0 ≡ 32 → 32 < get_or line 1 0 →
    words_of line ≡ drop 1 (take 2 line) ∷ words_of (drop 2 line)
byte_word_last [] two first above = absurd (omega arith)
byte_word_last (a ∷ []) two first above = absurd (omega arith)
byte_word_last (a ∷ b ∷ []) two first above = rw first (last_byte_word b (no_blank b above))
byte_word_last (a ∷ b ∷ c ∷ bs) two first above = absurd (omega arith)

pub no_word : (line : List ℕ) → word_from line 0 ≡ None → words_of line ≡ []
unfolding words_of
no_word line found =
    let n : ℕ = 0 + prefix_len is_blank line in
    let all : n ≡ length line = eqb-true _ _ (none_cond (n == length line) (n, n + prefix_len (λ b. not (is_blank b)) (drop n line)) found) in
    let past : drop (prefix_len is_blank line) line ≡ [] = drop_all (prefix_len is_blank line) line (omega arith) in
    skip_front is_blank line ∙ (rw past refl)

-- a part before another stays
keep_first : (first part : List ℕ) (parts : List (List ℕ)) → without_empty_last (first ∷ part ∷ parts) ≡ first ∷ without_empty_last (part ∷ parts)
keep_first [] part parts = refl
keep_first (b ∷ bs) part parts = refl

-- a last part stays where it is not empty
keep_last : (part : List ℕ) → 0 < length part → without_empty_last (part ∷ []) ≡ part ∷ []
keep_last [] some = absurd (omega arith)
keep_last (b ∷ bs) some = refl

-- the lines of a text whose first line is `first`, and behind which `rest` stands
lines_behind : (first rest : List ℕ) → 0 < length first + length rest → (rest ≡ []) ⊎ ((b : ℕ) × (bs : List ℕ) × (rest ≡ b ∷ bs) × ((b == 10) ≡ true)) →
    without_empty_last (first ∷ drop 1 (slice_split (λ b. b == 10) rest)) ≡ first ∷ without_empty_last (slice_split (λ b. b == 10) (drop 1 rest))
lines_behind first rest some (inl none) = rw none (keep_last first (let short : length rest ≡ 0 = ap length none in omega arith))
lines_behind first rest some (inr (b, bs, is, ends)) =
    let split = split_is_cons (λ b. b == 10) bs in
    rw (is, ends, split.2) (keep_first first split.0 split.1)

-- what a first line is
pub record FirstLine (text : List ℕ) (end next : ℕ) : Type 0 where
  pub within : end ≤ length text
  pub next_within : next ≤ length text
  pub some : 0 < next
  pub lines : lines_of text ≡ take end text ∷ lines_of (drop next text)

found_line : (text : List ℕ) → 0 < length text →
    FirstLine text (position_or_len (λ b. b == 10) text) (min (position_or_len (λ b. b == 10) text + 1) (length text))
unfolding lines_of
found_line text some =
    let n : ℕ = position_or_len (λ b. b == 10) text in
    let front : n ≤ length text = prefix_len-le-length (λ b. not (b == 10)) text in
    let long : 0 < length (take n text) + length (drop n text) = omega (arith, length-drop n text, length-take n text) in
    record {
      within = front;
      next_within = omega arith;
      some = omega arith;
      lines = rw (drop_min (n + 1) text, ← drop-drop 1 n text) (ap without_empty_last (first_part (λ b. b == 10) text)
          ∙ lines_behind (take n text) (drop n text) long (behind_part (λ b. b == 10) text));
    }

pub line_found : (text : List ℕ) (end next : ℕ) → Some (end, next) ≡ line_from text 0 → FirstLine text end next
line_found text end next found =
    let n : ℕ = 0 + position_or_len (λ b. b == 10) text in
    let h : ((0 == length text) ≡ false) × ((end, next) ≡ (n, min (n + 1) (length text))) = found_cond (0 == length text) (end, next) (
      n,
      min (n + 1) (length text),
    ) found in
    let ends : end ≡ n = ap (λ (q : ℕ × ℕ). q.0) h.1 in
    let begins : next ≡ min (n + 1) (length text) = ap (λ (q : ℕ × ℕ). q.1) h.1 in
    let zero : n ≡ position_or_len (λ b. b == 10) text = omega arith in
    let some : 0 ≢ length text = λ e. true≢false (sym (eq-eqb _ _ e) ∙ h.0) in
    rw (begins, ends, zero) (found_line text (omega arith))

pub no_line : (text : List ℕ) → line_from text 0 ≡ None → lines_of text ≡ []
unfolding lines_of
no_line [] found = refl
no_line (b ∷ bs) found =
    let n : ℕ = 0 + position_or_len (λ b. b == 10) (b ∷ bs) in
    let none : 0 ≡ length (b ∷ bs) = eqb-true _ _ (none_cond (0 == length (b ∷ bs)) (n, min (n + 1) (length (b ∷ bs))) found) in
    absurd (omega arith)

-- a first line that goes on
goes_on : (x n : ℕ) (part : List ℕ) (parts : List (List ℕ)) → length (without_empty_last (part ∷ parts)) ≤ n →
    length (without_empty_last ((x ∷ part) ∷ parts)) ≤ suc n
goes_on x n [] [] few = omega arith
goes_on x n (b ∷ bs) [] few = omega arith
goes_on x n [] (p ∷ parts) few = omega arith
goes_on x n (b ∷ bs) (p ∷ parts) few = omega arith

-- there are no more words than bytes, or one more
pub few_words : (line : List ℕ) → length (words_of line) ≤ length line + 1
unfolding words_of
few_words line =
    let parts : length (slice_split is_blank line) ≡ count_by is_blank line + 1 = length-slice_split is_blank line in
    let words : length (filter is_word (slice_split is_blank line)) ≡ count_by is_word (slice_split is_blank line) =
    length-filter is_word (slice_split is_blank line) in
    let blanks : count_by is_blank line ≤ length line = count_by-le-length is_blank line in
    let full : count_by is_word (slice_split is_blank line) ≤ length (slice_split is_blank line) = count_by-le-length is_word (slice_split is_blank line) in
    omega arith

-- there are no more lines than bytes
pub few_lines : (text : List ℕ) → length (lines_of text) ≤ length text
unfolding lines_of
few_lines [] = omega arith
few_lines (x ∷ xs) =
    let split = split_is_cons (λ b. b == 10) xs in
    let rest : length (without_empty_last (slice_split (λ b. b == 10) xs)) ≤ length xs = few_lines xs in
    elim (cases_Bool (x == 10)) [
      | inl ends ↦ rw (ends, split.2) (let r : length (without_empty_last (split.0 ∷ split.1)) ≤ length xs = rw split.2 at rest in omega arith)
      | inr other ↦ rw (other, split.2) (goes_on x (length xs) split.0 split.1 (rw split.2 at rest))
    ]
