-- A text as lines with their ends.
use Rattle.std.proofs.Common.{◌≡◌, ◌≢◌, ℕ, suc, ◌+◌, ◌<◌, ◌≤◌, ◌==◌, inl, inr, Bool, true, false, cond, not, true≢false, min, List, [], ◌∷◌, ◌++◌, length, take}
use Rattle.std.proofs.Common.{drop, map, Some, None, ap, sym, ◌∙◌, refl, arith, one-add, add-one, append_assoc, append-nil, eq-eqb, eqb-true, length-append}
use Rattle.std.proofs.Common.{nat_lt, ltb-true, ltb-false}
use Rattle.std.specs.List.{slice_split, onto_first, position_or_len}
use Rattle.std.proofs.Math.Seq.{take-append_seam}
use Rattle.std.proofs.lemmas.Bool.{cases_Bool}
use Rattle.std.proofs.lemmas.List.{drop_min, take_min, drop_all, take-append-drop, length-take-le}
use Rattle.std.proofs.lemmas.List.Sums.{prefix_len-le-length}
use Rattle.std.proofs.lemmas.Option.{none-some, same_Some}
use Rattle.sem_text.specs.Lines.{line_from}
use Rattle.sem_trace.specs.TextLines.{without_empty_last, lines_of}
use Rattle.sem_report.specs.WholeLines.{whole_lines, content}
use Rattle.sem_report.specs.ReportRefusal.{trace_section, is_end_line}

-- a byte that ends no line, before the lines of a text
content-onto : (b : ℕ) (lines : List (List ℕ)) → (b == 10) ≡ false → map content (onto_first b lines) ≡ onto_first b (map content lines)
unfolding content
content-onto b [] other = rw other refl
content-onto b (whole ∷ lines) other = rw other refl

split_some : (bs : List ℕ) → (part : List ℕ) × (parts : List (List ℕ)) × (slice_split (λ b. b == 10) bs ≡ part ∷ parts)
split_some [] = ([], [], refl)
split_some (b ∷ bs) =
    elim (cases_Bool (b == 10)) [
      | inl end ↦ ([], slice_split (λ b. b == 10) bs, rw end refl)
      | inr other ↦ let more = split_some bs in (b ∷ more.0, more.1, rw (other, more.2) refl)
    ]

last-onto : (b : ℕ) (part : List ℕ) (parts : List (List ℕ)) →
    without_empty_last (onto_first b (part ∷ parts)) ≡ onto_first b (without_empty_last (part ∷ parts))
last-onto b [] [] = refl
last-onto b (c ∷ cs) [] = refl
last-onto b [] (part ∷ parts) = refl
last-onto b (c ∷ cs) (part ∷ parts) = refl

ten : (b : ℕ) → (b == 10) ≡ true → b ≡ 10
ten b end = eqb-true b 10 end

keep_first : (bs : List ℕ) → without_empty_last ([] ∷ slice_split (λ b. b == 10) bs) ≡ [] ∷ without_empty_last (slice_split (λ b. b == 10) bs)
keep_first bs = let more = split_some bs in rw more.2 refl

keep_onto : (b : ℕ) (bs : List ℕ) →
    without_empty_last (onto_first b (slice_split (λ b. b == 10) bs)) ≡ onto_first b (without_empty_last (slice_split (λ b. b == 10) bs))
keep_onto b bs = let more = split_some bs in rw more.2 (last-onto b more.0 more.1)

-- the lines of a text are the whole lines without their ends
pub lines-whole : (bs : List ℕ) → lines_of bs ≡ map content (whole_lines bs)
unfolding lines_of whole_lines content
lines-whole [] = refl
lines-whole (b ∷ bs) =
    elim (cases_Bool (b == 10)) [
      | inl end ↦ rw end (keep_first bs ∙ ap (λ (ls : List (List ℕ)). [] ∷ ls) (lines-whole bs))
      | inr other ↦ rw other (keep_onto b bs ∙ (ap (onto_first b) (lines-whole bs) ∙ sym (content-onto b (whole_lines bs) other)))
    ]

first_whole : (bs : List ℕ) → 0 < length bs →
    whole_lines bs ≡ take (suc (position_or_len (λ b. b == 10) bs)) bs ∷ whole_lines (drop (suc (position_or_len (λ b. b == 10) bs)) bs)
unfolding whole_lines
first_whole [] some = absurd (omega arith)
first_whole (b ∷ []) some =
    elim (cases_Bool (b == 10)) [
      | inl end ↦ rw (end, ten b end) refl
      | inr other ↦ rw other refl
    ]
first_whole (b ∷ c ∷ cs) some =
    elim (cases_Bool (b == 10)) [
      | inl end ↦ rw (end, ten b end) refl
      | inr other ↦ let rest = first_whole (c ∷ cs) (omega arith) in rw (other, one-add) (ap (onto_first b) rest)
    ]

no_whole : whole_lines [] ≡ []
unfolding whole_lines
no_whole = refl

-- a first line that has its end, before any other text
lead_ended : (bs x : List ℕ) → position_or_len (λ b. b == 10) bs < length bs →
    whole_lines (take (suc (position_or_len (λ b. b == 10) bs)) bs ++ x) ≡ take (suc (position_or_len (λ b. b == 10) bs)) bs ∷ whole_lines x
unfolding whole_lines
lead_ended [] x within = absurd (omega arith)
lead_ended (b ∷ bs) x within =
    elim (cases_Bool (b == 10)) [
      | inl end ↦ rw (end, ten b end) refl
      | inr other ↦
          let less : position_or_len (λ c. c == 10) bs < length bs = (let w = rw (other, one-add) at within in omega (arith, w)) in
          rw (other, one-add) (ap (onto_first b) (lead_ended bs x less))
    ]

-- the last line alone
lead_last : (bs : List ℕ) → 0 < length bs → drop (suc (position_or_len (λ b. b == 10) bs)) bs ≡ [] →
    whole_lines (take (suc (position_or_len (λ b. b == 10) bs)) bs) ≡ take (suc (position_or_len (λ b. b == 10) bs)) bs ∷ []
unfolding whole_lines
lead_last bs some nothing =
    let n : ℕ = position_or_len (λ b. b == 10) bs in
    let all : take (suc n) bs ++ drop (suc n) bs ≡ bs = take-append-drop (suc n) bs in
    let front : take (suc n) bs ≡ bs = sym (append-nil (take (suc n) bs)) ∙ (rw nothing at all) in
    let lines : whole_lines bs ≡ take (suc n) bs ∷ whole_lines (drop (suc n) bs) = first_whole bs some in
    ap whole_lines front ∙ (rw nothing at lines)

lead : (bs x : List ℕ) → 0 < length bs → (drop (suc (position_or_len (λ b. b == 10) bs)) bs ≡ [] → x ≡ []) →
    whole_lines (take (suc (position_or_len (λ b. b == 10) bs)) bs ++ x) ≡ take (suc (position_or_len (λ b. b == 10) bs)) bs ∷ whole_lines x
lead bs x some room =
    let n : ℕ = position_or_len (λ b. b == 10) bs in
    elim (cases_Bool (nat_lt n (length bs))) [
      | inl within ↦ lead_ended bs x (ltb-true n (length bs) within)
      | inr past' ↦
          let past : length bs ≤ n = ltb-false n (length bs) past' in
          let nothing : drop (suc n) bs ≡ [] = drop_all (suc n) bs (omega arith) in
          let none : x ≡ [] = room nothing in
          rw (none, append-nil) (lead_last bs some nothing ∙ ap (λ (ls : List (List ℕ)). take (suc n) bs ∷ ls) (sym no_whole))
    ]

first_content : (bs : List ℕ) → take (position_or_len (λ b. b == 10) bs) bs ≡ content (take (suc (position_or_len (λ b. b == 10) bs)) bs)
unfolding content
first_content [] = refl
first_content (b ∷ bs) =
    elim (cases_Bool (b == 10)) [
      | inl end ↦ rw end refl
      | inr other ↦ rw (other, one-add) (ap (λ (xs : List ℕ). b ∷ xs) (first_content bs))
    ]

-- what a first whole line is
pub record FirstWhole (text : List ℕ) (end next : ℕ) : Type 0 where
  pub within : end ≤ length text
  pub next_within : next ≤ length text
  pub some : 0 < next
  pub lines : whole_lines text ≡ take next text ∷ whole_lines (drop next text)
  pub content : take end text ≡ content (take next text)
  pub lead : (x : List ℕ) → (drop next text ≡ [] → x ≡ []) → whole_lines (take next text ++ x) ≡ take next text ∷ whole_lines x

found_whole : (text : List ℕ) → 0 < length text →
    FirstWhole text (position_or_len (λ b. b == 10) text) (min (position_or_len (λ b. b == 10) text + 1) (length text))
found_whole text some =
    let n : ℕ = position_or_len (λ b. b == 10) text in
    let next : n + 1 ≡ suc n = add-one n in
    let front : n ≤ length text = prefix_len-le-length (λ b. not (b == 10)) text in
    record {
      within = front;
      next_within = omega arith;
      some = omega arith;
      lines = rw (drop_min (n + 1) text, take_min (n + 1) text, next) (first_whole text some);
      content = rw (take_min (n + 1) text, next) (first_content text);
      lead = λ x. rw (drop_min (n + 1) text, take_min (n + 1) text, next) (lead text x some);
    }

found_cond : {X : Type 0} (b : Bool) (x y : X) → Some x ≡ cond b None (Some y) → (b ≡ false) × (x ≡ y)
found_cond true x y found = absurd (none-some x (sym found))
found_cond false x y found = (refl, same_Some x y found)

none_cond : {X : Type 0} (b : Bool) (y : X) → cond b None (Some y) ≡ None → b ≡ true
none_cond true y found = refl
none_cond false y found = absurd (none-some y (sym found))

pub whole_found : (text : List ℕ) (end next : ℕ) → Some (end, next) ≡ line_from text 0 → FirstWhole text end next
whole_found text end next found =
    let n : ℕ = 0 + position_or_len (λ b. b == 10) text in
    let h : ((0 == length text) ≡ false) × ((end, next) ≡ (n, min (n + 1) (length text))) = found_cond (0 == length text) (end, next) (
      n,
      min (n + 1) (length text),
    ) found in
    let ends : end ≡ n = ap (λ (q : ℕ × ℕ). q.0) h.1 in
    let begins : next ≡ min (n + 1) (length text) = ap (λ (q : ℕ × ℕ). q.1) h.1 in
    let zero' : n ≡ position_or_len (λ b. b == 10) text = omega arith in
    let some : 0 ≢ length text = λ e. true≢false (sym (eq-eqb _ _ e) ∙ h.0) in
    rw (begins, ends, zero') (found_whole text (omega arith))

pub no_text : (text : List ℕ) → line_from text 0 ≡ None → text ≡ []
no_text [] found = refl
no_text (b ∷ bs) found =
    let n : ℕ = 0 + position_or_len (λ b. b == 10) (b ∷ bs) in
    let none : 0 ≡ length (b ∷ bs) = eqb-true _ _ (none_cond (0 == length (b ∷ bs)) (n, min (n + 1) (length (b ∷ bs))) found) in
    absurd (omega arith)

pub no_lines : (text : List ℕ) → line_from text 0 ≡ None → whole_lines text ≡ []
unfolding whole_lines
no_lines text found = rw (no_text text found) refl

-- a line and what is behind it are shorter than both
pub shorter : (text line behind : List ℕ) → text ≡ line ++ behind → 0 < length line → length behind < length text
shorter text line behind is some = let whole : length text ≡ length (line ++ behind) = ap length is in omega (arith, length-append line behind)

-- a text of which lines are taken off the front, none of which ends a trace
pub record IsCut (text rest : List ℕ) (end number : ℕ) : Type 0 where
  pub lines : List (List ℕ)
  pub within : end + length rest ≡ length text
  pub parts : text ≡ take end text ++ rest
  pub front : (x : List ℕ) → (rest ≡ [] → x ≡ []) → whole_lines (take end text ++ x) ≡ lines ++ whole_lines x
  pub count : number ≡ length lines
  pub few : number ≤ end
  pub section : trace_section (whole_lines text) ≡ lines ++ trace_section (whole_lines rest)

pub cut_nothing : (text : List ℕ) → IsCut text text 0 0
cut_nothing text = record { lines = []; within = omega arith; parts = refl; front = λ x room. refl; count = refl; few = omega arith; section = refl }

some_not_none : (line behind : List ℕ) → 0 < length line → line ++ behind ≡ [] → ⊥
some_not_none [] behind some none = omega arith
some_not_none (b ∷ bs) behind some none = let same = ap length none in omega arith

-- what one line more is
pub record OneLine (rest line behind : List ℕ) : Type 0 where
  pub text : rest ≡ line ++ behind
  pub some : 0 < length line
  pub lines : whole_lines rest ≡ line ∷ whole_lines behind
  pub lead : (x : List ℕ) → (behind ≡ [] → x ≡ []) → whole_lines (line ++ x) ≡ line ∷ whole_lines x

-- the front with one line more
longer_front : (text rest line behind : List ℕ) (end number : ℕ) → IsCut text rest end number → rest ≡ line ++ behind →
    take (end + length line) text ≡ take end text ++ line
longer_front text rest line behind end number cut is =
    let whole : text ≡ (take end text ++ line) ++ behind = cut.parts
    ∙ (ap (λ (r : List ℕ). take end text ++ r) is ∙ sym (append_assoc (take end text) line behind)) in
    let len : length (take end text) ≡ end = length-take-le end text (omega (arith, cut.within)) in
    let size : length (take end text ++ line) ≡ end + length line = length-append (take end text) line ∙ ap (λ (n : ℕ). n + length line) len in
    ap (take (end + length line)) whole ∙ (rw (← size) (take-append_seam (take end text ++ line) behind))

-- one line more is taken off
pub cut_more : (text rest line behind : List ℕ) (end number : ℕ) → IsCut text rest end number → OneLine rest line behind → is_end_line line ≡ false →
    IsCut text behind (end + length line) (number + 1)
unfolding trace_section
cut_more text rest line behind end number cut one other =
    let longer : take (end + length line) text ≡ take end text ++ line = longer_front text rest line behind end number cut one.text in
    let size : length rest ≡ length line + length behind = ap length one.text ∙ length-append line behind in
    record {
      lines = cut.lines ++ line ∷ [];
      within = omega (arith, cut.within, size);
      parts = cut.parts ∙ (rw (one.text, longer) (sym (append_assoc (take end text) line behind)));
      front = λ x room. rw (longer, append_assoc) (cut.front (line ++ x) (λ none. absurd (some_not_none line behind one.some (sym one.text ∙ none)))
          ∙ (rw (one.lead x room) (sym (append_assoc cut.lines (line ∷ []) (whole_lines x)))));
      count = rw (cut.count, length-append) refl;
      few = omega (arith, cut.few, one.some);
      section = cut.section ∙ (rw (one.lines, other) (sym (append_assoc cut.lines (line ∷ []) (trace_section (whole_lines behind)))));
    }

-- the section, where the next line ends it
pub record IsSection (text section behind : List ℕ) (number : ℕ) : Type 0 where
  pub section_lines : whole_lines section ≡ trace_section (whole_lines text)
  pub behind_lines : whole_lines text ≡ trace_section (whole_lines text) ++ whole_lines behind
  pub count : number ≡ length (trace_section (whole_lines text))
  pub parts : text ≡ section ++ behind

pub section_ends : (text rest line behind section : List ℕ) (end number : ℕ) → IsCut text rest end number → OneLine rest line behind → is_end_line line ≡ true →
    section ≡ take (end + length line) text → IsSection text section behind (number + 1)
unfolding trace_section
section_ends text rest line behind section end number cut one last is =
    let longer : section ≡ take end text ++ line = is ∙ longer_front text rest line behind end number cut one.text in
    let whole : trace_section (whole_lines text) ≡ cut.lines ++ line ∷ [] = cut.section ∙ (rw (one.lines, last) refl) in
    let not_empty : rest ≡ [] → ⊥ = λ none. some_not_none line behind one.some (sym one.text ∙ none) in
    let alone : whole_lines (line ++ []) ≡ line ∷ [] = one.lead [] (λ none. refl) ∙ ap (λ (ls : List (List ℕ)). line ∷ ls) no_whole in
    let all : whole_lines text ≡ cut.lines ++ whole_lines rest = ap whole_lines cut.parts ∙ cut.front rest (λ none. none) in
    record {
      section_lines = rw (whole, longer) (ap (λ (l : List ℕ). whole_lines (take end text ++ l)) (sym (append-nil line))
          ∙ (cut.front (line ++ []) (λ none. absurd (not_empty none)) ∙ ap (λ (ls : List (List ℕ)). cut.lines ++ ls) alone));
      behind_lines = rw whole (all ∙ (rw one.lines (sym (append_assoc cut.lines (line ∷ []) (whole_lines behind)))));
      count = rw (whole, length-append, cut.count) refl;
      parts = cut.parts ∙ (rw (one.text, longer) (sym (append_assoc (take end text) line behind)));
    }

-- the section, where no line ends it
pub section_open : (text rest section : List ℕ) (end number : ℕ) → IsCut text rest end number → rest ≡ [] → section ≡ take end text →
    IsSection text section rest number
unfolding trace_section
section_open text rest section end number cut none is =
    let lines_none : whole_lines rest ≡ [] = ap whole_lines none ∙ no_whole in
    let whole : trace_section (whole_lines text) ≡ cut.lines = cut.section ∙ (rw lines_none (append-nil cut.lines)) in
    let all : whole_lines text ≡ cut.lines ++ whole_lines rest = ap whole_lines cut.parts ∙ cut.front rest (λ n. n) in
    record {
      section_lines = rw (whole, is) (ap whole_lines (sym (append-nil (take end text))) ∙ (cut.front [] (λ n. refl) ∙ (rw no_whole (append-nil cut.lines))));
      behind_lines = rw whole all;
      count = rw whole cut.count;
      parts = rw is cut.parts;
    }
