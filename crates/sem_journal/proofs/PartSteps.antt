-- One part of a message more.
use Rattle.std.proofs.Common.{◌≡◌, ℕ, zero, suc, add-zero, ◌+◌, ◌<◌, ◌≤◌, List, [], ◌∷◌, ◌++◌, length, take, drop, get_or, set, Ok, Err, refl, ap, ◌∙◌, sym}
use Rattle.std.proofs.Common.{drop-cons, get_or-drop, append_assoc, arith, add-one}
use Rattle.std.proofs.lemmas.List.{append-nil, take_all, drop_all}
use Rattle.sem_trace.specs.declared.fault.Cause.{Cause}
use Rattle.sem_trace.specs.declared.message_forms.Part.{Part}
use Rattle.sem_trace.specs.Forms.{Place, form_fault, word_at}
use Rattle.sem_trace.specs.MessageForms.{part_places, places_from}
use Rattle.sem_trace.specs.Places.{Fills, left_at}
use Rattle.sem_journal.specs.declared.parts.PartValue.{PartValue}
use Rattle.sem_journal.specs.PartValues.{value_words, parts_words, ValueFits, ValuesFit, ReadsValue, ReadsValues}
use Rattle.sem_journal.proofs.EntryParts.{behind_filled}
use Rattle.sem_journal.proofs.WordChoices.{FailsAt}

-- places behind so many words
pub places_behind : (version : ℕ) (words : List (List ℕ)) (n i : ℕ) (parts : List Part) →
    places_from version words (n + i) parts ≡ places_from version (drop n words) i parts
places_behind version words n i [] = refl
places_behind version words n i (part ∷ parts) =
    let here : word_at words (n + i) ≡ word_at (drop n words) i = sym (get_or-drop n words i []) in
    let size : ℕ = length (part_places version (word_at (drop n words) i) part) in
    let next : (n + i) + size ≡ n + (i + size) = omega arith in
    rw (here, next, places_behind version words n (i + size) parts) refl

-- the places of a part and of those behind it
unrolled : (version : ℕ) (words : List (List ℕ)) (part : Part) (parts : List Part) (more : List Place) →
    places_from version words 0 (part ∷ parts) ++ more
    ≡ part_places version (word_at words 0) part ++ (places_from version words (length (part_places version (word_at words 0) part)) parts ++ more)
unrolled version words part parts more =
    let here : List Place = part_places version (word_at words 0) part in
    let none : 0 + length here ≡ length here = omega arith in
    rw none (append_assoc here (places_from version words (length here) parts) more)

-- the places of one part less
places_more : (version : ℕ) (parts : List Part) (i : ℕ) (d : Part) (words rest : List (List ℕ)) → i < length parts →
    Fills (part_places version (word_at words 0) (get_or parts i d)) words rest → (more : List Place) →
    form_fault (places_from version words 0 (drop i parts) ++ more) words ≡ form_fault (places_from version rest 0 (drop (i + 1) parts) ++ more) rest
places_more version parts i d words rest within fills more =
    let here : List Place = part_places version (word_at words 0) (get_or parts i d) in
    let behind : places_from version words (length here + 0) (drop (suc i) parts) ≡ places_from version rest 0 (drop (suc i) parts) =
    places_behind version words (length here) 0 (drop (suc i) parts)
    ∙ ap (λ (ws : List (List ℕ)). places_from version ws 0 (drop (suc i) parts)) (behind_filled here words rest fills) in
    rw (add-one i, drop-cons parts i d within, unrolled version words (get_or parts i d) (drop (suc i) parts) more, rw (add-zero (length here)) at behind)
    (fills (places_from version rest 0 (drop (suc i) parts) ++ more))

-- a part with a fault
places_fail : (version : ℕ) (parts : List Part) (i : ℕ) (d : Part) (words : List (List ℕ)) (fault : Cause × ℕ) → i < length parts →
    FailsAt (part_places version (word_at words 0) (get_or parts i d)) words fault → FailsAt (places_from version words 0 (drop i parts)) words fault
places_fail version parts i d words fault within fails more =
    rw (drop-cons parts i d within, unrolled version words (get_or parts i d) (drop (suc i) parts) more)
    (fails (places_from version words (length (part_places version (word_at words 0) (get_or parts i d))) (drop (suc i) parts) ++ more))

-- one value more
fit_more : (version : ℕ) (parts : List Part) (values : List PartValue) (i : ℕ) (d : Part) (value : PartValue) → i < length parts → i < length values →
    ValuesFit version (take i parts) values → ValueFits version (get_or parts i d) value → ValuesFit version (take (suc i) parts) (set values i value)
fit_more version [] values i d value within room fit here = absurd (omega arith)
fit_more version (part ∷ parts) [] i d value within room fit here = absurd (omega arith)
fit_more version (part ∷ parts) (first ∷ values) zero d value within room fit here = (here, tt)
fit_more version (part ∷ parts) (first ∷ values) (suc i) d value within room fit here =
    (fit.0, fit_more version parts values i d value (omega arith) (omega arith) fit.1 here)

words_more : (parts : List Part) (values : List PartValue) (i : ℕ) (value : PartValue) → i < length parts → i < length values →
    parts_words (take (suc i) parts) (set values i value) ≡ parts_words (take i parts) values ++ value_words value
words_more [] values i value within room = absurd (omega arith)
words_more (part ∷ parts) [] i value within room = absurd (omega arith)
words_more (part ∷ parts) (first ∷ values) zero value within room = append-nil (value_words value)
words_more (part ∷ parts) (first ∷ values) (suc i) value within room =
    rw (words_more parts values i value (omega arith) (omega arith)) (sym (append_assoc (value_words first) (parts_words (take i parts) values) (value_words value)))

-- the first i parts are read: they have no fault, and their values are read
pub record PartsRead (version : ℕ) (parts : List Part) (i : ℕ) (values : List PartValue) (all rest : List (List ℕ)) : Type 0 where
  pub fault : (more : List Place) →
      form_fault (places_from version all 0 parts ++ more) all ≡ form_fault (places_from version rest 0 (drop i parts) ++ more) rest
  pub spelled : all ≡ parts_words (take i parts) values ++ rest
  pub fit : ValuesFit version (take i parts) values

pub no_part_read : (version : ℕ) (parts : List Part) (values : List PartValue) (all : List (List ℕ)) → PartsRead version parts 0 values all all
no_part_read version parts values all = record { fault = λ more. refl; spelled = refl; fit = tt }

-- one part more
pub part_read : (version : ℕ) (parts : List Part) (i : ℕ) (d : Part) (values : List PartValue) (value : PartValue) (all words rest : List (List ℕ)) →
    i < length parts → length parts ≤ length values → PartsRead version parts i values all words →
    ReadsValue version (get_or parts i d) words rest (Ok value) → PartsRead version parts (i + 1) (set values i value) all rest
part_read version parts i d values value all words rest within enough before here =
    let room : i < length values = omega arith in
    record {
      fault = λ more. before.fault more ∙ places_more version parts i d words rest within here.reads.filled more;
      spelled = rw (add-one i, words_more parts values i value within room, append_assoc)
          (before.spelled ∙ ap (λ (ws : List (List ℕ)). parts_words (take i parts) values ++ ws) here.reads.spelled);
      fit = rw (add-one i) (fit_more version parts values i d value within room before.fit here.fits);
    }

-- the next part is not read
pub part_refused : (version : ℕ) (parts : List Part) (i : ℕ) (d : Part) (values : List PartValue) (all words rest : List (List ℕ)) (cause : Cause) →
    i < length parts → PartsRead version parts i values all words → ReadsValue version (get_or parts i d) words rest (Err cause) →
    ReadsValues version parts all rest (Err cause)
part_refused version parts i d values all words rest cause within before here = record {
  reads = λ more. before.fault more ∙ places_fail version parts i d words (cause, left_at cause rest) within here.reads more;
  fits = tt;
}

-- no part is left
pub all_read : (version : ℕ) (parts : List Part) (i : ℕ) (values : List PartValue) (all rest : List (List ℕ)) → length parts ≤ i →
    PartsRead version parts i values all rest → ReadsValues version parts all rest (Ok values)
all_read version parts i values all rest end before =
    let whole : take i parts ≡ parts = take_all i parts end in
    let none : drop i parts ≡ [] = drop_all i parts end in
    record {
      reads = record {
        filled = λ more. before.fault more ∙ ap (λ (ps : List Part). form_fault (places_from version rest 0 ps ++ more) rest) none;
        spelled = rw whole at before.spelled;
      };
      fits = rw whole at before.fit;
    }
