-- One place of a form more.
use Rattle.std.proofs.Common.{◌≡◌, ℕ, suc, ◌+◌, Bool, true, false, true≢false, List, [], ◌∷◌, Option, Some, None, ◌<◌, length, map, ◌++◌, take, drop, get_or}
use Rattle.std.proofs.Common.{set, inl, inr, refl, ap, ◌∙◌, sym, arith, add-one, drop-cons, get_or-drop, decimal, append_assoc, take-suc-set}
use Rattle.std.proofs.lemmas.List.{map-append}
use Rattle.std.proofs.lemmas.Bool.{cases_eq, false_from_ne_true}
use Rattle.std.proofs.lemmas.Slice.Eq.{bytes_eq-Decides}
use Rattle.std.specs.Bool.{Decides}
use Rattle.std.proofs.lemmas.List.{get_or-set_same, get_or-set_other}
use Rattle.std.specs.Option.{MatchOption, ok_or, option_map}
use Rattle.std.specs.Result.{IfErr}
use Rattle.std.specs.Str.{bytes_eq}
use Rattle.sem_trace.specs.declared.fault.Cause.{Cause}
use Rattle.sem_trace.specs.declared.fault.Cause.TheVariants.{Missing, UnknownWord, BadNumber, OutOfRange}
use Rattle.sem_trace.specs.Forms.{Place, place_fault, form_fault, word_fault, word_at, parts_of, are_numbers, are_within, is_between}
use Rattle.sem_trace.specs.Forms.Place.{Word, Number, Dotted}
use Rattle.sem_trace.specs.Places.{left_at, fault_after, CanStand, CanStandIn}
use Rattle.std.proofs.Common.{not, subst, if◌then◌else◌}
use Rattle.std.proofs.lemmas.Option.{none-some, same_Some}
use Rattle.std.specs.List.{list_any}
use Rattle.sem_text.specs.Number.{is_number}

-- no place is filled where there is no word
pub no_place : (places : List Place) (place : Place) (all : List (List ℕ)) → all ≡ [] → form_fault (place ∷ places) all ≡ Some (Missing, 0)
unfolding form_fault
no_place places place all is = rw is refl

-- a place without a fault
pub fills : (places : List Place) (place : Place) (word : List ℕ) (words all : List (List ℕ)) → all ≡ word ∷ words → place_fault place word ≡ None →
    form_fault (place ∷ places) all ≡ form_fault places words
unfolding form_fault
fills places place word words all is fits = rw (is, fits) refl

-- what holds of the causes that a place can have holds of its cause
if_fault : (fits : Bool) (here cause : Cause) (P : Cause → Type 0) → P here → (if fits then None else Some here) ≡ Some cause → P cause
if_fault true here cause P holds is = absurd (none-some _ is)
if_fault false here cause P holds is = subst P (same_Some _ _ is) holds

bad_or_range : (bad fits : Bool) (cause : Cause) (P : Cause → Type 0) → P BadNumber → P OutOfRange →
    (if bad then Some BadNumber else (if fits then None else Some OutOfRange)) ≡ Some cause → P cause
bad_or_range true fits cause P bad range is = subst P (same_Some _ _ is) bad
bad_or_range false fits cause P bad range is = if_fault fits OutOfRange cause P range is

-- a word with a fault is there
place_left : (place : Place) (word : List ℕ) (words : List (List ℕ)) (cause : Cause) → place_fault place word ≡ Some cause →
    left_at cause words ≡ suc (length words)
place_left (Word names) word words cause is = if_fault (list_any (bytes_eq word) names) UnknownWord cause (λ c. left_at c words ≡ suc (length words)) refl is
place_left (Number least most) word words cause is =
    bad_or_range (not (is_number word)) (is_between (least, most) word) cause (λ c. left_at c words ≡ suc (length words)) refl refl is
place_left (Dotted ranges) word words cause is =
    bad_or_range (not (are_numbers ranges (parts_of word))) (are_within ranges (parts_of word)) cause (λ c. left_at c words ≡ suc (length words)) refl refl is

-- a place with a fault
pub faults : (places : List Place) (place : Place) (word : List ℕ) (words all : List (List ℕ)) (cause : Cause) → all ≡ word ∷ words →
    place_fault place word ≡ Some cause → form_fault (place ∷ places) all ≡ Some (cause, left_at cause words)
unfolding form_fault
faults places place word words all cause is fault = rw (is, fault, place_left place word words cause fault) refl

-- the fault of a line
pub line_fault_is : (places : List Place) (words rest : List (List ℕ)) (cause : Cause) → form_fault places words ≡ Some (cause, left_at cause rest) →
    word_fault places words ≡ Some (fault_after cause words rest)
unfolding word_fault
line_fault_is places words rest cause is = rw is refl

pub no_line_fault : (places : List Place) (words : List (List ℕ)) → form_fault places words ≡ None → word_fault places words ≡ None
unfolding word_fault
no_line_fault places words is = rw is refl

-- the words behind the first
pub behind_first : (word : List ℕ) (words all : List (List ℕ)) → all ≡ word ∷ words → words ≡ drop 1 all
behind_first word words all is = rw is refl

-- whether a word is the only one that can stand in its place
pub the_word : (word name : List ℕ) (same : Bool) → same ≡ true → same ≡ bytes_eq word name → place_fault (Word (name ∷ [])) word ≡ None
the_word word name same yes' is = rw (← is, yes') refl

pub another_word : (word name : List ℕ) (same : Bool) → same ≡ false → same ≡ bytes_eq word name → place_fault (Word (name ∷ [])) word ≡ Some UnknownWord
another_word word name same no' is = rw (← is, no') refl

-- what holds of the cause where a word is missing
pub if_missing : {X : Type 0} (o : Option X) (N : Type 0) (P : X → Type 0) (Q : Cause → Type 0) → MatchOption o N P → (N → Q Missing) →
    IfErr (ok_or o Missing) Q
if_missing None N P Q found then' = then' found
if_missing (Some x) N P Q found then' = tt

-- one place more: those behind it are those of one element less
pub more_places : {X : Type 0} (place : X → Place) (xs : List X) (i : ℕ) (d : X) (places : List Place) (words rest : List (List ℕ)) → i < length xs →
    ((more : List Place) → form_fault (place (get_or xs i d) ∷ more) words ≡ form_fault more rest) →
    form_fault (map place (drop i xs) ++ places) words ≡ form_fault (map place (drop (i + 1) xs) ++ places) rest
more_places place xs i d places words rest within step =
    let next : i + 1 ≡ suc i = add-one i in
    rw (next, drop-cons xs i d within) (step (map place (drop (suc i) xs) ++ places))

-- a fault at one place is that of the places from it on
pub more_failed : {X : Type 0} (place : X → Place) (xs : List X) (i : ℕ) (d : X) (places : List Place) (words : List (List ℕ)) (fault : Cause × ℕ) → i < length xs →
    ((more : List Place) → form_fault (place (get_or xs i d) ∷ more) words ≡ Some fault) → form_fault (map place (drop i xs) ++ places) words ≡ Some fault
more_failed place xs i d places words fault within failed = rw (drop-cons xs i d within) (failed (map place (drop (suc i) xs) ++ places))

-- numbers of which each can stand in its place
pub can_stand_in : {X : Type 0} (place : X → Place) (xs : List X) (d : X) (ns : List ℕ) →
    ((i : ℕ) → i < length xs → CanStand (place (get_or xs i d)) (get_or ns i 0)) → CanStandIn (map place xs) ns
can_stand_in place [] d ns each = tt
can_stand_in place (x ∷ xs) d [] each = tt
can_stand_in place (x ∷ xs) d (n ∷ ns) each = (each 0 (omega arith), can_stand_in place xs d ns (λ i within. each (suc i) (omega arith)))

-- what holds of the numbers so far and of one more holds of all these
pub more_all : (values : List ℕ) (i v : ℕ) (P : ℕ → ℕ → Type 0) → i < length values → ((k : ℕ) → k < i → P k (get_or values k 0)) → P i v → (k : ℕ) →
    k < i + 1 → P k (get_or (set values i v) k 0)
more_all values i v P within so_far here k below =
    elim (cases_eq k i) [
      | inl same ↦ rw (same, get_or-set_same values i v 0 within) here
      | inr other ↦ rw (get_or-set_other values i k v 0 other) (so_far k (omega arith))
    ]

-- what holds at each place so far and at one more holds at all these
pub more_stand : {X : Type 0} (place : X → Place) (xs : List X) (d : X) (values : List ℕ) (i v : ℕ) → i < length values →
    ((k : ℕ) → k < i → CanStand (place (get_or xs k d)) (get_or values k 0)) → CanStand (place (get_or xs i d)) v → (k : ℕ) → k < i + 1 →
    CanStand (place (get_or xs k d)) (get_or (set values i v) k 0)
more_stand place xs d values i v within so_far here = more_all values i v (λ k n. CanStand (place (get_or xs k d)) n) within so_far here

-- a word that a test did not find
pub differs : (word name : List ℕ) → Decides false (word ≡ name) → bytes_eq word name ≡ false
differs word name decides = false_from_ne_true _ (λ same. true≢false (sym (decides.1 ((bytes_eq-Decides word name).0 same))))

-- the words from the third on, where they are these
pub third_on : (all rest words : List (List ℕ)) (word : List ℕ) (i : ℕ) → rest ≡ drop 2 all → rest ≡ word ∷ words →
    word_at all (2 + i) ≡ word_at (word ∷ words) i
third_on all rest words word i behind is = sym (get_or-drop 2 all i []) ∙ ap (λ (ws : List (List ℕ)). word_at ws i) (sym behind ∙ is)

-- the printed numbers so far and one more
pub printed_more : (values : List ℕ) (i v : ℕ) (all words rest : List (List ℕ)) → i < length values → all ≡ map decimal (take i values) ++ words →
    words ≡ decimal v ∷ rest → all ≡ map decimal (take (i + 1) (set values i v)) ++ rest
printed_more values i v all words rest within so_far here =
    let next : i + 1 ≡ suc i = add-one i in
    so_far ∙ (rw (here, next, take-suc-set values i v within, map-append, append_assoc) refl)

pub unmapped : {X Y : Type 0} (f : X → Y) (o : Option X) → option_map f o ≡ None → o ≡ None
unmapped f None none = refl
unmapped f (Some x) none = absurd (none-some (f x) (sym none))

-- words without a fault have the form
pub has_form : (places : List Place) (words : List (List ℕ)) → word_fault places words ≡ None → form_fault places words ≡ None
unfolding word_fault
has_form places words none = unmapped _ (form_fault places words) none
