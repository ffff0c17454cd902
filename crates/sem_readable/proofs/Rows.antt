-- Words without a fault, taken from the left: the word of a value, or a name and what follows it.
use Rattle.std.proofs.Common.{◌≡◌, ℕ, ◌<◌, ◌^◌, ◌-◌, true, true≢false, List, [], ◌∷◌, ◌++◌, map, length, Option, None, inl, inr, sym, subst, arith, decimal}
use Rattle.std.specs.List.{list_any}
use Rattle.std.specs.Str.{bytes_eq}
use Rattle.std.proofs.lemmas.Bool.{cases_Bool}
use Rattle.std.proofs.lemmas.Option.{none-some}
use Rattle.std.proofs.lemmas.Slice.Eq.{bytes_eq-Decides}
use Rattle.sem_key.specs.KeyName.{KeyName}
use Rattle.sem_key.specs.PlaceName.{PlaceName}
use Rattle.sem_msg.specs.Versions.{most_vpes}
use Rattle.std.specs.Option.{option_map}
use Rattle.sem_trace.specs.declared.fault.Cause.{Cause}
use Rattle.sem_trace.specs.declared.fault.Cause.TheVariants.{UnknownWord}
use Rattle.sem_trace.specs.Forms.{Place, Table, place_fault, form_fault, behind, node, key, key_place}
use Rattle.sem_trace.specs.Forms.Place.{Word, Number}
use Rattle.sem_trace.specs.Ranges.{IsNode, IsKeyInText, IsPlaceInText}
use Rattle.sem_trace.specs.Words.{key_word, place_word}
use Rattle.sem_trace.proofs.PlaceSteps.{unmapped}
use Rattle.sem_trace.proofs.Nodes.{few_vpes}
use Rattle.sem_readable.proofs.Values.{none_of, IsWordOf, IsIn, number_word, key_of, place_of, node_in}

-- the fault of a word in its place, with words behind
abbrev first_fault : Place → List ℕ → List (List ℕ) → Option (Cause × ℕ)
first_fault place word words = option_map (λ cause. (cause, length (word ∷ words))) (place_fault place word)

-- what begins with the first words, and is in its ranges; the words behind it have no fault either
pub record Begins {X : Type 0} (spelling : X → List (List ℕ)) (Fits : X → Type 0) (more : List Place) (words : List (List ℕ)) : Type 0 where
  pub value : X
  pub rest : List (List ℕ)
  pub is : words ≡ spelling value ++ rest
  pub fits : Fits value
  pub rest_fits : form_fault more rest ≡ None

-- the next word is that of a value; which places follow may hang on the words
pub next : {X : Type 0} (spell : X → List ℕ) (Fits : X → Type 0) (place : Place) → ((w : List ℕ) → place_fault place w ≡ None → IsWordOf spell Fits w) →
    (more : List (List ℕ) → List Place) (G : List (List ℕ) → Type 0) (words : List (List ℕ)) → form_fault (place ∷ more words) words ≡ None →
    ((x : X) (rest : List (List ℕ)) → Fits x → form_fault (more (spell x ∷ rest)) rest ≡ None → G (spell x ∷ rest)) → G words
unfolding form_fault
next {X} spell Fits place read more G [] none follows = absurd (none-some _ (sym none))
next {X} spell Fits place read more G (w ∷ ws) none follows =
    let both = none_of (first_fault place w ws) (form_fault (more (w ∷ ws)) ws) none in
    from (read w (unmapped _ (place_fault place w) both.0)) both.1
  where
    from : IsWordOf spell Fits w → form_fault (more (w ∷ ws)) ws ≡ None → G (w ∷ ws)
    from (x, is, fits) left = subst (λ (v : List ℕ). form_fault (more (v ∷ ws)) ws ≡ None → G (v ∷ ws)) (sym is) (follows x ws fits) left

pub number : (least most : ℕ) → most < 2 ^ 64 → (more : List (List ℕ) → List Place) (G : List (List ℕ) → Type 0) (words : List (List ℕ)) →
    form_fault (Number least most ∷ more words) words ≡ None →
    ((n : ℕ) (rest : List (List ℕ)) → IsIn least most n → form_fault (more (decimal n ∷ rest)) rest ≡ None → G (decimal n ∷ rest)) → G words
number least most small = next decimal (IsIn least most) (Number least most) (λ w. number_word least most w small)

node_word : (version : ℕ) (w : List ℕ) → place_fault (node version) w ≡ None → IsWordOf decimal (IsNode version) w
node_word version w none = from (number_word 0 (most_vpes version - 1) w (omega (arith, few_vpes version)) none)
  where
    from : IsWordOf decimal (IsIn 0 (most_vpes version - 1)) w → IsWordOf decimal (IsNode version) w
    from (n, is, fits) = (n, is, node_in version n fits.1)

pub vpe : (version : ℕ) (more : List (List ℕ) → List Place) (G : List (List ℕ) → Type 0) (words : List (List ℕ)) →
    form_fault (node version ∷ more words) words ≡ None →
    ((n : ℕ) (rest : List (List ℕ)) → IsNode version n → form_fault (more (decimal n ∷ rest)) rest ≡ None → G (decimal n ∷ rest)) → G words
vpe version = next decimal (IsNode version) (node version) (node_word version)

pub a_key : (version : ℕ) (more : List (List ℕ) → List Place) (G : List (List ℕ) → Type 0) (words : List (List ℕ)) →
    form_fault (key version ∷ more words) words ≡ None →
    ((k : KeyName) (rest : List (List ℕ)) → IsKeyInText version k → form_fault (more (key_word k ∷ rest)) rest ≡ None → G (key_word k ∷ rest)) → G words
a_key version = next key_word (IsKeyInText version) (key version) (key_of version)

pub a_place : (version : ℕ) (more : List (List ℕ) → List Place) (G : List (List ℕ) → Type 0) (words : List (List ℕ)) →
    form_fault (key_place version ∷ more words) words ≡ None →
    ((p : PlaceName) (rest : List (List ℕ)) → IsPlaceInText version p → form_fault (more (place_word p ∷ rest)) rest ≡ None → G (place_word p ∷ rest)) → G words
a_place version = next place_word (IsPlaceInText version) (key_place version) (place_of version)

-- what holds of each row of a table, by its name and the places that follow
abbrev pub Rows : (List ℕ → List Place → Type 0) → Table → Type 0
Rows F [] = Unit {0}
Rows F ((name, places) ∷ table) = F name places × Rows F table

by_row : (F : List ℕ → List Place → Type 0) (table : Table) (w : List ℕ) → Rows F table → list_any (bytes_eq w) (map (λ row. row.0) table) ≡ true →
    F w (behind table w)
by_row F [] w rows any = absurd (true≢false (sym any))
by_row F ((name, places) ∷ table) w rows any = elim (cases_Bool (bytes_eq w name)) [
  | inl same ↦ rw same (subst (λ (v : List ℕ). F v places) (sym ((bytes_eq-Decides w name).0 same)) rows.0)
  | inr other ↦ rw other (by_row F table w rows.1 (rw other at any))
]

pub among : (names : List (List ℕ)) (w : List ℕ) → place_fault (Word names) w ≡ None → list_any (bytes_eq w) names ≡ true
among names w none = elim (cases_Bool (list_any (bytes_eq w) names)) [
  | inl some ↦ some
  | inr other ↦ absurd (none-some UnknownWord (sym (rw other at none)))
]

-- the next word is the name of a row; what holds where each of the names stands there
pub chosen : (table : Table) (K : List Place → List Place) (G : List (List ℕ) → Type 0) (w : List ℕ) (ws : List (List ℕ)) →
    Rows (λ name places. form_fault (K places) ws ≡ None → G (name ∷ ws)) table → form_fault (Word (map (λ row. row.0) table) ∷ K (behind table w)) (w ∷ ws)
    ≡ None → G (w ∷ ws)
unfolding form_fault
chosen table K G w ws rows none =
    let both = none_of (first_fault (Word (map (λ row. row.0) table)) w ws) (form_fault (K (behind table w)) ws) none in
    by_row (λ name places. form_fault (K places) ws ≡ None → G (name ∷ ws)) table w rows
    (among _ w (unmapped _ (place_fault (Word (map (λ row. row.0) table)) w) both.0)) both.1

-- what begins, and then what follows it
pub after_it : {X : Type 0} {spelling : X → List (List ℕ)} {Fits : X → Type 0} {more : List Place} {words : List (List ℕ)} (G : List (List ℕ) → Type 0) →
    Begins spelling Fits more words → ((x : X) (rest : List (List ℕ)) → Fits x → form_fault more rest ≡ None → G (spelling x ++ rest)) → G words
after_it G begins follows = subst G (sym begins.is) (follows begins.value begins.rest begins.fits begins.rest_fits)

-- what holds of each of these words
abbrev pub OfEach : (List ℕ → Type 0) → List (List ℕ) → Type 0
OfEach P [] = Unit {0}
OfEach P (name ∷ names) = P name × OfEach P names

of_one : (P : List ℕ → Type 0) (names : List (List ℕ)) (w : List ℕ) → OfEach P names → list_any (bytes_eq w) names ≡ true → P w
of_one P [] w each any = absurd (true≢false (sym any))
of_one P (name ∷ names) w each any = elim (cases_Bool (bytes_eq w name)) [
  | inl same ↦ subst P (sym ((bytes_eq-Decides w name).0 same)) each.0
  | inr other ↦ of_one P names w each.1 (rw other at any)
]

-- the next word is one of these; the places that follow do not hang on it
pub one_word : (names : List (List ℕ)) (more : List Place) (G : List (List ℕ) → Type 0) (words : List (List ℕ)) → form_fault (Word names ∷ more) words ≡ None →
    ((rest : List (List ℕ)) → form_fault more rest ≡ None → OfEach (λ name. G (name ∷ rest)) names) → G words
unfolding form_fault
one_word names more G [] none each = absurd (none-some _ (sym none))
one_word names more G (w ∷ ws) none each =
    let both = none_of (first_fault (Word names) w ws) (form_fault more ws) none in
    of_one (λ name. G (name ∷ ws)) names w (each ws both.1) (among names w (unmapped _ (place_fault (Word names) w) both.0))
