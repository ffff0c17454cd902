-- The faults of an entry, part by part.
use Rattle.std.proofs.Common.{◌≡◌, ℕ, ◌+◌, true, false, List, [], ◌∷◌, ◌++◌, length, drop, map, Option, Some, None, refl, sym, ◌∙◌, drop-drop, inl, inr}
use Rattle.std.proofs.Common.{decimal, append_assoc}
use Rattle.std.specs.Option.{option_or, option_map}
use Rattle.std.proofs.lemmas.Bool.{cases_Bool}
use Rattle.std.proofs.lemmas.Option.{none-some}
use Rattle.std.proofs.lemmas.Slice.Eq.{bytes_eq-Decides}
use Rattle.std.specs.Str.{bytes_eq}
use Rattle.sem_trace.specs.declared.fault.Cause.{Cause}
use Rattle.sem_trace.specs.declared.fault.Cause.TheVariants.{OutOfRange, UnknownWord}
use Rattle.sem_trace.specs.Forms.{Place, place_fault, form_fault, at_word}
use Rattle.sem_trace.specs.Forms.Place.{Word}
use Rattle.sem_trace.specs.Places.{Fills, left_at, fault_after}
use Rattle.sem_trace.proofs.PlaceSteps.{unmapped, line_fault_is, no_line_fault}
use Rattle.sem_journal.proofs.WordChoices.{FailsAt}
use Rattle.sem_msg.specs.declared.event.Act.{Act}
use Rattle.sem_msg.specs.declared.entry.Detail.{Detail}
use Rattle.sem_msg.specs.declared.entry.Entry.{Entry}
use Rattle.sem_journal.specs.declared.shown.Shown.{Shown}
use Rattle.sem_journal.specs.EntryText.{act_words, detail_words, entry_words}
use Rattle.sem_journal.specs.ShownWords.{shown_words}
use Rattle.sem_journal.specs.EntryForms.{kernel, event_form, behind_event, entry_form, has_long_memory, long_word, entry_fault}

-- nothing stands behind the last place
pub nothing_more : (words : List (List ℕ)) → form_fault [] words ≡ None → words ≡ []
unfolding form_fault
nothing_more [] fits = refl
nothing_more (word ∷ words) fits = absurd (none-some _ (sym fits))

-- places for just these words
abbrev pub exactly : List (List ℕ) → List Place
exactly words = map (λ word. Word (word ∷ [])) words

same_bytes : (word : List ℕ) → bytes_eq word word ≡ true
same_bytes word = (bytes_eq-Decides word word).1 refl

pub exactly_fits : (words : List (List ℕ)) → form_fault (exactly words) words ≡ None
unfolding form_fault
exactly_fits [] = refl
exactly_fits (word ∷ words) = rw (same_bytes word) (exactly_fits words)

or_none : {X : Type 0} (o p : Option X) → option_or o p ≡ None → (o ≡ None) × (p ≡ None)
or_none None p none = (refl, none)
or_none (Some x) p none = absurd (none-some x (sym none))

-- the fault of a word in its place, with words behind
abbrev first_fault : Place → List ℕ → List (List ℕ) → Option (Cause × ℕ)
first_fault place word words = option_map (λ cause. (cause, length (word ∷ words))) (place_fault place word)

the_word : (name word : List ℕ) → place_fault (Word (name ∷ [])) word ≡ None → word ≡ name
the_word name word fits = elim (cases_Bool (bytes_eq word name)) [
  | inl same ↦ (bytes_eq-Decides word name).0 same
  | inr other ↦ absurd (none-some UnknownWord (sym (rw other at fits)))
]

pub exactly_is : (words others : List (List ℕ)) → form_fault (exactly words) others ≡ None → others ≡ words
unfolding form_fault
exactly_is [] [] fits = refl
exactly_is [] (word ∷ others) fits = absurd (none-some _ (sym fits))
exactly_is (word ∷ words) [] fits = absurd (none-some _ (sym fits))
exactly_is (word ∷ words) (other ∷ others) fits =
    let both = or_none (first_fault (Word (word ∷ [])) other others) (form_fault (exactly words) others) fits in
    let first : other ≡ word = the_word word other (unmapped _ (place_fault (Word (word ∷ [])) other) both.0) in
    let rest : others ≡ words = exactly_is words others both.1 in
    rw (first, rest) refl

rest_is : (places : List Place) (words rest : List (List ℕ)) → form_fault (places ++ exactly rest) words ≡ None → drop (length places) words ≡ rest
unfolding form_fault
rest_is [] words rest fits = exactly_is rest words fits
rest_is (place ∷ places) [] rest fits = absurd (none-some _ (sym fits))
rest_is (place ∷ places) (word ∷ words) rest fits = rest_is places words rest (or_none (first_fault place word words) _ fits).1

-- the words that fill the places are as many as these
pub behind_filled : (places : List Place) (words rest : List (List ℕ)) → Fills places words rest → drop (length places) words ≡ rest
behind_filled places words rest fills = rest_is places words rest (fills (exactly rest) ∙ exactly_fits rest)

-- an entry whose kernel is wrong
pub kernel_fault : (version kernels : ℕ) (words : List (List ℕ)) (fault : Cause × ℕ) → FailsAt (kernel kernels ∷ []) words fault →
    form_fault (entry_form version kernels words) words ≡ Some fault
unfolding entry_form
kernel_fault version kernels words fault fails =
    fails (event_form version kernels (drop 1 words) ++ behind_event version (drop (1 + length (event_form version kernels (drop 1 words))) words))

-- the words of an entry behind its kernel
pub behind_kernel : (version kernels : ℕ) (words rest : List (List ℕ)) → Fills (kernel kernels ∷ []) words rest →
    form_fault (entry_form version kernels words) words
    ≡ form_fault (event_form version kernels rest ++ behind_event version (drop (length (event_form version kernels rest)) rest)) rest
unfolding entry_form
behind_kernel version kernels words rest fills =
    let behind : drop 1 words ≡ rest = behind_filled (kernel kernels ∷ []) words rest fills in
    rw (
      drop_behind (length (event_form version kernels (drop 1 words))) words,
      behind,
    ) (fills (event_form version kernels rest ++ behind_event version (drop (length (event_form version kernels rest)) rest)))
  where
    drop_behind : (n : ℕ) (words : List (List ℕ)) → drop (1 + n) words ≡ drop n (drop 1 words)
    drop_behind n words = sym (drop-drop n 1 words)

-- an entry whose event is wrong
pub event_fault : (version kernels : ℕ) (words rest : List (List ℕ)) (fault : Cause × ℕ) → Fills (kernel kernels ∷ []) words rest →
    FailsAt (event_form version kernels rest) rest fault → form_fault (entry_form version kernels words) words ≡ Some fault
event_fault version kernels words rest fault fills fails =
    rw (behind_kernel version kernels words rest fills, fails (behind_event version (drop (length (event_form version kernels rest)) rest))) refl

-- what is wrong with an entry behind its event
pub shown_fault : (version kernels : ℕ) (words rest behind : List (List ℕ)) → Fills (kernel kernels ∷ []) words rest →
    Fills (event_form version kernels rest) rest behind → form_fault (entry_form version kernels words) words ≡ form_fault (behind_event version behind) behind
shown_fault version kernels words rest behind fills event =
    rw (behind_kernel version kernels words rest fills, behind_filled (event_form version kernels rest) rest behind event) (event (behind_event version behind))

-- the fault of the form
pub fault_behind : (version kernels : ℕ) (words rest : List (List ℕ)) (cause : Cause) →
    form_fault (entry_form version kernels words) words ≡ Some (cause, left_at cause rest) → entry_fault version kernels words ≡ Some (fault_after cause words rest)
unfolding entry_fault
fault_behind version kernels words rest cause fault = rw (line_fault_is (entry_form version kernels words) words rest cause fault) refl

pub long_fault : (version kernels : ℕ) (words : List (List ℕ)) → form_fault (entry_form version kernels words) words ≡ None → has_long_memory words ≡ true →
    entry_fault version kernels words ≡ Some (at_word (long_word words) OutOfRange)
unfolding entry_fault
long_fault version kernels words fits long = rw (no_line_fault (entry_form version kernels words) words fits, long) refl

pub no_fault : (version kernels : ℕ) (words : List (List ℕ)) → form_fault (entry_form version kernels words) words ≡ None → has_long_memory words ≡ false →
    entry_fault version kernels words ≡ None
unfolding entry_fault
no_fault version kernels words fits short = rw (no_line_fault (entry_form version kernels words) words fits, short) refl

-- the entry that these are the parts of
abbrev pub entry : ℕ → Act → Detail → Shown → Entry
entry k act detail shown = record { event = record { kernel = k; act = act }; detail = detail; grant = shown.grant; cut = shown.cut; reply = shown.reply }

pub entry_is : (k : ℕ) (act : Act) (detail : Detail) (shown : Shown) (rest behind : List (List ℕ)) → rest ≡ act_words act ++ detail_words detail ++ behind →
    behind ≡ shown_words shown → decimal k ∷ rest ≡ entry_words (entry k act detail shown)
entry_is k act detail shown rest behind rest_is behind_is = rw (rest_is, behind_is) (simp append_assoc)
