-- The rows of the calls.
use Rattle.std.proofs.Common.{◌≡◌, ℕ, ◌+◌, Bool, false, List, [], ◌∷◌, ◌++◌, ◌<◌, ◌≤◌, length, map, take, get_or}
use Rattle.std.proofs.Common.{refl, ap, sym, ◌∙◌, add-one, decimal, Some, Ok, arith}
use Rattle.std.proofs.Math.Seq.{take-suc}
use Rattle.std.proofs.lemmas.List.{length-map, take_all}
use Rattle.std.proofs.lemmas.List.Folds.{list_any-append}
use Rattle.std.specs.List.{list_any}
use Rattle.std.specs.Str.{bytes_eq}
use Rattle.sem_msg.specs.Prelude.{most_vpes, IsValidCall}
use Rattle.sem_msg.specs.declared.call.Call.{Call}
use Rattle.sem_trace.specs.declared.fault.Cause.{Cause}
use Rattle.sem_trace.specs.declared.call_forms.CallForm.{CallForm}
use Rattle.sem_trace.specs.declared.call_forms.CallKind.{CallKind}
use Rattle.sem_trace.specs.declared.call_forms.CallKind.TheVariants.{Derive as Derives, Gate as Gates}
use Rattle.sem_trace.specs.declared.call_forms.CallKind.TheVariants.{Obtain as Obtains, Delegate as Delegates}
use Rattle.sem_trace.specs.declared.call_forms.CallKind.TheVariants.{OpenSession as Opens, AskOffer as Asks}
use Rattle.sem_trace.specs.declared.call_forms.CallKind.TheVariants.{Revoke as Revokes, Bind as Binds, Read as Reads}
use Rattle.sem_trace.specs.declared.call_forms.CallKind.TheVariants.{Write as Writes, Send as Sends, Credit as Credits}
use Rattle.sem_trace.specs.declared.call_forms.CallKind.TheVariants.{Exit as Exits, Clear as Clears}
use Rattle.sem_trace.specs.Forms.{Place, form_fault, calls, choice, word_at}
use Rattle.sem_trace.specs.Declarations.{call_from}
use Rattle.sem_trace.specs.Words.{call_words}
use Rattle.sem_trace.specs.Places.{AreRead, CanStandIn, AreOf}
use Rattle.sem_trace.specs.Readers.{ReadsCall}
use Rattle.sem_trace.specs.Slots.{slot_place}
use Rattle.sem_trace.specs.CallForms.{IsRow, call_spelling, call_with}
use Rattle.sem_trace.proofs.Nodes.{some_vpe}

-- rows that are the same have the same name and the same places
pub same_name : {r s : List ℕ × List Place} → r ≡ s → r.0 ≡ s.0
same_name same = ap (λ (r : List ℕ × List Place). r.0) same

pub same_places : {r s : List ℕ × List Place} → r ≡ s → r.1 ≡ s.1
same_places same = ap (λ (r : List ℕ × List Place). r.1) same

-- a test that none of the first elements passes, nor the next
pub none_more : {X : Type 0} (p : X → Bool) (xs : List X) (i : ℕ) (d : X) → i < length xs →
    list_any p (take i xs) ≡ false → p (get_or xs i d) ≡ false →
    list_any p (take (i + 1) xs) ≡ false
none_more p xs i d within so_far here
    = rw (add-one i, take-suc xs i d within, list_any-append p (take i xs) (get_or xs i d ∷ []), so_far, here) refl

list_any-map : {X Y : Type 0} (p : Y → Bool) (f : X → Y) (xs : List X) →
    list_any p (map f xs) ≡ list_any (λ x. p (f x)) xs
list_any-map p f [] = refl
list_any-map p f (x ∷ xs) = rw (list_any-map p f xs) refl

-- a word that is the name of none of the first n forms is that of no row, where there are no more
pub no_row : {X : Type 0} (row : X → List ℕ × List Place) (forms : List X) (name : List ℕ) (n : ℕ) →
    length forms ≤ n → list_any (λ form. bytes_eq name (row form).0) (take n forms) ≡ false →
    list_any (bytes_eq name) (map (λ r. r.0) (map row forms)) ≡ false
no_row row forms name n all none =
    list_any-map (bytes_eq name) (λ r. r.0) (map row forms)
    ∙ list_any-map (λ r. bytes_eq name r.0) row forms
    ∙ rw (take_all n forms all) at none

-- what holds of any five numbers holds of a list of five
pub of_five : (P : List ℕ → Type 0) → ((a b c d e : ℕ) → P (a ∷ b ∷ c ∷ d ∷ e ∷ [])) → (ns : List ℕ) →
    length ns ≡ 5 → P ns
of_five P holds (a ∷ b ∷ c ∷ d ∷ e ∷ []) five = holds a b c d e
of_five P holds [] five = absurd (omega arith)
of_five P holds (a ∷ []) five = absurd (omega arith)
of_five P holds (a ∷ b ∷ []) five = absurd (omega arith)
of_five P holds (a ∷ b ∷ c ∷ []) five = absurd (omega arith)
of_five P holds (a ∷ b ∷ c ∷ d ∷ []) five = absurd (omega arith)
of_five P holds (a ∷ b ∷ c ∷ d ∷ e ∷ f ∷ ns) five = absurd (omega arith)

-- a call has five numbers at most
pub few_places : (version : ℕ) (k : CallKind) → length (call_spelling version k).1 ≤ 5
unfolding calls
few_places version Derives = omega arith
few_places version Gates = omega arith
few_places version Obtains = omega arith
few_places version Delegates = omega arith
few_places version Opens = omega arith
few_places version Asks = omega arith
few_places version Revokes = omega arith
few_places version Binds = omega arith
few_places version Reads = omega arith
few_places version Writes = omega arith
few_places version Sends = omega arith
few_places version Credits = omega arith
few_places version Exits = omega arith
few_places version Clears = omega arith

-- behind the name of a kind stand its places
pub row_fault : (version : ℕ) (k : CallKind) (words : List (List ℕ)) (more : List Place) →
    form_fault (choice (calls version) (call_spelling version k).0 ++ more) ((call_spelling version k).0 ∷ words)
    ≡ form_fault ((call_spelling version k).1 ++ more) words
unfolding form_fault calls
row_fault version Derives words more = refl
row_fault version Gates words more = refl
row_fault version Obtains words more = refl
row_fault version Delegates words more = refl
row_fault version Opens words more = refl
row_fault version Asks words more = refl
row_fault version Revokes words more = refl
row_fault version Binds words more = refl
row_fault version Reads words more = refl
row_fault version Writes words more = refl
row_fault version Sends words more = refl
row_fault version Credits words more = refl
row_fault version Exits words more = refl
row_fault version Clears words more = refl

-- the call of words with such numbers
pub row_call : (version : ℕ) (k : CallKind) (words : List (List ℕ)) (ns : List ℕ) →
    AreOf (length (call_spelling version k).1) words ns →
    call_with k ns ≡ call_from ((call_spelling version k).0 ∷ words)
unfolding calls call_from
row_call version Derives words ns are
    = rw (are 0 (omega arith), are 1 (omega arith), are 2 (omega arith), are 3 (omega arith), are 4 (omega arith))
    refl
row_call version Gates words ns are
    = rw (are 0 (omega arith), are 1 (omega arith), are 2 (omega arith), are 3 (omega arith)) refl
row_call version Obtains words ns are = rw (are 0 (omega arith), are 1 (omega arith), are 2 (omega arith)) refl
row_call version Delegates words ns are = rw (are 0 (omega arith), are 1 (omega arith), are 2 (omega arith)) refl
row_call version Opens words ns are = rw (are 0 (omega arith), are 1 (omega arith)) refl
row_call version Asks words ns are = rw (are 0 (omega arith), are 1 (omega arith), are 2 (omega arith)) refl
row_call version Revokes words ns are = rw (are 0 (omega arith)) refl
row_call version Binds words ns are = rw (are 0 (omega arith), are 1 (omega arith)) refl
row_call version Reads words ns are = rw (are 0 (omega arith), are 1 (omega arith), are 2 (omega arith)) refl
row_call version Writes words ns are = rw (are 0 (omega arith), are 1 (omega arith), are 2 (omega arith)) refl
row_call version Sends words ns are = rw (are 0 (omega arith), are 1 (omega arith)) refl
row_call version Credits words ns are = rw (are 0 (omega arith)) refl
row_call version Exits words ns are = refl
row_call version Clears words ns are = rw (are 0 (omega arith)) refl

-- how a call with five numbers is written
row_words_of : (version : ℕ) (k : CallKind) (a b c d e : ℕ) →
    let ns : List ℕ = a ∷ b ∷ c ∷ d ∷ e ∷ [] in
    call_words (call_with k ns) ≡ (call_spelling version k).0 ∷ map decimal (take (length (call_spelling version k).1) ns)
unfolding calls
row_words_of version Derives a b c d e = refl
row_words_of version Gates a b c d e = refl
row_words_of version Obtains a b c d e = refl
row_words_of version Delegates a b c d e = refl
row_words_of version Opens a b c d e = refl
row_words_of version Asks a b c d e = refl
row_words_of version Revokes a b c d e = refl
row_words_of version Binds a b c d e = refl
row_words_of version Reads a b c d e = refl
row_words_of version Writes a b c d e = refl
row_words_of version Sends a b c d e = refl
row_words_of version Credits a b c d e = refl
row_words_of version Exits a b c d e = refl
row_words_of version Clears a b c d e = refl

pub row_words : (version : ℕ) (k : CallKind) (ns : List ℕ) → length ns ≡ 5 →
    call_words (call_with k ns) ≡ (call_spelling version k).0 ∷ map decimal (take (length (call_spelling version k).1) ns)
row_words version k ns five =
    of_five (λ (ms : List ℕ). call_words (call_with k ms)
    ≡ (call_spelling version k).0 ∷ map decimal (take (length (call_spelling version k).1) ms))
    (λ a b c d e. row_words_of version k a b c d e) ns five

-- a call with numbers in their places is one of a text of the version
row_valid_of : (version : ℕ) (k : CallKind) (a b c d e : ℕ) →
    let ns : List ℕ = a ∷ b ∷ c ∷ d ∷ e ∷ [] in CanStandIn (call_spelling version k).1 ns →
    IsValidCall (most_vpes version) (call_with k ns)
unfolding calls
row_valid_of version Derives a b c d e stand = search arith
row_valid_of version Gates a b c d e stand = search arith
row_valid_of version Obtains a b c d e stand = let some : 1 ≤ most_vpes version = some_vpe version in search arith
row_valid_of version Delegates a b c d e stand = let some : 1 ≤ most_vpes version = some_vpe version in search arith
row_valid_of version Opens a b c d e stand = search arith
row_valid_of version Asks a b c d e stand = search arith
row_valid_of version Revokes a b c d e stand = search arith
row_valid_of version Binds a b c d e stand = search arith
row_valid_of version Reads a b c d e stand = search arith
row_valid_of version Writes a b c d e stand = search arith
row_valid_of version Sends a b c d e stand = search arith
row_valid_of version Credits a b c d e stand = search arith
row_valid_of version Exits a b c d e stand = tt
row_valid_of version Clears a b c d e stand = search arith

pub row_valid : (version : ℕ) (k : CallKind) (ns : List ℕ) → length ns ≡ 5 → CanStandIn (call_spelling version k).1 ns →
    IsValidCall (most_vpes version) (call_with k ns)
row_valid version k ns five =
    of_five (λ (ms : List ℕ). CanStandIn (call_spelling version k).1 ms → IsValidCall (most_vpes version) (call_with k ms))
    (λ a b c d e. row_valid_of version k a b c d e) ns five

-- a fault behind the name of a call is one of the call
pub call_failed : (version : ℕ) (form : CallForm) (name : List ℕ) (words all : List (List ℕ)) (fault : Cause × ℕ) →
    IsRow form → name ≡ form.name.now →
    all ≡ name ∷ words → ((more : List Place) →
    form_fault (map (slot_place version 1) form.slots.now ++ more) words ≡ Some fault) → (more : List Place) →
    form_fault (choice (calls version) (word_at all 0) ++ more) all ≡ Some fault
call_failed version form name words all fault row named is failed more =
    let name_is : form.name.now ≡ (call_spelling version form.kind).0 = same_name (row version) in
    let places : map (slot_place version 1) form.slots.now ≡ (call_spelling version form.kind).1
    = same_places (row version) in
    rw (is, named, name_is) (row_fault version form.kind words more ∙ (rw places at (failed more)))

-- a call is read if its name and its numbers are
pub call_read : (version : ℕ) (form : CallForm) (name : List ℕ) (words all rest : List (List ℕ)) (ns : List ℕ)
    (call : Call) →
    IsRow form →
    name ≡ form.name.now → all ≡ name ∷ words → call ≡ call_with form.kind ns → length ns ≡ 5 →
    AreRead (map (slot_place version 1) form.slots.now) (map decimal (take (length form.slots.now) ns)) words rest →
    CanStandIn (map (slot_place version 1) form.slots.now) ns → AreOf (length form.slots.now) words ns →
    ReadsCall version all rest (Ok call)
call_read version form name words all rest ns call row named is call_is five read stand are =
    let name_is : form.name.now ≡ (call_spelling version form.kind).0 = same_name (row version) in
    let places : map (slot_place version 1) form.slots.now ≡ (call_spelling version form.kind).1
    = same_places (row version) in
    let count : length form.slots.now ≡ length (call_spelling version form.kind).1
    = sym (length-map form.slots.now (slot_place version 1)) ∙ ap length places in
    let spelled : words ≡ map decimal (take (length (call_spelling version form.kind).1) ns) ++ rest
    = rw count at read.spelled in
    record {
      reads = record {
        filled = λ more. rw (is, named, name_is) (row_fault version form.kind words more
            ∙ (rw places at (read.filled more)));
        spelled = rw (is, named, name_is, call_is, row_words version form.kind ns five)
            (ap (λ (ws : List (List ℕ)). (call_spelling version form.kind).0 ∷ ws) spelled);
      };
      value = rw (is, named, name_is, call_is) (row_call version form.kind words ns (rw count at are));
      valid = rw call_is (row_valid version form.kind ns five (rw places at stand));
    }

pub few_slots : (form : CallForm) → IsRow form → length form.slots.now ≤ 5
few_slots form row =
    let places : map (slot_place 1 1) form.slots.now ≡ (call_spelling 1 form.kind).1 = same_places (row 1) in
    let count : length form.slots.now ≡ length (call_spelling 1 form.kind).1
    = sym (length-map form.slots.now (slot_place 1 1)) ∙ ap length places in
    rw count (few_places 1 form.kind)

pub call_stands : (version : ℕ) (form : CallForm) (ns : List ℕ) → IsRow form →
    CanStandIn (map (slot_place version 1) form.slots.now) ns →
    (v : ℕ) × CanStandIn (call_spelling v form.kind).1 ns
call_stands version form ns row stand = (version, rw (same_places (row version)) at stand)

-- a form has the name of its kind
pub form_name : (form : CallForm) (k : CallKind) → IsRow form → form.kind ≡ k →
    form.name.now ≡ (call_spelling 1 k).0
form_name form k row kind_is = rw kind_is at (same_name (row 1))

-- which is short
short_row : (k : CallKind) → length (call_spelling 1 k).0 ≤ 8
unfolding calls
short_row Derives = omega arith
short_row Gates = omega arith
short_row Obtains = omega arith
short_row Delegates = omega arith
short_row Opens = omega arith
short_row Asks = omega arith
short_row Revokes = omega arith
short_row Binds = omega arith
short_row Reads = omega arith
short_row Writes = omega arith
short_row Sends = omega arith
short_row Credits = omega arith
short_row Exits = omega arith
short_row Clears = omega arith

pub short_name : (form : CallForm) (k : CallKind) → IsRow form → form.kind ≡ k → length form.name.now ≤ 8
short_name form k row kind_is = rw (form_name form k row kind_is) (short_row k)
