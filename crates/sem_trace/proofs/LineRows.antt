-- The rows of the lines after the second, and of the objects of roots.
use Rattle.std.proofs.Common.{◌≡◌, ℕ, ◌==◌, false, List, [], ◌∷◌, ◌++◌, ◌≤◌, length, map, drop, get_or, refl, ap}
use Rattle.std.proofs.Common.{sym, ◌∙◌, subst, codes, Option, Some, Result, Ok, Err, append-nil, get_or-drop}
use Rattle.std.proofs.Common.{add-zero, arith}
use Rattle.std.proofs.lemmas.List.{length-map}
use Rattle.std.specs.Result.{IfOk}
use Rattle.sem_msg.specs.Prelude.{most_vpes}
use Rattle.sem_trace.specs.declared.fault.Cause.{Cause}
use Rattle.sem_trace.specs.declared.declaration.Declaration.{Declaration}
use Rattle.sem_trace.specs.declared.declaration.Declaration.TheVariants.{Call as Calls}
use Rattle.sem_trace.specs.declared.line_forms.PlainKind.{PlainKind}
use Rattle.sem_trace.specs.declared.line_forms.PlainKind.TheVariants.{Kernels as TheKernels, Window as TheWindow}
use Rattle.sem_trace.specs.declared.line_forms.PlainKind.TheVariants.{Pe as ThePe, Vpe as TheVpe, Offer as TheOffer}
use Rattle.sem_trace.specs.declared.line_forms.PlainKind.TheVariants.{Service as TheService, Deny as TheDeny}
use Rattle.sem_trace.specs.declared.line_forms.PlainKind.TheVariants.{Kill as TheKill, End as TheEnd}
use Rattle.sem_trace.specs.declared.line_forms.LineKind.{LineKind}
use Rattle.sem_trace.specs.declared.line_forms.LineKind.TheVariants.{Plain, Root, Call}
use Rattle.sem_trace.specs.declared.line_forms.LineForm.{LineForm}
use Rattle.sem_trace.specs.declared.line_forms.RootKind.{RootKind}
use Rattle.sem_trace.specs.declared.line_forms.RootKind.TheVariants.{Memory as TheMemory, Receive as TheReceive}
use Rattle.sem_trace.specs.declared.line_forms.RootForm.{RootForm}
use Rattle.sem_trace.specs.Forms.{Place, form_fault, form, lines, root_objects, calls, choice, node, byte, word_at}
use Rattle.sem_trace.specs.Declarations.{call_from, declaration, root_from}
use Rattle.sem_trace.specs.Places.{CanStandIn, AreOf, told_fault}
use Rattle.sem_trace.specs.Ranges.{IsNode, IsInRange}
use Rattle.sem_trace.specs.Readers.{ReadsWords}
use Rattle.sem_trace.specs.Slots.{slot_place}
use Rattle.sem_trace.specs.LineForms.{line_form, rest_places, line_row, number_places, HasKind, IsLineRow, FitPlain, plain_with}
use Rattle.sem_trace.specs.LineForms.{root_row, IsRootRow, root_with, root_of}
use Rattle.sem_trace.proofs.CallRows.{of_five, same_name, same_places}
use Rattle.sem_trace.proofs.Nodes.{some_vpe}

-- an object of a root has three numbers at most
few_object_places : (k : RootKind) → length (root_row k).1 ≤ 5
unfolding root_objects
few_object_places TheMemory = omega arith
few_object_places TheReceive = omega arith

object_count : (f : RootForm) → IsRootRow f → length f.slots.now ≡ length (root_row f.kind).1
object_count f row = sym (length-map f.slots.now (slot_place 1 1)) ∙ ap length (same_places row)

pub few_object_slots : (f : RootForm) → IsRootRow f → length f.slots.now ≤ 5
few_object_slots f row = rw (object_count f row) (few_object_places f.kind)

-- behind the name of an object stand its places
object_fault : (k : RootKind) (words : List (List ℕ)) →
    form_fault (choice root_objects (root_row k).0) ((root_row k).0 ∷ words) ≡ form_fault (root_row k).1 words
unfolding form_fault root_objects
object_fault TheMemory words = refl
object_fault TheReceive words = refl

-- the fault of an object is that of its numbers, or of the words behind them
pub object_faults : (f : RootForm) (name : List ℕ) (words all : List (List ℕ)) (fault : Option (Cause × ℕ)) →
    IsRootRow f → name ≡ f.name.now →
    all ≡ name ∷ words → form_fault (map (slot_place 1 1) f.slots.now ++ []) words ≡ fault →
    form_fault (choice root_objects (word_at all 0)) all ≡ fault
object_faults f name words all fault row named is found =
    let name_is : f.name.now ≡ (root_row f.kind).0 = same_name row in
    let places : map (slot_place 1 1) f.slots.now ≡ (root_row f.kind).1 = same_places row in
    rw (is, named, name_is) (object_fault f.kind words ∙ (rw (append-nil, places) at found))

-- the object of words with such numbers
object_told : (vpe sel : ℕ) (k : RootKind) (words : List (List ℕ)) (ns : List ℕ) →
    AreOf (length (root_row k).1) words ns →
    root_with vpe sel k ns ≡ root_of vpe sel ((root_row k).0 ∷ words)
unfolding root_objects
object_told vpe sel TheMemory words ns are = rw (are 0 (omega arith), are 1 (omega arith), are 2 (omega arith)) refl
object_told vpe sel TheReceive words ns are = rw (are 0 (omega arith)) refl

pub object_is : (f : RootForm) (name : List ℕ) (words all : List (List ℕ)) (vpe sel : ℕ) (ns : List ℕ)
    (d : Declaration) → IsRootRow f → name ≡ f.name.now → all ≡ name ∷ words → AreOf (length f.slots.now) words ns →
    d ≡ root_with vpe sel f.kind ns → d ≡ root_of vpe sel all
object_is f name words all vpe sel ns d row named is are told =
    let name_is : f.name.now ≡ (root_row f.kind).0 = same_name row in
    rw (is, named, name_is, told) (object_told vpe sel f.kind words ns (rw (object_count f row) at are))

object_valid_of : (version kernels vpe sel : ℕ) (k : RootKind) (a b c d e : ℕ) → IsNode version vpe → sel ≤ 255 →
    CanStandIn (root_row k).1 (a ∷ b ∷ c ∷ d ∷ e ∷ []) →
    IsInRange version kernels (root_with vpe sel k (a ∷ b ∷ c ∷ d ∷ e ∷ []))
unfolding root_objects
object_valid_of version kernels vpe sel TheMemory a b c d e node' sel' stand = search arith
object_valid_of version kernels vpe sel TheReceive a b c d e node' sel' stand = search arith

pub object_valid : (version kernels vpe sel : ℕ) (f : RootForm) (ns : List ℕ) (d : Declaration) → IsRootRow f →
    length ns ≡ 5 → IsNode version vpe → sel ≤ 255 →
    CanStandIn (map (slot_place 1 1) f.slots.now) ns → d ≡ root_with vpe sel f.kind ns → IsInRange version kernels d
object_valid version kernels vpe sel f ns d row five node' sel' stand told =
    let places : map (slot_place 1 1) f.slots.now ≡ (root_row f.kind).1 = same_places row in
    rw told (of_five
    (λ (ms : List ℕ). CanStandIn (root_row f.kind).1 ms →
    IsInRange version kernels (root_with vpe sel f.kind ms))
    (λ a b c d e. object_valid_of version kernels vpe sel f.kind a b c d e node' sel') ns five (rw places at stand))

window_fault : (version kernels : ℕ) (words : List (List ℕ)) → (version == 1) ≡ false →
    form_fault (form version kernels (codes "window" ∷ words)) (codes "window" ∷ words)
    ≡ form_fault (line_row version kernels (codes "window" ∷ words) (Plain TheWindow)).1 words
unfolding form_fault form lines
window_fault version kernels [] other = rw other refl
window_fault version kernels (word ∷ words) other = rw other refl

-- behind the name of a kind stand its places
line_fault : (version kernels : ℕ) (k : LineKind) (name : List ℕ) (words : List (List ℕ)) → HasKind version k →
    name ≡ (line_row version kernels (name ∷ words) k).0 →
    form_fault (form version kernels (name ∷ words)) (name ∷ words)
    ≡ form_fault (line_row version kernels (name ∷ words) k).1 words
unfolding form_fault form lines
line_fault version kernels (Plain TheKernels) name words has named = rw named refl
line_fault version kernels (Plain ThePe) name words has named = rw named refl
line_fault version kernels (Plain TheVpe) name words has named = rw named refl
line_fault version kernels (Plain TheService) name words has named = rw named refl
line_fault version kernels (Plain TheOffer) name words has named = rw named refl
line_fault version kernels (Plain TheDeny) name words has named = rw named refl
line_fault version kernels (Plain TheKill) name words has named = rw named refl
line_fault version kernels (Plain TheEnd) name words has named = rw named refl
line_fault version kernels (Plain TheWindow) name words has named =
    let window' : name ≡ codes "window" = rw has at named in
    subst (λ (n : List ℕ). form_fault (form version kernels (n ∷ words)) (n ∷ words)
    ≡ form_fault (line_row version kernels (n ∷ words) (Plain TheWindow)).1 words)
    (sym window') (window_fault version kernels words has)
line_fault version kernels Root name words has named = rw named refl
line_fault version kernels Call name words has named = rw named refl

-- each version has the line of a call, and nine others
pub some_lines : (version : ℕ) (forms : List LineForm) →
    ((kernels : ℕ) (words : List (List ℕ)) → map (line_form version kernels words) forms ≡ lines version kernels words) →
    10 ≤ length forms
unfolding lines
some_lines version forms table =
    let rows : length (map (line_form version 1 []) forms) ≡ length (lines version 1 []) = ap length (table 1 []) in
    let count : length (map (line_form version 1 []) forms) ≡ length forms = length-map forms (line_form version 1 []) in
    omega arith

-- a line has five numbers at most
few_line_places : (version kernels : ℕ) (k : LineKind) → HasKind version k →
    length (number_places version kernels k) ≤ 5
unfolding lines
few_line_places version kernels (Plain TheKernels) has = omega arith
few_line_places version kernels (Plain ThePe) has = omega arith
few_line_places version kernels (Plain TheVpe) has = omega arith
few_line_places version kernels (Plain TheService) has = omega arith
few_line_places version kernels (Plain TheOffer) has = omega arith
few_line_places version kernels (Plain TheDeny) has = omega arith
few_line_places version kernels (Plain TheKill) has = omega arith
few_line_places version kernels (Plain TheEnd) has = omega arith
few_line_places version kernels (Plain TheWindow) has = rw has (omega arith)
few_line_places version kernels Root has = omega arith
few_line_places version kernels Call has = omega arith

line_count : (version kernels : ℕ) (f : LineForm) → IsLineRow version f → length f.slots.now
    ≡ length (number_places version kernels f.kind)
line_count version kernels f row = sym (length-map f.slots.now (slot_place version kernels))
    ∙ ap length (row.numbers kernels)

pub few_line_slots : (version : ℕ) (f : LineForm) → IsLineRow version f → length f.slots.now ≤ 5
few_line_slots version f row = rw (line_count version 1 f row) (few_line_places version 1 f.kind row.has)

-- the fault of a line is that of its numbers and of what follows them
line_faults : (version kernels : ℕ) (f : LineForm) (name : List ℕ) (words all : List (List ℕ))
    (fault : Option (Cause × ℕ)) → IsLineRow version f →
    name ≡ f.name.now → all ≡ name ∷ words →
    form_fault (map (slot_place version kernels) f.slots.now ++ rest_places version
    (word_at words (length f.slots.now)) f.kind) words ≡ fault →
    form_fault (form version kernels all) all ≡ fault
line_faults version kernels f name words all fault row named is found =
    let name_is : f.name.now ≡ (line_row version kernels (name ∷ words) f.kind).0
    = same_name (row.row kernels (name ∷ words)) in
    let places : map (slot_place version kernels) f.slots.now ++ rest_places version
    (word_at words (length f.slots.now)) f.kind
    ≡ (line_row version kernels (name ∷ words) f.kind).1 = same_places (row.row kernels (name ∷ words)) in
    rw is (line_fault version kernels f.kind name words row.has (named ∙ name_is) ∙ (rw places at found))

pub line_failed : (version kernels : ℕ) (f : LineForm) (name : List ℕ) (words all : List (List ℕ))
    (fault : Cause × ℕ) → IsLineRow version f →
    name ≡ f.name.now → all ≡ name ∷ words →
    ((more : List Place) → form_fault (map (slot_place version kernels) f.slots.now ++ more) words ≡ Some fault) →
    form_fault (form version kernels all) all ≡ Some fault
line_failed version kernels f name words all fault row named is failed
    = line_faults version kernels f name words all (Some fault) row named is (failed _)

line_filled : (version kernels : ℕ) (f : LineForm) (name : List ℕ) (words all rest : List (List ℕ))
    (fault : Option (Cause × ℕ)) → IsLineRow version f →
    name ≡ f.name.now → all ≡ name ∷ words →
    ((more : List Place) → form_fault (map (slot_place version kernels) f.slots.now ++ more) words
    ≡ form_fault more rest) →
    rest ≡ drop (length f.slots.now) words → form_fault (rest_places version (word_at rest 0) f.kind) rest ≡ fault →
    form_fault (form version kernels all) all ≡ fault
line_filled version kernels f name words all rest fault row named is filled behind found =
    let n : ℕ = length f.slots.now in
    let next : word_at rest 0 ≡ word_at words n = ap (λ (ws : List (List ℕ)). word_at ws 0) behind
    ∙ (get_or-drop n words 0 [] ∙ ap (λ (i : ℕ). word_at words i) (add-zero n)) in
    line_faults version kernels f name words all fault row named is (filled _ ∙ (rw next at found))

-- what a line with such numbers declares
plain_told : (version kernels : ℕ) (k : PlainKind) (name : List ℕ) (words : List (List ℕ)) (ns : List ℕ) →
    HasKind version (Plain k) →
    name ≡ (line_row version kernels (name ∷ words) (Plain k)).0 →
    AreOf (length (number_places version kernels (Plain k))) words ns →
    plain_with k ns ≡ declaration (name ∷ words)
unfolding lines declaration
plain_told version kernels TheKernels name words ns has named are = rw (named, are 0 (omega arith)) refl
plain_told version kernels ThePe name words ns has named are
    = rw (named, are 0 (omega arith), are 1 (omega arith)) refl
plain_told version kernels TheVpe name words ns has named are
    = rw (named, are 0 (omega arith), are 1 (omega arith)) refl
plain_told version kernels TheService name words ns has named are
    = rw (named, are 0 (omega arith), are 1 (omega arith), are 2 (omega arith)) refl
plain_told version kernels TheOffer name words ns has named are
    = rw (named, are 0 (omega arith), are 1 (omega arith), are 2 (omega arith)) refl
plain_told version kernels TheDeny name words ns has named are
    = rw (named, are 0 (omega arith), are 1 (omega arith)) refl
plain_told version kernels TheKill name words ns has named are
    = rw (named, are 0 (omega arith), are 1 (omega arith)) refl
plain_told version kernels TheEnd name words ns has named are = rw named refl
plain_told version kernels TheWindow name words ns has named are =
    let window' : name ≡ codes "window" = rw has at named in
    let are' = rw has at are in
    rw (window', are' 0 (omega arith)) refl

-- it is in the ranges of the version
plain_valid_of : (version kernels : ℕ) (k : PlainKind) (a b c d e : ℕ) → 1 ≤ kernels → HasKind version (Plain k) →
    CanStandIn (number_places version kernels (Plain k)) (a ∷ b ∷ c ∷ d ∷ e ∷ []) →
    IsInRange version kernels (plain_with k (a ∷ b ∷ c ∷ d ∷ e ∷ []))
unfolding lines
plain_valid_of version kernels TheKernels a b c d e some has stand = tt
plain_valid_of version kernels ThePe a b c d e some has stand = let vpe : 1 ≤ most_vpes version
    = some_vpe version in search arith
plain_valid_of version kernels TheVpe a b c d e some has stand = let vpe : 1 ≤ most_vpes version
    = some_vpe version in search arith
plain_valid_of version kernels TheService a b c d e some has stand = let vpe : 1 ≤ most_vpes version
    = some_vpe version in search arith
plain_valid_of version kernels TheOffer a b c d e some has stand = search arith
plain_valid_of version kernels TheDeny a b c d e some has stand = let vpe : 1 ≤ most_vpes version
    = some_vpe version in search arith
plain_valid_of version kernels TheKill a b c d e some has stand = let vpe : 1 ≤ most_vpes version
    = some_vpe version in search arith
plain_valid_of version kernels TheEnd a b c d e some has stand = tt
plain_valid_of version kernels TheWindow a b c d e some has stand = let stand' = rw has at stand in rw has stand'.0

-- a line without anything behind its numbers
pub plain_read : (version kernels : ℕ) (f : LineForm) (k : PlainKind) (name : List ℕ)
    (words all rest new : List (List ℕ)) (ns : List ℕ)
    (result : Result Declaration Cause) → 1 ≤ kernels → IsLineRow version f → f.kind ≡ Plain k → name ≡ f.name.now →
    all ≡ name ∷ words → length ns ≡ 5 →
    ((more : List Place) → form_fault (map (slot_place version kernels) f.slots.now ++ more) words
    ≡ form_fault more rest) →
    rest ≡ drop (length f.slots.now) words → CanStandIn (map (slot_place version kernels) f.slots.now) ns →
    AreOf (length f.slots.now) words ns →
    form_fault [] rest ≡ told_fault result new → IfOk result (λ d. d ≡ plain_with k ns) →
    ReadsWords version kernels all new result
plain_read version kernels f k name words all rest new ns (Err cause) some row kind_is named is five filled behind
    stand are fault told = record {
      fault = line_filled version kernels f name words all rest _ row named is filled behind (rw kind_is fault);
      value = tt;
      ranges = tt;
    }
plain_read version kernels f k name words all rest new ns (Ok d) some row kind_is named is five filled behind stand
    are fault told =
    let name_is : name ≡ (line_row version kernels (name ∷ words) (Plain k)).0
    = rw kind_is at (named ∙ same_name (row.row kernels (name ∷ words))) in
    let has : HasKind version (Plain k) = rw kind_is at row.has in
    let places : map (slot_place version kernels) f.slots.now ≡ number_places version kernels (Plain k)
    = rw kind_is at (row.numbers kernels) in
    let count : length f.slots.now ≡ length (number_places version kernels (Plain k))
    = rw kind_is at (line_count version kernels f row) in
    record {
      fault = line_filled version kernels f name words all rest _ row named is filled behind (rw kind_is fault);
      value = told ∙ (rw is (plain_told version kernels k name words ns has name_is (rw count at are)));
      ranges = rw told (of_five (λ (ms : List ℕ). CanStandIn (number_places version kernels (Plain k)) ms → IsInRange
          version kernels (plain_with k ms))
          (λ a b c d e. plain_valid_of version kernels k a b c d e some has) ns five (rw places at stand));
    }

-- the numbers of a line of a root
root_places : (version kernels : ℕ) → number_places version kernels Root ≡ node version ∷ byte ∷ []
unfolding lines
root_places version kernels = refl

root_numbers_of : (version a b c d e : ℕ) → CanStandIn (node version ∷ byte ∷ []) (a ∷ b ∷ c ∷ d ∷ e ∷ []) →
    IsNode version a × (b ≤ 255)
root_numbers_of version a b c d e stand = let some : 1 ≤ most_vpes version
    = some_vpe version in (omega arith, stand.1.0.1)

pub root_numbers : (version kernels : ℕ) (f : LineForm) (ns : List ℕ) → IsLineRow version f → f.kind ≡ Root →
    length ns ≡ 5 →
    CanStandIn (map (slot_place version kernels) f.slots.now) ns →
    IsNode version (get_or ns 0 0) × (get_or ns 1 0 ≤ 255)
root_numbers version kernels f ns row kind_is five stand =
    let places : map (slot_place version kernels) f.slots.now ≡ node version ∷ byte ∷ []
    = (rw kind_is at (row.numbers kernels)) ∙ root_places version kernels in
    of_five (λ (ms : List ℕ). CanStandIn (node version ∷ byte ∷ []) ms →
    IsNode version (get_or ms 0 0) × (get_or ms 1 0 ≤ 255)) (root_numbers_of version) ns five
    (rw places at stand)

-- the numbers of a line of a call
call_places : (version kernels : ℕ) → number_places version kernels Call ≡ node version ∷ []
unfolding lines
call_places version kernels = refl

call_numbers_of : (version a b c d e : ℕ) → CanStandIn (node version ∷ []) (a ∷ b ∷ c ∷ d ∷ e ∷ []) → IsNode version a
call_numbers_of version a b c d e stand = let some : 1 ≤ most_vpes version = some_vpe version in omega arith

pub call_numbers : (version kernels : ℕ) (f : LineForm) (ns : List ℕ) → IsLineRow version f → f.kind ≡ Call →
    length ns ≡ 5 →
    CanStandIn (map (slot_place version kernels) f.slots.now) ns → IsNode version (get_or ns 0 0)
call_numbers version kernels f ns row kind_is five stand =
    let places : map (slot_place version kernels) f.slots.now ≡ node version ∷ []
    = (rw kind_is at (row.numbers kernels)) ∙ call_places version kernels in
    of_five (λ (ms : List ℕ). CanStandIn (node version ∷ []) ms →
    IsNode version (get_or ms 0 0)) (call_numbers_of version) ns five (rw places at stand)

-- what the words of a root tell
root_told : (version kernels : ℕ) (name : List ℕ) (words rest : List (List ℕ)) (ns : List ℕ) → name
    ≡ (line_row version kernels (name ∷ words) Root).0 →
    AreOf 2 words ns → rest ≡ drop 2 words → root_of (get_or ns 0 0) (get_or ns 1 0) rest ≡ declaration (name ∷ words)
unfolding lines declaration root_from
root_told version kernels name words rest ns named are behind =
    let third = λ (i : ℕ). ap (λ (ws : List (List ℕ)). word_at ws i) behind ∙ get_or-drop 2 words i [] in
    rw (named, are 0 (omega arith), are 1 (omega arith), third 0, third 1, third 2, third 3) refl

-- a line with an object behind its numbers
pub root_read : (version kernels : ℕ) (f : LineForm) (name : List ℕ) (words all rest new : List (List ℕ))
    (ns : List ℕ) (result : Result Declaration Cause) →
    IsLineRow version f → f.kind ≡ Root → name ≡ f.name.now → all ≡ name ∷ words →
    ((more : List Place) → form_fault (map (slot_place version kernels) f.slots.now ++ more) words
    ≡ form_fault more rest) →
    rest ≡ drop (length f.slots.now) words → AreOf (length f.slots.now) words ns →
    form_fault (choice root_objects (word_at rest 0)) rest ≡ told_fault result new →
    IfOk result (λ d. d ≡ root_of (get_or ns 0 0) (get_or ns 1 0) rest) → IfOk result (IsInRange version kernels) →
    ReadsWords version kernels all new result
root_read version kernels f name words all rest new ns (Err cause) row kind_is named is filled behind are fault told
    valid = record {
      fault = line_filled version kernels f name words all rest _ row named is filled behind (rw kind_is fault);
      value = tt;
      ranges = tt;
    }
root_read version kernels f name words all rest new ns (Ok d) row kind_is named is filled behind are fault told valid
    =
    let name_is : name ≡ (line_row version kernels (name ∷ words) Root).0
    = rw kind_is at (named ∙ same_name (row.row kernels (name ∷ words))) in
    let count : length f.slots.now ≡ 2 = (rw kind_is at (line_count version kernels f row))
    ∙ ap length (root_places version kernels) in
    record {
      fault = line_filled version kernels f name words all rest _ row named is filled behind (rw kind_is fault);
      value = told ∙ (rw is (root_told version kernels name words rest ns name_is (rw count at are)
          (rw count at behind)));
      ranges = valid;
    }

-- what the words of a call tell
call_told : (version kernels : ℕ) (name : List ℕ) (words rest : List (List ℕ)) (ns : List ℕ) → name
    ≡ (line_row version kernels (name ∷ words) Call).0 →
    AreOf 1 words ns → rest ≡ drop 1 words → Calls (get_or ns 0 0) (call_from rest) ≡ declaration (name ∷ words)
unfolding lines declaration
call_told version kernels name words rest ns named are behind = rw (named, are 0 (omega arith), behind) refl

-- a line with a call behind its number
pub call_line_read : (version kernels : ℕ) (f : LineForm) (name : List ℕ) (words all rest new : List (List ℕ))
    (ns : List ℕ)
    (result : Result Declaration Cause) → IsLineRow version f → f.kind ≡ Call → name ≡ f.name.now → all
    ≡ name ∷ words →
    ((more : List Place) → form_fault (map (slot_place version kernels) f.slots.now ++ more) words
    ≡ form_fault more rest) →
    rest ≡ drop (length f.slots.now) words → AreOf (length f.slots.now) words ns →
    form_fault (choice (calls version) (word_at rest 0)) rest ≡ told_fault result new →
    IfOk result (λ d. d ≡ Calls (get_or ns 0 0) (call_from rest)) →
    IfOk result (IsInRange version kernels) → ReadsWords version kernels all new result
call_line_read version kernels f name words all rest new ns (Err cause) row kind_is named is filled behind are fault
    told valid = record {
      fault = line_filled version kernels f name words all rest _ row named is filled behind (rw kind_is fault);
      value = tt;
      ranges = tt;
    }
call_line_read version kernels f name words all rest new ns (Ok d) row kind_is named is filled behind are fault told
    valid =
    let name_is : name ≡ (line_row version kernels (name ∷ words) Call).0
    = rw kind_is at (named ∙ same_name (row.row kernels (name ∷ words))) in
    let count : length f.slots.now ≡ 1 = (rw kind_is at (line_count version kernels f row))
    ∙ ap length (call_places version kernels) in
    record {
      fault = line_filled version kernels f name words all rest _ row named is filled behind (rw kind_is fault);
      value = told ∙ (rw is (call_told version kernels name words rest ns name_is (rw count at are)
          (rw count at behind)));
      ranges = valid;
    }

-- what a line without anything behind its numbers asks of these
pub plain_fits : (version kernels : ℕ) (f : LineForm) (k : PlainKind) (ns : List ℕ) → kernels ≤ 4294967295 →
    IsLineRow version f → f.kind ≡ Plain k →
    CanStandIn (map (slot_place version kernels) f.slots.now) ns → FitPlain k ns
plain_fits version kernels f k ns small row kind_is stand =
    let places : map (slot_place version kernels) f.slots.now ≡ number_places version kernels (Plain k)
    = rw kind_is at (row.numbers kernels) in
    (version, kernels, small, rw kind_is at row.has, rw places at stand)
