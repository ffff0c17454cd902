-- What stands behind the name of a message, an object or a target is read.
use Rattle.std.proofs.Common.{◌≡◌, ℕ, ◌≤◌, List, [], ◌∷◌, ◌++◌, length, map, None, Ok, Err, refl, ap, ◌∙◌, sym, arith, rules}
use Rattle.std.specs.List.{All}
use Rattle.std.proofs.lemmas.List.{append-nil}
use Rattle.sem_key.specs.declared.key.Kind.{Kind}
use Rattle.sem_key.specs.declared.key.Kind.TheVariants.{Mem, Recv, Send, Serv, Sess}
use Rattle.sem_trace.specs.declared.fault.Cause.{Cause}
use Rattle.sem_trace.specs.declared.fault.Cause.TheVariants.{UnknownWord}
use Rattle.sem_trace.specs.declared.message_forms.Form.{Form}
use Rattle.sem_trace.specs.declared.message_forms.Part.{Part}
use Rattle.sem_trace.specs.declared.message_forms.TargetKind.{TargetKind}
use Rattle.sem_trace.specs.declared.message_forms.TargetKind.TheVariants.{Sel, Serv as ServTarget, Offer}
use Rattle.sem_trace.specs.declared.message_forms.MessageKind.{MessageKind}
use Rattle.sem_trace.specs.declared.message_forms.MessageKind.TheVariants.{ObtainReq, ObtainOk, ObtainNo, DelegateReq}
use Rattle.sem_trace.specs.declared.message_forms.MessageKind.TheVariants.{DelegatePrepared, DelegateNo, Ack, Orphan}
use Rattle.sem_trace.specs.declared.message_forms.MessageKind.TheVariants.{RevokeReq, RevokeDone, Unlink}
use Rattle.sem_trace.specs.Forms.{Place, Table, place_fault, form_fault, behind, choice, word_at}
use Rattle.sem_trace.specs.Forms.Place.{Word}
use Rattle.sem_trace.specs.MessageForms.{objects, object_parts, object_row, targets, target_parts, target_row}
use Rattle.sem_trace.specs.MessageForms.{messages, message_parts, message_row, name_at, places_from, row_places, form_name, IsNoName}
use Rattle.sem_trace.proofs.PlaceSteps.{fills, faults}
use Rattle.sem_journal.specs.declared.parts.PartValue.{PartValue}
use Rattle.sem_journal.specs.PartValues.{IsPlain, parts_words, ValuesFit, ReadsValues}
use Rattle.sem_journal.specs.Readers.{ReadsPart}
use Rattle.sem_journal.proofs.PartSteps.{places_behind}

-- the words that a table allows in its place
abbrev names : Table → Place
names table = Word (map (λ row. row.0) table)

-- each kind has a row in the table, with its parts behind its name; the words of a line may decide on the places in a table
pub record AreRows {K : Type 0} (table : ℕ → List (List ℕ) → Table) (row_of : K → ℕ) (parts_of : K → List Part) : Type 0 where
  pub named : (version : ℕ) (all : List (List ℕ)) (kind : K) → place_fault (names (table version all)) (name_at (table 1 []) (row_of kind)) ≡ None
  pub places : (version : ℕ) (rest : List (List ℕ)) (kind : K) →
      behind (table version (name_at (table 1 []) (row_of kind) ∷ rest)) (name_at (table 1 []) (row_of kind)) ≡ places_from version rest 0 (parts_of kind)

-- behind the name of a form its parts are left
named_left : {K : Type 0} {table : ℕ → List (List ℕ) → Table} {row_of : K → ℕ} {parts_of : K → List Part} → AreRows table row_of parts_of →
    (version : ℕ) (form : Form K) (name : List ℕ) (rest all : List (List ℕ)) → form_name form ≡ name_at (table 1 []) (row_of form.kind) →
    form.parts.now ≡ parts_of form.kind → name ≡ form_name form → all ≡ name ∷ rest → (more : List Place) →
    form_fault (choice (table version all) (word_at all 0) ++ more) all ≡ form_fault (places_from version rest 0 form.parts.now ++ more) rest
named_left {K} {table} {row_of} {parts_of} rows version form name rest all named parts is_name is more =
    let word : List ℕ = name_at (table 1 []) (row_of form.kind) in
    let name_is : name ≡ word = is_name ∙ named in
    rw (is, name_is, parts, rows.places version rest form.kind)
    (fills (places_from version rest 0 (parts_of form.kind) ++ more) (names (table version (word ∷ rest))) word rest (word ∷ rest) refl
    (rows.named version (word ∷ rest) form.kind))

-- the parts behind the name are read
pub named_read : {K X : Type 0} {table : ℕ → List (List ℕ) → Table} {row_of : K → ℕ} {parts_of : K → List Part} → AreRows table row_of parts_of →
    (version : ℕ) (spelling : X → List (List ℕ)) (Fits : ℕ → X → Type 0) (form : Form K) (values : List PartValue) (x : X) (name : List ℕ)
    (rest all new : List (List ℕ)) → form_name form ≡ name_at (table 1 []) (row_of form.kind) → form.parts.now ≡ parts_of form.kind →
    name ≡ form_name form → all ≡ name ∷ rest → ReadsValues version form.parts.now rest new (Ok values) →
    spelling x ≡ name_at (table 1 []) (row_of form.kind) ∷ parts_words (parts_of form.kind) values →
    ((v : ℕ) → ValuesFit v (parts_of form.kind) values → Fits v x) →
    ReadsPart (choice (table version all) (word_at all 0)) spelling (Fits version) all new (Ok x)
named_read rows version spelling Fits form values x name rest all new named parts is_name is read words fits = record {
  reads = record {
    filled = λ more. named_left rows version form name rest all named parts is_name is more ∙ read.reads.filled more;
    spelled = rw (words, ← parts, ← named, ← is_name) (is ∙ ap (λ (ws : List (List ℕ)). name ∷ ws) read.reads.spelled);
  };
  fits = fits version (rw parts at read.fits);
}

-- the parts behind the name are not read
pub named_refused : {K X : Type 0} {table : ℕ → List (List ℕ) → Table} {row_of : K → ℕ} {parts_of : K → List Part} → AreRows table row_of parts_of →
    (version : ℕ) (spelling : X → List (List ℕ)) (Fits : X → Type 0) (form : Form K) (name : List ℕ) (rest all new : List (List ℕ)) (cause : Cause) →
    form_name form ≡ name_at (table 1 []) (row_of form.kind) → form.parts.now ≡ parts_of form.kind → name ≡ form_name form → all ≡ name ∷ rest →
    ReadsValues version form.parts.now rest new (Err cause) → ReadsPart (choice (table version all) (word_at all 0)) spelling Fits all new (Err cause)
named_refused rows version spelling Fits form name rest all new cause named parts is_name is read = record {
  reads = λ more. named_left rows version form name rest all named parts is_name is more ∙ read.reads more;
  fits = tt;
}

-- the names in the rows of forms
row_names : {K : Type 0} (version : ℕ) (words : List (List ℕ)) (forms : List (Form K)) →
    map (λ row. row.0) (map (row_places version words) forms) ≡ map form_name forms
row_names version words [] = refl
row_names version words (form ∷ forms) = ap (λ (names : List (List ℕ)). form_name form ∷ names) (row_names version words forms)

-- no form has the name
pub name_refused : {K X : Type 0} (version : ℕ) (words : List (List ℕ)) (forms : List (Form K)) (table : Table) (spelling : X → List (List ℕ))
    (Fits : X → Type 0) (name : List ℕ) (rest all : List (List ℕ)) → all ≡ name ∷ rest → map (row_places version words) forms ≡ table →
    IsNoName (map form_name forms) name → ReadsPart (choice table (word_at all 0)) spelling Fits all rest (Err UnknownWord)
name_refused version words forms table spelling Fits name rest all is rows none =
    let same : map (λ row. row.0) table ≡ map form_name forms = ap (map (λ row. row.0)) (sym rows) ∙ row_names version words forms in
    record { reads = λ more. faults (behind table (word_at all 0) ++ more) (names table) name rest all UnknownWord is (rw (same, none) refl); fits = tt }

message_named : (version : ℕ) (all : List (List ℕ)) (kind : MessageKind) →
    place_fault (names (messages version all)) (name_at (messages 1 []) (message_row kind)) ≡ None
unfolding messages
message_named version all ObtainReq = refl
message_named version all ObtainOk = refl
message_named version all ObtainNo = refl
message_named version all DelegateReq = refl
message_named version all DelegatePrepared = refl
message_named version all DelegateNo = refl
message_named version all Ack = refl
message_named version all Orphan = refl
message_named version all RevokeReq = refl
message_named version all RevokeDone = refl
message_named version all Unlink = refl

message_places : (version : ℕ) (words : List (List ℕ)) (kind : MessageKind) →
    behind (messages version words) (name_at (messages 1 []) (message_row kind)) ≡ places_from version words 1 (message_parts kind)
unfolding messages
message_places version words ObtainReq = rw append-nil refl
message_places version words ObtainOk = rw append-nil refl
message_places version words ObtainNo = refl
message_places version words DelegateReq = refl
message_places version words DelegatePrepared = refl
message_places version words DelegateNo = refl
message_places version words Ack = refl
message_places version words Orphan = refl
message_places version words RevokeReq = refl
message_places version words RevokeDone = refl
message_places version words Unlink = refl

pub message_rows : AreRows messages message_row message_parts
message_rows = record {
  named = message_named;
  places = λ version rest kind.
      let words : List (List ℕ) = name_at (messages 1 []) (message_row kind) ∷ rest in
      message_places version words kind ∙ places_behind version words 1 0 (message_parts kind);
}

object_named : (version : ℕ) (kind : Kind) → place_fault (names (objects version)) (name_at (objects 1) (object_row kind)) ≡ None
unfolding objects
object_named version Mem = refl
object_named version Recv = refl
object_named version Send = refl
object_named version Serv = refl
object_named version Sess = refl

object_places : (version : ℕ) (rest : List (List ℕ)) (kind : Kind) →
    behind (objects version) (name_at (objects 1) (object_row kind)) ≡ places_from version rest 0 (object_parts kind)
unfolding objects
object_places version rest Mem = refl
object_places version rest Recv = refl
object_places version rest Send = refl
object_places version rest Serv = refl
object_places version rest Sess = refl

pub object_rows : AreRows (λ version words. objects version) object_row object_parts
object_rows = record { named = λ version all. object_named version; places = object_places }

target_named : (version : ℕ) (kind : TargetKind) → place_fault (names (targets version)) (name_at (targets 1) (target_row kind)) ≡ None
unfolding targets
target_named version Sel = refl
target_named version ServTarget = refl
target_named version Offer = refl

target_places : (version : ℕ) (rest : List (List ℕ)) (kind : TargetKind) →
    behind (targets version) (name_at (targets 1) (target_row kind)) ≡ places_from version rest 0 (target_parts kind)
unfolding targets
target_places version rest Sel = refl
target_places version rest ServTarget = refl
target_places version rest Offer = refl

pub target_rows : AreRows (λ version words. targets version) target_row target_parts
target_rows = record { named = λ version all. target_named version; places = target_places }

-- the parts of objects and of targets are plain
pub plain_object : (kind : Kind) (parts : List Part) → parts ≡ object_parts kind → (length parts ≤ 4) × All IsPlain parts
plain_object Mem parts is = rw is (omega arith, search rules)
plain_object Recv parts is = rw is (omega arith, search rules)
plain_object Send parts is = rw is (omega arith, search rules)
plain_object Serv parts is = rw is (omega arith, search rules)
plain_object Sess parts is = rw is (omega arith, search rules)

pub plain_target : (kind : TargetKind) (parts : List Part) → parts ≡ target_parts kind → (length parts ≤ 4) × All IsPlain parts
plain_target Sel parts is = rw is (omega arith, search rules)
plain_target ServTarget parts is = rw is (omega arith, search rules)
plain_target Offer parts is = rw is (omega arith, search rules)
