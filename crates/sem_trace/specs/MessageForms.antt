-- The forms of messages, and of the objects and the targets in them ("The report" in
-- docs/texts.md).
use Rattle.std.specs.Prelude.{◌≡◌, ℕ, ◌+◌, false, List, [], ◌∷◌, ◌++◌, length, codes, slice_index_or}
use Rattle.std.specs.List.{list_any}
use Rattle.std.specs.Str.{bytes_eq}
use Rattle.sem_key.specs.declared.key.Kind.{Kind}
use Rattle.sem_key.specs.declared.key.Kind.TheVariants.{Mem, Recv, Send, Serv, Sess}
use Rattle.sem_trace.specs.declared.message_forms.Part.{Part}
use Rattle.sem_trace.specs.declared.message_forms.Part.TheVariants.{Key, Place as PlacePart, Number, Object}
use Rattle.sem_trace.specs.declared.message_forms.Part.TheVariants.{Target, YesOrNo}
use Rattle.sem_trace.specs.declared.message_forms.TargetKind.{TargetKind}
use Rattle.sem_trace.specs.declared.message_forms.TargetKind.TheVariants.{Sel, Serv as ServTarget, Offer}
use Rattle.sem_trace.specs.declared.message_forms.MessageKind.{MessageKind}
use Rattle.sem_trace.specs.declared.message_forms.MessageKind.TheVariants.{ObtainReq, ObtainOk, ObtainNo, DelegateReq}
use Rattle.sem_trace.specs.declared.message_forms.MessageKind.TheVariants.{DelegatePrepared, DelegateNo, Ack, Orphan}
use Rattle.sem_trace.specs.declared.message_forms.MessageKind.TheVariants.{RevokeReq, RevokeDone, Unlink}
use Rattle.sem_trace.specs.declared.message_forms.Form.{Form}
use Rattle.sem_trace.specs.declared.message_forms.TheConstants.{MEMORY, RECEIVE_GATE, SEND_GATE}
use Rattle.sem_trace.specs.declared.message_forms.TheConstants.{NAMED_SERVICE, SESSION}
use Rattle.sem_trace.specs.declared.message_forms.TheConstants.{SELECTOR_TARGET, SERVICE_TARGET, OFFER_TARGET}
use Rattle.sem_trace.specs.declared.message_forms.TheConstants.{OBTAIN_REQ, OBTAIN_OK, OBTAIN_NO, DELEGATE_REQ}
use Rattle.sem_trace.specs.declared.message_forms.TheConstants.{DELEGATE_NO, ACK, REVOKE_REQ, REVOKE_DONE, TWO_KEYS}
use Rattle.sem_trace.specs.Forms.{Place, Table, choice, word_at, up_to, node, byte, rights, slots}
use Rattle.sem_trace.specs.Forms.{word, key, key_place}
use Rattle.sem_trace.specs.Forms.Place.{Word}
use Rattle.sem_trace.specs.Slots.{slot_place}

-- the code of a reply
abbrev pub code : Place
code = up_to 15

-- the objects that a message can carry, in a report of that version
unfoldable pub objects : ℕ → Table
objects version =
    (codes "mem", word ∷ word ∷ rights ∷ [])
    ∷ (codes "recv", slots ∷ [])
    ∷ (codes "send", key version ∷ word ∷ slots ∷ [])
    ∷ (codes "serv", byte ∷ [])
    ∷ (codes "sess", key version ∷ node version ∷ [])
    ∷ []

unfoldable pub targets : ℕ → Table
targets version =
    (codes "sel", node version ∷ byte ∷ [])
    ∷ (codes "serv", key version ∷ [])
    ∷ (codes "offer", key version ∷ byte ∷ [])
    ∷ []

-- messages, from their name on
unfoldable pub messages : ℕ → List (List ℕ) → Table
messages version words =
    (codes "obtain-req", key_place version ∷ choice (targets version) (word_at words 2))
    ∷ (codes "obtain-ok", key version ∷ key version ∷ choice (objects version) (word_at words 3))
    ∷ (codes "obtain-no", key_place version ∷ code ∷ [])
    ∷ (codes "delegate-req", key version ∷ choice (objects version) (word_at words 2) ++ node version ∷ byte ∷ [])
    ∷ (codes "delegate-prepared", key version ∷ key version ∷ [])
    ∷ (codes "delegate-no", key version ∷ code ∷ [])
    ∷ (codes "ack", key version ∷ Word (codes "yes" ∷ codes "no" ∷ []) ∷ [])
    ∷ (codes "orphan", key version ∷ key version ∷ [])
    ∷ (codes "revoke-req", key version ∷ word ∷ [])
    ∷ (codes "revoke-done", word ∷ [])
    ∷ (codes "unlink", key version ∷ key version ∷ [])
    ∷ []

unfoldable pub message_form : ℕ → List (List ℕ) → List Place
message_form version words = choice (messages version words) (word_at words 0)

-- the places of a part, by the word that stands in the first
abbrev pub part_places : ℕ → List ℕ → Part → List Place
part_places version first (Key role) = key version ∷ []
part_places version first PlacePart = key_place version ∷ []
part_places version first (Number slot) = slot_place version 1 slot ∷ []
part_places version first Object = choice (objects version) first
part_places version first Target = choice (targets version) first
part_places version first YesOrNo = Word (codes "yes" ∷ codes "no" ∷ []) ∷ []

-- the places of parts, the first of which begins at that word, counted from 0
abbrev pub places_from : ℕ → List (List ℕ) → ℕ → List Part → List Place
places_from version words i [] = []
places_from version words i (part ∷ parts) =
    let places : List Place = part_places version (word_at words i) part in
    places ++ places_from version words (i + length places) parts

-- the name in a form
abbrev pub form_name : {K : Type 0} → Form K → List ℕ
form_name form = form.name.now

-- the row of a form, in a line with these words
abbrev pub row_places : {K : Type 0} → ℕ → List (List ℕ) → Form K → List ℕ × List Place
row_places version words form = (form_name form, places_from version words 1 form.parts.now)

-- none of the names is that word
abbrev pub IsNoName : List (List ℕ) → List ℕ → Type 0
IsNoName names word = list_any (bytes_eq word) names ≡ false

-- the parts of an object of that kind; the same below
abbrev pub object_parts : Kind → List Part
object_parts Mem = MEMORY
object_parts Recv = RECEIVE_GATE
object_parts Send = SEND_GATE
object_parts Serv = NAMED_SERVICE
object_parts Sess = SESSION

abbrev pub target_parts : TargetKind → List Part
target_parts Sel = SELECTOR_TARGET
target_parts ServTarget = SERVICE_TARGET
target_parts Offer = OFFER_TARGET

abbrev pub message_parts : MessageKind → List Part
message_parts ObtainReq = OBTAIN_REQ
message_parts ObtainOk = OBTAIN_OK
message_parts ObtainNo = OBTAIN_NO
message_parts DelegateReq = DELEGATE_REQ
message_parts DelegatePrepared = TWO_KEYS
message_parts DelegateNo = DELEGATE_NO
message_parts Ack = ACK
message_parts Orphan = TWO_KEYS
message_parts RevokeReq = REVOKE_REQ
message_parts RevokeDone = REVOKE_DONE
message_parts Unlink = TWO_KEYS

-- the row of a kind in its table, counted from 0
abbrev pub object_row : Kind → ℕ
object_row Mem = 0
object_row Recv = 1
object_row Send = 2
object_row Serv = 3
object_row Sess = 4

abbrev pub target_row : TargetKind → ℕ
target_row Sel = 0
target_row ServTarget = 1
target_row Offer = 2

abbrev pub message_row : MessageKind → ℕ
message_row ObtainReq = 0
message_row ObtainOk = 1
message_row ObtainNo = 2
message_row DelegateReq = 3
message_row DelegatePrepared = 4
message_row DelegateNo = 5
message_row Ack = 6
message_row Orphan = 7
message_row RevokeReq = 8
message_row RevokeDone = 9
message_row Unlink = 10

-- the name in a row of a table
abbrev pub name_at : Table → ℕ → List ℕ
name_at table i = (slice_index_or table i ([], [])).0

-- the row has the name and the parts of its kind; the same below
pub record IsObjectRow (form : Form Kind) : Type 0 where
  pub name : form.name.now ≡ name_at (objects 1) (object_row form.kind)
  pub parts : form.parts.now ≡ object_parts form.kind

pub record IsTargetRow (form : Form TargetKind) : Type 0 where
  pub name : form.name.now ≡ name_at (targets 1) (target_row form.kind)
  pub parts : form.parts.now ≡ target_parts form.kind

pub record IsMessageRow (form : Form MessageKind) : Type 0 where
  pub name : form.name.now ≡ name_at (messages 1 []) (message_row form.kind)
  pub parts : form.parts.now ≡ message_parts form.kind
