-- What stands in the parts of a message, as the private functions of this crate say it ("The report" in
-- docs/texts.md).
use Rattle.std.specs.Prelude.{ℕ, ◌≤◌, List, [], ◌∷◌, ◌++◌, decimal, Result}
use Rattle.sem_msg.specs.declared.message.Target.{Target as MessageTarget}
use Rattle.sem_msg.specs.declared.message.Target.TheVariants.{Sel as SelTarget, Serv as ServTarget}
use Rattle.sem_msg.specs.declared.message.Target.TheVariants.{Offer as OfferTarget}
use Rattle.sem_trace.specs.declared.fault.Cause.{Cause}
use Rattle.sem_trace.specs.declared.message_forms.TargetKind.{TargetKind}
use Rattle.sem_trace.specs.declared.message_forms.TargetKind.TheVariants.{Sel, Serv, Offer}
use Rattle.sem_trace.specs.declared.message_forms.Part.{Part}
use Rattle.sem_trace.specs.declared.message_forms.Part.TheVariants.{Key, Place as PlacePart, Number as NumberPart}
use Rattle.sem_trace.specs.declared.message_forms.Part.TheVariants.{Object, Target, YesOrNo}
use Rattle.sem_trace.specs.Forms.{Place, word_at}
use Rattle.sem_trace.specs.Forms.Place.{Number}
use Rattle.sem_trace.specs.MessageForms.{part_places, places_from}
use Rattle.sem_trace.specs.Ranges.{IsKeyInText, IsPlaceInText}
use Rattle.sem_trace.specs.Slots.{slot_place}
use Rattle.sem_trace.specs.Words.{key_word, place_word, object_words}
use Rattle.sem_journal.specs.declared.parts.PartValue.{PartValue}
use Rattle.sem_journal.specs.declared.parts.PartValue.TheVariants.{Key as KeyValue, Place as PlaceValue}
use Rattle.sem_journal.specs.declared.parts.PartValue.TheVariants.{Number as NumberValue, Object as ObjectValue}
use Rattle.sem_journal.specs.declared.parts.PartValue.TheVariants.{Target as TargetValue, YesOrNo as YesOrNoValue}
use Rattle.sem_journal.specs.EntryRanges.{ObjectFits, TargetFits}
use Rattle.sem_journal.specs.EntryText.{target_words, yes_or_no}
use Rattle.sem_journal.specs.Readers.{ReadsPart}

-- the kind of a target
abbrev pub target_kind : MessageTarget → TargetKind
target_kind (SelTarget vpe sel) = Sel
target_kind (ServTarget service) = Serv
target_kind (OfferTarget service index) = Offer

-- the words of a part
abbrev pub value_words : PartValue → List (List ℕ)
value_words (KeyValue key) = key_word key ∷ []
value_words (PlaceValue place) = place_word place ∷ []
value_words (NumberValue n) = decimal n ∷ []
value_words (ObjectValue object) = object_words object
value_words (TargetValue target) = target_words target
value_words (YesOrNoValue accepted) = yes_or_no accepted ∷ []

-- the words of so many parts
abbrev pub parts_words : List Part → List PartValue → List (List ℕ)
parts_words [] values = []
parts_words (part ∷ parts) [] = []
parts_words (part ∷ parts) (value ∷ values) = value_words value ++ parts_words parts values

-- a number that can stand in a place
abbrev pub NumberFits : Place → ℕ → Type 0
NumberFits (Number least most) n = (least ≤ n) × (n ≤ most)
NumberFits place n = ⊥

-- a value that can stand in a part
abbrev pub ValueFits : ℕ → Part → PartValue → Type 0
ValueFits version (Key role) (KeyValue key) = IsKeyInText version key
ValueFits version PlacePart (PlaceValue place) = IsPlaceInText version place
ValueFits version (NumberPart slot) (NumberValue n) = NumberFits (slot_place version 1 slot) n
ValueFits version Object (ObjectValue object) = ObjectFits version object
ValueFits version Target (TargetValue target) = TargetFits version target
ValueFits version YesOrNo (YesOrNoValue accepted) = Unit
ValueFits version part value = ⊥

-- the first values can stand in these parts
abbrev pub ValuesFit : ℕ → List Part → List PartValue → Type 0
ValuesFit version [] values = Unit
ValuesFit version (part ∷ parts) [] = ⊥
ValuesFit version (part ∷ parts) (value ∷ values) = ValueFits version part value × ValuesFit version parts values

-- a part of an object or of a target
abbrev pub IsPlain : Part → Type 0
IsPlain (Key role) = Unit
IsPlain (NumberPart slot) = Unit
IsPlain part = ⊥

-- a part, and parts, behind the name of a message
abbrev pub ReadsValue : ℕ → Part → (old new : List (List ℕ)) → Result PartValue Cause → Type 0
ReadsValue version part old = ReadsPart (part_places version (word_at old 0) part) value_words (ValueFits version part)
    old

abbrev pub ReadsValues : ℕ → List Part → (old new : List (List ℕ)) → Result (List PartValue) Cause → Type 0
ReadsValues version parts old = ReadsPart (places_from version old 0 parts) (parts_words parts)
    (ValuesFit version parts) old
