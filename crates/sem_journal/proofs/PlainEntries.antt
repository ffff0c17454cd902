-- The words that are printed of an entry are plain, so that its line is read as these words.
use Rattle.std.proofs.Common.{◌≡◌, ℕ, ◌≤◌, Bool, true, false, ◌&&◌, true≢false, List, [], ◌∷◌, ◌++◌, Option, None, Some, refl, ap, sym, ◌∙◌, arith, decimal}
use Rattle.std.proofs.Common.{append_assoc}
use Rattle.std.specs.List.{list_all}
use Rattle.std.proofs.lemmas.List.Folds.{list_all-append}
use Rattle.sem_key.specs.declared.object.Object.{Object}
use Rattle.sem_key.specs.declared.object.Object.TheVariants.{Mem, Recv, Send, Serv, Sess}
use Rattle.sem_key.specs.KeyName.{KeyName, kind_number}
use Rattle.sem_key.specs.PlaceName.{PlaceName}
use Rattle.sem_msg.specs.declared.call.Call.{Call}
use Rattle.sem_msg.specs.declared.call.Call.TheVariants.{Derive, Gate, Obtain, Delegate, OpenSession, AskOffer, Revoke, Bind, Read, Write, Send as SendCall}
use Rattle.sem_msg.specs.declared.call.Call.TheVariants.{Credit, Exit, Clear}
use Rattle.sem_msg.specs.Calls.{IsValidCall}
use Rattle.sem_msg.specs.declared.message.Target.{Target}
use Rattle.sem_msg.specs.declared.message.Target.TheVariants.{Sel as SelTarget, Serv as ServTarget, Offer as OfferTarget}
use Rattle.sem_msg.specs.declared.message.Message.{Message}
use Rattle.sem_msg.specs.declared.message.Message.TheVariants.{ObtainReq, ObtainOk, ObtainNo, DelegateReq, DelegatePrepared, DelegateNo, Ack, Orphan, RevokeReq}
use Rattle.sem_msg.specs.declared.message.Message.TheVariants.{RevokeDone, Unlink}
use Rattle.sem_msg.specs.declared.event.Act.{Act}
use Rattle.sem_msg.specs.declared.event.Act.TheVariants.{Call as Calls, Fetch, Handle, Upcall, Resume, Flush, Kill}
use Rattle.sem_msg.specs.declared.entry.Consent.TheVariants.{Yes, No, Dropped}
use Rattle.sem_msg.specs.declared.entry.Detail.{Detail}
use Rattle.sem_msg.specs.declared.entry.Detail.TheVariants.{Called, Carried, Asked, Nothing}
use Rattle.sem_msg.specs.declared.entry.Reply.{Reply}
use Rattle.sem_msg.specs.declared.entry.Entry.{Entry}
use Rattle.sem_trace.specs.Ranges.{IsNode, IsKeyInText, IsPlaceInText}
use Rattle.sem_key.specs.declared.limits.TheConstants.{KERNELS}
use Rattle.sem_msg.specs.Versions.{most_vpes}
use Rattle.sem_trace.specs.TextLines.{is_word}
use Rattle.sem_trace.specs.Words.{key_word, place_word, object_words, call_words}
use Rattle.sem_journal.specs.EntryText.{target_words, message_words, act_words, detail_words, grant_words, cut_words, reply_words, entry_words}
use Rattle.sem_journal.specs.EntryRanges.{ObjectFits, TargetFits, MessageFits, EventFits, GrantFits, CutFits, ReplyFits, EntryFits}
use Rattle.sem_trace.proofs.Nodes.{few_vpes}
use Rattle.sem_reader.proofs.PlainText.{is_plain, is_plain_word, are_plain, and-left, and-right, plain-decimal}
use Rattle.sem_journal.proofs.PrintedPlaces.{kind_most}
use Rattle.sem_journal.proofs.PrintedEntries.{words_are}

pub record ArePlain (words : List (List ℕ)) : Type 0 where
  pub plain : are_plain words ≡ true

nothing : ArePlain []
nothing = record { plain = refl }

both : (a b : Bool) → a ≡ true → b ≡ true → (a && b) ≡ true
both a b first second = rw (first, second) refl

-- one word more
name : {word : List ℕ} {words : List (List ℕ)} → is_plain_word word ≡ true → ArePlain words → ArePlain (word ∷ words)
name {word} {words} first rest = record { plain = both (is_plain_word word) (are_plain words) first rest.plain }

number_plain : (n : ℕ) → n ≤ 4294967295 → is_plain_word (decimal n) ≡ true
number_plain n fits = plain-decimal n (omega arith)

number : {words : List (List ℕ)} (n : ℕ) → n ≤ 4294967295 → ArePlain words → ArePlain (decimal n ∷ words)
number n fits rest = name (number_plain n fits) rest

few : (version n : ℕ) → IsNode version n → n ≤ 4294967295
few version n valid = omega (arith, valid, few_vpes version)

node_plain : (version n : ℕ) → IsNode version n → is_plain_word (decimal n) ≡ true
node_plain version n valid = number_plain n (few version n valid)

node : {words : List (List ℕ)} (version n : ℕ) → IsNode version n → ArePlain words → ArePlain (decimal n ∷ words)
node version n valid rest = name (node_plain version n valid) rest

longer_word : (a b : List ℕ) → is_word a ≡ true → is_word (a ++ b) ≡ true
longer_word [] b word = absurd (true≢false (sym word))
longer_word (x ∷ xs) b word = refl

-- a number behind a point
with_number : (word : List ℕ) (n : ℕ) → is_plain_word word ≡ true → n ≤ 4294967295 → is_plain_word (word ++ 46 ∷ decimal n) ≡ true
with_number word n plain fits =
    let digits : list_all is_plain (decimal n) ≡ true = and-right (is_word (decimal n)) _ (number_plain n fits) in
    let bytes : list_all is_plain word ≡ true = and-right (is_word word) _ plain in
    let all : list_all is_plain (word ++ 46 ∷ decimal n) ≡ true = list_all-append is_plain word (46 ∷ decimal n)
    ∙ both (list_all is_plain word) (list_all is_plain (46 ∷ decimal n)) bytes digits in
    both (is_word (word ++ 46 ∷ decimal n)) (list_all is_plain (word ++ 46 ∷ decimal n)) (longer_word word (46 ∷ decimal n) (and-left (is_word word) _ plain))
    all

key_plain : (version : ℕ) (k : KeyName) → IsKeyInText version k → is_plain_word (key_word k) ≡ true
key_plain version k valid =
    with_number (decimal k.pe ++ 46 ∷ decimal k.vpe ++ 46 ∷ decimal (kind_number k.kind)) k.number
    (with_number (decimal k.pe ++ 46 ∷ decimal k.vpe) (kind_number k.kind)
    (with_number (decimal k.pe) k.vpe (node_plain version k.pe valid.0) (few version k.vpe valid.1))
    (omega (arith, kind_most k.kind))) (omega (arith, valid.2))

place_plain : (version : ℕ) (p : PlaceName) → IsPlaceInText version p → is_plain_word (place_word p) ≡ true
place_plain version p valid =
    with_number (decimal p.pe ++ 46 ∷ decimal p.vpe) p.number
    (with_number (decimal p.pe) p.vpe (node_plain version p.pe valid.0) (few version p.vpe valid.1)) (omega (arith, valid.2))

key : {words : List (List ℕ)} (version : ℕ) (k : KeyName) → IsKeyInText version k → ArePlain words → ArePlain (key_word k ∷ words)
key version k valid rest = name (key_plain version k valid) rest

place : {words : List (List ℕ)} (version : ℕ) (p : PlaceName) → IsPlaceInText version p → ArePlain words → ArePlain (place_word p ∷ words)
place version p valid rest = name (place_plain version p valid) rest

pub object_plain : {rest : List (List ℕ)} (version : ℕ) (o : Object) → ObjectFits version o → ArePlain rest → ArePlain (object_words o ++ rest)
object_plain version (Mem base len rights) fits behind =
    name refl (number base (omega (arith, fits.0)) (number len (omega (arith, fits.1)) (number rights (omega (arith, fits.2)) behind)))
object_plain version (Recv slots) fits behind = name refl (number slots (omega (arith, fits.1)) behind)
object_plain version (Send gate label credits) fits behind =
    name refl (key version gate fits.0 (number label (omega (arith, fits.1)) (number credits (omega (arith, fits.3)) behind)))
object_plain version (Serv name') fits behind = name refl (number name' (omega (arith, fits)) behind)
object_plain version (Sess service ident) fits behind = name refl (key version service fits.0 (node version ident fits.1 behind))

call_plain : {rest : List (List ℕ)} (version : ℕ) (c : Call) → IsValidCall (most_vpes version) c → ArePlain rest → ArePlain (call_words c ++ rest)
call_plain version (Derive src dst off len rights) valid behind =
    name refl (number src (omega (arith, valid.0))
    (number dst (omega (arith, valid.1))
    (number off (omega (arith, valid.2)) (number len (omega (arith, valid.3)) (number rights (omega (arith, valid.4)) behind)))))
call_plain version (Gate src dst label credits) valid behind =
    name refl (number src (omega (arith, valid.0))
    (number dst (omega (arith, valid.1)) (number label (omega (arith, valid.2)) (number credits (omega (arith, valid.4)) behind))))
call_plain version (Obtain dst vpe src) valid behind =
    name refl (number dst (omega (arith, valid.0)) (node version vpe valid.1 (number src (omega (arith, valid.2)) behind)))
call_plain version (Delegate src vpe dst) valid behind =
    name refl (number src (omega (arith, valid.0)) (node version vpe valid.1 (number dst (omega (arith, valid.2)) behind)))
call_plain version (OpenSession dst service) valid behind = name refl (number dst (omega (arith, valid.0)) (number service (omega (arith, valid.1)) behind))
call_plain version (AskOffer dst session index) valid behind =
    name refl (number dst (omega (arith, valid.0)) (number session (omega (arith, valid.1)) (number index (omega (arith, valid.2)) behind)))
call_plain version (Revoke src) valid behind = name refl (number src (omega (arith, valid)) behind)
call_plain version (Bind ep src) valid behind = name refl (number ep (omega (arith, valid.0)) (number src (omega (arith, valid.1)) behind))
call_plain version (Read ep off len) valid behind =
    name refl (number ep (omega (arith, valid.0)) (number off (omega (arith, valid.1)) (number len (omega (arith, valid.2)) behind)))
call_plain version (Write ep off len) valid behind =
    name refl (number ep (omega (arith, valid.0)) (number off (omega (arith, valid.1)) (number len (omega (arith, valid.2)) behind)))
call_plain version (SendCall ep len) valid behind = name refl (number ep (omega (arith, valid.0)) (number len (omega (arith, valid.1)) behind))
call_plain version (Credit ep) valid behind = name refl (number ep (omega (arith, valid)) behind)
call_plain version Exit valid behind = name refl behind
call_plain version (Clear src) valid behind = name refl (number src (omega (arith, valid)) behind)

target_plain : {rest : List (List ℕ)} (version : ℕ) (t : Target) → TargetFits version t → ArePlain rest → ArePlain (target_words t ++ rest)
target_plain version (SelTarget vpe sel) fits behind = name refl (node version vpe fits.0 (number sel (omega (arith, fits.1)) behind))
target_plain version (ServTarget service) fits behind = name refl (key version service fits behind)
target_plain version (OfferTarget service index) fits behind = name refl (key version service fits.0 (number index (omega (arith, fits.1)) behind))

message_plain : {rest : List (List ℕ)} (version : ℕ) (m : Message) → MessageFits version m → ArePlain rest → ArePlain (message_words m ++ rest)
message_plain version (ObtainReq at target) fits behind = name refl (place version at fits.0 (target_plain version target fits.1 behind))
message_plain version (ObtainOk parent child object) fits behind =
    name refl (key version parent fits.0 (key version child fits.1 (object_plain version object fits.2 behind)))
message_plain version (ObtainNo at code) fits behind = name refl (place version at fits.0 (number code (omega (arith, fits.1)) behind))
message_plain version (DelegatePrepared parent child) fits behind = name refl (key version parent fits.0 (key version child fits.1 behind))
message_plain version (DelegateNo parent code) fits behind = name refl (key version parent fits.0 (number code (omega (arith, fits.1)) behind))
message_plain version (Ack child true) fits behind = name refl (key version child fits (name refl behind))
message_plain version (Ack child false) fits behind = name refl (key version child fits (name refl behind))
message_plain version (Orphan parent child) fits behind = name refl (key version parent fits.0 (key version child fits.1 behind))
message_plain version (RevokeReq child job) fits behind = name refl (key version child fits.0 (number job (omega (arith, fits.1)) behind))
message_plain version (RevokeDone job) fits behind = name refl (number job (omega (arith, fits)) behind)
message_plain version (Unlink parent child) fits behind = name refl (key version parent fits.0 (key version child fits.1 behind))
message_plain {rest} version (DelegateReq parent object vpe sel) fits behind =
    let more : ArePlain (decimal vpe ∷ decimal sel ∷ rest) = node version vpe fits.2 (number sel (omega (arith, fits.3)) behind) in
    rw (append_assoc (object_words object) (decimal vpe ∷ decimal sel ∷ []) rest)
    (name refl (key version parent fits.0 (object_plain version object fits.1 more)))

event_plain : {rest : List (List ℕ)} (version kernels : ℕ) (act : Act) (detail : Detail) → kernels ≤ KERNELS → EventFits version kernels act detail →
    ArePlain rest → ArePlain (act_words act ++ detail_words detail ++ rest)
event_plain version kernels (Calls v) (Called index call) few fits behind =
    name refl (node version v fits.0 (number index (omega (arith, fits.1)) (call_plain version call fits.2 behind)))
event_plain version kernels (Fetch from) (Carried peer message) few fits behind =
    name refl (number peer (omega (arith, fits.1)) (message_plain version message fits.2 behind))
event_plain version kernels Handle (Carried peer message) few fits behind =
    name refl (number peer (omega (arith, fits.0)) (message_plain version message fits.1 behind))
event_plain version kernels (Upcall v) (Asked asker Yes) few fits behind = name refl (node version v fits.0 (node version asker fits.1 (name refl behind)))
event_plain version kernels (Upcall v) (Asked asker No) few fits behind = name refl (node version v fits.0 (node version asker fits.1 (name refl behind)))
event_plain version kernels (Upcall v) (Asked asker Dropped) few fits behind = name refl (node version v fits.0 (node version asker fits.1 (name refl behind)))
event_plain version kernels (Resume v) Nothing few fits behind = name refl (node version v fits behind)
event_plain version kernels (Flush to) (Carried peer message) few fits behind =
    name refl (number peer (omega (arith, fits.1)) (message_plain version message fits.2 behind))
event_plain version kernels (Kill v) Nothing few fits behind = name refl (node version v fits behind)
event_plain version kernels act detail few fits behind = absurd fits

reply_plain : (version : ℕ) (r : Option Reply) → ReplyFits version r → ArePlain (reply_words r)
reply_plain version None fits = nothing
reply_plain version (Some r) fits = name refl (node version r.vpe fits.0 (number r.code (omega (arith, fits.1)) nothing))

cut_plain : {rest : List (List ℕ)} (version : ℕ) (cut : Option KeyName) → CutFits version cut → ArePlain rest → ArePlain (cut_words cut ++ rest)
cut_plain version None fits behind = behind
cut_plain version (Some k) fits behind = name refl (key version k fits behind)

-- what stands behind an event
shown_plain : (version : ℕ) (grant : Option (KeyName × KeyName)) (cut : Option KeyName) (r : Option Reply) → GrantFits version grant → CutFits version cut →
    ReplyFits version r → ArePlain (grant_words grant ++ cut_words cut ++ reply_words r)
shown_plain version None cut r grant_fits cut_fits fits = cut_plain version cut cut_fits (reply_plain version r fits)
shown_plain version (Some g) cut r grant_fits cut_fits fits =
    name refl (key version g.0 grant_fits.0 (key version g.1 grant_fits.1 (cut_plain version cut cut_fits (reply_plain version r fits))))

pub printed_words : (version kernels : ℕ) (e : Entry) → kernels ≤ KERNELS → EntryFits version kernels e → are_plain (entry_words e) ≡ true
printed_words version kernels e few fits =
    let shown : ArePlain (grant_words e.grant ++ cut_words e.cut ++ reply_words e.reply) =
    shown_plain version e.grant e.cut e.reply fits.grant fits.cut fits.reply in
    ap are_plain (words_are e)
    ∙ (number e.event.kernel (omega (arith, fits.kernel)) (event_plain version kernels e.event.act e.detail few fits.event shown)).plain
