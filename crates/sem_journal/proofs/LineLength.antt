-- How long the line of an entry can be: its words, part by part, each with the blank before it.
use Rattle.std.proofs.Common.{◌≡◌, ℕ, ◌+◌, ◌≤◌, Bool, true, false, List, [], ◌∷◌, ◌++◌, length, Option, None, Some, refl, arith, decimal, length-append}
use Rattle.std.proofs.lemmas.Fmt.{length-decimal-le}
use Rattle.sem_key.specs.declared.object.Object.{Object}
use Rattle.sem_key.specs.declared.object.Object.TheVariants.{Mem, Recv, Send, Serv, Sess}
use Rattle.sem_key.specs.KeyName.{KeyName, kind_number}
use Rattle.sem_key.specs.PlaceName.{PlaceName}
use Rattle.sem_msg.specs.declared.call.Call.{Call}
use Rattle.sem_msg.specs.declared.call.Call.TheVariants.{Derive, Gate, Obtain, Delegate, OpenSession, AskOffer, Revoke, Bind, Read, Write, Send as SendCall}
use Rattle.sem_msg.specs.declared.call.Call.TheVariants.{Credit, Exit, Clear}
use Rattle.sem_msg.specs.Calls.{IsValidCall}
use Rattle.sem_msg.specs.declared.message.Target.{Target}
use Rattle.sem_msg.specs.declared.message.Target.TheVariants.{Sel as SelTarget, Serv as ServTarget, Offer as OfferTarget}
use Rattle.sem_msg.specs.declared.message.Message.{Message}
use Rattle.sem_msg.specs.declared.message.Message.TheVariants.{ObtainReq, ObtainOk, ObtainNo, DelegateReq, DelegatePrepared, DelegateNo, Ack, Orphan, RevokeReq}
use Rattle.sem_msg.specs.declared.message.Message.TheVariants.{RevokeDone, Unlink}
use Rattle.sem_msg.specs.declared.event.Act.{Act}
use Rattle.sem_msg.specs.declared.event.Act.TheVariants.{Call as Calls, Fetch, Handle, Upcall, Resume, Flush, Kill}
use Rattle.sem_msg.specs.declared.entry.Consent.{Consent}
use Rattle.sem_msg.specs.declared.entry.Consent.TheVariants.{Yes, No, Dropped}
use Rattle.sem_msg.specs.declared.entry.Detail.{Detail}
use Rattle.sem_msg.specs.declared.entry.Detail.TheVariants.{Called, Carried, Asked, Nothing}
use Rattle.sem_msg.specs.declared.entry.Reply.{Reply}
use Rattle.sem_msg.specs.declared.entry.Entry.{Entry}
use Rattle.sem_text.specs.Lines.{behind_blanks, line}
use Rattle.sem_trace.specs.Ranges.{IsNode, IsKeyInText, IsPlaceInText}
use Rattle.sem_key.specs.declared.limits.TheConstants.{KERNELS}
use Rattle.sem_msg.specs.Versions.{most_vpes}
use Rattle.sem_trace.specs.Words.{key_word, place_word, object_words, call_words}
use Rattle.sem_journal.specs.EntryText.{target_words, yes_or_no, message_words, act_words, consent_word, detail_words, grant_words, cut_words, reply_words}
use Rattle.sem_journal.specs.EntryText.{entry_words}
use Rattle.sem_journal.specs.EntryRanges.{ObjectFits, TargetFits, MessageFits, EventFits, GrantFits, CutFits, ReplyFits, EntryFits}
use Rattle.sem_reader.proofs.PlainText.{width}
use Rattle.sem_trace.proofs.Nodes.{few_vpes}
use Rattle.sem_journal.proofs.PrintedPlaces.{kind_most}

-- numbers by their ranges
one : (n : ℕ) → n ≤ 9 → length (decimal n) ≤ 1
one n small = length-decimal-le 1 n (omega arith) (omega arith) (omega arith)

two : (n : ℕ) → n ≤ 99 → length (decimal n) ≤ 2
two n small = length-decimal-le 2 n (omega arith) (omega arith) (omega arith)

three : (n : ℕ) → n ≤ 999 → length (decimal n) ≤ 3
three n small = length-decimal-le 3 n (omega arith) (omega arith) (omega arith)

four : (n : ℕ) → n ≤ 9999 → length (decimal n) ≤ 4
four n small = length-decimal-le 4 n (omega arith) (omega arith) (omega arith)

ten : (n : ℕ) → n ≤ 4294967295 → length (decimal n) ≤ 10
ten n small = length-decimal-le 10 n (omega arith) (omega arith) (omega arith)

node : (version n : ℕ) → IsNode version n → length (decimal n) ≤ 3
node version n valid = three n (omega (arith, valid, few_vpes version))

key_short : (version : ℕ) (k : KeyName) → IsKeyInText version k → length (key_word k) ≤ 14
key_short version k valid =
    let pe = node version k.pe valid.0 in
    let vpe = node version k.vpe valid.1 in
    let kind = one (kind_number k.kind) (omega (arith, kind_most k.kind)) in
    let number = four k.number (omega (arith, valid.2)) in
    let all : length (key_word k) ≡ length (decimal k.pe) + (1 + length (decimal k.vpe)) + (1 + length (decimal (kind_number k.kind)))
    + (1 + length (decimal k.number)) = rw (length-append, length-append, length-append) (omega arith) in
    omega arith

place_short : (version : ℕ) (p : PlaceName) → IsPlaceInText version p → length (place_word p) ≤ 12
place_short version p valid =
    let pe = node version p.pe valid.0 in
    let vpe = node version p.vpe valid.1 in
    let number = four p.number (omega (arith, valid.2)) in
    let all : length (place_word p) ≡ length (decimal p.pe) + (1 + length (decimal p.vpe)) + (1 + length (decimal p.number)) =
    rw (length-append, length-append) (omega arith) in
    omega arith

width-append : (ws vs : List (List ℕ)) → width (ws ++ vs) ≡ width ws + width vs
width-append [] vs = omega arith
width-append (w ∷ ws) vs = let rest = width-append ws vs in omega arith

object_short : (version : ℕ) (o : Object) → ObjectFits version o → width (object_words o) ≤ 34
object_short version (Mem base len rights) fits = omega (arith, ten base fits.0, ten len fits.1, one rights (omega (arith, fits.2)))
object_short version (Recv slots) fits = omega (arith, two slots (omega (arith, fits.1)))
object_short version (Send gate label credits) fits = omega (arith, key_short version gate fits.0, ten label fits.1, two credits (omega (arith, fits.3)))
object_short version (Serv name) fits = omega (arith, three name (omega (arith, fits)))
object_short version (Sess service ident) fits = omega (arith, key_short version service fits.0, node version ident fits.1)

call_short : (version : ℕ) (c : Call) → IsValidCall (most_vpes version) c → width (call_words c) ≤ 45
call_short version (Derive src dst off len rights) valid = omega (
  arith,
  three src (omega (arith, valid.0)),
  three dst (omega (arith, valid.1)),
  ten off valid.2,
  ten len valid.3,
  one rights (omega (arith, valid.4)),
)
call_short version (Gate src dst label credits) valid = omega (
  arith,
  three src (omega (arith, valid.0)),
  three dst (omega (arith, valid.1)),
  ten label valid.2,
  two credits (omega (arith, valid.4)),
)
call_short version (Obtain dst vpe src) valid = omega (arith, three dst (omega (arith, valid.0)), node version vpe valid.1, three src (omega (arith, valid.2)))
call_short version (Delegate src vpe dst) valid = omega (
  arith,
  three src (omega (arith, valid.0)),
  node version vpe valid.1,
  three dst (omega (arith, valid.2)),
)
call_short version (OpenSession dst name) valid = omega (arith, three dst (omega (arith, valid.0)), three name (omega (arith, valid.1)))
call_short version (AskOffer dst session index) valid = omega (
  arith,
  three dst (omega (arith, valid.0)),
  three session (omega (arith, valid.1)),
  three index (omega (arith, valid.2)),
)
call_short version (Revoke src) valid = omega (arith, three src (omega (arith, valid)))
call_short version (Bind ep src) valid = omega (arith, two ep (omega (arith, valid.0)), three src (omega (arith, valid.1)))
call_short version (Read ep off len) valid = omega (arith, two ep (omega (arith, valid.0)), ten off valid.1, ten len valid.2)
call_short version (Write ep off len) valid = omega (arith, two ep (omega (arith, valid.0)), ten off valid.1, ten len valid.2)
call_short version (SendCall ep len) valid = omega (arith, two ep (omega (arith, valid.0)), ten len valid.1)
call_short version (Credit ep) valid = omega (arith, two ep (omega (arith, valid)))
call_short version Exit valid = omega arith
call_short version (Clear src) valid = omega (arith, three src (omega (arith, valid)))

target_short : (version : ℕ) (t : Target) → TargetFits version t → width (target_words t) ≤ 25
target_short version (SelTarget vpe sel) fits = omega (arith, node version vpe fits.0, three sel (omega (arith, fits.1)))
target_short version (ServTarget service) fits = omega (arith, key_short version service fits)
target_short version (OfferTarget service index) fits = omega (arith, key_short version service fits.0, three index (omega (arith, fits.1)))

yes_or_no_short : (b : Bool) → length (yes_or_no b) ≤ 3
yes_or_no_short true = omega arith
yes_or_no_short false = omega arith

consent_short : (c : Consent) → length (consent_word c) ≤ 4
consent_short Yes = omega arith
consent_short No = omega arith
consent_short Dropped = omega arith

message_short : (version : ℕ) (m : Message) → MessageFits version m → width (message_words m) ≤ 74
message_short version (ObtainReq place target) fits = omega (arith, place_short version place fits.0, target_short version target fits.1)
message_short version (ObtainOk parent key object) fits = omega (
  arith,
  key_short version parent fits.0,
  key_short version key fits.1,
  object_short version object fits.2,
)
message_short version (ObtainNo place code) fits = omega (arith, place_short version place fits.0, two code (omega (arith, fits.1)))
message_short version (DelegateReq parent object vpe sel) fits =
    omega (
      arith,
      key_short version parent fits.0,
      object_short version object fits.1,
      node version vpe fits.2,
      three sel (omega (arith, fits.3)),
      width-append (object_words object) (decimal vpe ∷ decimal sel ∷ []),
    )
message_short version (DelegatePrepared parent key) fits = omega (arith, key_short version parent fits.0, key_short version key fits.1)
message_short version (DelegateNo parent code) fits = omega (arith, key_short version parent fits.0, two code (omega (arith, fits.1)))
message_short version (Ack key accepted) fits = omega (arith, key_short version key fits, yes_or_no_short accepted)
message_short version (Orphan parent key) fits = omega (arith, key_short version parent fits.0, key_short version key fits.1)
message_short version (RevokeReq key job) fits = omega (arith, key_short version key fits.0, ten job fits.1)
message_short version (RevokeDone job) fits = omega (arith, ten job fits)
message_short version (Unlink parent key) fits = omega (arith, key_short version parent fits.0, key_short version key fits.1)

event_short : (version kernels : ℕ) (act : Act) (detail : Detail) → kernels ≤ KERNELS → EventFits version kernels act detail →
    width (act_words act) + width (detail_words detail) ≤ 84
event_short version kernels (Calls v) (Called index call) few fits = omega (arith, node version v fits.0, ten index fits.1, call_short version call fits.2)
event_short version kernels (Fetch from) (Carried peer message) few fits = omega (arith, two peer (omega (arith, fits.1)), message_short version message fits.2)
event_short version kernels Handle (Carried peer message) few fits = omega (arith, two peer (omega (arith, fits.0)), message_short version message fits.1)
event_short version kernels (Upcall v) (Asked asker answer) few fits = omega (arith, node version v fits.0, node version asker fits.1, consent_short answer)
event_short version kernels (Resume v) Nothing few fits = omega (arith, node version v fits)
event_short version kernels (Flush to) (Carried peer message) few fits = omega (arith, two peer (omega (arith, fits.1)), message_short version message fits.2)
event_short version kernels (Kill v) Nothing few fits = omega (arith, node version v fits)
event_short version kernels act detail few fits = absurd fits

grant_short : (version : ℕ) (g : Option (KeyName × KeyName)) → GrantFits version g → width (grant_words g) ≤ 36
grant_short version None fits = omega arith
grant_short version (Some g) fits = omega (arith, key_short version g.0 fits.0, key_short version g.1 fits.1)

cut_short : (version : ℕ) (cut : Option KeyName) → CutFits version cut → width (cut_words cut) ≤ 19
cut_short version None fits = omega arith
cut_short version (Some k) fits = omega (arith, key_short version k fits)

reply_short : (version : ℕ) (r : Option Reply) → ReplyFits version r → width (reply_words r) ≤ 13
reply_short version None fits = omega arith
reply_short version (Some r) fits = omega (arith, node version r.vpe fits.0, two r.code (omega (arith, fits.1)))

-- the words of four parts
width_of_parts : (a b c d f : List (List ℕ)) → width (a ++ b ++ c ++ d ++ f) ≡ width a + width b + width c + width d + width f
width_of_parts a b c d f = omega (arith, width-append (a ++ b ++ c ++ d) f, width-append (a ++ b ++ c) d, width-append (a ++ b) c, width-append a b)

length-behind : (ws : List (List ℕ)) → length (behind_blanks ws) ≡ width ws
length-behind [] = refl
length-behind (w ∷ ws) = let rest = length-behind ws in omega (arith, length-append w (behind_blanks ws))

-- the line end stands for the blank before the first word
length-line : (w : List ℕ) (ws : List (List ℕ)) → length (line (w ∷ ws)) ≡ width (w ∷ ws)
length-line w ws = omega (arith, length-append (w ++ behind_blanks ws) (10 ∷ []), length-append w (behind_blanks ws), length-behind ws)

pub short_line : (version kernels : ℕ) (e : Entry) → kernels ≤ KERNELS → EntryFits version kernels e → length (line (entry_words e)) ≤ 161
short_line version kernels e few fits =
    let kernel : length (decimal e.event.kernel) ≤ 2 = two e.event.kernel (omega (arith, fits.kernel)) in
    let event = event_short version kernels e.event.act e.detail few fits.event in
    let parts = width_of_parts (act_words e.event.act) (detail_words e.detail) (grant_words e.grant) (cut_words e.cut) (reply_words e.reply) in
    let whole = length-line (decimal e.event.kernel) (act_words e.event.act ++ detail_words e.detail ++ grant_words e.grant ++ cut_words e.cut
    ++ reply_words e.reply) in
    omega (arith, kernel, event, grant_short version e.grant fits.grant, cut_short version e.cut fits.cut, reply_short version e.reply fits.reply, parts, whole)
