-- A line tells one entry: the words that are printed of an entry tell that entry.
use Rattle.std.proofs.Common.{◌≡◌, ℕ, ◌≤◌, true, false, List, [], ◌∷◌, ◌++◌, length, drop, Option, None, Some, refl, ap, sym, ◌∙◌, arith, decimal, append_assoc}
use Rattle.sem_key.specs.declared.object.Object.{Object}
use Rattle.sem_key.specs.declared.object.Object.TheVariants.{Mem, Recv, Send, Serv, Sess}
use Rattle.sem_key.specs.declared.key.Kind.{Kind}
use Rattle.sem_key.specs.declared.key.Kind.TheVariants.{Mem as MemKind, Recv as RecvKind, Send as SendKind, Serv as ServKind, Sess as SessKind}
use Rattle.sem_key.specs.KeyName.{KeyName, kind_number}
use Rattle.sem_key.specs.PlaceName.{PlaceName}
use Rattle.sem_msg.specs.declared.call.Call.{Call}
use Rattle.sem_msg.specs.declared.call.Call.TheVariants.{Derive, Gate, Obtain, Delegate, OpenSession, AskOffer, Revoke, Bind, Read, Write, Send as SendCall}
use Rattle.sem_msg.specs.declared.call.Call.TheVariants.{Credit, Exit, Clear}
use Rattle.sem_msg.specs.Calls.{IsValidCall}
use Rattle.sem_msg.specs.declared.message.Target.{Target}
use Rattle.sem_msg.specs.declared.message.Target.TheVariants.{Sel as SelTarget, Serv as ServTarget, Offer as OfferTarget}
use Rattle.sem_msg.specs.declared.message.Message.{Message}
use Rattle.sem_msg.specs.declared.message.Message.TheVariants.{ObtainReq, ObtainOk, ObtainNo, DelegateReq, DelegatePrepared, DelegateNo, Ack, Orphan, RevokeReq}
use Rattle.sem_msg.specs.declared.message.Message.TheVariants.{RevokeDone, Unlink}
use Rattle.sem_msg.specs.declared.event.Act.{Act}
use Rattle.sem_msg.specs.declared.event.Act.TheVariants.{Call as Calls, Fetch, Handle, Upcall, Resume, Flush, Kill}
use Rattle.sem_msg.specs.declared.entry.Consent.{Consent}
use Rattle.sem_msg.specs.declared.entry.Consent.TheVariants.{Yes, No, Dropped}
use Rattle.sem_msg.specs.declared.entry.Detail.{Detail}
use Rattle.sem_msg.specs.declared.entry.Detail.TheVariants.{Called, Carried, Asked, Nothing}
use Rattle.sem_msg.specs.declared.entry.Reply.{Reply}
use Rattle.sem_msg.specs.declared.entry.Entry.{Entry}
use Rattle.sem_text.specs.Number.{number_value}
use Rattle.sem_trace.specs.Ranges.{IsNode, IsKeyInText, IsPlaceInText}
use Rattle.sem_key.specs.declared.limits.TheConstants.{KERNELS}
use Rattle.sem_msg.specs.Versions.{most_vpes}
use Rattle.sem_trace.specs.Places.{Fills}
use Rattle.sem_trace.specs.Words.{key_word, place_word, object_words, call_words}
use Rattle.sem_trace.specs.Declarations.{call_from}
use Rattle.sem_journal.specs.EntryText.{target_words, message_words, act_words, detail_words, consent_word, grant_words, cut_words, reply_words, entry_words}
use Rattle.sem_trace.specs.MessageForms.{objects}
use Rattle.sem_journal.specs.EntryForms.{event_form}
use Rattle.sem_journal.specs.EntryRanges.{ObjectFits, TargetFits, MessageFits, EventFits, GrantFits, CutFits, ReplyFits, EntryFits}
use Rattle.sem_journal.proofs.EntryParts.{behind_filled}
use Rattle.sem_journal.proofs.PrintedPlaces.{value, small as small_node, kind_most, key_parts, place_parts}
use Rattle.sem_journal.proofs.PrintedEntries.{event_filled, words_are}
use Rattle.sem_journal.proofs.EntryFrom.{kind_from, key_from, place_from, object_from, behind_object, target_from, message_from, act_from, consent_from}
use Rattle.sem_journal.proofs.EntryFrom.{detail_from, grant_from, past_grant, cut_from, past_cut, reply_from, past_event, entry_from}

small : (n : ℕ) → n ≤ 4294967295 → number_value (decimal n) ≡ n
small n fits = value n (omega arith)

node : (version n : ℕ) → IsNode version n → number_value (decimal n) ≡ n
node version n valid = value n (small_node version n valid)

kind_of_number : (kind : Kind) → kind_from (kind_number kind) ≡ kind
unfolding kind_from
kind_of_number MemKind = refl
kind_of_number RecvKind = refl
kind_of_number SendKind = refl
kind_of_number ServKind = refl
kind_of_number SessKind = refl

kind_read : (kind : Kind) → kind_from (number_value (decimal (kind_number kind))) ≡ kind
kind_read kind = ap kind_from (small (kind_number kind) (omega (arith, kind_most kind))) ∙ kind_of_number kind

key_read : (version : ℕ) (k : KeyName) → IsKeyInText version k → key_from (key_word k) ≡ k
unfolding key_from
key_read version k valid = rw (
  key_parts version k valid,
  node version k.pe valid.0,
  node version k.vpe valid.1,
  small k.number (omega (arith, valid.2)),
  kind_read k.kind,
) refl

place_read : (version : ℕ) (p : PlaceName) → IsPlaceInText version p → place_from (place_word p) ≡ p
unfolding place_from
place_read version p valid = rw (
  place_parts version p valid,
  node version p.pe valid.0,
  node version p.vpe valid.1,
  small p.number (omega (arith, valid.2)),
) refl

object_read : (version : ℕ) (o : Object) (rest : List (List ℕ)) → ObjectFits version o → object_from (object_words o ++ rest) ≡ o
unfolding object_from
object_read version (Mem base len rights) rest fits = rw (small base fits.0, small len fits.1, small rights (omega (arith, fits.2))) refl
object_read version (Recv slots) rest fits = rw (small slots (omega (arith, fits.1))) refl
object_read version (Send gate label credits) rest fits = rw (key_read version gate fits.0, small label fits.1, small credits (omega (arith, fits.3))) refl
object_read version (Serv name) rest fits = rw (small name (omega (arith, fits))) refl
object_read version (Sess service ident) rest fits = rw (key_read version service fits.0, node version ident fits.1) refl

past_object : (version : ℕ) (o : Object) (rest : List (List ℕ)) → behind_object version (object_words o ++ rest) ≡ rest
unfolding behind_object objects
past_object version (Mem base len rights) rest = refl
past_object version (Recv slots) rest = refl
past_object version (Send gate label credits) rest = refl
past_object version (Serv name) rest = refl
past_object version (Sess service ident) rest = refl

target_read : (version : ℕ) (t : Target) (rest : List (List ℕ)) → TargetFits version t → target_from (target_words t ++ rest) ≡ t
unfolding target_from
target_read version (SelTarget vpe sel) rest fits = rw (node version vpe fits.0, small sel (omega (arith, fits.1))) refl
target_read version (ServTarget service) rest fits = rw (key_read version service fits) refl
target_read version (OfferTarget service index) rest fits = rw (key_read version service fits.0, small index (omega (arith, fits.1))) refl

call_read : (version : ℕ) (c : Call) (rest : List (List ℕ)) → IsValidCall (most_vpes version) c → call_from (call_words c ++ rest) ≡ c
unfolding call_from
call_read version (Derive src dst off len rights) rest valid = rw (
  small src (omega (arith, valid.0)),
  small dst (omega (arith, valid.1)),
  small off (omega (arith, valid.2)),
  small len (omega (arith, valid.3)),
  small rights (omega (arith, valid.4)),
) refl
call_read version (Gate src dst label credits) rest valid = rw (
  small src (omega (arith, valid.0)),
  small dst (omega (arith, valid.1)),
  small label (omega (arith, valid.2)),
  small credits (omega (arith, valid.4)),
) refl
call_read version (Obtain dst vpe src) rest valid = rw (small dst (omega (arith, valid.0)), node version vpe valid.1, small src (omega (arith, valid.2))) refl
call_read version (Delegate src vpe dst) rest valid = rw (small src (omega (arith, valid.0)), node version vpe valid.1, small dst (omega (arith, valid.2))) refl
call_read version (OpenSession dst name) rest valid = rw (small dst (omega (arith, valid.0)), small name (omega (arith, valid.1))) refl
call_read version (AskOffer dst session index) rest valid = rw (
  small dst (omega (arith, valid.0)),
  small session (omega (arith, valid.1)),
  small index (omega (arith, valid.2)),
) refl
call_read version (Revoke src) rest valid = rw (small src (omega (arith, valid))) refl
call_read version (Bind ep src) rest valid = rw (small ep (omega (arith, valid.0)), small src (omega (arith, valid.1))) refl
call_read version (Read ep off len) rest valid = rw (
  small ep (omega (arith, valid.0)),
  small off (omega (arith, valid.1)),
  small len (omega (arith, valid.2)),
) refl
call_read version (Write ep off len) rest valid = rw (
  small ep (omega (arith, valid.0)),
  small off (omega (arith, valid.1)),
  small len (omega (arith, valid.2)),
) refl
call_read version (SendCall ep len) rest valid = rw (small ep (omega (arith, valid.0)), small len (omega (arith, valid.1))) refl
call_read version (Credit ep) rest valid = rw (small ep (omega (arith, valid))) refl
call_read version Exit rest valid = refl
call_read version (Clear src) rest valid = rw (small src (omega (arith, valid))) refl

message_read : (version : ℕ) (m : Message) (rest : List (List ℕ)) → MessageFits version m → message_from version (message_words m ++ rest) ≡ m
unfolding message_from
message_read version (ObtainReq place target) rest fits = rw (place_read version place fits.0, target_read version target rest fits.1) refl
message_read version (ObtainOk parent key object) rest fits = rw (
  key_read version parent fits.0,
  key_read version key fits.1,
  object_read version object rest fits.2,
) refl
message_read version (ObtainNo place code) rest fits = rw (place_read version place fits.0, small code (omega (arith, fits.1))) refl
message_read version (DelegateReq parent object vpe sel) rest fits = rw (
  append_assoc (object_words object) (decimal vpe ∷ decimal sel ∷ []) rest,
  key_read version parent fits.0,
  object_read version object (decimal vpe ∷ decimal sel ∷ rest) fits.1,
  past_object version object (decimal vpe ∷ decimal sel ∷ rest),
  node version vpe fits.2,
  small sel (omega (arith, fits.3)),
) refl
message_read version (DelegatePrepared parent key) rest fits = rw (key_read version parent fits.0, key_read version key fits.1) refl
message_read version (DelegateNo parent code) rest fits = rw (key_read version parent fits.0, small code (omega (arith, fits.1))) refl
message_read version (Ack key true) rest fits = rw (key_read version key fits) refl
message_read version (Ack key false) rest fits = rw (key_read version key fits) refl
message_read version (Orphan parent key) rest fits = rw (key_read version parent fits.0, key_read version key fits.1) refl
message_read version (RevokeReq key job) rest fits = rw (key_read version key fits.0, small job fits.1) refl
message_read version (RevokeDone job) rest fits = rw (small job fits) refl
message_read version (Unlink parent key) rest fits = rw (key_read version parent fits.0, key_read version key fits.1) refl

consent_read : (kernel name asker : List ℕ) (answer : Consent) (rest : List (List ℕ)) →
    consent_from (kernel ∷ name ∷ asker ∷ consent_word answer ∷ rest) 3 ≡ answer
unfolding consent_from
consent_read kernel name asker Yes rest = refl
consent_read kernel name asker No rest = refl
consent_read kernel name asker Dropped rest = refl

-- the act and its detail
event_read : (version kernels : ℕ) (act : Act) (detail : Detail) (rest : List (List ℕ)) → kernels ≤ KERNELS → EventFits version kernels act detail →
    (act_from (act_words act ++ detail_words detail ++ rest) ≡ act) × (detail_from version (act_words act ++ detail_words detail ++ rest) ≡ detail)
unfolding act_from detail_from
event_read version kernels (Calls v) (Called index call) rest few fits =
    (rw (node version v fits.0) refl, rw (small index fits.1, call_read version call rest fits.2) refl)
event_read version kernels (Fetch from) (Carried peer message) rest few fits = (
  rw (fits.0, small peer (omega (arith, fits.1))) refl,
  rw (small peer (omega (arith, fits.1)), message_read version message rest fits.2) refl,
)
event_read version kernels Handle (Carried peer message) rest few fits =
    (refl, rw (small peer (omega (arith, fits.0)), message_read version message rest fits.1) refl)
event_read version kernels (Upcall v) (Asked asker answer) rest few fits =
    (rw (node version v fits.0) refl, rw (node version asker fits.1, consent_read _ _ _ answer rest) refl)
event_read version kernels (Resume v) Nothing rest few fits = (rw (node version v fits) refl, refl)
event_read version kernels (Flush to) (Carried peer message) rest few fits = (
  rw (fits.0, small peer (omega (arith, fits.1))) refl,
  rw (small peer (omega (arith, fits.1)), message_read version message rest fits.2) refl,
)
event_read version kernels (Kill v) Nothing rest few fits = (rw (node version v fits) refl, refl)
event_read version kernels act detail rest few fits = absurd fits

grant_read : (version : ℕ) (g : Option (KeyName × KeyName)) (cut : Option KeyName) (r : Option Reply) → GrantFits version g →
    (grant_from (grant_words g ++ cut_words cut ++ reply_words r) ≡ g)
    × (past_grant (grant_words g ++ cut_words cut ++ reply_words r) ≡ cut_words cut ++ reply_words r)
unfolding grant_from past_grant
grant_read version (Some g) cut r fits = (rw (key_read version g.0 fits.0, key_read version g.1 fits.1) refl, refl)
grant_read version None (Some k) r fits = (refl, refl)
grant_read version None None (Some r) fits = (refl, refl)
grant_read version None None None fits = (refl, refl)

cut_read : (version : ℕ) (cut : Option KeyName) (r : Option Reply) → CutFits version cut → (cut_from (cut_words cut ++ reply_words r) ≡ cut)
    × (past_cut (cut_words cut ++ reply_words r) ≡ reply_words r)
unfolding cut_from past_cut
cut_read version (Some k) r fits = (rw (key_read version k fits) refl, refl)
cut_read version None (Some r) fits = (refl, refl)
cut_read version None None fits = (refl, refl)

reply_read : (version : ℕ) (r : Option Reply) → ReplyFits version r → reply_from (reply_words r) ≡ r
unfolding reply_from
reply_read version (Some r) fits = rw (node version r.vpe fits.0, small r.code (omega (arith, fits.1))) refl
reply_read version None fits = refl

-- an entry by its parts
parts_read : (version kernels : ℕ) (e : Entry) (rest behind : List (List ℕ)) → kernels ≤ KERNELS → EntryFits version kernels e →
    rest ≡ act_words e.event.act ++ detail_words e.detail ++ behind → behind ≡ grant_words e.grant ++ cut_words e.cut ++ reply_words e.reply →
    entry_from version kernels (decimal e.event.kernel ∷ rest) ≡ e
unfolding entry_from past_event
parts_read version kernels e rest behind few fits rest_is behind_is =
    let event : Fills (event_form version kernels rest) rest behind =
    rw rest_is (λ more. (event_filled version kernels e.event.act e.detail (omega (arith, fits.kernel)) few fits.event (record { is = refl })).is) in
    let past : drop (length (event_form version kernels rest)) rest ≡ behind = behind_filled (event_form version kernels rest) rest behind event in
    let read = event_read version kernels e.event.act e.detail behind few fits.event in
    let act : act_from rest ≡ e.event.act = rw rest_is read.0 in
    let detail : detail_from version rest ≡ e.detail = rw rest_is read.1 in
    let grant = grant_read version e.grant e.cut e.reply fits.grant in
    let cut = cut_read version e.cut e.reply fits.cut in
    let reply = reply_read version e.reply fits.reply in
    rw (past, act, detail, small e.event.kernel (omega (arith, fits.kernel)), behind_is, grant.0, grant.1, cut.0, cut.1, reply) refl

entry_told : (version kernels : ℕ) (e : Entry) → kernels ≤ KERNELS → EntryFits version kernels e → entry_from version kernels (entry_words e) ≡ e
entry_told version kernels e few fits = ap (entry_from version kernels) (words_are e) ∙ parts_read version kernels e _ _ few fits refl refl

pub one_entry : (version kernels : ℕ) (e f : Entry) → EntryFits version kernels e → EntryFits version kernels f → kernels ≤ KERNELS →
    entry_words e ≡ entry_words f → e ≡ f
one_entry version kernels e f e_fits f_fits few same = sym (entry_told version kernels e few e_fits)
    ∙ (ap (entry_from version kernels) same ∙ entry_told version kernels f few f_fits)
