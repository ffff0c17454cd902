-- What is printed of an entry has no fault.
use Rattle.std.proofs.Common.{◌≡◌, ℕ, ◌≤◌, true, false, List, [], ◌∷◌, ◌++◌, Option, None, Some, refl, ◌∙◌, arith, decimal, append_assoc}
use Rattle.sem_key.specs.KeyName.{KeyName}
use Rattle.sem_key.specs.declared.object.Object.{Object}
use Rattle.sem_key.specs.declared.object.Object.TheVariants.{Mem, Recv, Send, Serv, Sess}
use Rattle.sem_msg.specs.declared.message.Message.{Message}
use Rattle.sem_msg.specs.declared.message.Message.TheVariants.{ObtainReq, ObtainOk, ObtainNo, DelegateReq, DelegatePrepared, DelegateNo, Ack, Orphan, RevokeReq}
use Rattle.sem_msg.specs.declared.message.Message.TheVariants.{RevokeDone, Unlink}
use Rattle.sem_msg.specs.declared.event.Act.{Act}
use Rattle.sem_msg.specs.declared.event.Act.TheVariants.{Call as Calls, Fetch, Handle, Upcall, Resume, Flush, Kill}
use Rattle.sem_msg.specs.declared.entry.Consent.TheVariants.{Yes, No, Dropped}
use Rattle.sem_msg.specs.declared.entry.Detail.{Detail}
use Rattle.sem_msg.specs.declared.entry.Detail.TheVariants.{Called, Carried, Asked, Nothing}
use Rattle.sem_msg.specs.declared.entry.Reply.{Reply}
use Rattle.sem_msg.specs.declared.entry.Entry.{Entry}
use Rattle.sem_key.specs.declared.limits.TheConstants.{KERNELS}
use Rattle.sem_trace.specs.declared.fault.Cause.{Cause}
use Rattle.sem_trace.specs.Places.{Fills}
use Rattle.sem_trace.specs.Forms.{Place, form_fault, choice, word_at, node, byte}
use Rattle.sem_trace.specs.Words.{object_words}
use Rattle.sem_journal.specs.EntryText.{message_words, act_words, detail_words, grant_words, cut_words, reply_words, entry_words}
use Rattle.sem_trace.specs.MessageForms.{objects, messages, message_form}
use Rattle.sem_journal.specs.EntryForms.{kernel, events, event_form, behind_cut, behind_grant, behind_event, entry_form}
use Rattle.sem_journal.specs.EntryForms.{entry_fault}
use Rattle.sem_journal.specs.EntryRanges.{ObjectFits, MessageFits, EventFits, GrantFits, CutFits, ReplyFits, EntryFits}
use Rattle.sem_journal.proofs.EntryParts.{shown_fault, no_fault}
use Rattle.sem_journal.proofs.PrintedPlaces.{Leaves, a_name, a_number, a_node, a_key, a_place, object_filled, target_filled, call_filled}

-- an object before more words
object_before : {c : Option (Cause × ℕ)} (version : ℕ) (o : Object) (places more : List Place) (words rest : List (List ℕ)) → ObjectFits version o →
    Leaves (places ++ more) (words ++ rest) c →
    Leaves ((choice (objects version) (word_at ((object_words o ++ words) ++ rest) 0) ++ places) ++ more) ((object_words o ++ words) ++ rest) c
unfolding objects
object_before version (Mem base len rights) places more words rest fits behind = object_filled version (Mem base len rights) fits behind
object_before version (Recv slots) places more words rest fits behind = object_filled version (Recv slots) fits behind
object_before version (Send gate label credits) places more words rest fits behind = object_filled version (Send gate label credits) fits behind
object_before version (Serv name) places more words rest fits behind = object_filled version (Serv name) fits behind
object_before version (Sess service ident) places more words rest fits behind = object_filled version (Sess service ident) fits behind

pub message_filled : {more : List Place} {rest : List (List ℕ)} {o : Option (Cause × ℕ)} (version : ℕ) (m : Message) → MessageFits version m →
    Leaves more rest o →
    Leaves (message_form version (message_words m ++ rest) ++ more) (message_words m ++ rest) o
unfolding message_form messages
message_filled version (ObtainReq place target) fits behind = a_name refl (a_place version place fits.0 (target_filled version target fits.1 behind))
message_filled version (ObtainOk parent key object) fits behind =
    a_name refl (a_key version parent fits.0 (a_key version key fits.1 (object_filled version object fits.2 behind)))
message_filled version (DelegateReq parent object vpe sel) fits behind =
    a_name refl (a_key version parent fits.0 (object_before version object (node version ∷ byte ∷ []) _ (decimal vpe ∷ decimal sel ∷ []) _ fits.1
    (a_node version vpe fits.2 (a_number sel (omega arith) (omega (arith, fits.3)) (omega (arith, fits.3)) behind))))
message_filled version (ObtainNo place code) fits behind =
    a_name refl (a_place version place fits.0 (a_number code (omega arith) (omega (arith, fits.1)) (omega (arith, fits.1)) behind))
message_filled version (DelegatePrepared parent key) fits behind = a_name refl (a_key version parent fits.0 (a_key version key fits.1 behind))
message_filled version (DelegateNo parent code) fits behind =
    a_name refl (a_key version parent fits.0 (a_number code (omega arith) (omega (arith, fits.1)) (omega (arith, fits.1)) behind))
message_filled version (Ack key true) fits behind = a_name refl (a_key version key fits (a_name refl behind))
message_filled version (Ack key false) fits behind = a_name refl (a_key version key fits (a_name refl behind))
message_filled version (Orphan parent key) fits behind = a_name refl (a_key version parent fits.0 (a_key version key fits.1 behind))
message_filled version (RevokeReq key job) fits behind =
    a_name refl (a_key version key fits.0 (a_number job (omega arith) (omega (arith, fits.1)) (omega (arith, fits.1)) behind))
message_filled version (RevokeDone job) fits behind = a_name refl (a_number job (omega arith) (omega (arith, fits)) (omega (arith, fits)) behind)
message_filled version (Unlink parent key) fits behind = a_name refl (a_key version parent fits.0 (a_key version key fits.1 behind))

pub event_filled : {more : List Place} {rest : List (List ℕ)} {o : Option (Cause × ℕ)} (version kernels : ℕ) (act : Act) (detail : Detail) → 1 ≤ kernels →
    kernels ≤ KERNELS → EventFits version kernels act detail → Leaves more rest o →
    Leaves (event_form version kernels (act_words act ++ detail_words detail ++ rest) ++ more) (act_words act ++ detail_words detail ++ rest) o
unfolding event_form events
event_filled version kernels (Calls v) (Called index call) some few fits behind =
    a_name refl (a_node version v fits.0 (a_number index (omega arith) (omega (arith, fits.1)) (omega (arith, fits.1))
    (call_filled version call fits.2 behind)))
event_filled version kernels (Fetch from) (Carried peer message) some few fits behind =
    a_name refl (a_number peer (omega arith) (omega (arith, fits.1)) (omega (arith, fits.1)) (message_filled version message fits.2 behind))
event_filled version kernels Handle (Carried peer message) some few fits behind =
    a_name refl (a_number peer (omega arith) (omega (arith, fits.0)) (omega (arith, fits.0)) (message_filled version message fits.1 behind))
event_filled version kernels (Upcall v) (Asked asker Yes) some few fits behind =
    a_name refl (a_node version v fits.0 (a_node version asker fits.1 (a_name refl behind)))
event_filled version kernels (Upcall v) (Asked asker No) some few fits behind =
    a_name refl (a_node version v fits.0 (a_node version asker fits.1 (a_name refl behind)))
event_filled version kernels (Upcall v) (Asked asker Dropped) some few fits behind =
    a_name refl (a_node version v fits.0 (a_node version asker fits.1 (a_name refl behind)))
event_filled version kernels (Resume v) Nothing some few fits behind = a_name refl (a_node version v fits behind)
event_filled version kernels (Flush to) (Carried peer message) some few fits behind =
    a_name refl (a_number peer (omega arith) (omega (arith, fits.1)) (omega (arith, fits.1)) (message_filled version message fits.2 behind))
event_filled version kernels (Kill v) Nothing some few fits behind = a_name refl (a_node version v fits behind)
event_filled version kernels act detail some few fits behind = absurd fits

no_more : Leaves [] [] None
unfolding form_fault
no_more = record { is = refl }

reply_printed : (version : ℕ) (r : Option Reply) → ReplyFits version r → Leaves (behind_cut version (reply_words r)) (reply_words r) None
unfolding behind_cut
reply_printed version None fits = no_more
reply_printed version (Some r) fits =
    a_name refl (a_node version r.vpe fits.0 (a_number r.code (omega arith) (omega (arith, fits.1)) (omega (arith, fits.1)) no_more))

cut_printed : (version : ℕ) (cut : Option KeyName) (r : Option Reply) → CutFits version cut → ReplyFits version r →
    Leaves (behind_grant version (cut_words cut ++ reply_words r)) (cut_words cut ++ reply_words r) None
unfolding behind_grant
cut_printed version None None cut_fits fits = no_more
cut_printed version None (Some r) cut_fits fits =
    a_name refl (a_node version r.vpe fits.0 (a_number r.code (omega arith) (omega (arith, fits.1)) (omega (arith, fits.1)) no_more))
cut_printed version (Some k) r cut_fits fits = a_name refl (a_key version k cut_fits (reply_printed version r fits))

shown_printed : (version : ℕ) (grant : Option (KeyName × KeyName)) (cut : Option KeyName) (r : Option Reply) → GrantFits version grant → CutFits version cut →
    ReplyFits version r →
    Leaves (behind_event version (grant_words grant ++ cut_words cut ++ reply_words r)) (grant_words grant ++ cut_words cut ++ reply_words r) None
unfolding behind_event
shown_printed version None None None grant_fits cut_fits fits = no_more
shown_printed version None None (Some r) grant_fits cut_fits fits =
    a_name refl (a_node version r.vpe fits.0 (a_number r.code (omega arith) (omega (arith, fits.1)) (omega (arith, fits.1)) no_more))
shown_printed version None (Some k) r grant_fits cut_fits fits = a_name refl (a_key version k cut_fits (reply_printed version r fits))
shown_printed version (Some g) cut r grant_fits cut_fits fits =
    a_name refl (a_key version g.0 grant_fits.0 (a_key version g.1 grant_fits.1 (cut_printed version cut r cut_fits fits)))

-- an entry by its parts
printed : (version kernels : ℕ) (e : Entry) (rest behind : List (List ℕ)) → 1 ≤ kernels → kernels ≤ KERNELS → EntryFits version kernels e →
    rest ≡ act_words e.event.act ++ detail_words e.detail ++ behind → behind ≡ grant_words e.grant ++ cut_words e.cut ++ reply_words e.reply →
    form_fault (entry_form version kernels (decimal e.event.kernel ∷ rest)) (decimal e.event.kernel ∷ rest) ≡ None
printed version kernels e rest behind some few fits rest_is behind_is =
    let first : Fills (kernel kernels ∷ []) (decimal e.event.kernel ∷ rest) rest =
    λ more. (a_number e.event.kernel (omega arith) (omega (arith, fits.kernel)) (omega (arith, fits.kernel)) (record { is = refl })).is in
    let event : Fills (event_form version kernels rest) rest behind =
    rw rest_is (λ more. (event_filled version kernels e.event.act e.detail some few fits.event (record { is = refl })).is) in
    let shown : form_fault (behind_event version behind) behind ≡ None =
    rw behind_is (shown_printed version e.grant e.cut e.reply fits.grant fits.cut fits.reply).is in
    shown_fault version kernels (decimal e.event.kernel ∷ rest) rest behind first event ∙ shown

pub words_are : (e : Entry) →
    entry_words e ≡ decimal e.event.kernel ∷ (act_words e.event.act ++ detail_words e.detail ++ (grant_words e.grant ++ cut_words e.cut ++ reply_words e.reply))
words_are e = simp append_assoc

pub entry_read : (version kernels : ℕ) (e : Entry) → 1 ≤ kernels → kernels ≤ KERNELS → EntryFits version kernels e →
    entry_fault version kernels (entry_words e) ≡ None
entry_read version kernels e some few fits =
    no_fault version kernels (entry_words e) (rw (words_are e) (printed version kernels e _ _ some few fits refl refl)) fits.memory
