-- How an entry is written, as words ("The report" in docs/texts.md).
use Rattle.std.specs.Prelude.{ℕ, Bool, true, false, List, [], ◌∷◌, ◌++◌, codes, decimal, Option, Some, None}
use Rattle.sem_msg.specs.Prelude.{KeyName}
use Rattle.sem_msg.specs.declared.message.Target.{Target}
use Rattle.sem_msg.specs.declared.message.Target.TheVariants.{Sel as SelTarget, Serv as ServTarget}
use Rattle.sem_msg.specs.declared.message.Target.TheVariants.{Offer as OfferTarget}
use Rattle.sem_msg.specs.declared.message.Message.{Message}
use Rattle.sem_msg.specs.declared.message.Message.TheVariants.{ObtainReq, ObtainOk, ObtainNo, DelegateReq}
use Rattle.sem_msg.specs.declared.message.Message.TheVariants.{DelegatePrepared, DelegateNo, Ack, Orphan, RevokeReq}
use Rattle.sem_msg.specs.declared.message.Message.TheVariants.{RevokeDone, Unlink}
use Rattle.sem_msg.specs.declared.event.Act.{Act}
use Rattle.sem_msg.specs.declared.event.Act.TheVariants.{Call as Calls, Fetch, Handle, Upcall, Resume, Flush, Kill}
use Rattle.sem_msg.specs.declared.entry.Consent.{Consent}
use Rattle.sem_msg.specs.declared.entry.Consent.TheVariants.{Yes, No, Dropped}
use Rattle.sem_msg.specs.declared.entry.Detail.{Detail}
use Rattle.sem_msg.specs.declared.entry.Detail.TheVariants.{Called, Carried, Asked, Nothing}
use Rattle.sem_msg.specs.declared.entry.Reply.{Reply}
use Rattle.sem_msg.specs.declared.entry.Entry.{Entry}
use Rattle.sem_text.specs.Lines.{line}
use Rattle.sem_trace.specs.Words.{key_word, place_word, object_words, call_words}

abbrev pub target_words : Target → List (List ℕ)
target_words (SelTarget vpe sel) = codes "sel" ∷ decimal vpe ∷ decimal sel ∷ []
target_words (ServTarget service) = codes "serv" ∷ key_word service ∷ []
target_words (OfferTarget service index) = codes "offer" ∷ key_word service ∷ decimal index ∷ []

abbrev pub yes_or_no : Bool → List ℕ
yes_or_no true = codes "yes"
yes_or_no false = codes "no"

abbrev pub message_words : Message → List (List ℕ)
message_words (ObtainReq place target) = codes "obtain-req" ∷ place_word place ∷ target_words target
message_words (ObtainOk parent key object) = codes "obtain-ok" ∷ key_word parent ∷ key_word key ∷ object_words object
message_words (ObtainNo place code) = codes "obtain-no" ∷ place_word place ∷ decimal code ∷ []
message_words (DelegateReq parent object vpe sel) = codes "delegate-req" ∷ key_word parent ∷ object_words object
    ++ decimal vpe ∷ decimal sel ∷ []
message_words (DelegatePrepared parent key) = codes "delegate-prepared" ∷ key_word parent ∷ key_word key ∷ []
message_words (DelegateNo parent code) = codes "delegate-no" ∷ key_word parent ∷ decimal code ∷ []
message_words (Ack key accepted) = codes "ack" ∷ key_word key ∷ yes_or_no accepted ∷ []
message_words (Orphan parent key) = codes "orphan" ∷ key_word parent ∷ key_word key ∷ []
message_words (RevokeReq key job) = codes "revoke-req" ∷ key_word key ∷ decimal job ∷ []
message_words (RevokeDone job) = codes "revoke-done" ∷ decimal job ∷ []
message_words (Unlink parent key) = codes "unlink" ∷ key_word parent ∷ key_word key ∷ []

-- an act; the message tells the kernel of a fetch or a flush
abbrev pub act_words : Act → List (List ℕ)
act_words (Calls v) = codes "call" ∷ decimal v ∷ []
act_words (Fetch from) = codes "fetch" ∷ []
act_words Handle = codes "handle" ∷ []
act_words (Upcall v) = codes "upcall" ∷ decimal v ∷ []
act_words (Resume v) = codes "resume" ∷ decimal v ∷ []
act_words (Flush to) = codes "flush" ∷ []
act_words (Kill v) = codes "kill" ∷ decimal v ∷ []

abbrev pub consent_word : Consent → List ℕ
consent_word Yes = codes "yes"
consent_word No = codes "no"
consent_word Dropped = codes "drop"

abbrev pub detail_words : Detail → List (List ℕ)
detail_words (Called index call) = decimal index ∷ call_words call
detail_words (Carried peer message) = decimal peer ∷ message_words message
detail_words (Asked asker answer) = decimal asker ∷ consent_word answer ∷ []
detail_words Nothing = []

abbrev pub grant_words : Option (KeyName × KeyName) → List (List ℕ)
grant_words None = []
grant_words (Some g) = codes "grant" ∷ key_word g.0 ∷ key_word g.1 ∷ []

abbrev pub cut_words : Option KeyName → List (List ℕ)
cut_words None = []
cut_words (Some k) = codes "cut" ∷ key_word k ∷ []

abbrev pub reply_words : Option Reply → List (List ℕ)
reply_words None = []
reply_words (Some r) = codes "reply" ∷ decimal r.vpe ∷ decimal r.code ∷ []

abbrev pub entry_words : Entry → List (List ℕ)
entry_words e = decimal e.event.kernel ∷ act_words e.event.act ++ detail_words e.detail ++ grant_words e.grant
    ++ cut_words e.cut ++ reply_words e.reply

abbrev pub entry_line : Entry → List ℕ
entry_line e = line (entry_words e)
