-- The entry that words tell.
use Rattle.std.specs.Prelude.{ℕ, ◌==◌, Bool, ◌||◌, List, length, drop, codes, Option, Some, None, if◌then◌else◌}
use Rattle.sem_key.specs.declared.object.Object.{Object}
use Rattle.sem_key.specs.declared.object.Object.TheVariants.{Mem, Recv, Send, Serv, Sess}
use Rattle.sem_key.specs.declared.key.Kind.{Kind}
use Rattle.sem_key.specs.declared.key.Kind.TheVariants.{Mem as MemKind, Recv as RecvKind, Send as SendKind, Serv as ServKind, Sess as SessKind}
use Rattle.sem_key.specs.KeyName.{KeyName}
use Rattle.sem_key.specs.PlaceName.{PlaceName}
use Rattle.sem_msg.specs.declared.message.Target.{Target}
use Rattle.sem_msg.specs.declared.message.Target.TheVariants.{Sel as SelTarget, Serv as ServTarget, Offer as OfferTarget}
use Rattle.sem_msg.specs.declared.message.Message.{Message}
use Rattle.sem_msg.specs.declared.message.Message.TheVariants.{ObtainReq, ObtainOk, ObtainNo, DelegateReq, DelegatePrepared, DelegateNo, Ack, Orphan, RevokeReq}
use Rattle.sem_msg.specs.declared.message.Message.TheVariants.{RevokeDone, Unlink}
use Rattle.sem_msg.specs.declared.event.Act.{Act}
use Rattle.sem_msg.specs.declared.event.Act.TheVariants.{Call as Calls, Fetch, Handle, Upcall, Resume, Flush, Kill}
use Rattle.sem_msg.specs.declared.entry.Consent.{Consent}
use Rattle.sem_msg.specs.declared.entry.Consent.TheVariants.{Yes, No, Dropped}
use Rattle.sem_msg.specs.declared.entry.Detail.{Detail}
use Rattle.sem_msg.specs.declared.entry.Detail.TheVariants.{Called, Carried, Asked, Nothing}
use Rattle.sem_msg.specs.declared.entry.Reply.{Reply}
use Rattle.sem_msg.specs.declared.entry.Entry.{Entry}
use Rattle.sem_trace.specs.Forms.{parts_of, word_at, choice}
use Rattle.sem_trace.specs.Declarations.{stands_at, number_at, call_from}
use Rattle.sem_trace.specs.MessageForms.{objects}
use Rattle.sem_journal.specs.EntryForms.{event_form}

unfoldable pub kind_from : ℕ → Kind
kind_from n =
    if n == 1 then MemKind
    else (if n == 2 then RecvKind
    else (if n == 3 then SendKind
    else (if n == 4 then ServKind
    else SessKind)))

unfoldable pub key_from : List ℕ → KeyName
key_from word =
    let n : ℕ → ℕ = number_at (parts_of word) in
    record { pe = n 0; vpe = n 1; kind = kind_from (n 2); number = n 3 }

unfoldable pub place_from : List ℕ → PlaceName
place_from word =
    let n : ℕ → ℕ = number_at (parts_of word) in
    record { pe = n 0; vpe = n 1; number = n 2 }

-- words from the name on; so below
unfoldable pub object_from : List (List ℕ) → Object
object_from words =
    let is : List ℕ → Bool = stands_at words 0 in
    let n : ℕ → ℕ = number_at words in
    if is (codes "mem") then Mem (n 1) (n 2) (n 3)
    else (if is (codes "recv") then Recv (n 1)
    else (if is (codes "send") then Send (key_from (word_at words 1)) (n 2) (n 3)
    else (if is (codes "serv") then Serv (n 1)
    else Sess (key_from (word_at words 1)) (n 2))))

-- the words behind an object
unfoldable pub behind_object : ℕ → List (List ℕ) → List (List ℕ)
behind_object version words = drop (length (choice (objects version) (word_at words 0))) words

unfoldable pub target_from : List (List ℕ) → Target
target_from words =
    let is : List ℕ → Bool = stands_at words 0 in
    let n : ℕ → ℕ = number_at words in
    if is (codes "sel") then SelTarget (n 1) (n 2)
    else (if is (codes "serv") then ServTarget (key_from (word_at words 1))
    else OfferTarget (key_from (word_at words 1)) (n 2))

unfoldable pub message_from : ℕ → List (List ℕ) → Message
message_from version words =
    let is : List ℕ → Bool = stands_at words 0 in
    let n : ℕ → ℕ = number_at words in
    let k : ℕ → KeyName = λ i. key_from (word_at words i) in
    let more : List (List ℕ) = behind_object version (drop 2 words) in
    if is (codes "obtain-req") then ObtainReq (place_from (word_at words 1)) (target_from (drop 2 words))
    else (if is (codes "obtain-ok") then ObtainOk (k 1) (k 2) (object_from (drop 3 words))
    else (if is (codes "obtain-no") then ObtainNo (place_from (word_at words 1)) (n 2)
    else (if is (codes "delegate-req") then DelegateReq (k 1) (object_from (drop 2 words)) (number_at more 0) (number_at more 1)
    else (if is (codes "delegate-prepared") then DelegatePrepared (k 1) (k 2)
    else (if is (codes "delegate-no") then DelegateNo (k 1) (n 2)
    else (if is (codes "ack") then Ack (k 1) (stands_at words 2 (codes "yes"))
    else (if is (codes "orphan") then Orphan (k 1) (k 2)
    else (if is (codes "revoke-req") then RevokeReq (k 1) (n 2)
    else (if is (codes "revoke-done") then RevokeDone (n 1)
    else Unlink (k 1) (k 2))))))))))

unfoldable pub act_from : List (List ℕ) → Act
act_from words =
    let is : List ℕ → Bool = stands_at words 0 in
    let n : ℕ = number_at words 1 in
    if is (codes "call") then Calls n
    else (if is (codes "fetch") then Fetch n
    else (if is (codes "handle") then Handle
    else (if is (codes "upcall") then Upcall n
    else (if is (codes "resume") then Resume n
    else (if is (codes "flush") then Flush n
    else Kill n)))))

unfoldable pub consent_from : List (List ℕ) → ℕ → Consent
consent_from words i =
    if stands_at words i (codes "yes") then Yes
    else (if stands_at words i (codes "no") then No
    else Dropped)

unfoldable pub detail_from : ℕ → List (List ℕ) → Detail
detail_from version words =
    let is : List ℕ → Bool = stands_at words 0 in
    let n : ℕ → ℕ = number_at words in
    if is (codes "call") then Called (n 2) (call_from (drop 3 words))
    else (if is (codes "upcall") then Asked (n 2) (consent_from words 3)
    else (if is (codes "resume") || is (codes "kill") then Nothing
    else Carried (n 1) (message_from version (drop 2 words))))

-- a grant and the words behind it, where it stands there; so below
unfoldable pub grant_from : List (List ℕ) → Option (KeyName × KeyName)
grant_from words = if stands_at words 0 (codes "grant") then Some (key_from (word_at words 1), key_from (word_at words 2)) else None

unfoldable pub past_grant : List (List ℕ) → List (List ℕ)
past_grant words = if stands_at words 0 (codes "grant") then drop 3 words else words

unfoldable pub cut_from : List (List ℕ) → Option KeyName
cut_from words = if stands_at words 0 (codes "cut") then Some (key_from (word_at words 1)) else None

unfoldable pub past_cut : List (List ℕ) → List (List ℕ)
past_cut words = if stands_at words 0 (codes "cut") then drop 2 words else words

unfoldable pub reply_from : List (List ℕ) → Option Reply
reply_from words = if stands_at words 0 (codes "reply") then Some (record { vpe = number_at words 1; code = number_at words 2 }) else None

-- the words behind the event
unfoldable pub past_event : (version kernels : ℕ) → List (List ℕ) → List (List ℕ)
past_event version kernels words = drop (length (event_form version kernels words)) words

unfoldable pub entry_from : (version kernels : ℕ) → List (List ℕ) → Entry
entry_from version kernels words =
    let event : List (List ℕ) = drop 1 words in
    let more : List (List ℕ) = past_event version kernels event in
    record {
      event = record { kernel = number_at words 0; act = act_from event };
      detail = detail_from version event;
      grant = grant_from more;
      cut = cut_from (past_grant more);
      reply = reply_from (past_cut (past_grant more));
    }
