-- What the readers of the parts of an entry promise.
use Rattle.std.specs.Prelude.{◌≡◌, ℕ, ◌<◌, Bool, List, [], ◌∷◌, ◌++◌, drop, codes, decimal, Option, Some, Result}
use Rattle.std.specs.Prelude.{IfOk}
use Rattle.sem_msg.specs.Prelude.{KeyName, Object}
use Rattle.sem_msg.specs.declared.message.Target.{Target}
use Rattle.sem_msg.specs.declared.message.Message.{Message}
use Rattle.sem_msg.specs.declared.event.Act.{Act}
use Rattle.sem_msg.specs.declared.entry.Consent.{Consent}
use Rattle.sem_msg.specs.declared.entry.Detail.{Detail}
use Rattle.sem_msg.specs.declared.entry.Reply.{Reply}
use Rattle.sem_trace.specs.declared.fault.Cause.{Cause}
use Rattle.sem_trace.specs.Forms.{Place, choice, word_at, form_fault, node, key}
use Rattle.sem_trace.specs.Forms.Place.{Word}
use Rattle.sem_trace.specs.Places.{Reads, told_fault}
use Rattle.sem_trace.specs.Ranges.{IsNode}
use Rattle.sem_trace.specs.Words.{key_word, object_words}
use Rattle.sem_journal.specs.declared.shown.Shown.{Shown}
use Rattle.sem_journal.specs.EntryText.{target_words, yes_or_no, message_words, consent_word, act_words, detail_words}
use Rattle.sem_journal.specs.EntryText.{cut_words, reply_words}
use Rattle.sem_trace.specs.MessageForms.{code, objects, targets, message_form}
use Rattle.sem_journal.specs.EntryForms.{kernel, event_form, behind_cut}
use Rattle.sem_journal.specs.EntryForms.{behind_grant, behind_event}
use Rattle.sem_journal.specs.EntryRanges.{ObjectFits, TargetFits, MessageFits, EventFits, GrantFits, CutFits}
use Rattle.sem_journal.specs.EntryRanges.{ReplyFits}
use Rattle.sem_journal.specs.ShownWords.{shown_words, ShownFits}

-- the next words fill the places: what they spell is read, and it is in its ranges
pub record ReadsPart {X : Type 0} (places : List Place) (spelling : X → List (List ℕ)) (Fits : X →
    Type 0) (old new : List (List ℕ)) (result : Result X Cause) : Type 0 where
  pub reads : Reads places spelling old new result
  pub fits : IfOk result Fits

-- an object, from its name on; the same below
abbrev pub ReadsObject : ℕ → (old new : List (List ℕ)) → Result Object Cause → Type 0
ReadsObject version old = ReadsPart (choice (objects version) (word_at old 0)) object_words (ObjectFits version) old

abbrev pub ReadsTarget : ℕ → (old new : List (List ℕ)) → Result Target Cause → Type 0
ReadsTarget version old = ReadsPart (choice (targets version) (word_at old 0)) target_words (TargetFits version) old

abbrev pub ReadsMessage : ℕ → (old new : List (List ℕ)) → Result Message Cause → Type 0
ReadsMessage version old = ReadsPart (message_form version old) message_words (MessageFits version) old

abbrev pub ReadsEvent : (version kernels : ℕ) → (old new : List (List ℕ)) → Result (Act × Detail) Cause → Type 0
ReadsEvent version kernels old = ReadsPart (event_form version kernels old) (λ p. act_words p.0 ++ detail_words p.1)
    (λ p. EventFits version kernels p.0 p.1) old

-- a VPE
abbrev pub ReadsVpe : ℕ → (old new : List (List ℕ)) → Result ℕ Cause → Type 0
ReadsVpe version = ReadsPart (node version ∷ []) (λ v. decimal v ∷ []) (IsNode version)

-- two keys
abbrev pub ReadsKeys : ℕ → (old new : List (List ℕ)) → Result (KeyName × KeyName) Cause → Type 0
ReadsKeys version = ReadsPart (key version ∷ key version ∷ []) (λ p. key_word p.0 ∷ key_word p.1 ∷ [])
    (λ p. GrantFits version (Some p))

-- yes or no
abbrev pub ReadsYesOrNo : (old new : List (List ℕ)) → Result Bool Cause → Type 0
ReadsYesOrNo = Reads (Word (codes "yes" ∷ codes "no" ∷ []) ∷ []) (λ yes. yes_or_no yes ∷ [])

-- the answer to an ask
abbrev pub ReadsConsent : (old new : List (List ℕ)) → Result Consent Cause → Type 0
ReadsConsent = Reads (Word (codes "yes" ∷ codes "no" ∷ codes "drop" ∷ []) ∷ []) (λ answer. consent_word answer ∷ [])

-- one of that many kernels
abbrev pub ReadsKernel : ℕ → (old new : List (List ℕ)) → Result ℕ Cause → Type 0
ReadsKernel kernels = ReadsPart (kernel kernels ∷ []) (λ k. decimal k ∷ []) (λ k. k < kernels)

-- the other kernel and the message
abbrev pub ReadsCarried : (version kernels : ℕ) → (old new : List (List ℕ)) → Result (ℕ × Message) Cause → Type 0
ReadsCarried version kernels old =
    ReadsPart (kernel kernels ∷ message_form version (drop 1 old)) (λ p. decimal p.0 ∷ message_words p.1)
    (λ p. (p.0 < kernels) × MessageFits version p.1) old

-- the last words fill the places: what they spell is read, and it is in its ranges
pub record ReadsLast {X : Type 0} (places : List Place) (spelling : X → List (List ℕ)) (Fits : X →
    Type 0) (words rest : List (List ℕ)) (result : Result X Cause) : Type 0 where
  pub fault : form_fault places words ≡ told_fault result rest
  pub spelled : IfOk result (λ x. words ≡ spelling x)
  pub fits : IfOk result Fits

-- what follows the names of a reply and of a cut
abbrev pub ReadsReply : ℕ → (words rest : List (List ℕ)) → Result Reply Cause → Type 0
ReadsReply version = ReadsLast (node version ∷ code ∷ []) (λ r. decimal r.vpe ∷ decimal r.code ∷ [])
    (λ r. ReplyFits version (Some r))

abbrev pub ReadsCut : ℕ → (words rest : List (List ℕ)) → Result (KeyName × Option Reply) Cause → Type 0
ReadsCut version words =
    ReadsLast (key version ∷ behind_cut version (drop 1 words)) (λ p. key_word p.0 ∷ reply_words p.1)
    (λ p. CutFits version (Some p.0) × ReplyFits version p.1) words

-- what follows a cut, a grant and an event
abbrev pub ReadsBehindCut : ℕ → (words rest : List (List ℕ)) → Result (Option Reply) Cause → Type 0
ReadsBehindCut version words = ReadsLast (behind_cut version words) reply_words (ReplyFits version) words

abbrev pub ReadsBehindGrant : ℕ → (words rest : List (List ℕ)) → Result (Option KeyName × Option Reply) Cause → Type 0
ReadsBehindGrant version words = ReadsLast (behind_grant version words) (λ p. cut_words p.0 ++ reply_words p.1)
    (λ p. CutFits version p.0 × ReplyFits version p.1) words

abbrev pub ReadsShown : ℕ → (words rest : List (List ℕ)) → Result Shown Cause → Type 0
ReadsShown version words = ReadsLast (behind_event version words) shown_words (ShownFits version) words
