-- Which entries a report can tell: the ranges of their fields ("The report" in docs/texts.md).
use Rattle.std.specs.Prelude.{◌≡◌, ℕ, ◌≤◌, ◌<◌, false, Option, IfSome}
use Rattle.sem_msg.specs.Prelude.{Object, Mem, Recv, Send, Serv, Sess, KeyName, IsSelector, IsValidCall, most_vpes}
use Rattle.sem_msg.specs.Calls.{IsWord}
use Rattle.sem_msg.specs.declared.message.Target.{Target}
use Rattle.sem_msg.specs.declared.message.Target.TheVariants.{Sel as SelTarget, Serv as ServTarget}
use Rattle.sem_msg.specs.declared.message.Target.TheVariants.{Offer as OfferTarget}
use Rattle.sem_msg.specs.declared.message.Message.{Message}
use Rattle.sem_msg.specs.declared.message.Message.TheVariants.{ObtainReq, ObtainOk, ObtainNo, DelegateReq}
use Rattle.sem_msg.specs.declared.message.Message.TheVariants.{DelegatePrepared, DelegateNo, Ack, Orphan, RevokeReq}
use Rattle.sem_msg.specs.declared.message.Message.TheVariants.{RevokeDone, Unlink}
use Rattle.sem_msg.specs.declared.event.Act.{Act}
use Rattle.sem_msg.specs.declared.event.Act.TheVariants.{Call as Calls, Fetch, Handle, Upcall, Resume, Flush, Kill}
use Rattle.sem_msg.specs.declared.entry.Detail.{Detail}
use Rattle.sem_msg.specs.declared.entry.Detail.TheVariants.{Called, Carried, Asked, Nothing}
use Rattle.sem_msg.specs.declared.entry.Reply.{Reply}
use Rattle.sem_msg.specs.declared.entry.Entry.{Entry}
use Rattle.sem_trace.specs.Ranges.{IsNode, IsKeyInText, IsPlaceInText}
use Rattle.sem_journal.specs.EntryText.{entry_words}
use Rattle.sem_journal.specs.EntryForms.{has_long_memory}

abbrev pub IsCode : ℕ → Type 0
IsCode code = code ≤ 15

abbrev pub ObjectFits : ℕ → Object → Type 0
ObjectFits version (Mem base len rights) = IsWord base × IsWord len × (rights ≤ 7)
ObjectFits version (Recv slots) = (1 ≤ slots) × (slots ≤ 64)
ObjectFits version (Send gate label credits) = IsKeyInText version gate × IsWord label × (1 ≤ credits)
    × (credits ≤ 64)
ObjectFits version (Serv name) = name ≤ 255
ObjectFits version (Sess service ident) = IsKeyInText version service × IsNode version ident

abbrev pub TargetFits : ℕ → Target → Type 0
TargetFits version (SelTarget vpe sel) = IsNode version vpe × IsSelector sel
TargetFits version (ServTarget service) = IsKeyInText version service
TargetFits version (OfferTarget service index) = IsKeyInText version service × (index ≤ 255)

-- the kinds of keys need not agree with the objects
abbrev pub MessageFits : ℕ → Message → Type 0
MessageFits version (ObtainReq place target) = IsPlaceInText version place × TargetFits version target
MessageFits version (ObtainOk parent key object) = IsKeyInText version parent × IsKeyInText version key
    × ObjectFits version object
MessageFits version (ObtainNo place code) = IsPlaceInText version place × IsCode code
MessageFits version (DelegateReq parent object vpe sel) = IsKeyInText version parent × ObjectFits version object
    × IsNode version vpe × IsSelector sel
MessageFits version (DelegatePrepared parent key) = IsKeyInText version parent × IsKeyInText version key
MessageFits version (DelegateNo parent code) = IsKeyInText version parent × IsCode code
MessageFits version (Ack key accepted) = IsKeyInText version key
MessageFits version (Orphan parent key) = IsKeyInText version parent × IsKeyInText version key
MessageFits version (RevokeReq key job) = IsKeyInText version key × IsWord job
MessageFits version (RevokeDone job) = IsWord job
MessageFits version (Unlink parent key) = IsKeyInText version parent × IsKeyInText version key

-- the act matches its detail, in a text with that many kernels; the kernel of a fetch or a flush is
-- told with its message
abbrev pub EventFits : (version kernels : ℕ) → Act → Detail → Type 0
EventFits version kernels (Calls v) (Called index call) = IsNode version v × IsWord index
    × IsValidCall (most_vpes version) call
EventFits version kernels (Fetch from) (Carried peer message) = (from ≡ peer) × (peer < kernels)
    × MessageFits version message
EventFits version kernels Handle (Carried peer message) = (peer < kernels) × MessageFits version message
EventFits version kernels (Upcall v) (Asked asker answer) = IsNode version v × IsNode version asker
EventFits version kernels (Resume v) Nothing = IsNode version v
EventFits version kernels (Flush to) (Carried peer message) = (to ≡ peer) × (peer < kernels)
    × MessageFits version message
EventFits version kernels (Kill v) Nothing = IsNode version v
EventFits version kernels act detail = ⊥

-- what was granted, cut and replied
abbrev pub ReplyFits : ℕ → Option Reply → Type 0
ReplyFits version reply = IfSome reply (λ r. IsNode version r.vpe × IsCode r.code)

abbrev pub CutFits : ℕ → Option KeyName → Type 0
CutFits version cut = IfSome cut (IsKeyInText version)

abbrev pub GrantFits : ℕ → Option (KeyName × KeyName) → Type 0
GrantFits version grant = IfSome grant (λ g. IsKeyInText version g.0 × IsKeyInText version g.1)

-- an entry that a report of that version with that many kernels can tell
pub record EntryFits (version kernels : ℕ) (e : Entry) : Type 0 where
  pub kernel : e.event.kernel < kernels
  pub event : EventFits version kernels e.event.act e.detail
  pub grant : GrantFits version e.grant
  pub cut : CutFits version e.cut
  pub reply : ReplyFits version e.reply
  pub memory : has_long_memory (entry_words e) ≡ false
