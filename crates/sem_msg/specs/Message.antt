-- Messages: the ranges of their fields ("Messages" in docs/machine.md).
use Rattle.std.specs.Prelude.{◌≡◌, ℕ, ◌<◌, ◌≤◌}
use Rattle.sem_key.specs.declared.key.Kind.{Kind}
use Rattle.sem_key.specs.declared.key.Kind.TheVariants.{Mem as MemKind, Recv as RecvKind, Send as SendKind}
use Rattle.sem_key.specs.declared.key.Kind.TheVariants.{Serv as ServKind, Sess as SessKind}
use Rattle.sem_key.specs.declared.limits.TheConstants.{VPES}
use Rattle.sem_key.specs.Prelude.{KeyName}
use Rattle.sem_key.specs.KeyName.{IsValidKey}
use Rattle.sem_key.specs.PlaceName.{IsValidPlace}
use Rattle.sem_key.specs.ObjectRanges.{object_kind, IsValidObject}
use Rattle.sem_msg.specs.declared.message.Target.{Target}
use Rattle.sem_msg.specs.declared.message.Target.TheVariants.{Sel as SelTarget, Serv as ServTarget}
use Rattle.sem_msg.specs.declared.message.Target.TheVariants.{Offer as OfferTarget}
use Rattle.sem_msg.specs.declared.message.Message.{Message}
use Rattle.sem_msg.specs.declared.message.Message.TheVariants.{ObtainReq, ObtainOk, ObtainNo, DelegateReq}
use Rattle.sem_msg.specs.declared.message.Message.TheVariants.{DelegatePrepared, DelegateNo, Ack, Orphan, RevokeReq}
use Rattle.sem_msg.specs.declared.message.Message.TheVariants.{RevokeDone, Unlink}
use Rattle.sem_msg.specs.Calls.{IsSelector}

-- the VPE of a target: the named one, or that of the service
abbrev pub target_vpe : Target → ℕ
target_vpe (SelTarget vpe sel) = vpe
target_vpe (ServTarget service) = service.vpe
target_vpe (OfferTarget service index) = service.vpe

abbrev pub IsServiceKey : KeyName → Type 0
IsServiceKey k = IsValidKey k × (k.kind ≡ ServKind)

abbrev pub IsValidTarget : Target → Type 0
IsValidTarget (SelTarget vpe sel) = (vpe < VPES) × IsSelector sel
IsValidTarget (ServTarget service) = IsServiceKey service
IsValidTarget (OfferTarget service index) = IsServiceKey service × (index ≤ 255)

-- a refusal has another code than success
abbrev pub IsRefusal : ℕ → Type 0
IsRefusal code = (1 ≤ code) × (code ≤ 15)

abbrev pub IsJobId : ℕ → Type 0
IsJobId job = job ≤ 4294967295

-- a VPE may delegate memory and gates
abbrev pub IsDelegable : Kind → Type 0
IsDelegable MemKind = Unit {0}
IsDelegable RecvKind = Unit {0}
IsDelegable SendKind = Unit {0}
IsDelegable ServKind = ⊥
IsDelegable SessKind = ⊥

-- the fields are in their ranges, and the kinds of keys agree with the objects
abbrev pub Fits : Message → Type 0
Fits (ObtainReq place target) = IsValidPlace place × IsValidTarget target
Fits (ObtainOk parent key object) = IsValidKey parent × IsValidKey key × IsValidObject object
    × (key.kind ≡ object_kind object)
Fits (ObtainNo place code) = IsValidPlace place × IsRefusal code
Fits (DelegateReq parent object vpe sel) =
    IsValidKey parent × IsValidObject object × (parent.kind ≡ object_kind object) × IsDelegable parent.kind
    × (vpe < VPES) × IsSelector sel
Fits (DelegatePrepared parent key) = IsValidKey parent × IsValidKey key
Fits (DelegateNo parent code) = IsValidKey parent × IsRefusal code
Fits (Ack key yes') = IsValidKey key
Fits (Orphan parent key) = IsValidKey parent × IsValidKey key
Fits (RevokeReq key job) = IsValidKey key × IsJobId job
Fits (RevokeDone job) = IsJobId job
Fits (Unlink parent key) = IsValidKey parent × IsValidKey key
