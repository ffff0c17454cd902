-- Facts that follow from others: a world that carries the ones carries the others.
use Rattle.std.proofs.Common.{ℕ, true, false, List, Option, Some, None}
use Rattle.std.specs.List.{All}
use Rattle.std.proofs.lemmas.List.Elements.{All-weaker}
use Rattle.sem_key.specs.declared.object.Object.{Object}
use Rattle.sem_key.specs.KeyName.{KeyName}
use Rattle.sem_key.specs.Capability.{Capability}
use Rattle.sem_msg.specs.declared.message.Message.{Message}
use Rattle.sem_msg.specs.declared.message.Message.TheVariants.{ObtainReq, ObtainOk, ObtainNo, DelegateReq, DelegatePrepared, DelegateNo, Ack, Orphan, RevokeReq}
use Rattle.sem_msg.specs.declared.message.Message.TheVariants.{RevokeDone, Unlink}
use Rattle.sem_msg.specs.declared.state.Ask.{Ask}
use Rattle.sem_msg.specs.declared.state.Ask.TheVariants.{Obtain as ObtainAsk, Delegate as DelegateAsk}
use Rattle.sem_msg.specs.declared.state.Parked.{Parked}
use Rattle.sem_msg.specs.declared.state.Parked.TheVariants.{ObtainWait, ObtainReady, ObtainCancelled, DelegateWait, DelegateReady, RevokeWait, Ready}
use Rattle.sem_msg.specs.declared.state.Pending.{Pending}
use Rattle.sem_msg.specs.Rows.{Endpoint}
use Rattle.sem_machine.specs.Sides.{Side}
use Rattle.sem_machine.specs.Machine.{World}
use Rattle.sem_safety.proofs.Carrying.{InCap, InRow, InEndpoints, BringsAll, InSide, InWorld}
use Rattle.sem_safety.proofs.Layers.{Facts, Brings, BringsFrom, Awaits, AsksFor, InEndpoint}

-- the facts of keys, places and delegations follow, and nothing is asked of links and marks
pub record IsWeaker (F G : Facts) : Type 0 where
  pub key : (k : KeyName) (o : Object) → F.key k o → G.key k o
  pub acked : (k : KeyName) → F.acked k → G.acked k
  pub asked : (v n : ℕ) → F.asked v n → G.asked v n
  pub offered : (k : KeyName) (o : Object) → F.offered k o → G.offered k o
  pub pends : (p : Pending) → F.pends p → G.pends p
  pub prepared : (p k : KeyName) → F.prepared p k → G.prepared p k
  pub link : (p k : KeyName) → G.link p k
  pub doomed : (k : KeyName) → G.doomed k

module _ (F G : Facts) (W : IsWeaker F G) where
  brings-weaker : (m : Message) → Brings F m → Brings G m
  brings-weaker (ObtainReq place target) is = W.asked place.vpe place.number is
  brings-weaker (ObtainOk parent k object) is = W.key k object is
  brings-weaker (ObtainNo place code) is = tt
  brings-weaker (DelegateReq parent object vpe sel) is = W.offered parent object is
  brings-weaker (DelegatePrepared parent k) is = W.prepared parent k is
  brings-weaker (DelegateNo parent code) is = tt
  brings-weaker (Ack k true) is = W.acked k is
  brings-weaker (Ack k false) is = tt
  brings-weaker (Orphan parent k) is = tt
  brings-weaker (RevokeReq k job) is = W.doomed k
  brings-weaker (RevokeDone job) is = tt
  brings-weaker (Unlink parent k) is = tt

  awaits-weaker : (p : Option Parked) → Awaits F p → Awaits G p
  awaits-weaker None is = tt
  awaits-weaker (Some (ObtainWait number sel)) is = tt
  awaits-weaker (Some (ObtainReady k parent object sel)) is = W.key k object is
  awaits-weaker (Some ObtainCancelled) is = tt
  awaits-weaker (Some (DelegateWait parent)) is = tt
  awaits-weaker (Some (DelegateReady parent k)) is = W.prepared parent k is
  awaits-weaker (Some (RevokeWait job)) is = tt
  awaits-weaker (Some (Ready code)) is = tt

  asked-weaker : (a : Ask) → AsksFor F a → AsksFor G a
  asked-weaker (ObtainAsk place target) is = W.asked place.vpe place.number is
  asked-weaker (DelegateAsk parent object sel) is = W.offered parent object is

  bound-weaker : (e : Option Endpoint) → InEndpoint F e → InEndpoint G e
  bound-weaker None is = tt
  bound-weaker (Some e) is = W.key e.key e.object is

  inbox-weaker : (o : Option (ℕ × Message)) → BringsFrom F o → BringsFrom G o
  inbox-weaker None is = tt
  inbox-weaker (Some m) is = brings-weaker m.1 is

  all-brings : (ms : List Message) → BringsAll F ms → BringsAll G ms
  all-brings ms is = All-weaker (Brings F) (Brings G) brings-weaker ms is

  cap-weaker : (c : Capability) → InCap F c → InCap G c
  cap-weaker c is = record {
    key = W.key c.key c.object is.key;
    links = All-weaker (F.link c.key) (G.link c.key) (λ k l. W.link c.key k) c.children is.links;
    mark = λ j marked. W.doomed c.key;
  }

  side-weaker : (s : Side) → InSide F s → InSide G s
  side-weaker s is = record {
    caps = All-weaker (InCap F) (InCap G) cap-weaker s.caps is.caps;
    rows = All-weaker (InRow F) (InRow G) (λ r here. All-weaker (AsksFor F) (AsksFor G) asked-weaker r.asks here) s.vpes is.rows;
    parks = All-weaker (Awaits F) (Awaits G) awaits-weaker s.parks is.parks;
    endpoints = All-weaker (InEndpoints F) (InEndpoints G) (λ es here. All-weaker (InEndpoint F) (InEndpoint G) bound-weaker es here) s.endpoints is.endpoints;
    inbox = inbox-weaker s.inbox is.inbox;
    outs = All-weaker (BringsAll F) (BringsAll G) all-brings s.outs is.outs;
    pendings = All-weaker F.pends G.pends W.pends s.pendings is.pendings;
  }

  pub world-weaker : (V : World) → InWorld F V → InWorld G V
  world-weaker V is = record {
    sides = All-weaker (InSide F) (InSide G) side-weaker V.sides is.sides;
    links = All-weaker (λ (r : List (List Message)). All (BringsAll F) r) (λ (r : List (List Message)). All (BringsAll G) r)
        (λ r here. All-weaker (BringsAll F) (BringsAll G) all-brings r here) V.links is.links;
  }
