-- A layer: what is so of a side, together with what is so of the keys that the side carries, and that each named change keeps it. The rows of the machine are
-- composed of these changes, so each row keeps every layer.
use Rattle.std.specs.List.{Contains}
use Rattle.sem_key.specs.Region.{has_key}
use Rattle.std.proofs.Common.{◌≡◌, ℕ, Bool, true, false, List, [], Option, Some, None, slice_get}
use Rattle.sem_key.specs.declared.object.Object.{Object}
use Rattle.sem_key.specs.declared.object.Object.TheVariants.{Recv}
use Rattle.sem_key.specs.KeyName.{KeyName}
use Rattle.sem_key.specs.Capability.{Capability}
use Rattle.sem_key.specs.CapList.{restored}
use Rattle.sem_msg.specs.declared.message.Message.{Message}
use Rattle.sem_msg.specs.declared.message.Message.TheVariants.{ObtainReq, ObtainOk, ObtainNo, DelegateReq, DelegatePrepared, DelegateNo, Ack, Orphan, RevokeReq}
use Rattle.sem_msg.specs.declared.message.Message.TheVariants.{RevokeDone, Unlink}
use Rattle.sem_msg.specs.declared.state.Ask.{Ask}
use Rattle.sem_msg.specs.declared.state.Ask.TheVariants.{Obtain as ObtainAsk, Delegate as DelegateAsk}
use Rattle.sem_msg.specs.declared.state.Parked.{Parked}
use Rattle.sem_msg.specs.declared.state.Parked.TheVariants.{ObtainWait, ObtainReady, ObtainCancelled, DelegateWait, DelegateReady, RevokeWait, Ready}
use Rattle.sem_msg.specs.declared.state.Pending.{Pending}
use Rattle.sem_msg.specs.declared.state.Slot.{Slot}
use Rattle.sem_msg.specs.declared.state.Slot.TheVariants.{Free, Held, Promised}
use Rattle.sem_msg.specs.declared.state.Up.{Up}
use Rattle.sem_msg.specs.Rows.{Endpoint, JobRow}
use Rattle.sem_machine.specs.Sides.{Side, own, row, cap, parked, pending, call_counted, drawn, with_slot, parked_as, unparked, asked, ask_taken, buried}
use Rattle.sem_machine.specs.Sides.{with_endpoint, unbind_all, cap_added, linked, unlinked, mark_all, caps_removed, pending_added, pending_removed, job_opened}
use Rattle.sem_machine.specs.Sides.{job_changed, job_removed, send, sent, with_inbox}
use Rattle.sem_machine.specs.Revokes.{waiter_left}
use Rattle.sem_machine.specs.Endpoints.{with_ring}

-- What is so of what a side carries, and of what comes to it.
pub record Facts : Type 1 where
  -- of a key that is in use or comes to be, with its object; and of one whose acknowledgement is on its way
  pub key : KeyName → Object → Type 0
  pub acked : KeyName → Type 0
  -- of a number that a VPE draws, and of one that it has drawn for an ask
  pub place : ℕ → ℕ → Type 0
  pub asked : ℕ → ℕ → Type 0
  -- of a VPE that calls, and of one that ends
  pub calls : ℕ → Type 0
  pub ends : ℕ → Type 0
  -- of the parent that a delegate offers, with its object; and of an object that is handed to another kernel
  pub offered : KeyName → Object → Type 0
  pub handed : Object → Type 0
  -- of a delegation that is pending, and of the parent and the child of one that is prepared
  pub pends : Pending → Type 0
  pub prepared : KeyName → KeyName → Type 0
  -- of a parent that leads to a child, and of keys that a job may mark
  pub link : KeyName → KeyName → Type 0
  pub doomed : KeyName → Type 0
  -- the object of what a step grants
  pub given : Object

-- facts of keys and places, links and marks alone, whatever the objects
abbrev pub facts_of : (KeyName → Type 0) → (ℕ → ℕ → Type 0) → (KeyName → KeyName → Type 0) → (KeyName → Type 0) → Facts
facts_of Q R link doomed = record {
  key = λ k o. Q k;
  acked = Q;
  place = R;
  asked = R;
  calls = λ v. Unit {0};
  ends = λ v. Unit {0};
  offered = λ k o. Unit {0};
  handed = λ o. Unit {0};
  pends = λ p. Unit {0};
  prepared = λ p k. R k.vpe k.number;
  link = link;
  doomed = doomed;
  given = Recv 0;
}

-- facts of keys and places alone
abbrev pub facts : (KeyName → Type 0) → (ℕ → ℕ → Type 0) → Facts
facts Q R = facts_of Q R (λ p k. Unit {0}) (λ k. Unit {0})

-- of what a message brings
abbrev pub Brings : Facts → Message → Type 0
Brings F (ObtainReq place target) = F.asked place.vpe place.number
Brings F (ObtainOk parent key object) = F.key key object
Brings F (ObtainNo place code) = Unit {0}
Brings F (DelegateReq parent object vpe sel) = F.offered parent object
Brings F (DelegatePrepared parent key) = F.prepared parent key
Brings F (DelegateNo parent code) = Unit {0}
Brings F (Ack key true) = F.acked key
Brings F (Ack key false) = Unit {0}
Brings F (Orphan parent key) = Unit {0}
Brings F (RevokeReq key job) = F.doomed key
Brings F (RevokeDone job) = Unit {0}
Brings F (Unlink parent key) = Unit {0}

-- of the message that is there, if one is
abbrev pub BringsIn : Facts → Option Message → Type 0
BringsIn F None = Unit {0}
BringsIn F (Some m) = Brings F m

abbrev pub BringsFrom : Facts → Option (ℕ × Message) → Type 0
BringsFrom F None = Unit {0}
BringsFrom F (Some m) = Brings F m.1

-- of what a parked call will install or grant
abbrev pub Awaits : Facts → Option Parked → Type 0
Awaits F None = Unit {0}
Awaits F (Some (ObtainWait number sel)) = Unit {0}
Awaits F (Some (ObtainReady key parent object sel)) = F.key key object
Awaits F (Some ObtainCancelled) = Unit {0}
Awaits F (Some (DelegateWait parent)) = Unit {0}
Awaits F (Some (DelegateReady parent key)) = F.prepared parent key
Awaits F (Some (RevokeWait job)) = Unit {0}
Awaits F (Some (Ready code)) = Unit {0}

-- of the place that an ask is for, or of what it offers
abbrev pub AsksFor : Facts → Ask → Type 0
AsksFor F (ObtainAsk place target) = F.asked place.vpe place.number
AsksFor F (DelegateAsk parent object sel) = F.offered parent object

-- of the key that an endpoint is bound to, if it is
abbrev pub InEndpoint : Facts → Option Endpoint → Type 0
InEndpoint F None = Unit {0}
InEndpoint F (Some e) = F.key e.key e.object

-- of the key that is granted, if one is
abbrev pub InGrant : Facts → Option (KeyName × KeyName) → Type 0
InGrant F None = Unit {0}
InGrant F (Some g) = F.key g.1 F.given × F.link g.0 g.1

-- of the key that is cut, if one is
abbrev pub InCut : Facts → Option KeyName → Type 0
InCut F None = Unit {0}
InCut F (Some k) = F.doomed k

-- a selector of the VPE holds a key of it, if it holds any
abbrev pub IsOwnSlot : ℕ → Slot → Type 0
IsOwnSlot v Free = Unit {0}
IsOwnSlot v (Held k) = k.vpe ≡ v
IsOwnSlot v Promised = Unit {0}

-- Each named change of a side keeps it.
pub record IsKept (F : Facts) (P : Side → Type 0) : Type 0 where
  -- what is kept of a VPE
  pub keeps_counted : (s : Side) → P s → (v : ℕ) → P (call_counted v s)
  pub keeps_drawn : (s : Side) → P s → (v : ℕ) → P (drawn v s)
  pub keeps_slot : (s : Side) → P s → (v sel : ℕ) (state : Slot) → IsOwnSlot v state → P (with_slot v sel state s)
  pub keeps_parked : (s : Side) → P s → (v : ℕ) (p : Parked) → Awaits F (Some p) → P (parked_as v p s)
  pub keeps_unparked : (s : Side) → P s → (v : ℕ) → P (unparked v s)
  pub keeps_asked : (s : Side) → P s → (v : ℕ) (a : Ask) → AsksFor F a → P (asked v a s)
  pub keeps_taken : (s : Side) → P s → (v : ℕ) → P (ask_taken v s)
  pub keeps_buried : (s : Side) → P s → (v : ℕ) → F.ends v → P (buried v s)
  pub keeps_bound : (s : Side) → P s → (v ep src : ℕ) (c : Capability) → own s v src ≡ Some c → c.mark ≡ None → F.key c.key c.object →
      P (with_endpoint v ep (Some (record { key = c.key; object = c.object; ring = [] })) s)
  pub keeps_rung : (s : Side) → P s → (v ep : ℕ) (f : List ℕ → List ℕ) → P (with_ring v ep f s)
  -- capabilities
  pub keeps_added : (s : Side) → P s → (c : Capability) → F.key c.key c.object → c.children ≡ [] → c.mark ≡ None → P (cap_added c s)
  pub keeps_linked : (s : Side) → P s → (p k : KeyName) → F.link p k → P (linked p k s)
  pub keeps_unlinked : (s : Side) → P s → (p k : KeyName) → P (unlinked p k s)
  pub keeps_marked : (s : Side) → P s → (ks : List KeyName) (j : ℕ) → ((k : KeyName) → has_key ks k ≡ true → F.doomed k) → P (unbind_all ks (mark_all ks j s))
  pub keeps_restored : (s : Side) → P s → (k : KeyName) → P (record s { caps = restored s.caps k })
  pub keeps_removed : (s : Side) → P s → (j : ℕ) → P (caps_removed j s)
  -- pending delegations and jobs
  pub keeps_pending_added : (s : Side) → P s → (p : Pending) → F.pends p → P (pending_added p s)
  pub keeps_pending_removed : (s : Side) → P s → (k : KeyName) → P (pending_removed k s)
  pub keeps_opened : (s : Side) → P s → (root : KeyName) (up : Option Up) (waiters : List ℕ) (keep : Bool) → P (job_opened root up waiters keep s)
  pub keeps_changed : (s : Side) → P s → (j : ℕ) (f : JobRow → JobRow) → ((x : JobRow) → ((f x).id ≡ x.id) × ((f x).root ≡ x.root)) → P (job_changed j f s)
  pub keeps_left : (s : Side) → P s → (j v : ℕ) → P (waiter_left j v s)
  pub keeps_closed : (s : Side) → P s → (j : ℕ) → P (job_removed j s)
  -- messages
  pub keeps_send : (s : Side) → P s → (j : ℕ) (m : Message) → Brings F m → P (send j m s)
  pub keeps_sent : (s : Side) → P s → (j : ℕ) → P (sent j s)
  pub keeps_inbox : (s : Side) → P s → (message : Option (ℕ × Message)) → BringsFrom F message → P (with_inbox message s)
  -- what leads to a child leads to it by right, and with a key its children may be marked
  pub of_link : (s : Side) → P s → (c : Capability) → Contains s.caps c → (k : KeyName) → Contains c.children k → F.link c.key k
  pub spreads : (p k : KeyName) → F.link p k → F.doomed p → F.doomed k
  -- a number that a call draws may be asked for, and what is in use may be offered
  pub asks : (v n : ℕ) → F.calls v → F.place v n → F.asked v n
  pub offers : (k : KeyName) (o : Object) → F.key k o → F.offered k o
  -- a delegation is prepared of what was offered, under a number that was drawn for it; its grant is acknowledged; then it gives what is pending
  pub prepares : (parent k : KeyName) (object : Object) (sel : ℕ) → F.offered parent object → F.place k.vpe k.number → F.handed object →
      F.pends (record { key = k; parent = parent; object = object; sel = sel }) × F.prepared parent k
  pub acks : (parent k : KeyName) → F.prepared parent k → F.offered parent F.given → F.key k F.given → F.acked k
  pub of_pending : (s : Side) → P s → (k : KeyName) (p : Pending) → pending s k ≡ Some p → F.acked k → F.key k p.object

-- And what a side carries has the facts.
pub record IsLayer (F : Facts) (P : Side → Type 0) : Type 0 where
  pub kept : IsKept F P
  -- what is carried
  pub of_cap : (s : Side) → P s → (k : KeyName) (c : Capability) → cap s k ≡ Some c → F.key c.key c.object
  pub of_call : (s : Side) → P s → (v : ℕ) → Awaits F (parked s v)
  pub of_inbox : (s : Side) → P s → BringsFrom F s.inbox
  pub of_ask : (s : Side) → P s → (v : ℕ) (a : Ask) → slice_get (row s v).asks 0 ≡ Some a → AsksFor F a
