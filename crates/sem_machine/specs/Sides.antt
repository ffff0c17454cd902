-- The side of a kernel, how it is read, and its small changes ("State" in docs/machine.md).
-- Each change names the one field of the side that it writes.
use Rattle.std.specs.Prelude.{ℕ, ◌+◌, Bool, false, not, List, [], ◌∷◌, ◌++◌, filter, find, drop, slice_index_or}
use Rattle.std.specs.Prelude.{Option, None, is_some}
use Rattle.std.specs.Option.{option_map_or}
use Rattle.sem_msg.specs.Prelude.{Object, KeyName, key_eq, put, Capability, code_number, JobRow, Endpoint, VpeRow}
use Rattle.sem_key.specs.CapList
use Rattle.sem_key.specs.CapList.{cap_of, fresh, with_cap, not_marked_by}
use Rattle.sem_key.specs.Region.{all_marked}
use Rattle.sem_msg.specs.declared.message.Message.{Message}
use Rattle.sem_msg.specs.declared.code.Code.TheVariants.{Ok as OkCode}
use Rattle.sem_msg.specs.declared.state.Slot.{Slot}
use Rattle.sem_msg.specs.declared.state.Slot.TheVariants.{Free, Held, Promised}
use Rattle.sem_msg.specs.declared.state.Ask.{Ask}
use Rattle.sem_msg.specs.declared.state.Parked.{Parked}
use Rattle.sem_msg.specs.declared.state.Parked.TheVariants.{Ready}
use Rattle.sem_msg.specs.declared.state.Pending.{Pending}
use Rattle.sem_msg.specs.declared.state.Up.{Up}
use Rattle.sem_msg.specs.VpeRows
use Rattle.sem_msg.specs.EndpointRows
use Rattle.sem_msg.specs.ParkedStates
use Rattle.sem_msg.specs.JobRows
use Rattle.sem_msg.specs.JobRows.{job_of}

pub record Side : Type 0 where
  -- the capabilities that the kernel holds, in rising key order
  pub caps : List Capability
  -- what the kernel keeps of each VPE, by number; it keeps nothing of the VPEs of other kernels
  pub vpes : List VpeRow
  -- what each endpoint is bound to, by VPE and by endpoint
  pub endpoints : List (List (Option Endpoint))
  -- the state in which each VPE's call is parked, by VPE
  pub parks : List (Option Parked)
  -- the delegations from other kernels that were accepted and are not acknowledged yet
  pub pendings : List Pending
  -- the open jobs, in the order in which they were opened
  pub jobs : List JobRow
  -- the id of the next job
  pub next_job : ℕ
  -- the message that was fetched and not handled yet, with its sender
  pub inbox : Option (ℕ × Message)
  -- the messages that wait to be sent to each kernel
  pub outs : List (List Message)

-- a kernel that keeps nothing
abbrev pub no_side : Side
no_side = record {
  caps = [];
  vpes = [];
  endpoints = [];
  parks = [];
  pendings = [];
  jobs = [];
  next_job = 0;
  inbox = None;
  outs = [];
}

-- Reading.

-- what is kept of a VPE
abbrev pub row : Side → ℕ → VpeRow
row s v = VpeRows.row s.vpes v

-- whether a VPE of this kernel is alive
abbrev pub is_alive : Side → ℕ → Bool
is_alive s v = VpeRows.is_alive s.vpes v

-- the state in which a call of the VPE is parked
abbrev pub parked : Side → ℕ → Option Parked
parked s v = ParkedStates.state_of s.parks v

-- the held capability of that key
abbrev pub cap : Side → KeyName → Option Capability
cap s k = cap_of s.caps k

-- a selector of a VPE
abbrev pub slot : Side → ℕ → ℕ → Slot
slot s v sel = VpeRows.slot s.vpes v sel

-- the capability in a slot
abbrev pub cap_in : Side → Slot → Option Capability
cap_in s Free = None
cap_in s (Held k) = cap s k
cap_in s Promised = None

-- the capability at a selector of a VPE
abbrev pub own : Side → ℕ → ℕ → Option Capability
own s v sel = cap_in s (slot s v sel)

-- what an endpoint of a VPE is bound to
abbrev pub endpoint : Side → ℕ → ℕ → Option Endpoint
endpoint s v ep = EndpointRows.endpoint s.endpoints v ep

-- the open job of that id
abbrev pub job : Side → ℕ → Option JobRow
job s j = job_of s.jobs j

-- the pending delegation of that key
abbrev pub pending : Side → KeyName → Option Pending
pending s k = find (λ p. key_eq p.key k) s.pendings

-- the messages that wait to be sent to kernel j
abbrev pub outbox : Side → ℕ → List Message
outbox s j = slice_index_or s.outs j []

-- whether a job has marked the capability
abbrev pub is_marked : Option Capability → Bool
is_marked o = option_map_or (λ c. is_some c.mark) o false

-- Changes of what is kept of a VPE.

-- the row of the VPE changed
abbrev pub with_row : ℕ → (VpeRow → VpeRow) → Side → Side
with_row v f s = record s { vpes = VpeRows.with_row v f s.vpes }

-- the VPE made one more call
abbrev pub call_counted : ℕ → Side → Side
call_counted v s = record s { vpes = VpeRows.call_counted v s.vpes }

-- the VPE drew one more number
abbrev pub drawn : ℕ → Side → Side
drawn v s = record s { vpes = VpeRows.drawn v s.vpes }

-- the selector is in that state
abbrev pub with_slot : ℕ → ℕ → Slot → Side → Side
with_slot v sel state s = record s { vpes = VpeRows.with_slot v sel state s.vpes }

-- the selector is promised
abbrev pub promised : ℕ → ℕ → Side → Side
promised v sel s = with_slot v sel Promised s

-- the selector is free
abbrev pub freed : ℕ → ℕ → Side → Side
freed v sel s = with_slot v sel Free s

-- a call of the VPE is parked
abbrev pub parked_as : ℕ → Parked → Side → Side
parked_as v state s = record s { parks = ParkedStates.parked_as s.parks v state }

-- no call of the VPE is parked
abbrev pub unparked : ℕ → Side → Side
unparked v s = record s { parks = ParkedStates.unparked s.parks v }

-- the parked call of the VPE will end with the number of a code
abbrev pub ready : ℕ → ℕ → Side → Side
ready number v s = parked_as v (Ready number) s

-- the parked call of the VPE will succeed
abbrev pub succeeding : ℕ → Side → Side
succeeding v s = ready (code_number OkCode) v s

-- the VPE gets one more ask, unless it has the most that can wait
abbrev pub asked : ℕ → Ask → Side → Side
asked v a s = record s { vpes = VpeRows.asked v a s.vpes }

-- the oldest ask is taken out
abbrev pub ask_taken : ℕ → Side → Side
ask_taken v s = record s { vpes = VpeRows.ask_taken v s.vpes }

-- the VPE is dead, and has no asks any more
abbrev pub buried : ℕ → Side → Side
buried v s = with_row v (λ r. record r { alive = false; asks = [] }) s

-- the endpoint gets that binding
abbrev pub with_endpoint : ℕ → ℕ → Option Endpoint → Side → Side
with_endpoint v ep e s = record s { endpoints = EndpointRows.with_endpoint v ep e s.endpoints }

-- every endpoint bound to one of these keys is unbound
abbrev pub unbind_all : List KeyName → Side → Side
unbind_all ks s = record s { endpoints = EndpointRows.unbind_all ks s.endpoints }

-- Changes of the capabilities.

-- the capability is held
abbrev pub cap_added : Capability → Side → Side
cap_added c s = record s { caps = with_cap s.caps c }

-- the capability of that key changed
abbrev pub cap_changed : KeyName → (Capability → Capability) → Side → Side
cap_changed k f s = record s { caps = CapList.cap_changed k f s.caps }

-- the parent has a link to the child
abbrev pub linked : KeyName → KeyName → Side → Side
linked parent child s = record s { caps = CapList.linked s.caps parent child }

-- the parent has no link to the child
abbrev pub unlinked : KeyName → KeyName → Side → Side
unlinked parent child s = record s { caps = CapList.unlinked s.caps parent child }

-- the job has marked the capabilities of these keys
abbrev pub mark_all : List KeyName → ℕ → Side → Side
mark_all ks j s = record s { caps = all_marked ks j s.caps }

-- all that the job has marked is no longer held
abbrev pub caps_removed : ℕ → Side → Side
caps_removed j s = record s { caps = not_marked_by j s.caps }

-- Installed: the selector holds it, with this parent and object, without child or mark.
abbrev pub installed : KeyName → Option KeyName → ℕ → Object → Side → Side
installed k parent sel object s =
    with_slot k.vpe sel (Held k) (cap_added (fresh k parent sel object) s)

-- Changes of pending delegations, jobs and messages.

-- one more delegation is pending
abbrev pub pending_added : Pending → Side → Side
pending_added p s = record s { pendings = s.pendings ++ p ∷ [] }

-- the delegation of that key is no longer pending
abbrev pub pending_removed : KeyName → Side → Side
pending_removed k s = record s { pendings = filter (λ p. not (key_eq p.key k)) s.pendings }

-- one more job is open
abbrev pub job_opened : KeyName → Option Up → List ℕ → Bool → Side → Side
job_opened root up waiters keep s =
    record s { jobs = JobRows.job_opened s.next_job root up waiters keep s.jobs; next_job = s.next_job + 1 }

-- that job is changed
abbrev pub job_changed : ℕ → (JobRow → JobRow) → Side → Side
job_changed j f s = record s { jobs = JobRows.job_changed j f s.jobs }

-- the job is gone
abbrev pub job_removed : ℕ → Side → Side
job_removed j s = record s { jobs = JobRows.job_removed j s.jobs }

-- the message waits to be sent to kernel j
abbrev pub send : ℕ → Message → Side → Side
send j m s = record s { outs = put [] s.outs j (outbox s j ++ m ∷ []) }

-- the next message for kernel j no longer waits
abbrev pub sent : ℕ → Side → Side
sent j s = record s { outs = put [] s.outs j (drop 1 (outbox s j)) }

-- the inbox has that content
abbrev pub with_inbox : Option (ℕ × Message) → Side → Side
with_inbox message s = record s { inbox = message }
