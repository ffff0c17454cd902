-- Sound stores: what always holds of a kernel's side ("Sound stores" in docs/promises.md).
use Rattle.std.specs.Prelude.{◌≡◌, ◌≢◌, ℕ, ◌+◌, ◌<◌, ◌≤◌, ◌==◌, nat_lt, Bool, true, false, ◌&&◌, ◌⊎◌, List, length}
use Rattle.std.specs.Prelude.{map, Contains, AllPairs, Option, Some, None, is_none, sum_by, if◌then◌else◌}
use Rattle.sem_msg.specs.Prelude.{VPES, NUMBERS, Object, Mem, Recv, Send, Serv, Sess, KeyName, PlaceName, Capability}
use Rattle.sem_msg.specs.Prelude.{JobRow, VpeRow, Endpoint, no_vpe, IsSelector, Setup, owner_of, kernel_of, calls_of}
use Rattle.sem_key.specs.KeyName.{IsValidKey}
use Rattle.sem_key.specs.PlaceName.{IsValidPlace}
use Rattle.sem_key.specs.ObjectRanges.{object_kind, IsValidObject}
use Rattle.sem_key.specs.KeyList.{IsRising}
use Rattle.sem_msg.specs.declared.limits.TheConstants.{ASKS}
use Rattle.sem_msg.specs.declared.message.Target.{Target}
use Rattle.sem_msg.specs.declared.message.Target.TheVariants.{Sel as SelTarget, Serv as ServTarget}
use Rattle.sem_msg.specs.declared.message.Target.TheVariants.{Offer as OfferTarget}
use Rattle.sem_msg.specs.declared.message.Message.{Message}
use Rattle.sem_msg.specs.declared.state.Slot.{Slot}
use Rattle.sem_msg.specs.declared.state.Slot.TheVariants.{Free, Held, Promised}
use Rattle.sem_msg.specs.declared.state.Ask.{Ask}
use Rattle.sem_msg.specs.declared.state.Ask.TheVariants.{Obtain as ObtainAsk, Delegate as DelegateAsk}
use Rattle.sem_msg.specs.declared.state.Parked.{Parked}
use Rattle.sem_msg.specs.declared.state.Parked.TheVariants.{ObtainWait, ObtainReady, ObtainCancelled, DelegateWait}
use Rattle.sem_msg.specs.declared.state.Parked.TheVariants.{DelegateReady, RevokeWait, Ready}
use Rattle.sem_msg.specs.declared.state.Pending.{Pending}
use Rattle.sem_msg.specs.declared.state.Up.{Up}
use Rattle.sem_msg.specs.declared.state.Up.TheVariants.{Local, Remote}
use Rattle.sem_msg.specs.Message.{Fits, IsValidTarget, IsJobId, IsDelegable}
use Rattle.sem_msg.specs.Lookups.{is_declared_at}
use Rattle.sem_machine.specs.Calls.{stays_at_home}
use Rattle.sem_machine.specs.Sides.{Side, row, slot, parked, endpoint, outbox}

-- Names: every VPE in a key or place is declared, on its PE.

abbrev pub IsNamed : Setup → KeyName → Type 0
IsNamed T k = IsValidKey k × (is_declared_at T k.pe k.vpe ≡ true)

abbrev pub IsPlaceNamed : Setup → PlaceName → Type 0
IsPlaceNamed T p = IsValidPlace p × (is_declared_at T p.pe p.vpe ≡ true)

-- the key of a local VPE, and of a remote one
abbrev pub IsLocalName : Setup → ℕ → KeyName → Type 0
IsLocalName T i k = IsNamed T k × (owner_of T k ≡ i)

abbrev pub IsRemoteName : Setup → ℕ → KeyName → Type 0
IsRemoteName T i k = IsNamed T k × (owner_of T k ≢ i)

abbrev pub IsObjectNamed : Setup → Object → Type 0
IsObjectNamed T (Mem base len rights) = Unit {0}
IsObjectNamed T (Recv slots) = Unit {0}
IsObjectNamed T (Send gate label credits) = IsNamed T gate
IsObjectNamed T (Serv name) = Unit {0}
IsObjectNamed T (Sess service ident) = IsNamed T service

abbrev pub IsSoundObject : Setup → Object → Type 0
IsSoundObject T o = IsValidObject o × IsObjectNamed T o

abbrev pub IsTargetNamed : Setup → Target → Type 0
IsTargetNamed T (SelTarget vpe sel) = Unit {0}
IsTargetNamed T (ServTarget service) = IsNamed T service
IsTargetNamed T (OfferTarget service index) = IsNamed T service

-- Parked calls, asks and pending delegations.

abbrev pub IsSoundCall : Setup → ℕ → ℕ → Parked → Type 0
IsSoundCall T i v (ObtainWait number sel) = IsSelector sel
IsSoundCall T i v (ObtainReady key parent object sel) =
    (key.vpe ≡ v) × IsLocalName T i key × IsRemoteName T i parent × IsSoundObject T object
    × (key.kind ≡ object_kind object) × IsSelector sel
IsSoundCall T i v ObtainCancelled = Unit {0}
IsSoundCall T i v (DelegateWait parent) = (parent.vpe ≡ v) × IsLocalName T i parent
IsSoundCall T i v (DelegateReady parent key) = (parent.vpe ≡ v) × IsLocalName T i parent × IsRemoteName T i key
IsSoundCall T i v (RevokeWait j) = IsJobId j
IsSoundCall T i v (Ready number) = number ≤ 15

abbrev pub IsSoundAsk : Setup → Ask → Type 0
IsSoundAsk T (ObtainAsk place target) = IsPlaceNamed T place × IsValidTarget target × IsTargetNamed T target
IsSoundAsk T (DelegateAsk parent object sel) =
    IsNamed T parent × IsSoundObject T object × (parent.kind ≡ object_kind object) × IsDelegable parent.kind
    × IsSelector sel

pub record IsSoundPending (T : Setup) (i : ℕ) (p : Pending) : Type 0 where
  pub own : IsLocalName T i p.key
  pub parent : IsRemoteName T i p.parent
  pub object : IsSoundObject T p.object
  -- it is delegable, and has the kind of its parent
  pub kind : p.key.kind ≡ object_kind p.object
  pub parent_kind : p.parent.kind ≡ p.key.kind
  pub delegable : IsDelegable p.key.kind
  pub selector : IsSelector p.sel

-- The job that waits for a job.

abbrev pub IsSoundUp : Setup → ℕ → Option Up → Type 0
IsSoundUp T i None = Unit {0}
IsSoundUp T i (Some (Local j)) = IsJobId j
IsSoundUp T i (Some (Remote kernel j)) = (kernel < T.kernels) × (kernel ≢ i) × IsJobId j

-- Numbers and promises.

abbrev pub bit : Bool → ℕ
bit b = if b then 1 else 0

-- the number and the selector that a parked call keeps
abbrev pub kept : Option Parked → Option (ℕ × ℕ)
kept None = None
kept (Some (ObtainWait number sel)) = Some (number, sel)
kept (Some (ObtainReady key parent object sel)) = Some (key.number, sel)
kept (Some ObtainCancelled) = None
kept (Some (DelegateWait parent)) = None
kept (Some (DelegateReady parent key)) = None
kept (Some (RevokeWait j)) = None
kept (Some (Ready number)) = None

-- 1 if that number, or that selector, is kept
abbrev pub keeps_number : ℕ → Option (ℕ × ℕ) → ℕ
keeps_number n None = 0
keeps_number n (Some k) = bit (k.0 == n)

abbrev pub keeps_selector : ℕ → Option (ℕ × ℕ) → ℕ
keeps_selector sel None = 0
keeps_selector sel (Some k) = bit (k.1 == sel)

-- 1 if something is there
abbrev pub one_if : {X : Type 0} → Option X → ℕ
one_if None = 0
one_if (Some x) = 1

-- 1 if a step has in hand that number or selector of that VPE
abbrev pub in_hand : Option (ℕ × ℕ) → ℕ → ℕ → ℕ
in_hand None v n = 0
in_hand (Some h) v n = bit ((h.0 == v) && (h.1 == n))

-- how often a number of a VPE is in use: by its parked call, by pending delegations, by held
-- capabilities
abbrev pub number_users : Side → ℕ → ℕ → ℕ
number_users s v n =
    keeps_number n (kept (parked s v))
    + (sum_by (λ (p : Pending). bit ((p.key.vpe == v) && (p.key.number == n))) s.pendings
    + sum_by (λ (c : Capability). bit ((c.key.vpe == v) && (c.key.number == n))) s.caps)

-- how often a selector of a VPE was promised: to its parked call, to pending delegations
abbrev pub promise_users : Side → ℕ → ℕ → ℕ
promise_users s v sel =
    keeps_selector sel (kept (parked s v)) + sum_by (λ (p : Pending). bit ((p.key.vpe == v) && (p.sel == sel)))
    s.pendings

-- 1 if a selector is promised
abbrev pub is_promised : Slot → ℕ
is_promised Free = 0
is_promised (Held k) = 0
is_promised Promised = 1

-- Capabilities, VPEs, endpoints and messages, each on its own.

pub record IsSoundCap (T : Setup) (i : ℕ) (c : Capability) : Type 0 where
  pub own : IsLocalName T i c.key
  pub kind : c.key.kind ≡ object_kind c.object
  pub object : IsSoundObject T c.object
  pub selector : IsSelector c.selector
  pub parent : (p : KeyName) → c.parent ≡ Some p → IsNamed T p
  pub children : (k : KeyName) → Contains c.children k → IsNamed T k
  pub children_rise : IsRising c.children

-- nothing is kept of a VPE of another kernel
pub record IsSoundRow (T : Setup) (i v : ℕ) (r : VpeRow) : Type 0 where
  pub others : kernel_of T v ≢ i → r ≡ no_vpe
  pub next_number : r.next_number ≤ NUMBERS
  pub next_call : r.next_call ≤ length (calls_of T v)
  pub asks : (a : Ask) → Contains r.asks a → IsSoundAsk T a
  pub few_asks : length r.asks ≤ ASKS

-- an endpoint of a VPE is bound to a key of the VPE, with memory or a gate
pub record IsSoundEndpoint (T : Setup) (i v : ℕ) (e : Endpoint) : Type 0 where
  pub own : IsLocalName T i e.key
  pub vpe : e.key.vpe ≡ v
  pub kind : e.key.kind ≡ object_kind e.object
  pub object : IsSoundObject T e.object
  pub bindable : stays_at_home e.object ≡ false

-- a message for kernel j, or from it: it fits, and j is another kernel
abbrev pub IsSoundMessage : Setup → ℕ → ℕ → Message → Type 0
IsSoundMessage T i j m = Fits m × (j < T.kernels) × (j ≢ i)

-- The bound on ids: each number of a key, and each call, pays for at most one job.

abbrev pub ids_paid : Side → ℕ
ids_paid s = sum_by (λ (r : VpeRow). r.next_number + r.next_call) s.vpes

-- how many jobs need pay: those that were opened, and those that may yet open
abbrev pub ids_owed : Side → ℕ
ids_owed s =
    s.next_job
    + (sum_by (λ (c : Capability). bit (is_none c.mark)) s.caps
    + (sum_by (λ (x : JobRow). bit x.keep) s.jobs
    + (length s.pendings + sum_by (λ (p : Option Parked). one_if (kept p)) s.parks)))

-- a capability of that key is held, and the job has marked it
abbrev pub IsMarkedRoot : List Capability → KeyName → ℕ → Type 0
IsMarkedRoot caps k j = (c : Capability) × Contains caps c × (c.key ≡ k) × (c.mark ≡ Some j)

-- a job of that id is there
abbrev pub IsOpen : List JobRow → ℕ → Type 0
IsOpen jobs j = (x : JobRow) × Contains jobs x × (x.id ≡ j)

-- A sound side of kernel i. A step may have in hand a number that a VPE has drawn or given up, and
-- a selector that is free for it.
-- It may have brought a job to 0 that is not finished yet (done), be about to close a job (gone),
-- and have counted calls that pay for no job yet (credit).
pub record IsSoundBut (T : Setup) (i : ℕ) (number selector : Option (ℕ × ℕ)) (gone done : Option ℕ) (credit : ℕ)
    (s : Side) : Type 0 where
  -- each on its own
  pub caps : (c : Capability) → Contains s.caps c → IsSoundCap T i c
  pub caps_rise : IsRising (map (λ c. c.key) s.caps)
  pub rows : (v : ℕ) → IsSoundRow T i v (row s v)
  pub calls : (v : ℕ) (p : Parked) → parked s v ≡ Some p → (kernel_of T v ≡ i) × IsSoundCall T i v p
  pub endpoints : (v ep : ℕ) (e : Endpoint) → endpoint s v ep ≡ Some e → IsSoundEndpoint T i v e
  pub pendings : (p : Pending) → Contains s.pendings p → IsSoundPending T i p
  pub ups : (x : JobRow) → Contains s.jobs x → IsSoundUp T i x.up
  pub waiters_rise : (x : JobRow) → Contains s.jobs x → AllPairs (λ v w. v < w) x.waiters
  pub ids_drawn : (x : JobRow) → Contains s.jobs x → x.id < s.next_job
  pub jobs_rise : AllPairs (λ (a b : JobRow). a.id < b.id) s.jobs
  pub outs : (j : ℕ) (m : Message) → Contains (outbox s j) m → IsSoundMessage T i j m
  pub inbox : (from : ℕ) (m : Message) → s.inbox ≡ Some (from, m) → IsSoundMessage T i from m
  -- a place for each VPE and each kernel
  pub places : length s.vpes ≡ VPES
  pub endpoint_places : length s.endpoints ≡ VPES
  pub park_places : length s.parks ≡ VPES
  pub boxes : length s.outs ≡ T.kernels
  -- every drawn number is used at most once, and no other number is used
  pub numbers : (v n : ℕ) → number_users s v n + in_hand number v n ≤ bit (nat_lt n (row s v).next_number)
  -- a selector has at most one promise, and only if promised; of a living VPE no other is promised
  pub promises : (v sel : ℕ) → promise_users s v sel + in_hand selector v sel ≤ is_promised (slot s v sel)
  pub no_other_promise : (v sel : ℕ) → (row s v).alive ≡ true →
      is_promised (slot s v sel) ≤ promise_users s v sel + in_hand selector v sel
  -- selectors and capabilities agree
  pub at_selector : (c : Capability) → Contains s.caps c → slot s c.key.vpe c.selector ≡ Held c.key
  pub held : (v sel : ℕ) (k : KeyName) → slot s v sel ≡ Held k →
      (k.vpe ≡ v) × ((c : Capability) × Contains s.caps c × (c.key ≡ k) × (c.selector ≡ sel))
  -- jobs, the capabilities that they mark, and the calls that wait for them
  pub marker : (c : Capability) (j : ℕ) → Contains s.caps c → c.mark ≡ Some j → IsOpen s.jobs j × (gone ≢ Some j)
  pub roots : (x : JobRow) → Contains s.jobs x → gone ≢ Some x.id → IsMarkedRoot s.caps x.root x.id
  pub waiters : (x : JobRow) (v : ℕ) → Contains s.jobs x → gone ≢ Some x.id → Contains x.waiters v →
      parked s v ≡ Some (RevokeWait x.id)
  pub counted : (x : JobRow) → Contains s.jobs x → gone ≢ Some x.id → (0 < x.count) ⊎ (done ≡ Some x.id)
  pub ids : ids_owed s + (one_if number + credit) ≤ ids_paid s

-- sound, as between any two steps
abbrev pub IsSound : Setup → ℕ → Side → Type 0
IsSound T i s = IsSoundBut T i None None None None 0 s
