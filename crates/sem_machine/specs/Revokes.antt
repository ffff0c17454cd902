-- Revocation: the region of a job, how a job begins, and how it finishes ("Revocation" in
-- docs/machine.md).
use Rattle.std.specs.Prelude.{ℕ, ◌<◌, zero, suc, ◌==◌, Bool, true, false, List, [], ◌∷◌, length, Option, Some, None}
use Rattle.std.specs.Prelude.{if◌then◌else◌}
use Rattle.std.specs.Option.{option_and_then}
use Rattle.sem_msg.specs.Prelude.{KeyName, in_turn, Capability, JobRow, VpeRow, Setup, code_number, owner_of}
use Rattle.sem_key.specs.CapList.{marked_by, restored}
use Rattle.sem_key.specs.Region.{region, children_of}
use Rattle.sem_msg.specs.declared.message.Message.TheVariants.{RevokeReq, RevokeDone, Unlink}
use Rattle.sem_msg.specs.declared.state.Parked.{Parked}
use Rattle.sem_msg.specs.declared.state.Parked.TheVariants.{ObtainReady, ObtainCancelled, RevokeWait, Ready}
use Rattle.sem_msg.specs.declared.state.Up.{Up}
use Rattle.sem_msg.specs.declared.state.Up.TheVariants.{Local, Remote}
use Rattle.sem_msg.specs.JobRows
use Rattle.sem_msg.specs.JobRows.{if_done, next_done}
use Rattle.sem_msg.specs.VpeRows
use Rattle.sem_msg.specs.ParkedStates
use Rattle.sem_msg.specs.ParkedStates.{is_ready_with}
use Rattle.sem_msg.specs.Lookups.{is_local}
use Rattle.sem_msg.specs.declared.code.Code.TheVariants.{Ok as OkCode}
use Rattle.sem_machine.specs.Sides.{Side, cap, job, parked, freed, parked_as, unlinked, mark_all, unbind_all}
use Rattle.sem_machine.specs.Sides.{caps_removed, job_opened, job_removed, send}

-- one more token is out for the job
abbrev pub count_raised : ℕ → Side → Side
count_raised j s = record s { jobs = JobRows.count_raised j s.jobs }

-- a kernel of the setup owns the key
abbrev pub HasOwner : Setup → KeyName → Type 0
HasOwner T k = owner_of T k < T.kernels

-- one token came back to the job
abbrev pub count_lowered : ℕ → Side → Side
count_lowered j s = record s { jobs = JobRows.count_lowered j s.jobs }

-- another job waits for the job, which no longer keeps its root
abbrev pub with_up : Up → ℕ → Side → Side
with_up up j s = record s { jobs = JobRows.with_up up j s.jobs }

-- the job that marks the capability, unless it is j
abbrev pub other_marker : ℕ → Option Capability → Option ℕ
other_marker j o = option_and_then (λ m. if m == j then None else Some m) (option_and_then (λ c. c.mark) o)

-- job j waits for the other job that has marked a local child
abbrev pub adopted : ℕ → Option ℕ → Side → Side
adopted j None s = s
adopted j (Some m) s = count_raised j (with_up (Local j) m s)

-- a remote child gets a request; a local child that another job has marked makes job j wait for
-- that job
abbrev pub request_or_adopt : Setup → ℕ → ℕ → KeyName → Side → Side
request_or_adopt T i j k s =
    if is_local T i k then adopted j (other_marker j (cap s k)) s
    else count_raised j (send (owner_of T k) (RevokeReq k j) s)

-- the selectors of these capabilities are free
abbrev pub all_freed : List Capability → List VpeRow → List VpeRow
all_freed cs rows = in_turn (λ c rs. VpeRows.freed c.key.vpe c.selector rs) cs rows

-- a root that is kept loses its mark and all its child links
abbrev pub spared : Bool → KeyName → List Capability → List Capability
spared keep root caps = if keep then restored caps root else caps

abbrev pub root_spared : JobRow → Side → Side
root_spared x s = record s { caps = spared x.keep x.root s.caps }

-- the selectors of all that the job has marked are free
abbrev pub selectors_freed : ℕ → Side → Side
selectors_freed j s = record s { vpes = all_freed (marked_by j s.caps) s.vpes }

-- all that the job has marked is swept: removed, and its selectors are free; a root that it keeps
-- is spared first
abbrev pub swept : JobRow → Side → Side
swept x s = caps_removed x.id (selectors_freed x.id (root_spared x s))

-- the waiting calls of the VPEs will succeed
abbrev pub all_woken : List ℕ → List (Option Parked) → List (Option Parked)
all_woken vs parks = in_turn (λ v ps. ParkedStates.parked_as ps v (Ready (code_number OkCode))) vs parks

abbrev pub woken : List ℕ → Side → Side
woken vs s = record s { parks = all_woken vs s.parks }

-- the parent of a finished job's root loses its link to it. The kernel of a remote parent is told,
-- unless a job there waits
abbrev pub parent_left : Setup → ℕ → JobRow → Option KeyName → Side → Side
parent_left T i x None s = s
parent_left T i x (Some p) s = if is_local T i p then unlinked p x.root s else parent_told T x p x.up s
  where
    parent_told : Setup → JobRow → KeyName → Option Up → Side → Side
    parent_told T x p (Some (Remote kernel j)) s = s
    parent_told T x p up s = send (owner_of T p) (Unlink p x.root) s

-- the job that waits for a finished one is told: here it gets a token back, elsewhere a message
abbrev pub up_told : Option Up → Side → Side
up_told None s = s
up_told (Some (Local j)) s = count_lowered j s
up_told (Some (Remote kernel j)) s = send kernel (RevokeDone j) s

-- the parent that loses the root of a finished job: none, if the job keeps its root
abbrev pub left_parent : Side → JobRow → Option KeyName
left_parent s x = if x.keep then None else option_and_then (λ c. c.parent) (cap s x.root)

-- all that a job marked is swept, the calls that wait for it go on, and the parent of a root that
-- is gone loses its link to it
unfoldable pub closed_here : Setup → ℕ → JobRow → Side → Side
closed_here T i x s = parent_left T i x (left_parent s x) (woken x.waiters (swept x s))

-- a job is closed: it is taken out, and the job that waits for it is told
abbrev pub closed : Setup → ℕ → JobRow → Side → Side
closed T i x s = up_told x.up (closed_here T i x (job_removed x.id s))

-- a job finishes, and then every job that this finishes, one after another; n bounds how many
unfoldable pub finish : Setup → ℕ → ℕ → Option JobRow → Side → Side
finish T i zero o s = s
finish T i (suc n) None s = s
finish T i (suc n) (Some x) s = let s2 = closed T i x s in finish T i n (next_done x.up s2.jobs) s2

-- the job finishes if no token is out for it
abbrev pub settled : Setup → ℕ → ℕ → Side → Side
settled T i j s = finish T i (length s.jobs) (if_done (job s j)) s

-- the job of that id, if one is named, finishes
abbrev pub finished : Setup → ℕ → Option ℕ → Side → Side
finished T i o s = finish T i (length s.jobs) (option_and_then (job s) o) s

-- a job is opened: its region is marked and unbound, and requests go out for the children elsewhere
unfoldable pub opened : Setup → ℕ → KeyName → Option Up → List ℕ → Bool → Side → Side
opened T i root up waiters keep s =
    let j : ℕ = s.next_job in
    let ks : List KeyName = region s.caps root in
    let children : List KeyName = children_of s.caps ks in
    let marked : Side = unbind_all ks (mark_all ks j (job_opened root up waiters keep s)) in
    in_turn (request_or_adopt T i j) children marked

-- a job begins: it is opened, and finishes if no token is out for it
abbrev pub begin : Setup → ℕ → KeyName → Option Up → List ℕ → Bool → Side → Side
begin T i root up waiters keep s = settled T i s.next_job (opened T i root up waiters keep s)

-- the VPE waits for the job
abbrev pub waiter_added : ℕ → ℕ → Side → Side
waiter_added j v s = record s { jobs = JobRows.waiter_added j v s.jobs }

-- the VPE, which waited for job j, waits for no job, and no job keeps a root for it
abbrev pub waiter_left : ℕ → ℕ → Side → Side
waiter_left j v s = record s { jobs = JobRows.waiter_left j v s.jobs }

-- a VPE revokes the capability of that key, and waits
abbrev pub revoke_begun : Setup → ℕ → ℕ → KeyName → Option ℕ → Side → Side
revoke_begun T i v k None s = begin T i k None (v ∷ []) false (parked_as v (RevokeWait s.next_job) s)
revoke_begun T i v k (Some j) s = waiter_added j v (parked_as v (RevokeWait j) s)

-- a VPE clears the capability of that key: it revokes everything made from it, keeps it, and waits
abbrev pub clear_begun : Setup → ℕ → ℕ → KeyName → Side → Side
clear_begun T i v k s = begin T i k None (v ∷ []) true (parked_as v (RevokeWait s.next_job) s)

-- the selector promised to such a call is free
abbrev pub ready_freed : Option Parked → ℕ → Side → Side
ready_freed (Some (ObtainReady key parent object sel)) v s = freed v sel s
ready_freed p v s = s

-- the call that was about to install the key no longer will
abbrev pub obtain_cancelled : KeyName → Side → Side
obtain_cancelled k s = if is_ready_with k (parked s k.vpe)
    then parked_as k.vpe ObtainCancelled (ready_freed (parked s k.vpe) k.vpe s) else s

-- a request of kernel `from` for its job j, while the key is held: a job begins, or the job that
-- has marked it makes j wait
abbrev pub request_begun : Setup → ℕ → ℕ → ℕ → KeyName → Option ℕ → Side → Side
request_begun T i from j k None s = begin T i k (Some (Remote from j)) [] false s
request_begun T i from j k (Some m) s = with_up (Remote from j) m s

-- a request to revoke the key, by the capability held under it
abbrev pub revoke_requested : Setup → ℕ → ℕ → ℕ → KeyName → Option Capability → Side → Side
revoke_requested T i from j k (Some c) s = request_begun T i from j k c.mark s
revoke_requested T i from j k None s = send from (RevokeDone j) (obtain_cancelled k s)

-- a token came back to the job, if it is there; at 0 the job finishes
abbrev pub revoke_done : Setup → ℕ → ℕ → Side → Side
revoke_done T i j s = settled_if T i j (job s j) s
  where
    settled_if : Setup → ℕ → ℕ → Option JobRow → Side → Side
    settled_if T i j None s = s
    settled_if T i j (Some x) s = settled T i j (count_lowered j s)
