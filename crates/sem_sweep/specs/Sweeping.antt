-- What the calls need from the stores.
use Rattle.std.specs.Prelude.{◌≡◌, ℕ, ◌<◌, ◌==◌, Bool, true, false, not, ◌&&◌, List, [], map, Option, Some, None}
use Rattle.std.specs.Prelude.{IfSome, if◌then◌else◌}
use Rattle.sem_machine.specs.Prelude.{KeyName, PlaceName, in_turn, Capability, Dead, Ask, ObtainAsk, DelegateAsk}
use Rattle.sem_machine.specs.Prelude.{Parked, ObtainReady, DelegateReady, Up, Local, Remote, JobRow, VpeRow}
use Rattle.sem_machine.specs.Prelude.{OutboxList, Setup, kernel_of, Side, parked, is_obtain_wait, with_caps}
use Rattle.sem_machine.specs.Prelude.{with_vpes, with_parks, with_outs}
use Rattle.sem_msg.specs.Codes.{code_number}
use Rattle.sem_msg.specs.VpeRows.{freed}
use Rattle.sem_msg.specs.Lookups.{place_owner}
use Rattle.sem_caps.specs.CapStore.{CapStore}
use Rattle.sem_vpe.specs.VpeTable.{VpeTable}
use Rattle.sem_jobs.specs.JobStore.{JobStore}
use Rattle.sem_machine.specs.Sides.{with_row, unparked, caps_removed}
use Rattle.sem_machine.specs.Revokes.{HasOwner, selectors_freed}
use Rattle.sem_machine.specs.Asks.{call_refused}
use Rattle.sem_machine.specs.Ends.{call_ended}
use Rattle.sem_machine.specs.Stores.{with_jobs}

-- the side with these VPEs, jobs, waiting calls and outboxes
abbrev pub ending : VpeTable → JobStore → List (Option Parked) → OutboxList → Side → Side
ending vpes jobs park outs s =
    with_vpes vpes.rows (with_jobs jobs.jobs jobs.next (with_parks park (with_outs outs.boxes s)))

-- the side with these capabilities, VPEs, jobs, waiting calls and outboxes
abbrev pub sweeping : CapStore → VpeTable → JobStore → List (Option Parked) → OutboxList → Side → Side
sweeping caps vpes jobs park outs s = with_caps caps.caps (ending vpes jobs park outs s)

-- a capability that kernel i can sweep: it belongs to a VPE of the kernel, and a kernel owns its
-- parent
pub record CanSweepCap (T : Setup) (i : ℕ) (c : Capability) : Type 0 where
  pub own : kernel_of T c.key.vpe ≡ i
  pub parent : IfSome c.parent (HasOwner T)

-- the job that waits is one of this kernel, or of a kernel of the setup
abbrev pub IsUpOf : Setup → Option Up → Type 0
IsUpOf T None = Unit {0}
IsUpOf T (Some (Local j)) = Unit {0}
IsUpOf T (Some (Remote kernel j)) = kernel < T.kernels

-- whether the job that waits is of another kernel
abbrev pub is_remote : Option Up → Bool
is_remote None = false
is_remote (Some (Local j)) = false
is_remote (Some (Remote kernel j)) = true

-- the most messages that the closing of a job sends, apart from the one that tells the job that
-- waits
abbrev pub parent_messages : Option Up → ℕ
parent_messages None = 1
parent_messages (Some (Local j)) = 1
parent_messages (Some (Remote kernel j)) = 0

-- how many messages tell the job that waits
abbrev pub up_messages : Option Up → ℕ
up_messages None = 0
up_messages (Some (Local j)) = 0
up_messages (Some (Remote kernel j)) = 1

-- all that the job has marked is no longer held, and its selectors are free
abbrev pub marked_removed : ℕ → Side → Side
marked_removed j s = caps_removed j (selectors_freed j s)

-- the selectors named with keys are free
abbrev pub pairs_freed : List (KeyName × ℕ) → List VpeRow → List VpeRow
pairs_freed ps rows = in_turn (λ p rs. freed p.0.vpe p.1 rs) ps rows

-- the kernel of the asker is one of the setup
abbrev pub HasAsker : Setup → Ask → Type 0
HasAsker T (ObtainAsk place target) = place_owner T place < T.kernels
HasAsker T (DelegateAsk parent object sel) = HasOwner T parent

-- the message that a call in that state owes can be sent
abbrev pub CanOwe : Setup → Option Parked → Type 0
CanOwe T (Some (ObtainReady key parent object sel)) = HasOwner T parent
CanOwe T (Some (DelegateReady parent key)) = HasOwner T key
CanOwe T state = Unit {0}

-- the VPE has no asks
abbrev pub unasked : ℕ → Side → Side
unasked v s = with_row v (λ r. record r { asks = [] }) s

-- the call of the VPE is taken out, and what it owes is sent or left
abbrev pub call_taken : Setup → ℕ → Side → Side
call_taken T v s = call_ended T (parked s v) v (unparked v s)

-- if the root of job j is a capability of the VPE, job j no longer keeps it
abbrev pub root_left : ℕ → ℕ → List JobRow → List JobRow
root_left j v xs = map (λ (x : JobRow). record x { keep = x.keep && not ((x.id == j) && (x.root.vpe == v)) }) xs

-- the obtaining call of that place, if it waits, will end with the code of a dead VPE, and its
-- promised selector is free
abbrev pub obtain_ended : PlaceName → Side → Side
obtain_ended place s = if is_obtain_wait place.number (parked s place.vpe)
    then call_refused (code_number Dead) place.vpe s else s
