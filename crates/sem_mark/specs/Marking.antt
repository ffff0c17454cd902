-- What the calls need from the stores.
use Rattle.std.specs.Prelude.{◌≡◌, ℕ, ◌+◌, ◌<◌, ◌≤◌, Bool, List, [], ◌∷◌, length, All, vec_capacity}
use Rattle.std.specs.Prelude.{Option, None, Some, IfSome, IsSome, IsSomeAnd}
use Rattle.sem_machine.specs.Prelude.{Capability, Parked, Setup, kernel_of, OutboxList, Side, with_caps}
use Rattle.sem_machine.specs.Prelude.{with_vpes, with_parks, with_outs}
use Rattle.sem_msg.specs.declared.state.Parked.TheVariants.{RevokeWait}
use Rattle.sem_msg.specs.JobRows.{job_of}
use Rattle.sem_key.specs.CapList.{link_count}
use Rattle.sem_msg.specs.Outboxes.{HasBoxes}
use Rattle.sem_caps.specs.CapStore.{CapStore}
use Rattle.sem_vpe.specs.VpeTable.{VpeTable, AreOurs}
use Rattle.sem_dtu.specs.EndpointTable.{EndpointTable}
use Rattle.sem_jobs.specs.JobStore.{JobStore}
use Rattle.sem_jobs.specs.declared.scratch.Scratch.{Scratch}
use Rattle.sem_machine.specs.Sides.{parked_as}
use Rattle.sem_machine.specs.Stores.{with_endpoints, with_jobs}
use Rattle.sem_machine.specs.Revokes.{HasOwner, opened}

-- the side with these capabilities, endpoints, jobs and outboxes
abbrev pub beginning : CapStore → EndpointTable → JobStore → OutboxList → Side → Side
beginning caps dtus jobs outs s =
    with_caps caps.caps (with_endpoints dtus.rows (with_jobs jobs.jobs jobs.next (with_outs outs.boxes s)))

-- the side with these capabilities, VPEs, endpoints, jobs, waiting calls and outboxes
abbrev pub revoking : CapStore → VpeTable → EndpointTable → JobStore → List (Option Parked) → OutboxList → Side → Side
revoking caps vpes dtus jobs park outs s =
    with_caps caps.caps
    (with_vpes vpes.rows
    (with_endpoints dtus.rows (with_jobs jobs.jobs jobs.next (with_parks park (with_outs outs.boxes s)))))

-- every child of the capability has an owner
abbrev pub LeadsHome : Setup → Capability → Type 0
LeadsHome T c = All (HasOwner T) c.children

-- the working space has room for the keys of all capabilities, and for all child links
pub record HasSpace (caps : CapStore) (scratch : Scratch) : Type 0 where
  pub keys : length caps.caps ≤ vec_capacity scratch.keys
  pub links : link_count caps.caps ≤ vec_capacity scratch.links

-- A call of VPE v that begins a job: the VPE is one of kernel i, and a job, its id, its messages and
-- its working space have room.
pub record CanBegin (T : Setup) (i v : ℕ) (caps : CapStore) (vpes : VpeTable) (jobs : JobStore) (outs : OutboxList)
    (scratch : Scratch) : Type 0 where
  pub home : AreOurs T i vpes
  pub vpe : kernel_of T v ≡ i
  pub job : 0 < jobs.spare
  pub ids : jobs.next < 4294967295
  pub boxes : HasBoxes T outs
  pub owners : All (LeadsHome T) caps.caps
  pub spare : link_count caps.caps ≤ outs.spare
  pub space : HasSpace caps scratch

-- What such a call does where it names a job, the one that is to finish now: it opens the next one, for
-- the root, which no job has marked, and VPE v waits for it.
pub record HasBegun (T : Setup) (i v : ℕ) (keep : Bool) (root : Option Capability) (jobs jobs_after : JobStore)
    (before after : Side → Side) (job : Option ℕ) : Type 0 where
  pub opened : IsSome job → (c : Capability) → root ≡ Some c → (s : Side) →
      after s ≡ opened T i c.key None (v ∷ []) keep (parked_as v (RevokeWait jobs.next) (before s))
  pub unmarked : IsSome job → IsSomeAnd root (λ c. c.mark ≡ None)
  pub there : IfSome job (λ j. IsSome (job_of jobs_after.jobs j))
  pub next : IfSome job (λ j. j ≡ jobs.next)

-- what such a call leaves of the room: it takes at most a job and a message for each child link
pub record HasRoomLeft (T : Setup) (caps : CapStore) (jobs : JobStore) (outs : OutboxList) (scratch : Scratch)
    (caps_after : CapStore) (jobs_after : JobStore) (outs_after : OutboxList) (scratch_after : Scratch) : Type 0 where
  pub boxes : HasBoxes T outs_after
  pub spare : outs.spare ≤ outs_after.spare + link_count caps.caps
  pub job_spare : jobs.spare ≤ jobs_after.spare + 1
  pub caps_spare : caps_after.spare ≡ caps.spare
  pub space : HasSpace caps_after scratch_after
  pub gone : vec_capacity scratch_after.gone ≡ vec_capacity scratch.gone
