-- A side with another content of one store. With these, a call that works on some of a kernel's
-- stores is said to do a row of the machine.
use Rattle.std.specs.Prelude.{◌≡◌, ℕ, List, Option, None}
use Rattle.sem_key.specs.CapList.{cap_of}
use Rattle.sem_msg.specs.Prelude.{Kind, Capability, JobRow, Endpoint, VpeRow, Setup}
use Rattle.sem_msg.specs.Lookups.{pe_of}
use Rattle.sem_msg.specs.VpeRows.{row}
use Rattle.sem_msg.specs.declared.message.Message.{Message}
use Rattle.sem_msg.specs.declared.state.Parked.{Parked}
use Rattle.sem_msg.specs.declared.state.Pending.{Pending}
use Rattle.sem_machine.specs.Sides.{Side}

abbrev pub with_caps : List Capability → Side → Side
with_caps caps s = record s { caps = caps }

abbrev pub with_vpes : List VpeRow → Side → Side
with_vpes rows s = record s { vpes = rows }

abbrev pub with_endpoints : List (List (Option Endpoint)) → Side → Side
with_endpoints rows s = record s { endpoints = rows }

abbrev pub with_parks : List (Option Parked) → Side → Side
with_parks states s = record s { parks = states }

abbrev pub with_pendings : List Pending → Side → Side
with_pendings pendings s = record s { pendings = pendings }

abbrev pub with_jobs : List JobRow → ℕ → Side → Side
with_jobs jobs next s = record s { jobs = jobs; next_job = next }

abbrev pub with_outs : List (List Message) → Side → Side
with_outs boxes s = record s { outs = boxes }

-- the side with these capabilities and VPEs
abbrev pub owning : List Capability → List VpeRow → Side → Side
owning caps rows s = with_caps caps (with_vpes rows s)

-- the side with these capabilities, VPEs and waiting calls
abbrev pub installing : List Capability → List VpeRow → List (Option Parked) → Side → Side
installing caps rows states s = with_caps caps (with_vpes rows (with_parks states s))

-- the side with these VPEs, waiting calls and outboxes
abbrev pub with_vpes_parks_outs : List VpeRow → List (Option Parked) → List (List Message) → Side → Side
with_vpes_parks_outs rows states boxes s = with_vpes rows (with_parks states (with_outs boxes s))

-- the side with these capabilities, VPEs, waiting calls and outboxes
abbrev pub with_caps_vpes_parks_outs :
    List Capability → List VpeRow → List (Option Parked) → List (List Message) → Side → Side
with_caps_vpes_parks_outs caps rows states boxes s = with_caps caps (with_vpes_parks_outs rows states boxes s)

-- no capability has the number that the VPE draws next
abbrev pub IsNextFree : Setup → List Capability → List VpeRow → ℕ → Type 0
IsNextFree T caps rows v = (kind : Kind) →
    cap_of caps (record { pe = pe_of T v; vpe = v; kind = kind; number = (row rows v).next_number }) ≡ None
