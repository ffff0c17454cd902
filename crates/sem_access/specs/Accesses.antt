-- What VPEs read and wrote through their endpoints ("What memory holds" in docs/machine.md).
use Rattle.std.specs.Prelude.{ℕ, ◌+◌, Bool, true, false, List, [], ◌∷◌, ◌++◌, Option, None, if◌then◌else◌}
use Rattle.std.specs.Option.{option_map, option_to_list}
use Rattle.sem_machine.specs.Prelude.{Object, Mem, Call, Read, Write, Act, Calls, Detail, Called, Entry, Setup, Side}
use Rattle.sem_machine.specs.Prelude.{endpoint, World, side, start, after}
use Rattle.sem_msg.specs.Rows.{Endpoint}
use Rattle.sem_machine.specs.Journals.{is_success}
use Rattle.sem_access.specs.declared.access.Access.{Access}

-- the first address of a memory
abbrev pub base_of : Object → ℕ
base_of (Mem base len rights) = base
base_of object = 0

-- the access that the entry at a place tells: by a VPE, of that many bytes from an offset on,
-- through an endpoint with that binding
abbrev pub access_through : (entry vpe : ℕ) → Bool → (off len : ℕ) → Endpoint → Access
access_through n v write off len e =
    record {
      entry = n;
      vpe = v;
      key = e.key;
      write = write;
      base = base_of e.object + off;
      len = len;
    }

-- the access of a call of a VPE: a read or a write makes one, if its endpoint is bound
abbrev pub call_access : Side → (entry vpe : ℕ) → Call → Option Access
call_access s n v (Read ep off len) =
    option_map (access_through n v false off len) (endpoint s v ep)
call_access s n v (Write ep off len) =
    option_map (access_through n v true off len) (endpoint s v ep)
call_access s n v call = None

-- the access of an act: that of its call
abbrev pub act_access : Side → ℕ → Act → Detail → Option Access
act_access s n (Calls v) (Called index call) = call_access s n v call
act_access s n act detail = None

-- whether an entry tells that its call succeeded
abbrev pub is_answered_at_once : Entry → Bool
is_answered_at_once e = is_success (option_map (λ r. r.code) e.reply)

-- the access of the entry at place n, in the world before it: a read or a write that succeeded
abbrev pub access_of : World → ℕ → Entry → Option Access
access_of W n e =
    if is_answered_at_once e
    then act_access (side W e.event.kernel) n e.event.act e.detail
    else None

-- the accesses of the entries from place n on, from the world before them
unfoldable pub accesses_from : Setup → World → ℕ → List Entry → List Access
accesses_from T W n [] = []
accesses_from T W n (e ∷ es) =
    option_to_list (access_of W n e) ++ accesses_from T (after T W e.event) (n + 1) es

-- the accesses of a journal, in order
abbrev pub accesses : Setup → List Entry → List Access
accesses T J = accesses_from T (start T) 0 J
