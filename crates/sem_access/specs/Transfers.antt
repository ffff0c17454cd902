-- The reads and writes that entries tell, and the access of each, by the binding of its endpoint.
use Rattle.std.specs.Prelude.{ℕ, ◌+◌, Bool, true, false, nat_lt, Option, Some, None, if◌then◌else◌}
use Rattle.std.specs.Option.{option_map}
use Rattle.sem_machine.specs.Prelude.{KeyName, Object, Call, Read, Write, Act, Calls, Detail, Called, Entry}
use Rattle.sem_machine.specs.Prelude.{kernel_of, Setup, endpoint, World, side}
use Rattle.sem_msg.specs.declared.limits.TheConstants.{ENDPOINTS}
use Rattle.sem_access.specs.declared.access.Access.{Access}
use Rattle.sem_access.specs.declared.transfer.Transfer.{Transfer}
use Rattle.sem_access.specs.Accesses.{base_of, is_answered_at_once}

-- the transfer of a VPE through an endpoint, if there is such an endpoint
abbrev pub transfer_through : (vpe ep : ℕ) → Bool → (off len : ℕ) → Option Transfer
transfer_through v ep write off len =
    if nat_lt ep ENDPOINTS
    then Some (record { vpe = v; ep = ep; write = write; off = off; len = len })
    else None

-- what a call of a VPE reads or writes
abbrev pub call_transfer : ℕ → Call → Option Transfer
call_transfer v (Read ep off len) = transfer_through v ep false off len
call_transfer v (Write ep off len) = transfer_through v ep true off len
call_transfer v call = None

-- what an act reads or writes: what its call reads or writes
abbrev pub act_transfer : Act → Detail → Option Transfer
act_transfer (Calls v) (Called index call) = call_transfer v call
act_transfer act detail = None

-- what an entry with a call that succeeded reads or writes
abbrev pub transfer_of : Entry → Option Transfer
transfer_of e = if is_answered_at_once e then act_transfer e.event.act e.detail else None

-- the access of a transfer, if its endpoint is bound to a key whose capability had that object
abbrev pub transferred : ℕ → Transfer → KeyName → Object → Access
transferred n t key object =
    record {
      entry = n;
      vpe = t.vpe;
      key = key;
      write = t.write;
      base = base_of object + t.off;
      len = t.len;
    }

-- the access of a transfer by the endpoint of its VPE in a world, if there is a transfer and the
-- endpoint is bound
abbrev pub access_by : Setup → World → ℕ → Option Transfer → Option Access
access_by T W n None = None
access_by T W n (Some t) =
    option_map (λ e. transferred n t e.key e.object)
    (endpoint (side W (kernel_of T t.vpe)) t.vpe t.ep)
