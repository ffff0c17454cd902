-- Short words for traces and journals, so that a play reads like its text.
use Rattle.std.specs.Prelude.{ℕ, List, ◌++◌, length, replicate, Option, Some, None, ◌-◌}
use Rattle.sem_machine.specs.Prelude.{Kind, Object, KeyName, PlaceName, Call, Act, Detail, Reply, Entry, Root}
use Rattle.sem_machine.specs.Prelude.{VpeDecl}
use Rattle.sem_key.specs.MembershipTable.{MembershipTable}
use Rattle.sem_msg.specs.declared.setup.Service.{Service}
use Rattle.sem_msg.specs.declared.setup.Offer.{Offer}

abbrev pub key : ℕ → ℕ → Kind → ℕ → KeyName
key pe vpe kind number = record { pe = pe; vpe = vpe; kind = kind; number = number }

abbrev pub place : ℕ → ℕ → ℕ → PlaceName
place pe vpe number = record { pe = pe; vpe = vpe; number = number }

abbrev pub grant : KeyName → KeyName → Option (KeyName × KeyName)
grant parent child = Some (parent, child)

abbrev pub reply : ℕ → ℕ → Option Reply
reply vpe code = Some (record { vpe = vpe; code = code })

abbrev pub entry : ℕ → Act → Detail → Option (KeyName × KeyName) → Option KeyName → Option Reply → Entry
entry kernel act detail granted cut replied =
    record {
      event = record { kernel = kernel; act = act };
      detail = detail;
      grant = granted;
      cut = cut;
      reply = replied;
    }

-- the owners of the first PEs; the others have none
abbrev pub owners : ℕ → List (Option ℕ) → MembershipTable
owners kernels first = record { kernels = kernels; owners = first ++ replicate (128 - length first) None }

abbrev pub root : ℕ → Object → Root
root sel object = record { sel = sel; object = object }

abbrev pub vpe : ℕ → ℕ → List Root → List Call → VpeDecl
vpe number pe roots calls = record { vpe = number; pe = pe; roots = roots; calls = calls }

abbrev pub service : ℕ → KeyName → Service
service name k = record { name = name; key = k }

abbrev pub offer : ℕ → ℕ → ℕ → Offer
offer name index sel = record { name = name; index = index; sel = sel }
