-- The setup that a seed generates ("The generator" in docs/machine.md).
use Rattle.std.specs.Prelude.{ℕ, ◌+◌, ◌*◌, ◌/◌, ◌%◌, ◌==◌, nat_lt, List, [], ◌∷◌, map, Option, Some, None}
use Rattle.std.specs.Prelude.{if◌then◌else◌}
use Rattle.std.specs.List.{range_with_len}
use Rattle.rand_pcg.specs.Lcg.{Lcg, advance}
use Rattle.rand_pcg.specs.Pcg.{multiplier_64, pcg32}
use Rattle.sem_pick.specs.Seeds.{generator_of}
use Rattle.sem_msg.specs.Prelude.{PES, RIGHTS, Mem, Setup}
use Rattle.sem_msg.specs.declared.call.Call.{Call}
use Rattle.sem_msg.specs.declared.call.Call.TheVariants.{Derive, Obtain, Delegate, Revoke}
use Rattle.sem_msg.specs.declared.setup.Root.{Root}
use Rattle.sem_msg.specs.declared.setup.VpeDecl.{VpeDecl}

-- word m of a generator, counted from 0
unfoldable pub drawn_word : Lcg → ℕ → ℕ
drawn_word g m = (pcg32 (advance 64 multiplier_64 m g)).0

-- the selector, 1 to 15, where a call puts a capability or that it revokes
abbrev pub target_of : ℕ → ℕ
target_of x = 1 + (x / 4) % 15

-- the selector, 0 to 15, of the capability that a call derives, obtains or delegates
abbrev pub source_of : ℕ → ℕ
source_of x = (x / 256) % 16

-- the other VPE of a call, one of that many
abbrev pub peer_of : ℕ → ℕ → ℕ
peer_of vpes x = (x / 65536) % vpes

-- the call of word x, in a setup with that many VPEs
abbrev pub call_of : ℕ → ℕ → Call
call_of vpes x =
    if x % 4 == 0 then Derive (source_of x) (target_of x) 0 (x / 65536) RIGHTS
    else if x % 4 == 1 then Obtain (target_of x) (peer_of vpes x) (source_of x)
    else if x % 4 == 2 then Delegate (source_of x) (peer_of vpes x) (target_of x)
    else Revoke (target_of x)

-- a VPE holds 65536 bytes of memory of its own, with all rights, at selector 0
abbrev pub generated_roots : ℕ → List Root
generated_roots v = record { sel = 0; object = Mem (v * 65536) 65536 RIGHTS } ∷ []

-- the calls of VPE v, if each VPE has that many: one for each word, after the words of the VPEs
-- before it
abbrev pub generated_calls : ℕ → ℕ → ℕ → ℕ → List Call
generated_calls seed vpes calls v =
    map (λ m. call_of vpes (drawn_word (generator_of seed) m)) (range_with_len (v * calls) calls)

-- VPE v runs on PE v
abbrev pub vpe_of : ℕ → ℕ → ℕ → ℕ → VpeDecl
vpe_of seed vpes calls v =
    record { vpe = v; pe = v; roots = generated_roots v; calls = generated_calls seed vpes calls v }

-- PE p belongs to kernel p mod kernels, if a VPE is on it
abbrev pub pe_owner_of : ℕ → ℕ → ℕ → Option ℕ
pe_owner_of kernels vpes p = if nat_lt p vpes then Some (p % kernels) else None

-- the owners of all PEs
unfoldable pub owners_of : ℕ → ℕ → List (Option ℕ)
owners_of kernels vpes = map (pe_owner_of kernels vpes) (range_with_len 0 PES)

-- one kernel for each four VPEs
abbrev pub kernels_for : ℕ → ℕ
kernels_for vpes = (vpes + 3) / 4

-- the first version that has room for that many VPEs
abbrev pub version_for : ℕ → ℕ
version_for vpes = if nat_lt 64 vpes then 2 else 1

-- the setup of that many VPEs with that many calls each
unfoldable pub generated : ℕ → ℕ → ℕ → Setup
generated seed vpes calls = record {
  version = version_for vpes;
  window = 4;
  kernels = kernels_for vpes;
  owners = record { kernels = kernels_for vpes; owners = owners_of (kernels_for vpes) vpes };
  vpes = map (vpe_of seed vpes calls) (range_with_len 0 vpes);
  services = [];
  offers = [];
  denies = [];
  kills = [];
}
