-- What a setup says of VPEs, owners, services and denies ("Setup" and "Owners" in docs/machine.md).
use Rattle.std.specs.Prelude.{◌≡◌, ℕ, ◌<◌, ◌==◌, nat_lt, Bool, true, false, not, ◌&&◌, List, [], filter, find}
use Rattle.std.specs.Prelude.{Option, Some, None, is_some, unwrap_or, if◌then◌else◌}
use Rattle.std.specs.List.{list_any}
use Rattle.std.specs.Option.{option_map, option_map_or, option_and_then}
use Rattle.sem_key.specs.Prelude.{KeyName, key_eq}
use Rattle.sem_key.specs.PlaceName.{PlaceName}
use Rattle.sem_key.specs.MembershipTable.{owner_at}
use Rattle.sem_key.specs.declared.limits.TheConstants.{PES, VPES}
use Rattle.sem_key.specs.declared.object.Object.{Object}
use Rattle.sem_key.specs.declared.object.Object.TheVariants.{Mem, Recv, Send, Serv, Sess}
use Rattle.sem_msg.specs.declared.call.Call.{Call}
use Rattle.sem_msg.specs.declared.message.Target.{Target}
use Rattle.sem_msg.specs.declared.message.Target.TheVariants.{Sel as SelTarget, Serv as ServTarget}
use Rattle.sem_msg.specs.declared.message.Target.TheVariants.{Offer as OfferTarget}
use Rattle.sem_msg.specs.declared.setup.VpeDecl.{VpeDecl}
use Rattle.sem_msg.specs.declared.setup.Service.{Service}
use Rattle.sem_msg.specs.Setup.{Setup}

-- the declaration of a VPE
abbrev pub decl : Setup → ℕ → Option VpeDecl
decl T v = find (λ d. d.vpe == v) T.vpes

-- the PE of a VPE; 128, which is no PE, if the VPE is not declared
abbrev pub pe_of : Setup → ℕ → ℕ
pe_of T v = option_map_or (λ d. d.pe) (decl T v) PES

-- the PE and the VPE are in their ranges
pub record HasValidPlace (T : Setup) (v : ℕ) : Type 0 where
  pub pe : pe_of T v < PES
  pub vpe : v < VPES

-- the calls of a VPE
abbrev pub calls_of : Setup → ℕ → List Call
calls_of T v = option_map_or (λ d. d.calls) (decl T v) []

abbrev pub is_declared : Setup → ℕ → Bool
is_declared T v = list_any (λ d. d.vpe == v) T.vpes

-- whether a VPE is declared on that PE
abbrev pub is_declared_at : Setup → ℕ → ℕ → Bool
is_declared_at T pe v = option_map_or (λ d. d.pe == pe) (decl T v) false

-- whether the VPE of a key is declared on the key's PE
abbrev pub is_key_declared : Setup → KeyName → Bool
is_key_declared T k = is_declared_at T k.pe k.vpe

-- whether the VPE of a place is declared on the place's PE
abbrev pub is_place_declared : Setup → PlaceName → Bool
is_place_declared T p = is_declared_at T p.pe p.vpe

-- whether the service that a target names is declared
abbrev pub is_target_declared : Setup → Target → Bool
is_target_declared T (SelTarget vpe sel) = true
is_target_declared T (ServTarget service) = is_key_declared T service
is_target_declared T (OfferTarget service index) = is_key_declared T service

-- whether the gate or the service that an object names is declared
abbrev pub is_object_declared : Setup → Object → Bool
is_object_declared T (Mem base len rights) = true
is_object_declared T (Recv slots) = true
is_object_declared T (Send gate label credits) = is_key_declared T gate
is_object_declared T (Serv name) = true
is_object_declared T (Sess service ident) = is_key_declared T service

-- the kernel that owns a PE; if none does, the number of kernels, which is no kernel
abbrev pub pe_owner : Setup → ℕ → ℕ
pe_owner T pe = unwrap_or (owner_at T.owners pe) T.kernels

-- the kernel that owns a key
abbrev pub owner_of : Setup → KeyName → ℕ
owner_of T k = pe_owner T k.pe

-- the kernel that owns a place
abbrev pub place_owner : Setup → PlaceName → ℕ
place_owner T p = pe_owner T p.pe

-- the kernel of a VPE; if it is not declared, the number of kernels, which is no kernel
abbrev pub kernel_of : Setup → ℕ → ℕ
kernel_of T v = option_map_or (λ d. pe_owner T d.pe) (decl T v) T.kernels

-- whether j is another kernel of the setup than i
abbrev pub is_other_kernel : Setup → ℕ → ℕ → Bool
is_other_kernel T i j = nat_lt j T.kernels && not (j == i)

-- whether a VPE with that declaration is one of kernel i
abbrev pub runs_on : Setup → ℕ → VpeDecl → Bool
runs_on T i d = pe_owner T d.pe == i

-- the VPEs of kernel i
abbrev pub own_vpes : Setup → ℕ → List VpeDecl
own_vpes T i = filter (runs_on T i) T.vpes

-- the declaration of a VPE, if it is one of kernel i
abbrev pub own_decl : Setup → ℕ → ℕ → Option VpeDecl
own_decl T i v = option_and_then (λ d. if runs_on T i d then Some d else None) (decl T v)

-- whether a VPE is one of kernel i
abbrev pub is_own : Setup → ℕ → ℕ → Bool
is_own T i v = is_some (own_decl T i v)

-- a key is local to the kernel that owns it, and remote to every other
abbrev pub IsLocal : Setup → ℕ → KeyName → Type 0
IsLocal T i k = owner_of T k ≡ i

-- whether a key is local to kernel i
abbrev pub is_local : Setup → ℕ → KeyName → Bool
is_local T i k = owner_of T k == i

-- whether v denies what the asker asks
abbrev pub denies : Setup → ℕ → ℕ → Bool
denies T v asker = list_any (λ d. (d.0 == v) && (d.1 == asker)) T.denies

-- the service of a name
abbrev pub service_named : Setup → ℕ → Option Service
service_named T name = find (λ s. s.name == name) T.services

-- the selector that a service of that name offers under an index
abbrev pub offer_named : Setup → ℕ → ℕ → Option ℕ
offer_named T index name = option_map (λ o. o.sel) (find (λ o. (o.name == name) && (o.index == index)) T.offers)

-- the selector that the service of that key offers under an index
abbrev pub offered : Setup → KeyName → ℕ → Option ℕ
offered T service index =
    option_and_then (λ s. offer_named T index s.name) (find (λ s. key_eq s.key service) T.services)
