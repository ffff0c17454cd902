-- The setup of a run as contracts see it, and what always holds of it ("Setup" in docs/machine.md).
use Rattle.std.specs.Prelude.{◌≡◌, ◌≢◌, ℕ, ◌<◌, ◌≤◌, ◌+◌, ◌⊎◌, ◌↔◌, List, [], ◌∷◌, ◌++◌, length, flat_map, IsSome}
use Rattle.std.specs.Prelude.{All, AllPairs, Any, Contains, sum_by}
use Rattle.sem_key.specs.declared.object.Object.{Object}
use Rattle.sem_key.specs.declared.object.Object.TheVariants.{Mem, Recv, Send, Serv, Sess}
use Rattle.sem_key.specs.Prelude.{KeyName}
use Rattle.sem_key.specs.ObjectRanges.{object_kind, IsValidObject}
use Rattle.sem_key.specs.MembershipTable.{MembershipTable, IsMembership, owner_at}
use Rattle.sem_msg.specs.declared.setup.Root.{Root}
use Rattle.sem_msg.specs.declared.setup.Service.{Service}
use Rattle.sem_msg.specs.declared.setup.Offer.{Offer}
use Rattle.sem_msg.specs.declared.setup.VpeDecl.{VpeDecl}
use Rattle.sem_msg.specs.declared.limits.TheConstants.{CALLS}
use Rattle.sem_msg.specs.Versions.{most_kernels, most_vpes, IsWindow}
use Rattle.sem_msg.specs.Calls.{IsSelector, IsWord, IsValidCall}

pub record Setup : Type 0 where
  -- the version of its text
  pub version : ℕ
  -- how many messages a link holds
  pub window : ℕ
  pub kernels : ℕ
  pub owners : MembershipTable
  pub vpes : List VpeDecl
  pub services : List Service
  pub offers : List Offer
  pub denies : List (ℕ × ℕ)
  pub kills : List (ℕ × ℕ)

-- a root is memory, a receive gate or a service
abbrev pub IsRootObject : Object → Type 0
IsRootObject (Mem base len rights) = Unit {0}
IsRootObject (Recv slots) = Unit {0}
IsRootObject (Send gate label credits) = ⊥
IsRootObject (Serv name) = Unit {0}
IsRootObject (Sess service ident) = ⊥

pub record IsRoot (r : Root) : Type 0 where
  pub selector : IsSelector r.sel
  pub kind : IsRootObject r.object
  pub ranges : IsValidObject r.object

-- the key of a VPE's root at a place of its list; places count from 0
abbrev pub root_key : VpeDecl → ℕ → Root → KeyName
root_key d n r = record { pe = d.pe; vpe = d.vpe; kind = object_kind r.object; number = n }

-- the service that a root is, if it is one
abbrev pub service_with : Object → KeyName → List Service
service_with (Serv name) k = record { name = name; key = k } ∷ []
service_with object k = []

-- the services among roots that are numbered from n on
unfoldable pub services_from : VpeDecl → ℕ → List Root → List Service
services_from d n [] = []
services_from d n (r ∷ rs) = service_with r.object (root_key d n r) ++ services_from d (n + 1) rs

-- the declared services, VPE by VPE
abbrev pub declared_services : Setup → List Service
declared_services T = flat_map (λ d. services_from d 0 d.roots) T.vpes

abbrev pub IsDeclared : Setup → ℕ → Type 0
IsDeclared T v = Any (λ d. d.vpe ≡ v) T.vpes

pub record IsVpeDecl (T : Setup) (d : VpeDecl) : Type 0 where
  pub vpe : d.vpe < most_vpes T.version
  pub pe : d.pe < most_vpes T.version
  pub owned : IsSome (owner_at T.owners d.pe)
  pub selectors_differ : AllPairs (λ a b. a.sel ≢ b.sel) d.roots
  pub roots : All IsRoot d.roots
  pub calls : All (IsValidCall (most_vpes T.version)) d.calls

-- offers and denies are ordered by their first part and then by their second
abbrev pub ComesBefore : ℕ × ℕ → ℕ × ℕ → Type 0
ComesBefore a b = (a.0 < b.0) ⊎ ((a.0 ≡ b.0) × (a.1 < b.1))

abbrev pub offer_place : Offer → ℕ × ℕ
offer_place o = (o.name, o.index)

pub record IsOffer (T : Setup) (o : Offer) : Type 0 where
  pub index : o.index ≤ 255
  pub selector : IsSelector o.sel
  pub declared : Any (λ s. s.name ≡ o.name) T.services

-- how many calls there are, over all VPEs
abbrev pub call_count : Setup → ℕ
call_count T = sum_by (λ d. length d.calls) T.vpes

-- how many kills there are
abbrev pub kill_count : Setup → ℕ
kill_count T = length T.kills

pub record IsSetup (T : Setup) : Type 0 where
  pub versioned : (T.version ≡ 1) ⊎ (T.version ≡ 2)
  pub windowed : IsWindow T.version T.window
  pub some_kernel : 1 ≤ T.kernels
  pub few_kernels : T.kernels ≤ most_kernels T.version
  pub membership : IsMembership T.owners
  pub same_kernels : T.owners.kernels ≡ T.kernels
  pub owned_pes : (pe : ℕ) → IsSome (owner_at T.owners pe) → pe < most_vpes T.version
  -- the VPEs, each once, in rising order, each on its own PE
  pub vpes : All (IsVpeDecl T) T.vpes
  pub vpes_rise : AllPairs (λ a b. a.vpe < b.vpe) T.vpes
  pub pes_differ : AllPairs (λ a b. a.pe ≢ b.pe) T.vpes
  -- exactly the declared services, by name
  pub services_rise : AllPairs (λ a b. a.name < b.name) T.services
  pub services : (s : Service) → Contains T.services s ↔ Contains (declared_services T) s
  pub offers : All (IsOffer T) T.offers
  pub offers_rise : AllPairs (λ a b. ComesBefore (offer_place a) (offer_place b)) T.offers
  pub denies : All (λ d. IsDeclared T d.0 × IsDeclared T d.1) T.denies
  pub denies_rise : AllPairs ComesBefore T.denies
  pub kills : All (λ k. IsDeclared T k.0 × IsWord k.1) T.kills
  pub kills_rise : AllPairs (λ a b. a.0 < b.0) T.kills
  pub few_calls : call_count T ≤ CALLS
