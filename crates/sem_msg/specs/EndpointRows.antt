-- The endpoints of VPEs: what each is bound to, and their small changes ("State" in
-- docs/machine.md).
use Rattle.std.specs.Prelude.{ℕ, List, [], ◌∷◌, map, slice_index_or, replicate, if◌then◌else◌, Option, Some, None}
use Rattle.std.specs.List.{list_any}
use Rattle.sem_key.specs.Prelude.{KeyName, key_eq, put}
use Rattle.sem_msg.specs.declared.limits.TheConstants.{ENDPOINTS}
use Rattle.sem_msg.specs.Rows.{Endpoint}

-- The endpoints of one VPE.

-- at the start none is bound
abbrev pub no_endpoint_bound : List (Option Endpoint)
no_endpoint_bound = replicate ENDPOINTS None

-- what an endpoint is bound to
abbrev pub endpoint_in : List (Option Endpoint) → ℕ → Option Endpoint
endpoint_in es ep = slice_index_or es ep None

-- the endpoint gets that binding
abbrev pub with_endpoint_in : List (Option Endpoint) → ℕ → Option Endpoint → List (Option Endpoint)
with_endpoint_in es ep e = put None es ep e

-- the endpoint, without its binding if that is to one of these keys
abbrev pub unbound_from : List KeyName → Option Endpoint → Option Endpoint
unbound_from ks None = None
unbound_from ks (Some e) = if list_any (key_eq e.key) ks then None else Some e

-- every endpoint bound to one of these keys is unbound
abbrev pub all_unbound_from : List KeyName → List (Option Endpoint) → List (Option Endpoint)
all_unbound_from ks es = map {A = Option Endpoint} (unbound_from ks) es

-- The endpoints of all VPEs, by number.

-- what an endpoint of a VPE is bound to
abbrev pub endpoint : List (List (Option Endpoint)) → ℕ → ℕ → Option Endpoint
endpoint rows v ep = endpoint_in (slice_index_or rows v []) ep

-- the endpoints of the VPE changed
abbrev pub with_row : ℕ → (List (Option Endpoint) → List (Option Endpoint)) → List (List (Option Endpoint)) →
    List (List (Option Endpoint))
with_row v f rows = put [] rows v (f (slice_index_or rows v []))

-- the endpoint gets that binding
abbrev pub with_endpoint : ℕ → ℕ → Option Endpoint → List (List (Option Endpoint)) → List (List (Option Endpoint))
with_endpoint v ep e rows = with_row v (λ es. with_endpoint_in es ep e) rows

-- every endpoint of the key's VPE that is bound to the key is unbound
abbrev pub unbind_key : KeyName → List (List (Option Endpoint)) → List (List (Option Endpoint))
unbind_key k rows = with_row k.vpe (λ es. all_unbound_from (k ∷ []) es) rows

-- every endpoint bound to one of these keys is unbound
abbrev pub unbind_all : List KeyName → List (List (Option Endpoint)) → List (List (Option Endpoint))
unbind_all ks rows = map (all_unbound_from ks) rows
