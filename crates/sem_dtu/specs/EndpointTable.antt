-- The endpoints of the VPEs of one kernel as contracts see them ("State" in docs/machine.md).
use Rattle.std.specs.Prelude.{◌≡◌, ℕ, Bool, true, false, List, length, map, slice_index_or, if◌then◌else◌, Option}
use Rattle.sem_msg.specs.Prelude.{VPES, Endpoint}
use Rattle.sem_msg.specs.declared.limits.TheConstants.{ENDPOINTS}

pub record EndpointTable : Type 0 where
  -- whether each VPE belongs to this kernel, by number
  pub ours : List Bool
  -- what each endpoint is bound to, by VPE number and by endpoint; a VPE of another kernel has no
  -- endpoints here
  pub rows : List (List (Option Endpoint))

-- how many endpoints a VPE has here
abbrev pub endpoint_count : Bool → ℕ
endpoint_count is_ours = if is_ours then ENDPOINTS else 0

-- there is a place for each VPE, with all endpoints of each VPE of this kernel
pub record IsEndpointTable (t : EndpointTable) : Type 0 where
  pub all_vpes : length t.ours ≡ VPES
  pub all_endpoints : map length t.rows ≡ map endpoint_count t.ours

abbrev pub IsOurs : EndpointTable → ℕ → Type 0
IsOurs t v = slice_index_or t.ours v false ≡ true
