-- The endpoints of the VPEs of a kernel at the start ("State" and "Owners" in docs/machine.md).
use Rattle.std.specs.Prelude.{ℕ, Bool, List, [], map, Option, if◌then◌else◌}
use Rattle.std.specs.List.{range_with_len}
use Rattle.sem_msg.specs.Prelude.{VPES, Setup, Endpoint}
use Rattle.sem_msg.specs.Lookups.{is_own}
use Rattle.sem_msg.specs.EndpointRows.{no_endpoint_bound}
use Rattle.sem_dtu.specs.EndpointTable.{EndpointTable}

-- the endpoints of a VPE at the start: if it belongs to this kernel, all are there and none is
-- bound
abbrev pub new_endpoints : Bool → List (Option Endpoint)
new_endpoints is_ours = if is_ours then no_endpoint_bound else []

-- the endpoints of kernel i at the start
abbrev pub new_table : Setup → ℕ → EndpointTable
new_table T i =
    let ours : List Bool = map (is_own T i) (range_with_len 0 VPES) in
    record { ours = ours; rows = map new_endpoints ours }
