-- What is kept of each VPE.
use Rattle.std.specs.Prelude.{List, map}
use Rattle.sem_dtu.specs.declared.row.Row.{Row}
use Rattle.sem_dtu.specs.EndpointTable.{EndpointTable}

-- what contracts see of the rows
abbrev pub table : List Row → EndpointTable
table rows = record { ours = map (λ r. r.is_ours) rows; rows = map (λ r. r.endpoints.items) rows }
