-- What a store keeps in its fields ("State" in docs/machine.md).
use Rattle.std.specs.Prelude.{List, map, Option, is_some, unwrap_or}
use Rattle.sem_msg.specs.Prelude.{VpeRow, no_vpe}
use Rattle.sem_vpe.specs.VpeTable.{VpeTable}

-- what the places keep: a row for a VPE of this kernel, and none for the others
abbrev pub kept_table : List (Option VpeRow) → VpeTable
kept_table places = record { ours = map (λ p. is_some p) places; rows = map (λ p. unwrap_or p no_vpe) places }
