use Rattle.std.proofs.Common.{◌≡◌, map, IfSome}
use Rattle.std.specs.List.{All, range_with_len}
use Rattle.sem_vpe.specs.VpeTable.{IsVpeRow}
use Rattle.sem_vpe.specs.Starting.{start_place}
use Rattle.sem_vpe.proofs.vpes.Vpes.new.Given as goal

-- the first places were made
abbrev pub invariant-loop-vpe : goal.invariant-loop-vpe
invariant-loop-vpe l = record {
  places : l.places.items ≡ map (start_place l.setup l.kernel) (range_with_len 0 l.vpe);
  rows : All (λ p. IfSome p IsVpeRow) l.places.items;
}
