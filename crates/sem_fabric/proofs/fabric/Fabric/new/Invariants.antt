use Rattle.std.proofs.Common.{◌≡◌, [], map, replicate}
use Rattle.std.specs.List.{All}
use Rattle.sem_fabric.proofs.fabric.Fabric.new.Given as goal

-- so many rows were made, and their links are empty
abbrev pub invariant-loop : goal.invariant-loop
invariant-loop l = record {
  links : map (λ r. r.links) l.rows.items ≡ replicate l.counter (replicate l.setup.kernels []);
  windows : All (λ r. r.window ≡ l.setup.window) l.rows.items;
}
