use Rattle.std.proofs.Common.{◌≡◌, [], map, replicate}
use Rattle.std.specs.List.{All}
use Rattle.sem_fabric.proofs.row.Row.new.Given as goal

-- so many links were made, and nothing is in them
abbrev pub invariant-loop : goal.invariant-loop
invariant-loop l = record {
  messages : map (λ x. x.messages) l.links.items ≡ replicate l.counter [];
  windows : All (λ x. x.window ≡ l.window) l.links.items;
}
