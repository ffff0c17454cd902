use Rattle.std.proofs.Common.{◌≡◌, take, slice_get, Some}
use Rattle.std.specs.List.{All}
use Rattle.sem_msg.specs.declared.entry.Entry.{Entry}
use Rattle.sem_numbering.specs.Nodes.{IsMadeBy}
use Rattle.sem_numbering.proofs.parts.find_node.Given as goal

-- none of the first places has such a node
abbrev pub invariant-loop-place : goal.invariant-loop-place
invariant-loop-place l = All (λ k. (e : Entry) → IsMadeBy l.event l.message e → slice_get l.nodes k ≡ Some (l.from, e) → ⊥) (take l.place-index l.places)
