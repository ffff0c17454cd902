use Rattle.std.proofs.Common.{◌≡◌, drop, slice_get}
use Rattle.std.specs.List.{flat_map}
use Rattle.sem_serial.proofs.lists.event_at.Given as goal

-- it stands so far on in the lists that are left
abbrev pub invariant-loop-list : goal.invariant-loop-list
invariant-loop-list l = slice_get (flat_map (λ list. list.items) l.lists) l.place ≡ slice_get (flat_map (λ list. list.items) (drop l.list-index l.lists)) l.left
