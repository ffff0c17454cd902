use Rattle.std.proofs.Common.{◌≡◌, ◌≤◌, length, drop}
use Rattle.sem_msg.specs.Outboxes.{box_for}
use Rattle.sem_msg.proofs.pool.Pool.grow.Given as goal

-- there are so many free nodes
abbrev pub invariant-loop : goal.invariant-loop
invariant-loop l = (l.counter ≤ length (box_for l.self 0)) × (length (box_for l.fn.self 0) ≤ length (box_for l.self 0)) × (drop 1 l.self ≡ drop 1 l.fn.self)
    × (length l.self ≡ length l.fn.self)
