use Rattle.std.proofs.Common.{◌≡◌, [], replicate, length}
use Rattle.sem_msg.specs.Queues.{AreQueues, all_messages, total}
use Rattle.sem_msg.proofs.pool.Pool.new.Given as goal

-- so many queues were made, and nothing is in them
abbrev pub invariant-loop-queue : goal.invariant-loop-queue
invariant-loop-queue l = (length l.empty.items ≡ l.queue) × AreQueues [] l.empty.items × (all_messages [] l.empty.items ≡ replicate l.queue [])
    × (total l.empty.items ≡ 0)
