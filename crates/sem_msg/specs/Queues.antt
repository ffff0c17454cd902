-- Queues whose nodes lie in one list: the private words of pool.rt.
use Rattle.std.specs.Prelude.{◌≡◌, ◌≢◌, ℕ, zero, suc, ◌<◌, List, [], ◌∷◌, length, map, sum_by}
use Rattle.std.specs.Prelude.{slice_index_or}
use Rattle.sem_msg.specs.declared.message.Message.{Message}
use Rattle.sem_msg.specs.declared.message.Message.TheVariants.{RevokeDone}
use Rattle.sem_msg.specs.declared.pool.Link.{Link}
use Rattle.sem_msg.specs.declared.pool.Link.TheVariants.{To, End}
use Rattle.sem_msg.specs.declared.pool.Node.{Node}
use Rattle.sem_msg.specs.declared.pool.Queue.{Queue}

abbrev pub node_at : List Node → ℕ → Node
node_at nodes at = slice_index_or nodes at (record { message = RevokeDone 0; next = End 0 })

abbrev pub queue_at : List Queue → ℕ → Queue
queue_at queues k = slice_index_or queues k (record { first = End 0; last = 0; len = 0 })

-- the link leads over so many nodes to the end of the queue k, and the last of them is `last`
abbrev pub IsChain : List Node → ℕ → ℕ → ℕ → Link → Type 0
IsChain nodes k last zero (To at) = ⊥
IsChain nodes k last zero (End j) = j ≡ k
IsChain nodes k last (suc n) (To at) =
    (at < length nodes) × (n ≡ 0 → at ≡ last) × IsChain nodes k last n (node_at nodes at).next
IsChain nodes k last (suc n) (End j) = ⊥

-- the messages of so many nodes from the link on
abbrev pub messages_of : List Node → ℕ → Link → List Message
messages_of nodes zero link = []
messages_of nodes (suc n) (To at) =
    (node_at nodes at).message ∷ messages_of nodes n (node_at nodes at).next
messages_of nodes (suc n) (End j) = []

abbrev pub IsQueue : List Node → ℕ → Queue → Type 0
IsQueue nodes k queue = IsChain nodes k queue.last queue.len queue.first

abbrev pub AreQueues : List Node → List Queue → Type 0
AreQueues nodes queues = (k : ℕ) → k < length queues → IsQueue nodes k (queue_at queues k)

abbrev pub queue_messages : List Node → Queue → List Message
queue_messages nodes queue = messages_of nodes queue.len queue.first

-- the messages of each queue
abbrev pub all_messages : List Node → List Queue → List (List Message)
all_messages nodes queues = map (λ queue. queue_messages nodes queue) queues

-- how many nodes are in the queues
abbrev pub total : List Queue → ℕ
total queues = sum_by (λ queue. queue.len) queues

-- the node can become the last of the queue k
pub record IsLoose (nodes : List Node) (queues : List Queue) (k at : ℕ) : Type 0 where
  pub within : at < length nodes
  pub next : (node_at nodes at).next ≡ End k
  pub apart : 0 < (queue_at queues k).len → at ≢ (queue_at queues k).last
