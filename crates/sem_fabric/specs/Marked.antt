-- The masks that a fabric keeps beside its links.
use Rattle.std.specs.Prelude.{◌≡◌, ℕ, nat_lt, nat_le, List, length, slice_index_or}
use Rattle.sem_msg.specs.declared.message.Message.{Message}
use Rattle.sem_msg.specs.Fabric.{link_in}
use Rattle.sem_msg.specs.Masks.{IsMaskOf}

-- by receiver the kernels from which a message waits, by sender those to which the link is full
pub record AreMarked (n window : ℕ) (links : List (List (List Message)))
    (coming full : List ℕ) : Type 0 where
  pub receivers : length coming ≡ n
  pub senders : length full ≡ n
  pub waiting : (to : ℕ)
      → IsMaskOf (λ from. nat_lt 0 (length (link_in links from to))) (slice_index_or coming to 0)
  pub filled : (from : ℕ)
      → IsMaskOf (λ to. nat_le window (length (link_in links from to))) (slice_index_or full from 0)
