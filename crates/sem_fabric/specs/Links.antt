-- What the private types of a fabric hold: a link, and the links from one kernel.
use Rattle.std.specs.Prelude.{ℕ, List, [], slice_index_or}
use Rattle.sem_msg.specs.Prelude.{put}
use Rattle.sem_msg.specs.declared.message.Message.{Message}

-- the messages in a link, the oldest first, and how many it can hold
pub record LinkList : Type 0 where
  pub messages : List Message
  pub window : ℕ

-- the links from one kernel, by receiver, and how many messages each can hold
pub record LinkRow : Type 0 where
  pub links : List (List Message)
  pub window : ℕ

-- the link with other messages
abbrev pub relined : List Message → LinkList → LinkList
relined messages l = record l { messages = messages }

abbrev pub link_to : LinkRow → ℕ → List Message
link_to r to = slice_index_or r.links to []

abbrev pub with_link_to : ℕ → List Message → LinkRow → LinkRow
with_link_to to messages r = record r { links = put [] r.links to messages }
