-- The journal as contracts see it, the part of a kernel, and when parts agree ("Journal" in
-- docs/machine.md).
use Rattle.std.specs.Prelude.{◌≡◌, ℕ, ◌≤◌, ◌==◌, Bool, false, List, [], ◌∷◌, ◌++◌, length, take, filter, filter_map}
use Rattle.std.specs.Prelude.{flat_map, find, Option, IfSome}
use Rattle.std.specs.Option.{option_map}
use Rattle.sem_msg.specs.declared.message.Message.{Message}
use Rattle.sem_msg.specs.declared.event.Act.{Act}
use Rattle.sem_msg.specs.declared.event.Act.TheVariants.{Fetch, Flush, Kill}
use Rattle.sem_msg.specs.declared.entry.Detail.{Detail}
use Rattle.sem_msg.specs.declared.entry.Detail.TheVariants.{Carried}
use Rattle.sem_msg.specs.declared.entry.Reply.{Reply}
use Rattle.sem_msg.specs.declared.entry.Entry.{Entry}
use Rattle.sem_msg.specs.Setup.{Setup}

pub record JournalList : Type 0 where
  pub entries : List Entry
  -- how many more can be appended without taking memory
  pub spare : ℕ

-- the entries of kernel i, in order
abbrev pub part : List Entry → ℕ → List Entry
part J i = filter (λ e. e.event.kernel == i) J

-- the replies, in order
abbrev pub replies : List Entry → List Reply
replies J = filter_map (λ e. e.reply) J

-- the message of an entry, if it carries one
abbrev pub message_in : Detail → List Message
message_in (Carried peer message) = message ∷ []
message_in detail = []

-- whether an act is a flush to that kernel
abbrev pub is_flush_to : ℕ → Act → Bool
is_flush_to j (Flush to) = to == j
is_flush_to j act = false

-- whether an act is a fetch from that kernel
abbrev pub is_fetch_from : ℕ → Act → Bool
is_fetch_from i (Fetch from) = from == i
is_fetch_from i act = false

-- the messages that kernel i flushed to kernel j
abbrev pub flushed : List Entry → ℕ → ℕ → List Message
flushed J i j = flat_map (λ e. message_in e.detail) (filter (λ e. is_flush_to j e.event.act) (part J i))

-- the messages that kernel j fetched from kernel i
abbrev pub fetched : List Entry → ℕ → ℕ → List Message
fetched J i j = flat_map (λ e. message_in e.detail) (filter (λ e. is_fetch_from i e.event.act) (part J j))

-- after how many replies a VPE is killed, if ever
abbrev pub kill_number : Setup → ℕ → Option ℕ
kill_number T v = option_map (λ k. k.1) (find (λ k. k.0 == v) T.kills)

-- ys begins with xs, and at most n more follow
pub record LeadsBy {X : Type 0} (n : ℕ) (ys xs : List X) : Type 0 where
  pub rest : List X
  pub begins : ys ≡ xs ++ rest
  pub few : length rest ≤ n

-- What no kernel can tell alone: every fetched message was flushed before, no link ever held more
-- messages than the window of the setup, and no kill came early.
pub record Agrees (T : Setup) (J : List Entry) : Type 0 where
  pub links : (n i j : ℕ) → LeadsBy T.window (flushed (take n J) i j) (fetched (take n J) i j)
  pub kills : (before after : List Entry) (e : Entry) (v : ℕ) → J ≡ before ++ e ∷ after → e.event.act ≡ Kill v →
      IfSome (kill_number T v) (λ n. n ≤ length (replies before))
