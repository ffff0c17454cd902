-- What is counted in a journal.
use Rattle.std.specs.Prelude.{ℕ, Bool, false, ◌==◌, ◌&&◌, List, length, filter, Option, Some, None}
use Rattle.std.specs.Option.{option_map_or}
use Rattle.sem_msg.specs.Act.{number_of_act}
use Rattle.sem_msg.specs.declared.event.Act.{Act}
use Rattle.sem_msg.specs.declared.event.Act.TheVariants.{Flush}
use Rattle.sem_msg.specs.declared.entry.Detail.{Detail}
use Rattle.sem_msg.specs.declared.entry.Detail.TheVariants.{Carried}
use Rattle.sem_msg.specs.declared.entry.Entry.{Entry}
use Rattle.sem_msg.specs.declared.message.Message.{Message}
use Rattle.sem_msg.specs.declared.message.Message.TheVariants.{ObtainReq, ObtainOk, ObtainNo, DelegateReq}
use Rattle.sem_msg.specs.declared.message.Message.TheVariants.{DelegatePrepared, DelegateNo, Ack, Orphan, RevokeReq}
use Rattle.sem_msg.specs.declared.message.Message.TheVariants.{RevokeDone, Unlink}

-- how many entries of a journal pass a test
abbrev pub count_of : (Entry → Bool) → List Entry → ℕ
count_of test J = length (filter test J)

-- the number of a message, 1 to 11 in the order of `Message`
abbrev pub message_number : Message → ℕ
message_number (ObtainReq place target) = 1
message_number (ObtainOk parent key object) = 2
message_number (ObtainNo place code) = 3
message_number (DelegateReq parent object vpe sel) = 4
message_number (DelegatePrepared parent key) = 5
message_number (DelegateNo parent code) = 6
message_number (Ack key is_held) = 7
message_number (Orphan parent key) = 8
message_number (RevokeReq key job) = 9
message_number (RevokeDone job) = 10
message_number (Unlink parent key) = 11

-- the message that a flush gives to a link
abbrev pub flushed_message : Act → Detail → Option Message
flushed_message (Flush to) (Carried peer message) = Some message
flushed_message act detail = None

-- the kernel that a flush sends a message to
abbrev pub sent_to : Act → Option ℕ
sent_to (Flush to) = Some to
sent_to act = None

-- whether an entry is of the event of that number
abbrev pub is_event : ℕ → Entry → Bool
is_event n e = number_of_act e.event.act == n

-- whether an entry sends a message of that number
abbrev pub sends : ℕ → Entry → Bool
sends n e = option_map_or (λ m. message_number m == n) (flushed_message e.event.act e.detail) false

-- whether an entry sends a message from kernel i to kernel j
abbrev pub sends_between : ℕ → ℕ → Entry → Bool
sends_between i j e = e.event.kernel == i && option_map_or (λ to. to == j) (sent_to e.event.act) false

-- whether an entry answers a call with that code
abbrev pub answers : ℕ → Entry → Bool
answers c e = option_map_or (λ r. r.code == c) e.reply false
