-- The message that 64 bytes stand for.
use Rattle.std.specs.Prelude.{◌≡◌, ℕ, List, Ok, Err}
use Rattle.sem_msg.specs.declared.message.Message.{Message}
use Rattle.sem_msg.specs.declared.message.Message.TheVariants.{RevokeDone}
use Rattle.sem_msg.specs.Message.{Fits}
use Rattle.sem_wire.specs.Records.{record_of, rows_in}
use Rattle.sem_wire.specs.Reading.{message_read}

-- the message whose record the bytes are; any message if they are the record of none
unfoldable pub message_of : List ℕ → Message
message_of bytes = elim (message_read (rows_in bytes)) [ Ok m ↦ m | Err f ↦ RevokeDone 0 ]

-- the bytes are the record of a message that fits
abbrev pub IsRecord : List ℕ → Type 0
IsRecord bytes = Fits (message_of bytes) × (record_of (message_of bytes) ≡ bytes)
