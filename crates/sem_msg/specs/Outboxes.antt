-- The outboxes of a kernel as contracts see them ("State" in docs/machine.md).
use Rattle.std.specs.Prelude.{◌≡◌, ◌<◌, ◌≤◌, ◌+◌, ℕ, List, [], length, slice_get, slice_index_or, is_some, All}
use Rattle.sem_key.specs.Prelude.{put}
use Rattle.sem_msg.specs.declared.message.Message.{Message}
use Rattle.sem_msg.specs.Message.{Fits}
use Rattle.sem_msg.specs.Setup.{Setup}
use Rattle.sem_msg.specs.Masks.{IsMaskOf}

pub record OutboxList : Type 0 where
  -- for each kernel, the messages that wait to be sent to it
  pub boxes : List (List Message)
  -- how many more can be sent without taking memory
  pub spare : ℕ

-- the messages for a kernel
abbrev pub box_for : List (List Message) → ℕ → List Message
box_for boxes to = slice_index_or boxes to []

-- the outboxes with other messages for a kernel
abbrev pub with_box : List (List Message) → ℕ → List Message → List (List Message)
with_box boxes to messages = put [] boxes to messages

-- all messages fit
abbrev pub AllFit : List (List Message) → Type 0
AllFit boxes = All (λ messages. All Fits messages) boxes

-- the mask has a bit for each kernel for which there are messages
abbrev pub AreFilled : List (List Message) → ℕ → Type 0
AreFilled boxes mask = IsMaskOf (λ to. is_some (slice_get (box_for boxes to) 0)) mask

-- there is a box for each kernel of the setup
abbrev pub HasBoxes : Setup → OutboxList → Type 0
HasBoxes T outs = length outs.boxes ≡ T.kernels

-- a message can be sent: there is a box for it, and it takes no memory
pub record CanSend (T : Setup) (outs : OutboxList) : Type 0 where
  pub boxes : HasBoxes T outs
  pub spare : 0 < outs.spare

-- at most one message was sent
pub record HasSent (T : Setup) (outs outs_after : OutboxList) : Type 0 where
  pub boxes : HasBoxes T outs_after
  pub spare : outs.spare ≤ outs_after.spare + 1
