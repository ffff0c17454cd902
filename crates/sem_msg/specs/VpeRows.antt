-- What a kernel keeps of its VPEs, by number, and its small changes ("State" in docs/machine.md).
use Rattle.std.specs.Prelude.{ℕ, ◌+◌, nat_lt, Bool, true, false, List, [], ◌∷◌, ◌++◌, length, drop, slice_index_or}
use Rattle.std.specs.Prelude.{replicate, if◌then◌else◌}
use Rattle.sem_key.specs.Prelude.{KeyName, put}
use Rattle.sem_key.specs.Lists.{in_turn}
use Rattle.sem_msg.specs.declared.state.Slot.{Slot}
use Rattle.sem_msg.specs.declared.state.Slot.TheVariants.{Free, Held, Promised}
use Rattle.sem_msg.specs.declared.state.Ask.{Ask}
use Rattle.sem_msg.specs.declared.setup.Root.{Root}
use Rattle.sem_msg.specs.declared.setup.VpeDecl.{VpeDecl}
use Rattle.sem_msg.specs.declared.limits.TheConstants.{ASKS, SELECTORS}
use Rattle.sem_msg.specs.Setup.{root_key}
use Rattle.sem_msg.specs.Rows.{VpeRow, no_vpe}

-- The start.

-- a new VPE: alive, with all selectors free
abbrev pub new_vpe : VpeRow
new_vpe = record no_vpe { alive = true; slots = replicate SELECTORS Free }

-- the key of the next root or service
abbrev pub next_root : VpeDecl → Root → VpeRow → KeyName
next_root d r row = root_key d row.next_number r

-- a root or service: held at its selector, with a number drawn for it
abbrev pub root_held : VpeDecl → Root → VpeRow → VpeRow
root_held d r row = record row {
  slots = put Free row.slots r.sel (Held (next_root d r row));
  next_number = row.next_number + 1;
}

-- a VPE with its roots and services, in the order of their lines
unfoldable pub start_row : VpeDecl → VpeRow
start_row d = in_turn (root_held d) d.roots new_vpe

-- Reading.

-- what is kept of a VPE
abbrev pub row : List VpeRow → ℕ → VpeRow
row rows v = slice_index_or rows v no_vpe

abbrev pub is_alive : List VpeRow → ℕ → Bool
is_alive rows v = (row rows v).alive

-- a selector of a VPE
abbrev pub slot : List VpeRow → ℕ → ℕ → Slot
slot rows v sel = slice_index_or (row rows v).slots sel Free

-- whether a selector is held or promised
abbrev pub is_taken : Slot → Bool
is_taken Free = false
is_taken (Held k) = true
is_taken Promised = true

-- Changes.

-- the row of the VPE changed
abbrev pub with_row : ℕ → (VpeRow → VpeRow) → List VpeRow → List VpeRow
with_row v f rows = put no_vpe rows v (f (row rows v))

-- the VPE made one more call
abbrev pub call_counted : ℕ → List VpeRow → List VpeRow
call_counted v rows = with_row v (λ r. record r { next_call = r.next_call + 1 }) rows

-- the VPE drew one more number
abbrev pub drawn : ℕ → List VpeRow → List VpeRow
drawn v rows = with_row v (λ r. record r { next_number = r.next_number + 1 }) rows

-- the selector is in that state
abbrev pub with_slot : ℕ → ℕ → Slot → List VpeRow → List VpeRow
with_slot v sel state rows = with_row v (λ r. record r { slots = put Free r.slots sel state }) rows

-- the selector is promised
abbrev pub promised : ℕ → ℕ → List VpeRow → List VpeRow
promised v sel rows = with_slot v sel Promised rows

-- the selector is free
abbrev pub freed : ℕ → ℕ → List VpeRow → List VpeRow
freed v sel rows = with_slot v sel Free rows

-- the VPE gets one more ask, unless it has the most that can wait
abbrev pub asked : ℕ → Ask → List VpeRow → List VpeRow
asked v a rows = with_row v (λ r. record r {
  asks = if nat_lt (length r.asks) ASKS then r.asks ++ a ∷ []
      else r.asks;
}) rows

-- the oldest ask is taken out
abbrev pub ask_taken : ℕ → List VpeRow → List VpeRow
ask_taken v rows = with_row v (λ r. record r { asks = drop 1 r.asks }) rows

-- the VPE is dead; its asks stay
abbrev pub died : ℕ → List VpeRow → List VpeRow
died v rows = with_row v (λ r. record r { alive = false }) rows
