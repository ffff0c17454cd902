-- Which numbers can stand in a place of a line, by their meaning ("The trace" in docs/texts.md).
use Rattle.std.specs.Prelude.{ℕ, ◌-◌, List, map}
use Rattle.sem_trace.specs.declared.slots.Slot.{Slot}
use Rattle.sem_trace.specs.declared.slots.Slot.TheVariants.{Selector, ServiceName, OfferIndex, Endpoint}
use Rattle.sem_trace.specs.declared.slots.Slot.TheVariants.{Rights, Base, Length, Offset, Label, SlotCount, Credits}
use Rattle.sem_trace.specs.declared.slots.Slot.TheVariants.{Vpe, Pe, KernelCount, Kernel}
use Rattle.sem_trace.specs.declared.slots.Slot.TheVariants.{Window, Replies, Code, Job, CallNumber}
use Rattle.sem_trace.specs.declared.call_forms.CallForm.{CallForm}
use Rattle.sem_trace.specs.Forms.{Place, up_to, node, byte, endpoint_place, rights, slots}
use Rattle.sem_trace.specs.Forms.{word, kernel_count, window}

-- the place of a number of that meaning, in a text of that version with that many kernels
abbrev pub slot_place : (version kernels : ℕ) → Slot → Place
slot_place version kernels Selector = byte
slot_place version kernels ServiceName = byte
slot_place version kernels OfferIndex = byte
slot_place version kernels Endpoint = endpoint_place
slot_place version kernels Rights = rights
slot_place version kernels Base = word
slot_place version kernels Length = word
slot_place version kernels Offset = word
slot_place version kernels Label = word
slot_place version kernels SlotCount = slots
slot_place version kernels Credits = slots
slot_place version kernels Vpe = node version
slot_place version kernels Pe = node version
slot_place version kernels KernelCount = kernel_count version
slot_place version kernels Kernel = up_to (kernels - 1)
slot_place version kernels Window = window version
slot_place version kernels Replies = word
slot_place version kernels Code = up_to 15
slot_place version kernels Job = word
slot_place version kernels CallNumber = word

-- the name of a call, and the places of its numbers in a text of that version
abbrev pub form_of : ℕ → CallForm → List ℕ × List Place
form_of version row = (row.name.now, map (slot_place version 1) row.slots.now)
