-- What is known of the next call of a VPE, where it is counted, and of the message in the inbox.
use Rattle.std.proofs.Common.{◌≡◌, ℕ, ◌+◌, ◌<◌, ◌≤◌, List, get_or, Option, Some, None, refl, sym, ◌∙◌, ap, subst, arith}
use Rattle.std.specs.Option.{option_map_or, option_and_then}
use Rattle.std.proofs.lemmas.Option.{slice_get_within}
use Rattle.sem_key.proofs.Puts.{get_or-put_same}
use Rattle.sem_msg.specs.declared.call.Call.{Call}
use Rattle.sem_msg.specs.declared.call.Call.TheVariants.{Derive, Gate, Obtain, Delegate, OpenSession, AskOffer, Revoke, Bind, Read, Write, Send as SendCall}
use Rattle.sem_msg.specs.declared.call.Call.TheVariants.{Credit, Exit, Clear}
use Rattle.sem_msg.specs.declared.event.Act.{Act}
use Rattle.sem_msg.specs.declared.event.Act.TheVariants.{Call as Calls, Handle, Upcall, Resume, Flush, Kill}
use Rattle.sem_msg.specs.declared.message.Message.{Message}
use Rattle.sem_msg.specs.declared.entry.Detail.{Detail}
use Rattle.sem_msg.specs.declared.entry.Detail.TheVariants.{Called, Carried, Nothing}
use Rattle.sem_msg.specs.declared.entry.Outcome.{Outcome}
use Rattle.sem_msg.specs.declared.state.Slot.TheVariants.{Free}
use Rattle.sem_msg.specs.Rows.{VpeRow, no_vpe}
use Rattle.sem_msg.specs.VpeRows
use Rattle.sem_msg.specs.Setup.{Setup, IsSetup}
use Rattle.sem_msg.specs.Lookups.{kernel_of, calls_of}
use Rattle.sem_vpe.specs.VpeTable.{slot_key}
use Rattle.sem_machine.specs.Sides.{Side, row, slot, call_counted, with_inbox}
use Rattle.sem_machine.specs.Steps.{Step, unshown}
use Rattle.sem_machine.specs.Calls.{call_row}
use Rattle.sem_machine.specs.Handles.{handled}
use Rattle.sem_machine.specs.Sound.{IsSound, ids_owed, ids_paid}
use Rattle.sem_machine.specs.Machine.{next_call, local_step, detail_of}
use Rattle.sem_sound.proofs.Changing.{counted-sound, counted-pays}
use Rattle.sem_kernel.specs.declared.stores.Stores.{Stores}
use Rattle.sem_kernel.specs.Rooms.{called_parent, linked_parent}
use Rattle.sem_kernel.specs.Acting.{DoesAct}

-- a call that is counted leaves the selectors and the asks
counted-row : (s : Side) (v : ℕ) → row (call_counted v s) v ≡ record (row s v) { next_call = (row s v).next_call + 1 }
counted-row s v = get_or-put_same no_vpe s.vpes v (record (row s v) { next_call = (row s v).next_call + 1 })

counted-slot : (s : Side) (v sel : ℕ) → slot (call_counted v s) v sel ≡ slot s v sel
counted-slot s v sel = ap (λ (r : VpeRow). get_or r.slots sel Free) (counted-row s v)

counted-parent : (s : Side) (v : ℕ) (call : Call) → called_parent (call_counted v s) v call ≡ called_parent s v call
counted-parent s v (Derive src dst off len rights) = ap slot_key (counted-slot s v src)
counted-parent s v (Gate src dst label credits) = ap slot_key (counted-slot s v src)
counted-parent s v (Obtain dst w src) = refl
counted-parent s v (Delegate src w dst) = refl
counted-parent s v (OpenSession dst name) = refl
counted-parent s v (AskOffer dst session index) = refl
counted-parent s v (Revoke src) = refl
counted-parent s v (Bind ep src) = refl
counted-parent s v (Read ep off len) = refl
counted-parent s v (Write ep off len) = refl
counted-parent s v (SendCall ep len) = refl
counted-parent s v (Credit ep) = refl
counted-parent s v Exit = refl
counted-parent s v (Clear src) = refl

module _ (T : Setup) (valid : IsSetup T) (i : ℕ) (few : i < T.kernels) (s : Side) (is : IsSound T i s) (v : ℕ) (here : kernel_of T v ≡ i) (rows : List VpeRow)
    (counted : rows ≡ VpeRows.call_counted v s.vpes) (call : Call) (next : next_call T s v ≡ Some call) where
  abbrev t : Side
  t = record s { vpes = rows }

  pub counted-sound_side : IsSound T i t
  counted-sound_side = subst (λ (r : List VpeRow). IsSound T i (record s { vpes = r })) (sym counted)
      (counted-sound T valid i few None None None None s is v here (slice_get_within (calls_of T v) (row s v).next_call call next))

  pub counted-pays_side : ids_owed t + 1 ≤ ids_paid t
  counted-pays_side = subst (λ (r : List VpeRow). ids_owed (record s { vpes = r }) + 1 ≤ ids_paid (record s { vpes = r })) (sym counted) (let pays =
      counted-pays T valid i few None None None None s is v here in omega (arith, pays))

  pub counted-parent_side : linked_parent T s (Calls v) ≡ called_parent t v call
  counted-parent_side =
      ap (λ (o : Option Call). option_and_then (called_parent s v) o) next
      ∙ (sym (counted-parent s v call) ∙ ap (λ (r : List VpeRow). called_parent (record s { vpes = r }) v call) (sym counted))

  pub counted-asks : (row t v).asks ≡ (row s v).asks
  counted-asks = ap (λ (r : List VpeRow). (VpeRows.row r v).asks) counted ∙ ap (λ (r : VpeRow). r.asks) (counted-row s v)

-- the step of a call, and its detail
pub call-step : (T : Setup) (i v : ℕ) (s : Side) (rows : List VpeRow) (call : Call) (x : Step) → rows ≡ VpeRows.call_counted v s.vpes →
    next_call T s v ≡ Some call → x ≡ call_row T i (record s { vpes = rows }) v call → x ≡ local_step T i s (Calls v) None
unfolding local_step
call-step T i v s rows call x counted next is =
    is
    ∙ (ap (λ (r : List VpeRow). call_row T i (record s { vpes = r }) v call) counted
    ∙ sym (ap (λ (o : Option Call). option_map_or (call_row T i (call_counted v s) v) o (unshown s)) next))

pub call-detail : (T : Setup) (v index : ℕ) (s : Side) (call : Call) (o : Outcome) → index ≡ (row s v).next_call → next_call T s v ≡ Some call →
    Called index call ≡ detail_of T s (Calls v) None o
call-detail T v index s call o counted next =
    ap (λ n. Called n call) counted
    ∙ sym (ap (λ (q : Option Call). option_map_or (λ c. Called (row s v).next_call c) q Nothing) next)

-- the step of a message, and its detail
pub handle-step : (T : Setup) (i : ℕ) (s t : Side) (from : ℕ) (m : Message) → s.inbox ≡ Some (from, m) → t ≡ handled T i (with_inbox None s) from m →
    unshown t ≡ local_step T i s Handle None
unfolding local_step
handle-step T i s t from m inbox is =
    ap unshown (is ∙ sym (ap (λ (o : Option (ℕ × Message)). option_map_or (λ q. handled T i (with_inbox None s) q.0 q.1) o s) inbox))

pub handle-detail : (T : Setup) (s : Side) (from : ℕ) (m : Message) (o : Outcome) → s.inbox ≡ Some (from, m) → Carried from m ≡ detail_of T s Handle None o
handle-detail T s from m o inbox = sym (ap (λ (q : Option (ℕ × Message)). option_map_or (λ p. Carried p.0 p.1) q Nothing) inbox)

-- Acts that take no message out of a link.
module _ (T : Setup) (i : ℕ) (x : Stores) (input : Option Message) (y : Stores) (d : Detail) (o : Outcome) (v : ℕ) where
  pub does-call : (act : Act) → act ≡ Calls v → DoesAct T i x (Calls v) None y d o → DoesAct T i x act input y d o
  unfolding local_step
  does-call act is does = subst (λ a. DoesAct T i x a input y d o) (sym is) (record { step = does.step; detail_is = does.detail_is; stores = does.stores })

  pub does-upcall : (act : Act) → act ≡ Upcall v → DoesAct T i x (Upcall v) None y d o → DoesAct T i x act input y d o
  unfolding local_step
  does-upcall act is does = subst (λ a. DoesAct T i x a input y d o) (sym is) (record { step = does.step; detail_is = does.detail_is; stores = does.stores })

  pub does-resume : (act : Act) → act ≡ Resume v → DoesAct T i x (Resume v) None y d o → DoesAct T i x act input y d o
  unfolding local_step
  does-resume act is does = subst (λ a. DoesAct T i x a input y d o) (sym is) (record { step = does.step; detail_is = does.detail_is; stores = does.stores })

  pub does-flush : (act : Act) → act ≡ Flush v → DoesAct T i x (Flush v) None y d o → DoesAct T i x act input y d o
  unfolding local_step
  does-flush act is does = subst (λ a. DoesAct T i x a input y d o) (sym is) (record { step = does.step; detail_is = does.detail_is; stores = does.stores })

  pub does-kill : (act : Act) → act ≡ Kill v → DoesAct T i x (Kill v) None y d o → DoesAct T i x act input y d o
  unfolding local_step
  does-kill act is does = subst (λ a. DoesAct T i x a input y d o) (sym is) (record { step = does.step; detail_is = does.detail_is; stores = does.stores })

  pub does-handle : (act : Act) → act ≡ Handle → DoesAct T i x Handle None y d o → DoesAct T i x act input y d o
  unfolding local_step
  does-handle act is does = subst (λ a. DoesAct T i x a input y d o) (sym is) (record { step = does.step; detail_is = does.detail_is; stores = does.stores })
