-- What a read or a write that was answered with success passed: its endpoint is bound to a memory that has its range, with the right to it.
use Rattle.std.proofs.Common.{◌≡◌, ℕ, ◌+◌, ◌≤◌, Bool, true, false, not, [], ◌∷◌, Option, Some, None, refl, sym, ◌∙◌, ap, subst, cond}
use Rattle.std.specs.Option.{option_map, option_map_or}
use Rattle.std.specs.Prelude.{is_none}
use Rattle.std.proofs.lemmas.Bool.{ltb-false, not-false}
use Rattle.std.proofs.lemmas.Option.{same_Some}
use Rattle.sem_key.specs.declared.object.Object.{Object}
use Rattle.sem_key.specs.declared.object.Object.TheVariants.{Mem, Recv, Send, Serv, Sess}
use Rattle.sem_key.specs.ObjectRanges.{is_subset}
use Rattle.sem_msg.specs.declared.call.Call.{Call}
use Rattle.sem_msg.specs.declared.call.Call.TheVariants.{Derive, Gate, Obtain, Delegate, OpenSession, AskOffer, Revoke, Bind, Read, Write, Send as SendCall}
use Rattle.sem_msg.specs.declared.call.Call.TheVariants.{Credit, Exit, Clear}
use Rattle.sem_msg.specs.declared.event.Act.{Act}
use Rattle.sem_msg.specs.declared.event.Act.TheVariants.{Call as Calls, Fetch, Handle, Upcall, Resume, Flush, Kill}
use Rattle.sem_msg.specs.declared.message.Message.{Message}
use Rattle.sem_msg.specs.declared.entry.Outcome.{Outcome}
use Rattle.sem_msg.specs.declared.event.Event.{Event}
use Rattle.sem_msg.specs.declared.entry.Detail.TheVariants.{Called, Nothing}
use Rattle.sem_msg.specs.declared.entry.Reply.{Reply}
use Rattle.sem_msg.specs.declared.entry.Entry.{Entry}
use Rattle.sem_msg.specs.declared.code.Code.TheVariants.{Ok as OkCode, Unbound, Rights, Range}
use Rattle.sem_msg.specs.Rows.{Endpoint}
use Rattle.sem_msg.specs.Uses.{allows, is_past_end, bound_passes}
use Rattle.sem_msg.specs.Setup.{Setup}
use Rattle.sem_machine.specs.Sides.{Side, row, endpoint, call_counted}
use Rattle.sem_machine.specs.Steps.{unless, unshown, answer}
use Rattle.sem_machine.specs.Calls.{memory_row, call_row}
use Rattle.sem_machine.specs.Machine.{World, side, next_call, local_step, local_entry, detail_of, input_of, entry_of, replied_vpe}
use Rattle.sem_machine.specs.Journals.{is_success}
use Rattle.sem_access.specs.declared.access.Access.{Access}
use Rattle.sem_access.specs.Accesses.{access_through, call_access, act_access, access_of}
use Rattle.sem_access.proofs.Placing.{access-is}

-- a memory has so many bytes from the offset on, with that right
abbrev pub Passes : ℕ → ℕ → ℕ → Object → Type 0
Passes right off len (Mem base size rights) = (off + len ≤ size) × (is_subset right rights ≡ true)
Passes right off len object = ⊥

-- through which endpoint an access went, and how far from the start of its memory
pub record GoesThrough (s : Side) (x : Access) : Type 0 where
  pub number : ℕ
  pub offset : ℕ
  pub bound : Endpoint
  pub at_endpoint : endpoint s x.vpe number ≡ Some bound
  pub through : x ≡ access_through x.entry x.vpe x.write offset x.len bound
  pub passes : Passes (cond x.write 2 1) offset x.len bound.object

-- where a row of three tests ends with success, none of them holds
three-tests : (a b c : Bool) (s : Side) →
    is_success (unless ((a, Unbound) ∷ (b, Rights) ∷ (c, Range) ∷ []) (λ code. answer code s) (answer OkCode s)).outcome.reply ≡ true →
    (a ≡ false) × (b ≡ false) × (c ≡ false)
unfolding unless
three-tests true b c s done = absurd (cc)
three-tests false true c s done = absurd (cc)
three-tests false false true s done = absurd (cc)
three-tests false false false s done = (refl, refl, refl)

memory-passes : (right off len : ℕ) (o : Object) → not (allows right o) ≡ false → is_past_end off len o ≡ false → Passes right off len o
memory-passes right off len (Mem base size rights) allowed within = (ltb-false size (off + len) within, not-false (is_subset right rights) allowed)
memory-passes right off len (Recv slots) allowed within = absurd (cc)
memory-passes right off len (Send gate label credits) allowed within = absurd (cc)
memory-passes right off len (Serv name) allowed within = absurd (cc)
memory-passes right off len (Sess service ident) allowed within = absurd (cc)

bound-passes : (right off len : ℕ) (o : Option Endpoint) → is_none o ≡ false → not (bound_passes (λ b. allows right b.object) o) ≡ false →
    bound_passes (λ b. is_past_end off len b.object) o ≡ false → (b : Endpoint) × (o ≡ Some b) × Passes right off len b.object
bound-passes right off len None bound allowed within = absurd (cc)
bound-passes right off len (Some b) bound allowed within = (b, refl, memory-passes right off len b.object allowed within)

row-passes : (s : Side) (v ep right off len : ℕ) → is_success (memory_row s v ep right off len).outcome.reply ≡ true →
    (b : Endpoint) × (endpoint s v ep ≡ Some b) × Passes right off len b.object
row-passes s v ep right off len done =
    let o : Option Endpoint = endpoint s v ep in
    let passed = three-tests (is_none o) (not (bound_passes (λ b. allows right b.object) o)) (bound_passes (λ b. is_past_end off len b.object) o) s done in
    bound-passes right off len o passed.0 passed.1 passed.2

-- an access through what an endpoint is bound to
through : (s : Side) (n v ep : ℕ) (w : Bool) (off len : ℕ) (x : Access) (b : Endpoint) → endpoint s v ep ≡ Some b → Passes (cond w 2 1) off len b.object →
    option_map (access_through n v w off len) (endpoint s v ep) ≡ Some x → GoesThrough s x
through s n v ep w off len x b bound passes is =
    let same : access_through n v w off len b ≡ x = same_Some (access_through n v w off len b) x (sym (ap (option_map (access_through n v w off len)) bound)
    ∙ is) in
    subst (GoesThrough s) same (record { number = ep; offset = off; bound = b; at_endpoint = bound; through = refl; passes = passes })

-- The access of a call, of an act, of an entry.

call-through : (T : Setup) (i : ℕ) (s t : Side) (n v : ℕ) (call : Call) (x : Access) → ((ep : ℕ) → endpoint t v ep ≡ endpoint s v ep) →
    is_success (call_row T i t v call).outcome.reply ≡ true → call_access s n v call ≡ Some x → GoesThrough s x
unfolding call_row
call-through T i s t n v (Read ep off len) x same done is =
    let passed = row-passes t v ep 1 off len done in
    through s n v ep false off len x passed.0 (sym (same ep) ∙ passed.1) passed.2 is
call-through T i s t n v (Write ep off len) x same done is =
    let passed = row-passes t v ep 2 off len done in
    through s n v ep true off len x passed.0 (sym (same ep) ∙ passed.1) passed.2 is
call-through T i s t n v (Derive a b c d e) x same done is = absurd (cc)
call-through T i s t n v (Gate a b c d) x same done is = absurd (cc)
call-through T i s t n v (Obtain a b c) x same done is = absurd (cc)
call-through T i s t n v (Delegate a b c) x same done is = absurd (cc)
call-through T i s t n v (OpenSession a b) x same done is = absurd (cc)
call-through T i s t n v (AskOffer a b c) x same done is = absurd (cc)
call-through T i s t n v (Revoke a) x same done is = absurd (cc)
call-through T i s t n v (Bind a b) x same done is = absurd (cc)
call-through T i s t n v (SendCall a b) x same done is = absurd (cc)
call-through T i s t n v (Credit a) x same done is = absurd (cc)
call-through T i s t n v Exit x same done is = absurd (cc)
call-through T i s t n v (Clear a) x same done is = absurd (cc)

-- a call of a VPE that has one left
next-through : (T : Setup) (i : ℕ) (s : Side) (n v : ℕ) (next : Option Call) (x : Access)
    → is_success (option_map_or (call_row T i (call_counted v s) v) next (unshown s)).outcome.reply ≡ true
    → act_access s n (Calls v) (option_map_or (λ call. Called (row s v).next_call call) next Nothing) ≡ Some x → GoesThrough s x
next-through T i s n v None x done is = absurd (cc)
next-through T i s n v (Some call) x done is = call-through T i s (call_counted v s) n v call x (λ ep. refl) done is

act-through : (T : Setup) (i : ℕ) (s : Side) (n : ℕ) (act : Act) (input : Option Message) (x : Access)
    → is_success (local_step T i s act input).outcome.reply ≡ true
    → act_access s n act (detail_of T s act input (local_step T i s act input).outcome) ≡ Some x → GoesThrough s x
unfolding local_step
act-through T i s n (Calls v) input x done is = next-through T i s n v (next_call T s v) x done is
act-through T i s n (Fetch from) input x done is = absurd (cc)
act-through T i s n Handle input x done is = absurd (cc)
act-through T i s n (Upcall v) input x done is = absurd (cc)
act-through T i s n (Resume v) input x done is = absurd (cc)
act-through T i s n (Flush to) input x done is = absurd (cc)
act-through T i s n (Kill v) input x done is = absurd (cc)

-- the code of a reply is the one that the step shows
shown-code : (v : ℕ) (o : Option ℕ) → option_map {T = Reply} (λ r. r.code) (option_map (λ code. record { vpe = v; code = code }) o) ≡ o
shown-code v None = refl
shown-code v (Some code) = refl

pub made-detail : (T : Setup) (W : World) (f : Event) →
    (entry_of T W f).detail
    ≡ detail_of T (side W f.kernel) f.act (input_of W f.kernel f.act) (local_step T f.kernel (side W f.kernel) f.act (input_of W f.kernel f.act)).outcome
unfolding entry_of local_entry
made-detail T W f = refl

made-reply : (T : Setup) (W : World) (f : Event) →
    option_map {T = Reply} (λ r. r.code) (entry_of T W f).reply ≡ (local_step T f.kernel (side W f.kernel) f.act (input_of W f.kernel f.act)).outcome.reply
unfolding entry_of local_entry
made-reply T W f = shown-code (replied_vpe f.act) (local_step T f.kernel (side W f.kernel) f.act (input_of W f.kernel f.act)).outcome.reply

-- the access of an entry that the machine made went through an endpoint
pub entry-through : (T : Setup) (W : World) (n : ℕ) (e : Entry) (x : Access) → e ≡ entry_of T W e.event → access_of W n e ≡ Some x →
    GoesThrough (side W e.event.kernel) x
entry-through T W n e x made is =
    let i : ℕ = e.event.kernel in
    let s : Side = side W i in
    let act : Act = e.event.act in
    let input : Option Message = input_of W i act in
    let o : Outcome = (local_step T i s act input).outcome in
    let parts = access-is W n e x is in
    let detail : e.detail ≡ detail_of T s act input o = ap (λ (f : Entry). f.detail) made ∙ made-detail T W e.event in
    let reply : option_map {T = Reply} (λ r. r.code) e.reply ≡ o.reply = ap (λ (f : Entry). option_map {T = Reply} (λ r. r.code) f.reply) made
    ∙ made-reply T W e.event in
    act-through T i s n act input x (sym (ap is_success reply) ∙ parts.0) (sym (ap (act_access s n act) detail) ∙ parts.1)
