-- What an entry that the machine makes reads or writes: its access is that of its transfer.
use Rattle.std.proofs.Common.{◌≡◌, ℕ, ◌<◌, Bool, true, false, cond, Option, Some, None, is_none, is_some, refl, sym, ◌∙◌, ap, subst}
use Rattle.std.specs.Option.{option_map, option_map_or}
use Rattle.std.specs.Prelude.{◌==◌, ◌&&◌, nat_lt}
use Rattle.std.proofs.lemmas.Bool.{and_parts, cond-true, eqb-true, ltb-true, lt-ltb}
use Rattle.sem_msg.specs.declared.limits.TheConstants.{ENDPOINTS}
use Rattle.sem_msg.specs.declared.call.Call.{Call}
use Rattle.sem_msg.specs.declared.call.Call.TheVariants.{Derive, Gate, Obtain, Delegate, OpenSession, AskOffer, Revoke, Bind, Read, Write, Send as SendCall}
use Rattle.sem_msg.specs.declared.call.Call.TheVariants.{Credit, Exit, Clear}
use Rattle.sem_msg.specs.declared.event.Act.{Act}
use Rattle.sem_msg.specs.declared.event.Act.TheVariants.{Call as Calls, Fetch, Handle, Upcall, Resume, Flush, Kill}
use Rattle.sem_msg.specs.declared.event.Event.{Event}
use Rattle.sem_msg.specs.declared.entry.Detail.{Detail}
use Rattle.sem_msg.specs.declared.entry.Detail.TheVariants.{Called, Carried, Asked, Nothing}
use Rattle.sem_msg.specs.declared.entry.Entry.{Entry}
use Rattle.sem_msg.specs.Calls.{IsEndpoint, IsValidCall}
use Rattle.sem_msg.specs.Versions.{most_vpes}
use Rattle.sem_msg.specs.Setup.{Setup, IsSetup}
use Rattle.sem_msg.specs.Lookups.{kernel_of}
use Rattle.sem_machine.specs.Sides.{Side, row, parked, endpoint, is_alive}
use Rattle.sem_machine.specs.Machine.{World, side, next_call, local_step, detail_of, input_of, is_enabled, is_locally_enabled, is_allowed, entry_of}
use Rattle.sem_sound.proofs.Stepping.{call-valid}
use Rattle.sem_access.specs.Accesses.{access_through, call_access, act_access, is_answered_at_once, access_of}
use Rattle.sem_access.specs.Transfers.{transfer_through, call_transfer, act_transfer, transfer_of, access_by}
use Rattle.sem_access.proofs.Passing.{made-detail}

-- The call of an entry.

-- a read or a write names an endpoint that there is
abbrev NamesEndpoint : Call → Type 0
NamesEndpoint (Read ep off len) = IsEndpoint ep
NamesEndpoint (Write ep off len) = IsEndpoint ep
NamesEndpoint call = Unit {0}

valid-names : (vpes : ℕ) (call : Call) → IsValidCall vpes call → NamesEndpoint call
valid-names vpes (Read ep off len) valid = valid.0
valid-names vpes (Write ep off len) valid = valid.0
valid-names vpes (Derive a b c d e) valid = tt
valid-names vpes (Gate a b c d) valid = tt
valid-names vpes (Obtain a b c) valid = tt
valid-names vpes (Delegate a b c) valid = tt
valid-names vpes (OpenSession a b) valid = tt
valid-names vpes (AskOffer a b c) valid = tt
valid-names vpes (Revoke a) valid = tt
valid-names vpes (Bind a b) valid = tt
valid-names vpes (SendCall a b) valid = tt
valid-names vpes (Credit a) valid = tt
valid-names vpes Exit valid = tt
valid-names vpes (Clear a) valid = tt

-- what is called is what the VPE calls next
called-next : (next : Option Call) (n index : ℕ) (call : Call) → option_map_or (λ c. Called n c) next Nothing ≡ Called index call → next ≡ Some call
called-next None n index call is = absurd (cc)
called-next (Some other) n index call is = let same : other ≡ call = cc in ap Some same

-- an event that is enabled is one of a kernel of the setup
pub enabled-kernel : (T : Setup) (W : World) (e : Event) → is_enabled T W e ≡ true → e.kernel < T.kernels
unfolding is_enabled
enabled-kernel T W e enabled =
    ltb-true e.kernel T.kernels (and_parts (nat_lt e.kernel T.kernels) (is_locally_enabled T e.kernel (side W e.kernel) e.act
    && is_allowed T W e.kernel e.act) enabled).0

enabled-here : (T : Setup) (W : World) (e : Event) → is_enabled T W e ≡ true → is_locally_enabled T e.kernel (side W e.kernel) e.act ≡ true
unfolding is_enabled
enabled-here T W e enabled =
    (and_parts (is_locally_enabled T e.kernel (side W e.kernel) e.act) (is_allowed T W e.kernel e.act)
    (and_parts (nat_lt e.kernel T.kernels) (is_locally_enabled T e.kernel (side W e.kernel) e.act && is_allowed T W e.kernel e.act) enabled).1).0

caller-kernel : (T : Setup) (i : ℕ) (s : Side) (v : ℕ) → is_locally_enabled T i s (Calls v) ≡ true → kernel_of T v ≡ i
unfolding is_locally_enabled
caller-kernel T i s v enabled =
    eqb-true (kernel_of T v) i (and_parts (kernel_of T v == i) (is_alive s v && (is_none (parked s v) && is_some (next_call T s v))) enabled).0

-- The access of a transfer.

module _ (T : Setup) (W : World) (n i v : ℕ) (here : kernel_of T v ≡ i) where
  through : (ep : ℕ) (write : Bool) (off len : ℕ) → IsEndpoint ep →
      access_by T W n (transfer_through v ep write off len) ≡ option_map (access_through n v write off len) (endpoint (side W i) v ep)
  through ep write off len is =
      ap (access_by T W n) (cond-true (nat_lt ep ENDPOINTS) (Some (record { vpe = v; ep = ep; write = write; off = off; len = len })) None
      (lt-ltb ep ENDPOINTS is))
      ∙ ap (λ k. option_map (access_through n v write off len) (endpoint (side W k) v ep)) here

  of-call : (call : Call) → NamesEndpoint call → access_by T W n (call_transfer v call) ≡ call_access (side W i) n v call
  of-call (Read ep off len) names = through ep false off len names
  of-call (Write ep off len) names = through ep true off len names
  of-call (Derive a b c d e) names = refl
  of-call (Gate a b c d) names = refl
  of-call (Obtain a b c) names = refl
  of-call (Delegate a b c) names = refl
  of-call (OpenSession a b) names = refl
  of-call (AskOffer a b c) names = refl
  of-call (Revoke a) names = refl
  of-call (Bind a b) names = refl
  of-call (SendCall a b) names = refl
  of-call (Credit a) names = refl
  of-call Exit names = refl
  of-call (Clear a) names = refl

module _ (T : Setup) (valid : IsSetup T) (W : World) (e : Entry) (enabled : is_enabled T W e.event ≡ true) (made : e ≡ entry_of T W e.event) where
  abbrev i : ℕ
  i = e.event.kernel

  call-names : (v index : ℕ) (call : Call) → e.event.act ≡ Calls v → e.detail ≡ Called index call → NamesEndpoint call
  call-names v index call act detail =
      let s : Side = side W i in
      let shown : detail_of T s (Calls v) (input_of W i e.event.act) (local_step T i s e.event.act (input_of W i e.event.act)).outcome ≡ Called index call =
      ap (λ a. detail_of T s a (input_of W i e.event.act) (local_step T i s e.event.act (input_of W i e.event.act)).outcome) (sym act)
      ∙ (sym (made-detail T W e.event) ∙ (sym (ap (λ (f : Entry). f.detail) made) ∙ detail)) in
      let next : next_call T s v ≡ Some call = called-next (next_call T s v) (row s v).next_call index call shown in
      valid-names (most_vpes T.version) call (call-valid T valid i (enabled-kernel T W e.event enabled) v (row s v).next_call call next)

  of-act : (n : ℕ) (a : Act) (d : Detail) → e.event.act ≡ a → e.detail ≡ d → access_by T W n (act_transfer a d) ≡ act_access (side W i) n a d
  of-act n (Calls v) (Called index call) act detail =
      of-call T W n i v (caller-kernel T i (side W i) v (subst (λ a. is_locally_enabled T i (side W i) a ≡ true) act (enabled-here T W e.event enabled))) call
      (call-names v index call act detail)
  of-act n (Calls v) (Carried peer message) act detail = refl
  of-act n (Calls v) (Asked asker answer) act detail = refl
  of-act n (Calls v) Nothing act detail = refl
  of-act n (Fetch k) d act detail = refl
  of-act n Handle d act detail = refl
  of-act n (Upcall v) d act detail = refl
  of-act n (Resume v) d act detail = refl
  of-act n (Flush k) d act detail = refl
  of-act n (Kill k) d act detail = refl

  -- the access of an entry is that of what it reads or writes
  pub access-made : (n : ℕ) → access_by T W n (transfer_of e) ≡ access_of W n e
  access-made n = from (is_answered_at_once e)
    where
      from : (b : Bool) → access_by T W n (cond b (act_transfer e.event.act e.detail) None) ≡ cond b (act_access (side W i) n e.event.act e.detail) None
      from true = of-act n e.event.act e.detail refl refl
      from false = refl
