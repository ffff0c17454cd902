-- A reply goes to a VPE that made a call by then: only calls and resumes reply, and what resumes is parked, so calls of it were counted.
use Rattle.std.proofs.Common.{◌≡◌, ℕ, zero, suc, ◌+◌, ◌≤◌, ◌<◌, true, List, [], ◌∷◌, ◌++◌, length, slice_get, Option, Some, None, refl, sym, ap, ◌∙◌, subst}
use Rattle.std.proofs.Common.{inl, inr, arith, ◌⊎◌}
use Rattle.std.specs.Prelude.{◌==◌, nat_lt}
use Rattle.std.specs.List.{Contains}
use Rattle.std.specs.Option.{option_map, option_map_or}
use Rattle.std.proofs.lemmas.Bool.{cases_Bool, cases_eq, and_parts, eqb-true, true≢false}
use Rattle.std.proofs.lemmas.Option.{same_Some}
use Rattle.sem_key.proofs.Members.{Contains-head, Contains-tail}
use Rattle.sem_key.proofs.Puts.{get_or-put_other}
use Rattle.sem_msg.specs.declared.event.Act.{Act}
use Rattle.sem_msg.specs.declared.event.Act.TheVariants.{Call as Calls, Fetch, Handle, Upcall, Resume, Flush, Kill}
use Rattle.sem_msg.specs.declared.event.Event.{Event}
use Rattle.sem_msg.specs.declared.entry.Entry.{Entry}
use Rattle.sem_msg.specs.declared.entry.Reply.{Reply}
use Rattle.sem_msg.specs.declared.message.Message.{Message}
use Rattle.sem_msg.specs.declared.state.Parked.{Parked}
use Rattle.sem_msg.specs.Rows.{VpeRow, no_vpe}
use Rattle.sem_msg.specs.Setup.{Setup, IsSetup}
use Rattle.sem_msg.specs.Lookups.{kernel_of}
use Rattle.sem_machine.specs.Sides.{Side, row, parked, is_alive, call_counted, ask_taken, with_inbox}
use Rattle.sem_machine.specs.Steps.{Step, unshown}
use Rattle.sem_machine.specs.Calls.{call_row}
use Rattle.sem_machine.specs.Upcalls.{ask_decided, upcall_row}
use Rattle.sem_machine.specs.Handles.{handled}
use Rattle.sem_machine.specs.Resumes.{can_resume}
use Rattle.sem_machine.specs.Machine.{World, side, start, next_call, local_step, local_entry, input_of, is_enabled, is_locally_enabled, after, entry_of}
use Rattle.sem_machine.specs.Machine.{replied_vpe}
use Rattle.sem_machine.specs.Schedules.{IsRun, IsSchedule, run, world_after}
use Rattle.sem_machine.proofs.Folds.{option-keeps}
use Rattle.sem_safety.proofs.CarryingWorlds.{stepped}
use Rattle.sem_safety.proofs.Drawers.{side-after}
use Rattle.sem_safety.proofs.GoingOn.{entry-enabled, dead-later}
use Rattle.sem_safety.proofs.Skeleton.{decided-by}
use Rattle.sem_revoke.proofs.ExchangeWorlds.{start-unparked, side-elsewhere}
use Rattle.sem_revoke.proofs.ParkedCalls.{Steady, steady-call, steady-upcall, steady-resume, steady-handled, steady-ended}
use Rattle.sem_revoke.proofs.Parkers.{parkers-live}
use Rattle.sem_revoke.proofs.Replying.{one, replies-told}
use Rattle.sem_query.specs.Denials.{IsAt, IsCallAt}

-- Calls that are counted.

-- without a call of its own no call of the VPE is counted
module _ (T : Setup) (v : ℕ) where
  step-same : (i : ℕ) (s : Side) (a : Act) (input : Option Message) → (a ≡ Calls v → ⊥) →
      (row (local_step T i s a input).side v).next_call ≡ (row s v).next_call
  unfolding local_step
  step-same i s a input other = (by a refl).1
    where
      n : ℕ
      n = (row s v).next_call

      S : Steady v ⊥ n s
      S = (λ none. absurd none, refl)

      counted : (u : ℕ) → (u ≡ v → ⊥) → Steady v ⊥ n (call_counted u s)
      counted u differs = (
        λ none. absurd none,
        ap (λ (r : VpeRow). r.next_call) (get_or-put_other no_vpe s.vpes u v (record (row s u) { next_call = (row s u).next_call + 1 })
            (λ same. differs (sym same))),
      )

      inbox : (o : Option (ℕ × Message)) → Steady v ⊥ n (option_map_or (λ m. handled T i (with_inbox None s) m.0 m.1) o s)
      inbox None = S
      inbox (Some (from, m)) = steady-handled v ⊥ n T i (with_inbox None s) from m S

      by : (b : Act) → a ≡ b → Steady v ⊥ n (local_step T i s b input).side
      by (Calls u) act =
          let differs : u ≡ v → ⊥ = λ same. other (act ∙ ap Calls same) in
          option-keeps (λ (y : Step). Steady v ⊥ n y.side) (call_row T i (call_counted u s) u) (next_call T s u) (unshown s)
          (λ c there. steady-call v ⊥ n T i u c (call_counted u s) differs (counted u differs)) S
      by (Resume u) act = steady-resume v ⊥ n T u s (λ same none. none) S
      by (Upcall u) act = steady-upcall v ⊥ n T i u s S
      by (Kill u) act = steady-ended v ⊥ n T i u s (λ same none. none) S
      by Handle act = inbox s.inbox
      by (Fetch j) act = S
      by (Flush j) act = S

  after-same : (k : ℕ) (W : World) (e : Event) → (e.act ≡ Calls v → ⊥) → (row (side (after T W e) k) v).next_call ≡ (row (side W k) v).next_call
  after-same k W e other = elim (cases_eq k e.kernel) [
    | inl here ↦
        ap (λ j. (row (side (after T W e) j) v).next_call) here
        ∙ (ap (λ (t : Side). (row t v).next_call) (side-after T W e)
        ∙ (step-same e.kernel (side W e.kernel) e.act (input_of W e.kernel e.act) other
        ∙ ap (λ j. (row (side W j) v).next_call) (sym here)))
    | inr away ↦ ap (λ (t : Side). (row t v).next_call) (side-elsewhere T W e.kernel e.act k away)
  ]

  run-same : (k : ℕ) (J : List Entry) (W : World) → ((e : Entry) → Contains J e → e.event.act ≡ Calls v → ⊥) →
      (row (side (run T W J) k) v).next_call ≡ (row (side W k) v).next_call
  run-same k [] W none = refl
  run-same k (e ∷ es) W none = run-same k es (after T W e.event) (λ x among. none x (Contains-tail e es x among))
      ∙ after-same k W e.event (none e (Contains-head e es))

-- Calls that are found.

abbrev HasCall : List Entry → ℕ → Type 0
HasCall J v = (m : ℕ) × (m < length J) × IsCallAt J v m

call-later : (e : Entry) (es : List Entry) (v : ℕ) → HasCall es v → HasCall (e ∷ es) v
call-later e es v (m, within, call) = (suc m, omega arith, call)

pub is-call : (a : Act) (v : ℕ) → (a ≡ Calls v) ⊎ (a ≡ Calls v → ⊥)
is-call (Calls u) v = elim (cases_eq u v) [ inl same ↦ inl (ap Calls same) | inr other ↦ inr (λ is. other cc) ]
is-call (Resume u) v = inr (λ is. absurd cc)
is-call (Upcall u) v = inr (λ is. absurd cc)
is-call (Kill u) v = inr (λ is. absurd cc)
is-call Handle v = inr (λ is. absurd cc)
is-call (Fetch j) v = inr (λ is. absurd cc)
is-call (Flush j) v = inr (λ is. absurd cc)

-- a journal has a call of the VPE, or none of its entries is one
call-or-none : (J : List Entry) (v : ℕ) → HasCall J v ⊎ ((e : Entry) → Contains J e → e.event.act ≡ Calls v → ⊥)
call-or-none [] v = inr (λ e among act. omega (arith, among.1))
call-or-none (x ∷ xs) v = elim (is-call x.event.act v) [
  | inl call ↦ inl (0, omega arith, (x, refl, call))
  | inr other ↦ elim (call-or-none xs v) [
    | inl later ↦ inl (call-later x xs v later)
    | inr none ↦ inr (none-more none other)
  ]
]
  where
    none-more : ((e : Entry) → Contains xs e → e.event.act ≡ Calls v → ⊥) → (x.event.act ≡ Calls v → ⊥) → (e : Entry) → Contains (x ∷ xs) e →
        e.event.act ≡ Calls v → ⊥
    none-more none other e (zero, within, same) act = other (ap (λ (y : Entry). y.event.act) same ∙ act)
    none-more none other e (suc k, within, same) act = none e (k, omega arith, same) act

-- A reply.

-- an upcall answers no call
pub upcall-silent : (T : Setup) (i u : ℕ) (s : Side) → (upcall_row T i s u).outcome.reply ≡ None
unfolding upcall_row
upcall-silent T i u s = option-keeps (λ (x : Step). x.outcome.reply ≡ None) (λ a. ask_decided T i u a (ask_taken u s)) (slice_get (row s u).asks 0) (unshown s)
    (λ a there. decided-by (λ (x : Step). x.outcome.reply ≡ None) (λ w x is. is) (λ w x is. is) (λ w x is. is) T i u a (ask_taken u s)
    (record {
      nothing = refl;
      refused = λ code. refl;
      given = λ place target p of. refl;
      here = λ parent object sel of. refl;
      prepared = λ parent object sel of. refl;
    }))
    refl

-- the reply of an act, if it makes one
abbrev reply_of : Act → Option ℕ → Option Reply
reply_of act o = option_map (λ code. record { vpe = replied_vpe act; code = code }) o

replied : (act : Act) (o : Option ℕ) (r : Reply) → reply_of act o ≡ Some r → r.vpe ≡ replied_vpe act
replied act None r is = absurd cc
replied act (Some code) r is = ap (λ (x : Reply). x.vpe) (sym (same_Some _ r is))

silent : (act : Act) (o : Option ℕ) (r : Reply) → reply_of act o ≡ Some r → o ≡ None → ⊥
silent act None r is none = absurd cc
silent act (Some code) r is none = absurd cc

some-parked : (o : Option Parked) → can_resume o ≡ true → (p : Parked) × (o ≡ Some p)
some-parked None can = absurd cc
some-parked (Some p) can = (p, refl)

module _ (T : Setup) (valid : IsSetup T) where
  -- a VPE whose parked call can go on has made a call
  parked-called : (J : List Entry) → IsSchedule T J → (v : ℕ) → can_resume (parked (side (world_after T J) (kernel_of T v)) v) ≡ true → HasCall J v
  unfolding IsRun
  parked-called J runs v can = elim (call-or-none J v) [
    | inl call ↦ call
    | inr none ↦
        let k : ℕ = kernel_of T v in
        let some = some-parked (parked (side (world_after T J) k) v) can in
        let alive : is_alive (side (world_after T J) k) v ≡ true = parkers-live T valid J runs k v some.0 some.1 in
        let first : is_alive (side (world_after T []) k) v ≡ true = first-alive k alive in
        let now = replies-told T valid J runs v alive in
        let then' = replies-told T valid [] tt v first in
        let parks : one (parked (side (world_after T J) k) v) ≡ 1 = ap one some.1 in
        let unparked : one (parked (side (world_after T []) k) v) ≡ 0 = ap one (start-unparked T k v) in
        let same = run-same T v k J (start T) none in
        absurd (omega (arith, now, then', parks, unparked, same))
  ]
    where
      first-alive : (k : ℕ) → is_alive (side (world_after T J) k) v ≡ true → is_alive (side (world_after T []) k) v ≡ true
      first-alive k alive = elim (cases_Bool (is_alive (side (world_after T []) k) v)) [
        | inl lives ↦ lives
        | inr dead ↦ absurd (true≢false (sym alive ∙ dead-later T [] J k v dead))
      ]

  module _ (J before later : List Entry) (e : Entry) (runs : IsSchedule T J) (parts : J ≡ before ++ e ∷ later) (r : Reply) (replies : e.reply ≡ Some r) where
    abbrev W : World
    W = world_after T before

    at : IsSchedule T before × (is_enabled T W e.event ≡ true) × (e ≡ entry_of T W e.event)
    at = entry-enabled T before (start T) e later (subst (IsSchedule T) parts runs)

    locally : is_locally_enabled T e.event.kernel (side W e.event.kernel) e.event.act ≡ true
    unfolding is_enabled
    locally = (and_parts (is_locally_enabled T e.event.kernel (side W e.event.kernel) e.event.act) _ (and_parts (nat_lt e.event.kernel T.kernels) _ at.1).1).0

    told : reply_of e.event.act (stepped T W e.event).outcome.reply ≡ Some r
    unfolding entry_of local_entry
    told = sym (ap (λ (y : Entry). y.reply) at.2) ∙ replies

    resumer : (u : ℕ) → e.event.act ≡ Resume u → (kernel_of T u ≡ e.event.kernel) × (can_resume (parked (side W e.event.kernel) u) ≡ true)
    unfolding is_locally_enabled
    resumer u act =
        let is = subst (λ a. is_locally_enabled T e.event.kernel (side W e.event.kernel) a ≡ true) act locally in
        let one' = and_parts (kernel_of T u == e.event.kernel) _ is in
        (eqb-true (kernel_of T u) e.event.kernel one'.0, one'.1)

    -- the entry is a call of the VPE, or one before it is
    pub called-by : (e.event.act ≡ Calls r.vpe) ⊎ HasCall before r.vpe
    unfolding local_step
    called-by = by e.event.act refl
      where
        quiet : (a : Act) → e.event.act ≡ a → (local_step T e.event.kernel (side W e.event.kernel) a (input_of W e.event.kernel a)).outcome.reply ≡ None → ⊥
        quiet a act none =
            silent e.event.act (stepped T W e.event).outcome.reply r told
            (ap (λ b. (local_step T e.event.kernel (side W e.event.kernel) b (input_of W e.event.kernel b)).outcome.reply) act ∙ none)

        by : (a : Act) → e.event.act ≡ a → (e.event.act ≡ Calls r.vpe) ⊎ HasCall before r.vpe
        by (Calls u) act = inl (act ∙ ap Calls (sym (replied e.event.act (stepped T W e.event).outcome.reply r told ∙ ap replied_vpe act)))
        by (Resume u) act =
            let who : r.vpe ≡ u = replied e.event.act (stepped T W e.event).outcome.reply r told ∙ ap replied_vpe act in
            let can = resumer u act in
            inr (subst (HasCall before) (sym who) (parked-called before at.0 u (subst (λ k. can_resume (parked (side W k) u) ≡ true) (sym can.0) can.1)))
        by (Upcall u) act = absurd (quiet (Upcall u) act (upcall-silent T e.event.kernel u (side W e.event.kernel)))
        by Handle act = absurd (quiet Handle act refl)
        by (Fetch j) act = absurd (quiet (Fetch j) act refl)
        by (Flush j) act = absurd (quiet (Flush j) act refl)
        by (Kill u) act = absurd (quiet (Kill u) act refl)

  -- Along the journal.

  before-at : (J : List Entry) (n : ℕ) (e : Entry) → IsAt J n e → (before : List Entry) × (later : List Entry) × (J ≡ before ++ e ∷ later) × (length before ≡ n)
  before-at [] n e at = absurd cc
  before-at (x ∷ xs) zero e at = ([], xs, ap (λ y. y ∷ xs) (same_Some x e at), refl)
  before-at (x ∷ xs) (suc n) e at = let rest = before-at xs n e at in (x ∷ rest.0, rest.1, ap (λ ys. x ∷ ys) rest.2, ap suc rest.3)

  call-first : (before later : List Entry) (v m : ℕ) → IsCallAt before v m → IsCallAt (before ++ later) v m
  call-first [] later v m (x, at, act) = absurd cc
  call-first (b ∷ bs) later v zero call = call
  call-first (b ∷ bs) later v (suc m) call = call-first bs later v m call

  -- a reply has a call of its VPE at or before it
  pub reply-called : (J : List Entry) → IsSchedule T J → (n : ℕ) (e : Entry) (r : Reply) → IsAt J n e → e.reply ≡ Some r →
      (b : ℕ) × (b ≤ n) × IsCallAt J r.vpe b
  reply-called J runs n e r at replies =
      let parts = before-at J n e at in
      elim (called-by J parts.0 parts.1 e runs parts.2 r replies) [
        | inl act ↦ (n, omega arith, (e, at, act))
        | inr (m, within, call) ↦ (
          m,
          omega (arith, parts.3, within),
          subst (λ K. IsCallAt K r.vpe m) (sym parts.2) (call-first parts.0 (e ∷ parts.1) r.vpe m call),
        )
      ]
