-- The small changes of a side keep the tokens of an exchange while its call waits.
use Rattle.std.proofs.Common.{◌≡◌, ◌⊎◌, ℕ, ◌+◌, ◌≤◌, ◌<◌, true, false, not, ◌&&◌, List, [], ◌∷◌, ◌++◌, Option, Some, None, get_or, length, nat_lt, refl, sym}
use Rattle.std.proofs.Common.{ap, ◌∙◌, inl, inr, arith}
use Rattle.std.specs.Prelude.{◌==◌, if◌then◌else◌}
use Rattle.std.specs.List.{sum_by}
use Rattle.std.proofs.lemmas.Bool.{cases_eq, cond_both, cond-true, and_parts, eqb-true, lt-ltb, not-true}
use Rattle.std.proofs.lemmas.List.Sums.{sum_by-cons, sum_by_push}
use Rattle.sem_key.specs.KeyName.{KeyName, key_eq}
use Rattle.sem_key.specs.PlaceName.{PlaceName}
use Rattle.sem_msg.specs.declared.message.Target.{Target}
use Rattle.sem_key.specs.Lists.{put, in_turn}
use Rattle.sem_key.proofs.KeyTests.{key_eq-true}
use Rattle.sem_key.proofs.Puts.{get_or-put_same, get_or-put_other}
use Rattle.sem_msg.specs.declared.limits.TheConstants.{ASKS}
use Rattle.sem_msg.specs.declared.code.Code.{Code}
use Rattle.sem_msg.specs.Codes.{code_number}
use Rattle.sem_msg.specs.declared.message.Message.{Message}
use Rattle.sem_msg.specs.declared.message.Message.TheVariants.{ObtainNo, DelegateNo}
use Rattle.sem_msg.specs.declared.state.Ask.{Ask}
use Rattle.sem_msg.specs.declared.state.Ask.TheVariants.{Obtain as ObtainAsk, Delegate as DelegateAsk}
use Rattle.sem_msg.specs.declared.state.Parked.{Parked}
use Rattle.sem_msg.specs.declared.state.Parked.TheVariants.{ObtainWait, ObtainReady, ObtainCancelled, DelegateWait, DelegateReady, RevokeWait, Ready}
use Rattle.sem_msg.specs.declared.state.Slot.{Slot}
use Rattle.sem_msg.specs.declared.state.Slot.TheVariants.{Free}
use Rattle.sem_msg.specs.Rows.{VpeRow, no_vpe}
use Rattle.sem_msg.specs.Setup.{Setup}
use Rattle.sem_msg.specs.Lookups.{kernel_of, owner_of, place_owner}
use Rattle.sem_machine.specs.Sides.{Side, row, parked, with_slot, asked, send}
use Rattle.sem_machine.specs.Asks.{asker, waits_for, is_unawaited, promise_freed, call_refused, refusal_sent, ask_refused, is_obtain_wait, is_delegate_wait}
use Rattle.sem_machine.specs.Ends.{ask_ended}
use Rattle.sem_machine.proofs.Weighing.{weigh-put}
use Rattle.sem_revoke.specs.Exchanges.{Exchange, waiter, is_waiting, of_ask, of_message, of_row, of_rows, exchanging}
use Rattle.sem_revoke.specs.Exchanges.Exchange.{Obtaining, Delegating}
use Rattle.sem_revoke.specs.Scales.{sum_from, of_messages, of_inbox}
use Rattle.sem_revoke.proofs.Scaling.{side-send}
use Rattle.sem_revoke.proofs.Steady.{IsSteady}
use Rattle.sem_revoke.proofs.Viewing.{one-more}
use Rattle.sem_revoke.proofs.Waits.{parked-here, parked-other}
use Rattle.sem_key.specs.declared.object.Object.{Object}
use Rattle.sem_msg.specs.declared.code.Code.TheVariants.{Ok as OkCode, Dead}

-- an ask that counts is of the VPE that waits, and it waits for that ask
pub ask-asker : (x : Exchange) (a : Ask) → 1 ≤ of_ask x a → asker a ≡ waiter x
ask-asker (Obtaining v n) (ObtainAsk place target) some =
    eqb-true place.vpe v (and_parts (place.vpe == v) (place.number == n) (one-more ((place.vpe == v) && (place.number == n)) some)).0
ask-asker (Obtaining v n) (DelegateAsk parent object sel) some = absurd (omega (arith, some))
ask-asker (Delegating p) (ObtainAsk place target) some = absurd (omega (arith, some))
ask-asker (Delegating p) (DelegateAsk parent object sel) some = ap (λ (k : KeyName). k.vpe) (key_eq-true parent p (one-more (key_eq parent p) some))

pub ask-waits : (x : Exchange) (a : Ask) (p : Option Parked) → 1 ≤ of_ask x a → is_waiting x p ≡ waits_for a p
ask-waits (Obtaining v n) (ObtainAsk place target) p some =
    ap (λ m. is_obtain_wait m p)
    (sym (eqb-true place.number n (and_parts (place.vpe == v) (place.number == n) (one-more ((place.vpe == v) && (place.number == n)) some)).1))
ask-waits (Obtaining v n) (DelegateAsk parent object sel) p some = absurd (omega (arith, some))
ask-waits (Delegating q) (ObtainAsk place target) p some = absurd (omega (arith, some))
ask-waits (Delegating q) (DelegateAsk parent object sel) p some = ap (λ k. is_delegate_wait k p) (sym (key_eq-true parent q (one-more (key_eq parent q) some)))

-- a refusal counts as the ask does
pub no-obtain : (x : Exchange) (place : PlaceName) (target : Target) (code : ℕ) → of_ask x (ObtainAsk place target) ≡ of_message x (ObtainNo place code)
no-obtain (Obtaining v n) place target code = refl
no-obtain (Delegating p) place target code = refl

pub no-delegate : (x : Exchange) (parent : KeyName) (object : Object) (sel code : ℕ) →
    of_ask x (DelegateAsk parent object sel) ≡ of_message x (DelegateNo parent code)
no-delegate (Obtaining v n) parent object sel code = refl
no-delegate (Delegating p) parent object sel code = refl

-- no call that can go on, or waits for a job, waits for an exchange
pub ready-waits : (x : Exchange) (code : ℕ) → is_waiting x (Some (Ready code)) ≡ false
ready-waits (Obtaining v n) code = refl
ready-waits (Delegating p) code = refl

pub none-waits : (x : Exchange) → is_waiting x None ≡ false
none-waits (Obtaining v n) = refl
none-waits (Delegating p) = refl

pub revoke-waits : (x : Exchange) (j : ℕ) → is_waiting x (Some (RevokeWait j)) ≡ false
revoke-waits (Obtaining v n) j = refl
revoke-waits (Delegating p) j = refl

pub cancelled-waits : (x : Exchange) → is_waiting x (Some ObtainCancelled) ≡ false
cancelled-waits (Obtaining v n) = refl
cancelled-waits (Delegating p) = refl

pub obtained-waits : (x : Exchange) (k p : KeyName) (o : Object) (sel : ℕ) → is_waiting x (Some (ObtainReady k p o sel)) ≡ false
obtained-waits (Obtaining v n) k p o sel = refl
obtained-waits (Delegating q) k p o sel = refl

pub granting-waits : (x : Exchange) (p k : KeyName) → is_waiting x (Some (DelegateReady p k)) ≡ false
granting-waits (Obtaining v n) p k = refl
granting-waits (Delegating q) p k = refl

pub cases_some : (n : ℕ) → (n ≡ 0) ⊎ (1 ≤ n)
cases_some n = elim (cases_eq n 0) [ inl none ↦ inl none | inr some ↦ inr (omega (arith, some)) ]

-- i is a kernel, s0 its side before the step
module _ (x : Exchange) (T : Setup) (i : ℕ) (s0 : Side) where
  abbrev v : ℕ
  v = waiter x

  -- the waiter is of this kernel
  abbrev pub Home : Type 0
  Home = kernel_of T v ≡ i

  abbrev pub of_side' : Side → ℕ
  of_side' t = of_rows x t + (of_inbox (exchanging x) i t.inbox + sum_from (of_messages (exchanging x) i) 0 t.outs)

  -- it waits no more
  abbrev pub Loose : Side → Type 0
  Loose t = Home × (is_waiting x (parked t v) ≡ false)

  -- it waits as before, or has a token here; and there are at least m tokens
  abbrev pub Same : Side → Type 0
  Same t = (parked t v ≡ parked s0 v) × ((row t v).alive ≡ (row s0 v).alive)

  abbrev pub Held : ℕ → Side → Type 0
  Held m t = (m ≤ of_side' t) × (Home → Same t ⊎ ((1 ≤ of_side' t) × ((row t v).alive ≡ true)))

  abbrev pub Kept : ℕ → Side → Type 0
  Kept m t = Loose t ⊎ Held m t

  pub kept-start : Kept (of_side' s0) s0
  kept-start = inr (omega arith, λ home. inl (refl, refl))

  pub kept-less : (m n : ℕ) (t : Side) → n ≤ m → Kept m t → Kept n t
  kept-less m n t less (inl loose) = inl loose
  kept-less m n t less (inr held) = let few = held.0 in inr (omega (arith, few, less), held.1)

  pub home-or : Home ⊎ (Home → ⊥)
  home-or = cases_eq (kernel_of T v) i

  -- A row changed: it lives as before, and has no ask less.
  pub kept-row : (m : ℕ) (t : Side) (w : ℕ) (r : VpeRow) → (w ≡ v → Home → r.alive ≡ (row t w).alive) → of_row x (row t w) ≤ of_row x r → Kept m t →
      Kept m (record t { vpes = put no_vpe t.vpes w r })
  kept-row m t w r alive more (inl loose) = inl loose
  kept-row m t w r alive more (inr held) =
      let sum = weigh-put (of_row x) no_vpe refl t.vpes w r in
      let few = held.0 in
      inr (
        omega (arith, sum, more, few),
        λ home. elim (held.1 home) [
          | inl same ↦ inl (same.0, lives home ∙ same.1)
          | inr has ↦ (let some = has.0 in inr (omega (arith, sum, more, some), lives home ∙ has.1))
        ],
      )
    where
      lives : Home → (row (record t { vpes = put no_vpe t.vpes w r }) v).alive ≡ (row t v).alive
      lives home = elim (cases_eq v w) [
        | inl same ↦ ap (λ (y : VpeRow). y.alive) (ap (λ u. get_or (put no_vpe t.vpes w r) u no_vpe) same ∙ get_or-put_same no_vpe t.vpes w r)
            ∙ (alive (sym same) home ∙ ap (λ u. (row t u).alive) (sym same))
        | inr other ↦ ap (λ (y : VpeRow). y.alive) (get_or-put_other no_vpe t.vpes w v r other)
      ]

  pub kept-slot : (m : ℕ) (t : Side) (w sel : ℕ) (state : Slot) → Kept m t → Kept m (with_slot w sel state t)
  kept-slot m t w sel state is = kept-row m t w (record (row t w) { slots = put Free (row t w).slots sel state }) (λ same home. refl) (omega arith) is

  -- A call is parked, or is no more.
  pub kept-park : (m : ℕ) (t : Side) (w : ℕ) (p : Option Parked) → (w ≡ v → Home → is_waiting x p ≡ false) → Kept m t →
      Kept m (record t { parks = put None t.parks w p })
  kept-park m t w p waits is = elim (cases_eq v w) [
    | inl same ↦ elim home-or [
      | inl home ↦ inl (
        home,
        ap (λ u. is_waiting x (get_or (put None t.parks w p) u None)) same
            ∙ (ap (is_waiting x) (parked-here t w p) ∙ waits (sym same) home),
      )
      | inr away ↦ elim is [ inl loose ↦ absurd (away loose.0) | inr held ↦ inr (held.0, λ home. absurd (away home)) ]
    ]
    | inr other ↦ elim is [
      | inl loose ↦ inl (loose.0, ap (is_waiting x) (parked-other t w p v other) ∙ loose.1)
      | inr held ↦ inr (held.0, λ home. elim (held.1 home) [ inl same ↦ inl (parked-other t w p v other ∙ same.0, same.1) | inr has ↦ inr has ])
    ]
  ]

  -- A message is sent.
  pub kept-send : (m : ℕ) (t : Side) (j : ℕ) (q : Message) → Kept m t → Kept (m + of_message x q) (send j q t)
  kept-send m t j q (inl loose) = inl loose
  kept-send m t j q (inr held) =
      let sum = side-send (exchanging x) i t j q in
      let few = held.0 in
      inr (omega (arith, sum, few), λ home. elim (held.1 home) [ inl same ↦ inl same | inr has ↦ (let some = has.0 in inr (omega (arith, sum, some), has.1)) ])

  pub steady : (m : ℕ) → IsSteady (Kept m)
  steady m = record {
    caps = λ t cs thin is. is;
    restores = λ u t x was among keeps is. is;
    bound = λ t es is. is;
    jobs = λ t js less is. is;
    opens = λ t root up ws is. is;
    frees = λ t w sel is. kept-slot m t w sel Free is;
    wakes = λ t w is. kept-park m t w (Some (Ready (code_number OkCode))) (λ same home. ready-waits x (code_number OkCode)) is;
    sends = λ t j q loud is. kept-less (m + of_message x q) m (send j q t) (omega arith) (kept-send m t j q is);
  }

  -- An ask is put into a queue that has room.
  pub kept-asked : (m : ℕ) (t : Side) (w : ℕ) (a : Ask) → length (row t w).asks < ASKS → Kept m t → Kept (m + of_ask x a) (asked w a t)
  kept-asked m t w a room (inl loose) = inl loose
  kept-asked m t w a room (inr held) =
      let asks : List Ask = (row t w).asks in
      let more : List Ask = if nat_lt (length asks) ASKS then asks ++ a ∷ [] else asks in
      let push = sum_by_push (of_ask x) asks a in
      let all : sum_by (of_ask x) more ≡ sum_by (of_ask x) (asks ++ a ∷ []) =
      ap (sum_by (of_ask x)) (cond-true (nat_lt (length asks) ASKS) (asks ++ a ∷ []) asks (lt-ltb (length asks) ASKS room)) in
      let sum = weigh-put (of_row x) no_vpe refl t.vpes w (record (row t w) { asks = more }) in
      let few = held.0 in
      let rest = kept-row m t w (record (row t w) { asks = more }) (λ same home. refl) (omega (arith, all, push)) (inr held) in
      elim rest [
        | inl loose ↦ inl loose
        | inr still ↦ inr (omega (arith, sum, all, push, few), still.1)
      ]

  -- A call is refused.
  pub kept-refused : (m : ℕ) (code w : ℕ) (t : Side) → Kept m t → Kept m (call_refused code w t)
  kept-refused m code w t is = kept-park m (promise_freed (parked t w) w t) w (Some (Ready code)) (λ same home. ready-waits x code) (free (parked t w))
    where
      free : (p : Option Parked) → Kept m (promise_freed p w t)
      free None = is
      free (Some (ObtainWait number sel)) = kept-slot m t w sel Free is
      free (Some (ObtainReady key parent object sel)) = is
      free (Some ObtainCancelled) = is
      free (Some (DelegateWait parent)) = is
      free (Some (DelegateReady parent key)) = is
      free (Some (RevokeWait j)) = is
      free (Some (Ready number)) = is

  -- of the waiter itself: it waits no more
  pub loose-refused : (code w : ℕ) (t : Side) → w ≡ v → Home → Loose (call_refused code w t)
  loose-refused code w t same home = (
    home,
    ap (λ u. is_waiting x (parked (call_refused code w t) u)) (sym same)
        ∙ (ap (is_waiting x) (parked-here (promise_freed (parked t w) w t) w (Some (Ready code))) ∙ ready-waits x code),
  )

  -- An ask is refused: its token is in the refusal, or its waiter waits no more.
  pub kept-ask_refused : (m : ℕ) (code : Code) (a : Ask) (t : Side) → Kept m t → Kept (m + of_ask x a) (ask_refused T i code a t)
  kept-ask_refused m code a t is =
      cond_both (kernel_of T (asker a) == i) _ _ (Kept (m + of_ask x a)) (λ here. local (eqb-true (kernel_of T (asker a)) i here) (cases_some (of_ask x a)))
      (λ _. remote a)
    where
      local : kernel_of T (asker a) ≡ i → (of_ask x a ≡ 0) ⊎ (1 ≤ of_ask x a) → Kept (m + of_ask x a) (call_refused (code_number code) (asker a) t)
      local here (inl none) = kept-less m (m + of_ask x a) (call_refused (code_number code) (asker a) t) (omega (arith, none))
          (kept-refused m (code_number code) (asker a) t is)
      local here (inr some) = let who = ask-asker x a some in inl (loose-refused (code_number code) (asker a) t who (ap (kernel_of T) (sym who) ∙ here))

      remote : (b : Ask) → Kept (m + of_ask x b) (refusal_sent T code b t)
      remote (ObtainAsk place target) = let same = no-obtain x place target (code_number code) in
          kept-less (m + of_message x (ObtainNo place (code_number code))) (m + of_ask x (ObtainAsk place target))
          (refusal_sent T code (ObtainAsk place target) t) (omega (arith, same)) (kept-send m t (place_owner T place) (ObtainNo place (code_number code)) is)
      remote (DelegateAsk parent object sel) = let same = no-delegate x parent object sel (code_number code) in
          kept-less (m + of_message x (DelegateNo parent (code_number code))) (m + of_ask x (DelegateAsk parent object sel))
          (refusal_sent T code (DelegateAsk parent object sel) t) (omega (arith, same))
          (kept-send m t (owner_of T parent) (DelegateNo parent (code_number code)) is)

  -- An ask that is dropped is waited for by nobody.
  pub kept-dropped : (m : ℕ) (a : Ask) (t : Side) → is_unawaited T i t a ≡ true → Kept m t → Kept (m + of_ask x a) t
  kept-dropped m a t drops is = by (cases_some (of_ask x a))
    where
      by : (of_ask x a ≡ 0) ⊎ (1 ≤ of_ask x a) → Kept (m + of_ask x a) t
      by (inl none) = kept-less m (m + of_ask x a) t (omega (arith, none)) is
      by (inr some) =
          let who = ask-asker x a some in
          let parts = and_parts (kernel_of T (asker a) == i) (not (waits_for a (parked t (asker a)))) drops in
          inl (
            ap (kernel_of T) (sym who) ∙ eqb-true (kernel_of T (asker a)) i parts.0,
            ask-waits x a (parked t v) some
                ∙ (ap (λ u. waits_for a (parked t u)) (sym who) ∙ not-true (waits_for a (parked t (asker a))) parts.1),
          )

  pub kept-ask_ended : (m : ℕ) (a : Ask) (t : Side) → Kept m t → Kept (m + of_ask x a) (ask_ended T i a t)
  kept-ask_ended m a t is = cond_both (is_unawaited T i t a) t (ask_refused T i Dead a t) (Kept (m + of_ask x a)) (λ drops. kept-dropped m a t drops is)
      (λ _. kept-ask_refused m Dead a t is)

  pub kept-asks_ended : (asks : List Ask) (m : ℕ) (t : Side) → Kept m t → Kept (m + sum_by (of_ask x) asks) (in_turn (ask_ended T i) asks t)
  unfolding in_turn
  kept-asks_ended [] m t is = kept-less m (m + 0) t (omega arith) is
  kept-asks_ended (a ∷ rest) m t is =
      let all = sum_by-cons (of_ask x) a rest in
      kept-less (m + of_ask x a + sum_by (of_ask x) rest) (m + sum_by (of_ask x) (a ∷ rest)) (in_turn (ask_ended T i) rest (ask_ended T i a t))
      (omega (arith, all)) (kept-asks_ended rest (m + of_ask x a) (ask_ended T i a t) (kept-ask_ended m a t is))
