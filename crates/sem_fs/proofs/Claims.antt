-- What calls will yet take of a client, what is under way to it, and what it has taken: together never more than at the start.
use Rattle.std.proofs.Common.{◌≡◌, ℕ, zero, suc, ◌+◌, ◌≤◌, ◌<◌, ◌++◌, Bool, true, List, [], ◌∷◌, drop, filter, length, get_or, nat_lt, Option, Some, None}
use Rattle.std.proofs.Common.{slice_get, refl, sym, ap, ◌∙◌, subst, inl, inr, arith, eq-eqb}
use Rattle.std.specs.Prelude.{◌==◌, ◌&&◌, if◌then◌else◌}
use Rattle.std.specs.List.{sum_by}
use Rattle.std.proofs.lemmas.Bool.{cases_eq, cond_both, cond-true, cond-false, ne_eqb}
use Rattle.std.proofs.lemmas.List.Sums.{sum_by-cons, sum_by-append}
use Rattle.std.proofs.lemmas.Option.{same_Some}
use Rattle.sem_key.specs.declared.limits.TheConstants.{VPES}
use Rattle.sem_key.specs.KeyName.{KeyName}
use Rattle.sem_key.specs.Lists.{put}
use Rattle.sem_key.proofs.Puts.{get_or-put_same, get_or-put_other}
use Rattle.sem_msg.specs.declared.call.Call.{Call}
use Rattle.sem_msg.specs.declared.limits.TheConstants.{ASKS}
use Rattle.sem_msg.specs.declared.message.Message.{Message}
use Rattle.sem_msg.specs.declared.message.Message.TheVariants.{ObtainReq, ObtainOk, ObtainNo, DelegateReq, DelegatePrepared, DelegateNo, Ack, Orphan, RevokeReq}
use Rattle.sem_msg.specs.declared.message.Message.TheVariants.{RevokeDone, Unlink}
use Rattle.sem_msg.specs.declared.state.Ask.{Ask}
use Rattle.sem_msg.specs.declared.state.Ask.TheVariants.{Obtain as ObtainAsk, Delegate as DelegateAsk}
use Rattle.sem_msg.specs.declared.state.Slot.{Slot}
use Rattle.sem_msg.specs.declared.state.Slot.TheVariants.{Free, Held, Promised}
use Rattle.sem_msg.specs.Rows.{VpeRow, no_vpe}
use Rattle.sem_msg.specs.Setup.{Setup}
use Rattle.sem_msg.specs.Lookups.{calls_of}
use Rattle.sem_machine.specs.Sides.{Side, row, outbox, drawn, with_slot, asked, ask_taken, send}
use Rattle.sem_machine.specs.Sound.{bit}
use Rattle.sem_machine.proofs.Weighing.{weigh-put}
use Rattle.sem_safety.specs.Counts.{sum_to}
use Rattle.sem_fs.specs.Service.{GIVEN, gives_where, is_ask}

-- sums of functions

sum_to-same : (n : ℕ) (f g : ℕ → ℕ) → ((v : ℕ) → f v ≡ g v) → sum_to n f ≡ sum_to n g
sum_to-same zero f g same = refl
sum_to-same (suc n) f g same = let rest = sum_to-same n f g same in let one = same n in omega (arith, rest, one)

pub sum_to-apart : (n : ℕ) (f g : ℕ → ℕ) (w : ℕ) → n ≤ w → ((v : ℕ) → (v ≡ w → ⊥) → f v ≡ g v) → sum_to n f ≡ sum_to n g
sum_to-apart zero f g w low same = refl
sum_to-apart (suc n) f g w low same =
    let rest = sum_to-apart n f g w (omega (arith, low)) same in
    let one : f n ≡ g n = same n (λ at. omega (arith, at, low)) in
    omega (arith, rest, one)

pub sum_to-less : (n : ℕ) (f g : ℕ → ℕ) (w x : ℕ) → w < n → ((v : ℕ) → (v ≡ w → ⊥) → f v ≡ g v) → f w + x ≤ g w → sum_to n f + x ≤ sum_to n g
sum_to-less zero f g w x less same fewer = absurd (omega (arith, less))
sum_to-less (suc n) f g w x less same fewer = elim (cases_eq n w) [
  | inl at ↦
      let below : sum_to n f ≡ sum_to n g = sum_to-apart n f g w (omega (arith, at)) same in
      let here : f n + x ≤ g n = subst (λ m. f m + x ≤ g m) (sym at) fewer in
      omega (arith, below, here)
  | inr other ↦
      let rest = sum_to-less n f g w x (omega (arith, less, other)) same fewer in
      let one : f n ≡ g n = same n other in
      omega (arith, rest, one)
]

module _ (T : Setup) (w0 : ℕ) (m : ℕ → Bool) (k : ℕ) (h : VpeRow → ℕ) where
  -- what is taken of a client, read off its row, changes so
  pub record IsClaim : Type 0 where
    pub empty : h no_vpe ≡ 0
    pub asks : (r : VpeRow) (as' : List Ask) → h (record r { asks = as' }) ≡ h r
    pub counts : (r : VpeRow) → h (record r { next_call = r.next_call + 1 }) ≤ h r
    pub counts_ask : (r : VpeRow) (c : Call) → r.alive ≡ true → slice_get (calls_of T w0) r.next_call ≡ Some c → is_ask c ≡ true
        → h (record r { next_call = r.next_call + 1 }) + k ≤ h r
    pub draws : (r : VpeRow) → h (record r { next_number = r.next_number + 1 }) ≤ h r + k
    pub promises : (r : VpeRow) (sel : ℕ) → sel < GIVEN → h (record r { slots = put Free r.slots sel Promised }) ≤ h r
    pub takes : (r : VpeRow) (sel : ℕ) (x : Slot) → GIVEN ≤ sel → h (record r { slots = put Free r.slots sel x }) + k ≤ h r + bit (m sel)
    pub frees : (r : VpeRow) (sel : ℕ) → h (record r { slots = put Free r.slots sel Free }) ≤ h r
    pub holds : (r : VpeRow) (sel : ℕ) (q : KeyName) → get_or r.slots sel Free ≡ Promised → h (record r { slots = put Free r.slots sel (Held q) }) ≤ h r

  -- what the calls of a VPE will yet give
  abbrev pub remaining : ℕ → Bool → ℕ → ℕ
  remaining v alive n = if alive then length (filter (gives_where w0 m) (drop n (calls_of T v))) else 0

  abbrev pub of_row : ℕ → VpeRow → ℕ
  of_row v r = remaining v r.alive r.next_call

  abbrev pub of_ask : Ask → ℕ
  of_ask (ObtainAsk place target) = 0
  of_ask (DelegateAsk parent object sel) = bit (m sel)

  abbrev pub of_message : Message → ℕ
  of_message (DelegateReq parent object vpe sel) = bit ((vpe == w0) && m sel)
  of_message (ObtainReq place target) = 0
  of_message (ObtainOk parent key object) = 0
  of_message (ObtainNo place code) = 0
  of_message (DelegatePrepared parent key) = 0
  of_message (DelegateNo parent code) = 0
  of_message (Ack key accepted) = 0
  of_message (Orphan parent key) = 0
  of_message (RevokeReq key job) = 0
  of_message (RevokeDone job) = 0
  of_message (Unlink parent key) = 0

  abbrev pub of_messages : List Message → ℕ
  of_messages ms = sum_by of_message ms

  abbrev pub of_inbox : Option (ℕ × Message) → ℕ
  of_inbox None = 0
  of_inbox (Some q) = of_message q.1

  -- what was taken, and what stands in the queue
  abbrev pub taken : VpeRow → ℕ
  taken r = h r + sum_by of_ask r.asks

  abbrev pub of_rows : Side → ℕ
  of_rows t = sum_to VPES (λ v. of_row v (row t v))

  abbrev pub of_side : Side → ℕ
  of_side t = of_rows t + (taken (row t w0) + (sum_by of_messages t.outs + of_inbox t.inbox))

  module _ (C : IsClaim) where
    -- Rows.

    -- a row comes in for another, with no other calls
    abbrev with : Side → ℕ → VpeRow → Side
    with t w r = record t { vpes = put no_vpe t.vpes w r }

    rows-same : (t : Side) (w : ℕ) (r : VpeRow) → r.alive ≡ (row t w).alive → r.next_call ≡ (row t w).next_call → of_rows (with t w r) ≡ of_rows t
    rows-same t w r alive calls = sum_to-same VPES (λ v. of_row v (row (with t w r) v)) (λ v. of_row v (row t v)) (λ v. elim (cases_eq v w) [
      | inl same ↦
          let at : row (with t w r) v ≡ r = ap (λ u. get_or (put no_vpe t.vpes w r) u no_vpe) same ∙ get_or-put_same no_vpe t.vpes w r in
          let a : (row (with t w r) v).alive ≡ (row t v).alive = ap (λ (y : VpeRow). y.alive) at ∙ (alive ∙ ap (λ u. (row t u).alive) (sym same)) in
          let c : (row (with t w r) v).next_call ≡ (row t v).next_call = ap (λ (y : VpeRow). y.next_call) at
          ∙ (calls ∙ ap (λ u. (row t u).next_call) (sym same)) in
          ap (λ b. remaining v b (row (with t w r) v).next_call) a ∙ ap (remaining v (row t v).alive) c
      | inr other ↦ ap (of_row v) (get_or-put_other no_vpe t.vpes w v r other)
    ])

    -- whatever is added, where the parts are
    sum-here : (a a' b b' c x y : ℕ) → a ≡ a' → b + x ≤ b' + y → (a + (b + c)) + x ≤ (a' + (b' + c)) + y
    sum-here a a' b b' c x y same fewer = omega (arith, same, fewer)

    row-here : (t : Side) (w : ℕ) (r : VpeRow) (x y : ℕ) → w ≡ w0 → r.alive ≡ (row t w).alive → r.next_call ≡ (row t w).next_call →
        taken r + x ≤ taken (row t w) + y
        → of_side (with t w r) + x ≤ of_side t + y
    row-here t w r x y same alive calls fewer =
        let at : row (with t w r) w0 ≡ r = ap (λ u. get_or (put no_vpe t.vpes w r) u no_vpe) (sym same) ∙ get_or-put_same no_vpe t.vpes w r in
        let now : taken (row (with t w r) w0) + x ≤ taken (row t w0) + y =
        subst (λ n. n + x ≤ taken (row t w0) + y) (sym (ap taken at)) (subst (λ u. taken r + x ≤ taken (row t u) + y) same fewer) in
        sum-here (of_rows (with t w r)) (of_rows t) (taken (row (with t w r) w0)) (taken (row t w0)) (sum_by of_messages t.outs + of_inbox t.inbox) x y
        (rows-same t w r alive calls) now

    row-other : (t : Side) (w : ℕ) (r : VpeRow) → (w ≡ w0 → ⊥) → r.alive ≡ (row t w).alive → r.next_call ≡ (row t w).next_call →
        of_side (with t w r) ≡ of_side t
    row-other t w r other alive calls =
        let now : taken (row (with t w r) w0) ≡ taken (row t w0) = ap taken (get_or-put_other no_vpe t.vpes w w0 r (λ same. other (sym same))) in
        ap (λ n. n + (taken (row (with t w r) w0) + (sum_by of_messages t.outs + of_inbox t.inbox))) (rows-same t w r alive calls)
        ∙ ap (λ n. of_rows t + (n + (sum_by of_messages t.outs + of_inbox t.inbox))) now

    -- either way, by what it comes to at the client
    pub row-le : (t : Side) (w : ℕ) (r : VpeRow) (x y : ℕ) → r.alive ≡ (row t w).alive → r.next_call ≡ (row t w).next_call
        → (w ≡ w0 → taken r + x ≤ taken (row t w) + y) → of_side (with t w r) + (if w == w0 then x else 0) ≤ of_side t + (if w == w0 then y else 0)
    row-le t w r x y alive calls fewer = elim (cases_eq w w0) [
      | inl same ↦
          let one : (if w == w0 then x else 0) ≡ x = cond-true (w == w0) x 0 (eq-eqb w w0 same) in
          let two : (if w == w0 then y else 0) ≡ y = cond-true (w == w0) y 0 (eq-eqb w w0 same) in
          subst (λ n. of_side (with t w r) + n ≤ of_side t + (if w == w0 then y else 0)) (sym one)
          (subst (λ n. of_side (with t w r) + x ≤ of_side t + n) (sym two) (row-here t w r x y same alive calls (fewer same)))
      | inr other ↦
          let one : (if w == w0 then x else 0) ≡ 0 = cond-false (w == w0) x 0 (ne_eqb w w0 other) in
          let two : (if w == w0 then y else 0) ≡ 0 = cond-false (w == w0) y 0 (ne_eqb w w0 other) in
          let is = row-other t w r other alive calls in
          from (of_side (with t w r)) (of_side t) (if w == w0 then x else 0) (if w == w0 then y else 0) is one two
    ]
      where
        from : (a b c d : ℕ) → a ≡ b → c ≡ 0 → d ≡ 0 → a + c ≤ b + d
        from a b c d one two three = omega (arith, one, two, three)

    pub drawn-le : (t : Side) (w : ℕ) → of_side (drawn w t) + (if w == w0 then 0 else 0) ≤ of_side t + (if w == w0 then k else 0)
    drawn-le t w = row-le t w (record (row t w) { next_number = (row t w).next_number + 1 }) 0 k refl refl (λ here. let d = C.draws (row t w) in
        omega (arith, d))

    pub slot-le : (t : Side) (w sel : ℕ) (x : Slot) → (w ≡ w0 → h (record (row t w) { slots = put Free (row t w).slots sel x }) ≤ h (row t w))
        → of_side (with_slot w sel x t) + (if w == w0 then 0 else 0) ≤ of_side t + (if w == w0 then 0 else 0)
    slot-le t w sel x fewer = row-le t w (record (row t w) { slots = put Free (row t w).slots sel x }) 0 0 refl refl (λ here. let f = fewer here in
        omega (arith, f))

    -- something is given: a number is drawn and a selector taken
    pub takes-le : (t : Side) (w sel : ℕ) (x : Slot) → GIVEN ≤ sel → of_side (with_slot w sel x t) + (if w == w0 then k else 0) ≤ of_side t +
        (if w == w0 then bit (m sel) else 0)
    takes-le t w sel x given = row-le t w (record (row t w) { slots = put Free (row t w).slots sel x }) k (bit (m sel)) refl refl
        (λ here. let f = C.takes (row t w) sel x given in omega (arith, f))

    pub asked-le : (t : Side) (w : ℕ) (a : Ask) → of_side (asked w a t) + (if w == w0 then 0 else 0) ≤ of_side t + (if w == w0 then of_ask a else 0)
    asked-le t w a =
        let as' : List Ask = if nat_lt (length (row t w).asks) ASKS then (row t w).asks ++ a ∷ [] else (row t w).asks in
        row-le t w (record (row t w) { asks = as' }) 0 (of_ask a) refl refl (λ here.
        let same : h (record (row t w) { asks = as' }) ≡ h (row t w) = C.asks (row t w) as' in
        let more : sum_by of_ask as' ≤ sum_by of_ask (row t w).asks + of_ask a =
        cond_both (nat_lt (length (row t w).asks) ASKS) ((row t w).asks ++ a ∷ []) (row t w).asks
        (λ xs. sum_by of_ask xs ≤ sum_by of_ask (row t w).asks + of_ask a)
        (λ _. let all = sum_by-append of_ask (row t w).asks (a ∷ []) in let one = sum_by-cons of_ask a [] in omega (arith, all, one)) (λ _. omega arith) in
        omega (arith, same, more))

    pub taken-le : (t : Side) (w : ℕ) (a : Ask) → slice_get (row t w).asks 0 ≡ Some a
        → of_side (ask_taken w t) + (if w == w0 then of_ask a else 0) ≤ of_side t + (if w == w0 then 0 else 0)
    taken-le t w a head =
        row-le t w (record (row t w) { asks = drop 1 (row t w).asks }) (of_ask a) 0 refl refl (λ here.
        let same : h (record (row t w) { asks = drop 1 (row t w).asks }) ≡ h (row t w) = C.asks (row t w) (drop 1 (row t w).asks) in
        let less : sum_by of_ask (drop 1 (row t w).asks) + of_ask a ≤ sum_by of_ask (row t w).asks = first (row t w).asks head in
        omega (arith, same, less))
      where
        first : (xs : List Ask) → slice_get xs 0 ≡ Some a → sum_by of_ask (drop 1 xs) + of_ask a ≤ sum_by of_ask xs
        first [] none = absurd cc
        first (x ∷ xs) at =
            let one : of_ask x ≡ of_ask a = ap of_ask (same_Some x a at) in
            let all = sum_by-cons of_ask x xs in
            omega (arith, one, all)

    pub send-le : (t : Side) (j : ℕ) (q : Message) → of_side (send j q t) ≡ of_side t + of_message q
    send-le t j q =
        let outs = weigh-put of_messages [] refl t.outs j (outbox t j ++ q ∷ []) in
        let all = sum_by-append of_message (outbox t j) (q ∷ []) in
        let one = sum_by-cons of_message q [] in
        last (of_rows t) (taken (row t w0)) (of_inbox t.inbox) (sum_by of_messages (put [] t.outs j (outbox t j ++ q ∷ []))) (sum_by of_messages t.outs)
        (of_message q)
        (of_messages (outbox t j)) (of_messages (outbox t j ++ q ∷ [])) (sum_by of_message (q ∷ [])) outs all one
      where
        last : (a b c new old x y z u : ℕ) → new + y ≡ old + z → z ≡ y + u → u ≡ x + 0 → a + (b + (new + c)) ≡ (a + (b + (old + c))) + x
        last a b c new old x y z u outs all one = omega (arith, outs, all, one)
