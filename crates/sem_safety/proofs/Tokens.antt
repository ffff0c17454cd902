-- The tokens of a place: an ask, an ObtainReq or a DelegatePrepared in flight, or a call that is ready to grant, which name it for a key that is not made yet.
-- Each change of a side adds no token but those that it is handed.
use Rattle.std.proofs.Common.{◌≡◌, ℕ, ◌+◌, ◌≤◌, ◌&&◌, false, List, [], ◌∷◌, ◌++◌, length, drop, Option, Some, None}
use Rattle.std.proofs.Common.{slice_get, refl, arith}
use Rattle.std.specs.Prelude.{◌==◌, nat_lt, if◌then◌else◌}
use Rattle.std.specs.List.{sum_by}
use Rattle.std.proofs.lemmas.Bool.{cond_both}
use Rattle.std.proofs.lemmas.List.Sums.{sum_by_push}
use Rattle.sem_key.specs.KeyName.{KeyName}
use Rattle.sem_key.specs.Lists.{put}
use Rattle.sem_msg.specs.declared.limits.TheConstants.{ASKS}
use Rattle.sem_msg.specs.declared.message.Message.{Message}
use Rattle.sem_msg.specs.declared.state.Ask.{Ask}
use Rattle.sem_msg.specs.declared.state.Ask.TheVariants.{Obtain as ObtainAsk, Delegate as DelegateAsk}
use Rattle.sem_msg.specs.declared.state.Parked.{Parked}
use Rattle.sem_msg.specs.declared.state.Slot.TheVariants.{Free}
use Rattle.sem_msg.specs.Rows.{VpeRow, no_vpe}
use Rattle.sem_machine.specs.Sides.{Side, row, outbox, send, sent, asked, ask_taken, parked_as, unparked, with_inbox, parked}
use Rattle.sem_safety.proofs.Layers.{Facts, facts, AsksFor, IsKept}
use Rattle.sem_safety.proofs.Onwards.{Any}
use Rattle.sem_safety.proofs.OnTheWay.{message_weight, parked_weight, inbox_weight, outbox_weight, way_weight}
use Rattle.sem_safety.proofs.OnTheWay.{way-park, way-send, way-sent, message-none, inbox-none, parked-none}
use Rattle.sem_machine.proofs.Weighing.{of_option, weigh-put, weigh-drop}

-- keys weigh nothing
abbrev weightless : KeyName → ℕ
weightless k = 0

module _ (v0 n0 : ℕ) where
  -- one, if it is that place
  abbrev pub at_place : ℕ → ℕ → ℕ
  at_place v n = if (v == v0) && (n == n0) then 1 else 0

  abbrev pub of_key : KeyName → ℕ
  of_key k = at_place k.vpe k.number

  abbrev pub of_message : Message → ℕ
  of_message = message_weight weightless at_place

  abbrev pub of_parked : Option Parked → ℕ
  of_parked = parked_weight weightless at_place

  abbrev pub of_ask : Ask → ℕ
  of_ask (ObtainAsk place target) = at_place place.vpe place.number
  of_ask (DelegateAsk parent object sel) = 0

  abbrev pub of_row : VpeRow → ℕ
  of_row r = sum_by of_ask r.asks

  abbrev pub of_inbox : Option (ℕ × Message) → ℕ
  of_inbox = inbox_weight weightless at_place

  abbrev pub of_messages : List Message → ℕ
  of_messages = outbox_weight weightless at_place

  abbrev pub of_side : Side → ℕ
  of_side s = sum_by of_row s.vpes + way_weight weightless at_place s

  abbrev pub of_grant : Option (KeyName × KeyName) → ℕ
  of_grant None = 0
  of_grant (Some g) = of_key g.1

  -- another place
  abbrev pub Apart : ℕ → ℕ → Type 0
  Apart v n = at_place v n ≡ 0

  abbrev pub Others : Facts
  Others = facts Any Apart

  -- What is of no other place has no token of this one.
  ask-none : (a : Ask) → AsksFor Others a → of_ask a ≡ 0
  ask-none (ObtainAsk place target) here = here
  ask-none (DelegateAsk parent object sel) here = refl

  -- Rows.

  row-put : (s : Side) (v : ℕ) (r : VpeRow) → sum_by of_row (put no_vpe s.vpes v r) + of_row (row s v) ≡ sum_by of_row s.vpes + of_row r
  row-put s v r = weigh-put of_row no_vpe refl s.vpes v r

  -- a row comes in for another
  pub side-row : (s : Side) (v : ℕ) (r : VpeRow) → of_side (record s { vpes = put no_vpe s.vpes v r }) + of_row (row s v) ≡ of_side s + of_row r
  side-row s v r = let rows = row-put s v r in omega (arith, rows)

  -- it is no heavier
  pub side-lighter : (s : Side) (v : ℕ) (r : VpeRow) → of_row r ≤ of_row (row s v) → of_side (record s { vpes = put no_vpe s.vpes v r }) ≤ of_side s
  side-lighter s v r less = let rows = side-row s v r in omega (arith, rows, less)

  -- a parked call, or none, comes in for another
  side-park : (s : Side) (v : ℕ) (p : Option Parked) → of_side (record s { parks = put None s.parks v p }) + of_parked (parked s v) ≡ of_side s + of_parked p
  side-park s v p = let calls = way-park weightless at_place s v p in omega (arith, calls)

  -- a parked call comes in for another, or for none
  pub side-parked : (s : Side) (v : ℕ) (p : Parked) → of_side (parked_as v p s) ≤ of_side s + of_parked (Some p)
  side-parked s v p = let calls = side-park s v (Some p) in omega (arith, calls)

  -- a parked call is taken out
  pub side-unparked : (s : Side) (v : ℕ) → of_side (unparked v s) + of_parked (parked s v) ≡ of_side s
  side-unparked s v = let calls = side-park s v None in omega (arith, calls)

  -- an ask, if there is room for it
  pub side-asked : (s : Side) (v : ℕ) (a : Ask) → of_side (asked v a s) ≤ of_side s + of_ask a
  side-asked s v a =
      let asks : List Ask = (row s v).asks in
      let more : List Ask = if nat_lt (length asks) ASKS then asks ++ a ∷ [] else asks in
      let push = sum_by_push of_ask asks a in
      let sum : sum_by of_ask more ≤ sum_by of_ask asks + of_ask a =
      cond_both (nat_lt (length asks) ASKS) (asks ++ a ∷ []) asks (λ xs. sum_by of_ask xs ≤ sum_by of_ask asks + of_ask a) (λ _. omega (arith, push))
      (λ _. omega arith) in
      let rows = side-row s v (record (row s v) { asks = more }) in
      omega (arith, rows, sum)

  -- the oldest ask is taken out
  pub side-taken : (s : Side) (v : ℕ) → of_side (ask_taken v s) + of_option of_ask (slice_get (row s v).asks 0) ≡ of_side s
  side-taken s v =
      let rows = side-row s v (record (row s v) { asks = drop 1 (row s v).asks }) in
      let asks = weigh-drop of_ask (row s v).asks in
      omega (arith, rows, asks)

  -- Messages.

  pub side-send : (s : Side) (j : ℕ) (m : Message) → of_side (send j m s) ≡ of_side s + of_message m
  side-send s j m = let way = way-send weightless at_place s j m in omega (arith, way)

  pub side-sent : (s : Side) (j : ℕ) → of_side (sent j s) + of_option of_message (slice_get (outbox s j) 0) ≡ of_side s
  side-sent s j = let way = way-sent weightless at_place s j in omega (arith, way)

  pub side-inbox : (s : Side) (message : Option (ℕ × Message)) → of_side (with_inbox message s) + of_inbox s.inbox ≡ of_side s + of_inbox message
  side-inbox s message = omega arith

  -- No change adds a token of this place, where all that it is handed is of others.
  pub weighed : (m : ℕ) → IsKept Others (λ s. of_side s ≤ m)
  weighed m = record {
    keeps_counted = λ s is v. let new = side-lighter s v (record (row s v) { next_call = (row s v).next_call + 1 }) (omega arith) in omega (arith, is, new);
    keeps_drawn = λ s is v. let new = side-lighter s v (record (row s v) { next_number = (row s v).next_number + 1 }) (omega arith) in omega (arith, is, new);
    keeps_slot = λ s is v sel state of_vpe. let new = side-lighter s v (record (row s v) { slots = put Free (row s v).slots sel state }) (omega arith) in
        omega (arith, is, new);
    keeps_parked = λ s is v p here.
        let new = side-parked s v p in
        let none = parked-none weightless at_place Any Apart (λ k any. refl) (λ v n other. other) (Some p) here in omega (arith, is, new, none);
    keeps_unparked = λ s is v. let new = side-unparked s v in omega (arith, is, new);
    keeps_asked = λ s is v a here.
        let new = side-asked s v a in
        let none = ask-none a here in omega (arith, is, new, none);
    keeps_taken = λ s is v. let new = side-taken s v in omega (arith, is, new);
    keeps_buried = λ s is v ends. let new = side-lighter s v (record (row s v) { alive = false; asks = [] }) (omega arith) in omega (arith, is, new);
    keeps_bound = λ s is v ep src c held unmarked here. is;
    keeps_rung = λ s is v ep f. is;
    keeps_added = λ s is c here childless unmarked. is;
    keeps_linked = λ s is p k here. is;
    keeps_unlinked = λ s is p k. is;
    keeps_marked = λ s is ks j here. is;
    keeps_restored = λ s is k. is;
    keeps_removed = λ s is j. is;
    keeps_pending_added = λ s is p pends. is;
    keeps_pending_removed = λ s is k. is;
    keeps_opened = λ s is root up waiters keep. is;
    keeps_changed = λ s is j f same. is;
    keeps_left = λ s is j v. is;
    keeps_closed = λ s is j. is;
    keeps_send = λ s is j msg here.
        let new = side-send s j msg in
        let none = message-none weightless at_place Any Apart (λ k any. refl) (λ v n other. other) msg here in omega (arith, is, new, none);
    keeps_sent = λ s is j. let new = side-sent s j in omega (arith, is, new);
    keeps_inbox = λ s is message here.
        let new = side-inbox s message in
        let none = inbox-none weightless at_place Any Apart (λ k any. refl) (λ v n other. other) message here in omega (arith, is, new, none);
    of_link = λ s is c among k child. tt;
    spreads = λ p k here doomed. tt;
    asks = λ v n calls is. is;
    offers = λ k o is. tt;
    prepares = λ parent k object sel offered place handed. (tt, place);
    acks = λ parent k prepared offered is. is;
    of_pending = λ s is k p there acked. acked;
  }
