-- The places in which a key is live: held capabilities, an ObtainOk or an accepting Ack in flight, and calls that are ready to install it.
-- Each change of a side adds no such place but those that it is handed.
use Rattle.std.proofs.Common.{◌≡◌, ℕ, ◌+◌, ◌≤◌, Bool, true, not, List, [], ◌∷◌, Option, Some, None, is_some, slice_get, refl, arith}
use Rattle.std.specs.Prelude.{if◌then◌else◌}
use Rattle.std.specs.List.{filter, sum_by, list_any}
use Rattle.std.proofs.lemmas.Bool.{cond_both}
use Rattle.std.proofs.lemmas.List.Sums.{sum_by-cons, sum_by-append}
use Rattle.sem_key.specs.KeyName.{KeyName, key_eq, key_lt}
use Rattle.sem_key.specs.KeyList.{with_key, without_key}
use Rattle.sem_key.specs.Capability.{Capability}
use Rattle.sem_key.specs.Lists.{change, put}
use Rattle.sem_key.specs.CapList.{is_marked_by}
use Rattle.sem_msg.specs.declared.message.Message.{Message}
use Rattle.sem_msg.specs.declared.state.Parked.{Parked}
use Rattle.sem_machine.specs.Sides.{Side, outbox, cap_added, send, sent, parked_as, unparked, with_inbox, parked}
use Rattle.sem_safety.proofs.Layers.{Facts, facts, IsKept}
use Rattle.sem_safety.proofs.Onwards.{AnyPlace}
use Rattle.sem_safety.proofs.OnTheWay.{message_weight, parked_weight, inbox_weight, outbox_weight, way_weight}
use Rattle.sem_safety.proofs.OnTheWay.{way-park, way-send, way-sent, message-none, inbox-none, parked-none}
use Rattle.sem_machine.proofs.Weighing.{of_option, weigh-map, weigh-parts, weigh-filter}

-- all held capabilities, and those with a parent
abbrev pub all_held : Option KeyName → Bool
all_held p = true

abbrev pub with_parent : Option KeyName → Bool
with_parent p = is_some p

-- places weigh nothing
abbrev nowhere : ℕ → ℕ → ℕ
nowhere v n = 0

module _ (k0 : KeyName) where
  -- one, if it is that key
  abbrev pub at_key : KeyName → ℕ
  at_key k = if key_eq k k0 then 1 else 0

  abbrev pub at_message : Message → ℕ
  at_message = message_weight at_key nowhere

  abbrev pub at_parked : Option Parked → ℕ
  at_parked = parked_weight at_key nowhere

  abbrev pub at_inbox : Option (ℕ × Message) → ℕ
  at_inbox = inbox_weight at_key nowhere

  abbrev pub at_messages : List Message → ℕ
  at_messages = outbox_weight at_key nowhere

  abbrev pub at_grant : Option (KeyName × KeyName) → ℕ
  at_grant None = 0
  at_grant (Some g) = at_key g.1

  -- another key
  abbrev pub Differs : KeyName → Type 0
  Differs k = at_key k ≡ 0

  abbrev pub OtherKeys : Facts
  OtherKeys = facts Differs AnyPlace

-- counts tells which held capabilities are counted, by their parents
module _ (k0 : KeyName) (counts : Option KeyName → Bool) where
  abbrev pub at_cap : Capability → ℕ
  at_cap c = if counts c.parent then at_key k0 c.key else 0

  abbrev pub at_side : Side → ℕ
  at_side s = sum_by at_cap s.caps + way_weight (at_key k0) nowhere s

  pub cap-less : (c : Capability) → at_cap c ≤ at_key k0 c.key
  cap-less c = cond_both (counts c.parent) (at_key k0 c.key) 0 (λ n. n ≤ at_key k0 c.key) (λ _. omega arith) (λ _. omega arith)

  -- Parked calls.

  pub lives-park : (s : Side) (v : ℕ) (p : Option Parked) → at_side (record s { parks = put None s.parks v p }) + (at_parked k0) (parked s v)
      ≡ at_side s + (at_parked k0) p
  lives-park s v p = let calls = way-park (at_key k0) nowhere s v p in omega (arith, calls)

  pub lives-parked : (s : Side) (v : ℕ) (p : Parked) → at_side (parked_as v p s) ≤ at_side s + (at_parked k0) (Some p)
  lives-parked s v p = let calls = lives-park s v (Some p) in omega (arith, calls)

  pub lives-unparked : (s : Side) (v : ℕ) → at_side (unparked v s) + (at_parked k0) (parked s v) ≡ at_side s
  lives-unparked s v = let calls = lives-park s v None in omega (arith, calls)

  -- Capabilities.

  pub lives-added : (s : Side) (c : Capability) → at_side (cap_added c s) ≡ at_side s + at_cap c
  lives-added s c =
      let parts = weigh-parts at_cap (λ x. key_lt x.key c.key) s.caps in
      let joined = sum_by-append at_cap (filter (λ x. key_lt x.key c.key) s.caps) (c ∷ filter (λ x. not (key_lt x.key c.key)) s.caps) in
      let first = sum_by-cons at_cap c (filter (λ x. not (key_lt x.key c.key)) s.caps) in
      omega (arith, parts, joined, first)

  lives-changed : (s : Side) (test : Capability → Bool) (f : Capability → Capability) → ((c : Capability) → at_cap (f c) ≡ at_cap c) →
      at_side (record s { caps = change test f s.caps }) ≡ at_side s
  lives-changed s test f keeps =
      let caps = weigh-map at_cap (λ x. if test x then f x else x) (λ x. cond_both (test x) (f x) x (λ y. at_cap y ≡ at_cap x) (λ _. keeps x) (λ _. refl))
      s.caps in
      omega (arith, caps)

  -- Messages.

  pub lives-send : (s : Side) (j : ℕ) (m : Message) → at_side (send j m s) ≡ at_side s + (at_message k0) m
  lives-send s j m = let way = way-send (at_key k0) nowhere s j m in omega (arith, way)

  pub lives-sent : (s : Side) (j : ℕ) → at_side (sent j s) + of_option (at_message k0) (slice_get (outbox s j) 0) ≡ at_side s
  lives-sent s j = let way = way-sent (at_key k0) nowhere s j in omega (arith, way)

  pub lives-inbox : (s : Side) (message : Option (ℕ × Message)) → at_side (with_inbox message s) + (at_inbox k0) s.inbox ≡ at_side s + (at_inbox k0) message
  lives-inbox s message = omega arith

  -- No change adds a place of this key, where all that it is handed is of others.
  pub lives : (m : ℕ) → IsKept (OtherKeys k0) (λ s. at_side s ≤ m)
  lives m = record {
    keeps_counted = λ s is v. is;
    keeps_drawn = λ s is v. is;
    keeps_slot = λ s is v sel state of_vpe. is;
    keeps_parked = λ s is v p here.
        let new = lives-parked s v p in
        let none = parked-none (at_key k0) nowhere (Differs k0) AnyPlace (λ k other. other) (λ v n any. refl) (Some p) here in omega (arith, is, new, none);
    keeps_unparked = λ s is v. let new = lives-unparked s v in omega (arith, is, new);
    keeps_asked = λ s is v a here. is;
    keeps_taken = λ s is v. is;
    keeps_buried = λ s is v ends. is;
    keeps_bound = λ s is v ep src c held unmarked here. is;
    keeps_rung = λ s is v ep f. is;
    keeps_added = λ s is c here childless unmarked. let new = lives-added s c in let less = cap-less c in omega (arith, is, new, here, less);
    keeps_linked = λ s is p k here. let new = lives-changed s (λ c. key_eq c.key p) (λ c. record c { children = with_key c.children k }) (λ c. refl) in
        omega (arith, is, new);
    keeps_unlinked = λ s is p k. let new = lives-changed s (λ c. key_eq c.key p) (λ c. record c { children = without_key c.children k }) (λ c. refl) in
        omega (arith, is, new);
    keeps_marked = λ s is ks j here. let new = lives-changed s (λ c. list_any (key_eq c.key) ks) (λ c. record c { mark = Some j }) (λ c. refl) in
        omega (arith, is, new);
    keeps_restored = λ s is k. let new = lives-changed s (λ c. key_eq c.key k) (λ c. record c { children = []; mark = None }) (λ c. refl) in
        omega (arith, is, new);
    keeps_removed = λ s is j. let new = weigh-filter at_cap (λ c. not (is_marked_by j c)) s.caps in omega (arith, is, new);
    keeps_pending_added = λ s is p pends. is;
    keeps_pending_removed = λ s is k. is;
    keeps_opened = λ s is root up waiters keep. is;
    keeps_changed = λ s is j f same. is;
    keeps_left = λ s is j v. is;
    keeps_closed = λ s is j. is;
    keeps_send = λ s is j msg here.
        let new = lives-send s j msg in
        let none = message-none (at_key k0) nowhere (Differs k0) AnyPlace (λ k other. other) (λ v n any. refl) msg here in omega (arith, is, new, none);
    keeps_sent = λ s is j. let new = lives-sent s j in omega (arith, is, new);
    keeps_inbox = λ s is message here.
        let new = lives-inbox s message in
        let none = inbox-none (at_key k0) nowhere (Differs k0) AnyPlace (λ k other. other) (λ v n any. refl) message here in omega (arith, is, new, none);
    of_link = λ s is c among k child. tt;
    spreads = λ p k here doomed. tt;
    asks = λ v n calls is. is;
    offers = λ k o is. tt;
    prepares = λ parent k object sel offered place handed. (tt, place);
    acks = λ parent k prepared offered is. is;
    of_pending = λ s is k p there acked. acked;
  }
