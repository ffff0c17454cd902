-- A message in flight stays in flight, until it is handled.
use Rattle.std.proofs.Common.{◌≡◌, ◌⊎◌, ℕ, ◌++◌, true, List, [], ◌∷◌, drop, get_or, Option, Some, None, is_none, is_some, slice_get, refl, sym, ap, ◌∙◌, subst}
use Rattle.std.proofs.Common.{inl, inr, eq-eqb}
use Rattle.std.specs.Prelude.{◌==◌}
use Rattle.std.specs.List.{Contains}
use Rattle.std.specs.Option.{option_map, option_map_or}
use Rattle.std.proofs.lemmas.Bool.{cases_eq, cases_Bool, cond-true, cond-false, eqb-true, true≢false}
use Rattle.std.proofs.lemmas.Option.{same_Some}
use Rattle.std.proofs.lemmas.List.Elements.{Contains-append_left, Contains-append_right, Contains-append_cases}
use Rattle.sem_key.proofs.Members.{Contains-nil, Contains-cons_cases, Contains-head}
use Rattle.sem_msg.specs.declared.entry.Entry.{Entry}
use Rattle.sem_msg.specs.declared.event.Act.{Act}
use Rattle.sem_msg.specs.declared.event.Act.TheVariants.{Call as Calls, Fetch, Handle, Upcall, Resume, Flush, Kill}
use Rattle.sem_msg.specs.declared.message.Message.{Message}
use Rattle.sem_msg.specs.Setup.{Setup, IsSetup}
use Rattle.sem_machine.specs.Sides.{Side, outbox, sent, with_inbox}
use Rattle.sem_machine.specs.Machine.{World, side, local_step, link, with_side, with_link, start, after, event, is_enabled, is_locally_enabled, is_allowed}
use Rattle.sem_machine.specs.Schedules.{IsSchedule, world_after}
use Rattle.sem_machine.specs.Journals.{grants}
use Rattle.sem_machine.specs.Living.{way, fetched_from}
use Rattle.sem_safety.proofs.CarryingWorlds.{stepped}
use Rattle.sem_safety.proofs.GoingOn.{run-append}
use Rattle.sem_safety.proofs.Worlds.{way-fetched, way-flushed}
use Rattle.sem_revoke.proofs.Arriving.{flush-some}
use Rattle.sem_revoke.proofs.Lasting.{at, H, R, told, loses, losing, all-caused, side-here, side-other}
use Rattle.sem_revoke.proofs.Losing.{Boxes, Grows, event-grows}
use Rattle.sem_revoke.proofs.Revoking.{enabled-parts, fetch-empty}

list-front : (ms : List Message) (m : Message) → slice_get ms 0 ≡ Some m → ms ≡ m ∷ drop 1 ms
list-front [] m none = absurd cc
list-front (x ∷ xs) m some = ap (λ y. y ∷ xs) (same_Some x m some)

-- what was fetched from a kernel is in the inbox
fetched-is : (a : ℕ) (o : Option (ℕ × Message)) (m : Message) → Contains (fetched_from a o) m → o ≡ Some (a, m)
fetched-is a None m among = absurd (Contains-nil m among)
fetched-is a (Some x) m among = elim (cases_Bool (x.0 == a)) [
  | inl same ↦ elim (Contains-cons_cases x.1 [] m (subst (λ xs. Contains xs m) (cond-true (x.0 == a) (x.1 ∷ []) [] same) among)) [
    | inl is ↦ ap (λ n. Some (n, x.1)) (eqb-true x.0 a same) ∙ ap (λ y. Some (a, y)) is
    | inr none ↦ absurd (Contains-nil m none)
  ]
  | inr differ ↦ absurd (Contains-nil m (subst (λ xs. Contains xs m) (cond-false (x.0 == a) (x.1 ∷ []) [] differ) among))
]

module _ (T : Setup) (valid : IsSetup T) (J : List Entry) (runs : IsSchedule T J) (before : List Entry) (e : Entry) (later : List Entry) (parts : J ≡ before
    ++ e ∷ later) where
  abbrev W : World
  W = world_after T before

  abbrev V : World
  V = world_after T (before ++ e ∷ [])

  abbrev i : ℕ
  i = e.event.kernel

  abbrev s : Side
  s = side W i

  -- in flight still, or handled now
  abbrev pub Goes : ℕ → ℕ → Message → Type 0
  Goes a b m = Contains (way V a b) m ⊎ ((b ≡ i) × (s.inbox ≡ Some (a, m)) × (e.event.act ≡ Handle))

  -- where the links stay and the outboxes grow
  module _ (links : V.links ≡ W.links) (box : Boxes T (grants before) W (R T valid J runs before e later parts) (H T valid J runs before e later parts)
      (losing T valid J runs before (e ∷ later) parts (all-caused T valid J runs before (e ∷ later) parts)) i (stepped T W e.event).side) where
    link-same : (a b : ℕ) → link V a b ≡ link W a b
    link-same a b = ap (λ ls. get_or (get_or ls a []) b []) links

    out-more : (a b : ℕ) (m : Message) → Contains (outbox (side W a) b) m → Contains (outbox (side V a) b) m
    out-more a b m among = elim (cases_eq a i) [
      | inl here ↦
          let x = box b in
          let now : outbox (side V a) b ≡ outbox s b ++ x.0 =
          ap (λ t. outbox t b) (side-here T valid J runs before e later parts (all-caused T valid J runs before (e ∷ later) parts) a here) ∙ x.1 in
          subst (λ xs. Contains xs m) (sym now) (Contains-append_left (outbox s b) x.0 m (subst (λ n. Contains (outbox (side W n) b) m) here among))
      | inr away ↦ subst (λ t. Contains (outbox t b) m)
          (sym (side-other T valid J runs before e later parts (all-caused T valid J runs before (e ∷ later) parts) a away)) among
    ]

    tail-more : (a b : ℕ) (m : Message) → Contains (link W a b) m ⊎ Contains (outbox (side W a) b) m → Contains (way V a b) m
    tail-more a b m (inl linked) = Contains-append_left (fetched_from a (side V b).inbox ++ link V a b) (outbox (side V a) b) m
        (Contains-append_right (fetched_from a (side V b).inbox) (link V a b) m (subst (λ xs. Contains xs m) (sym (link-same a b)) linked))
    tail-more a b m (inr out) = Contains-append_right (fetched_from a (side V b).inbox ++ link V a b) (outbox (side V a) b) m (out-more a b m out)

    stays : (a b : ℕ) (m : Message) → ((b ≡ i) → (s.inbox ≡ Some (a, m)) → Contains (way V a b) m ⊎ (e.event.act ≡ Handle)) → Contains (way W a b) m →
        Goes a b m
    stays a b m handled among = elim (Contains-append_cases (fetched_from a (side W b).inbox ++ link W a b) (outbox (side W a) b) m among) [
      | inr out ↦ inl (tail-more a b m (inr out))
      | inl front ↦ elim (Contains-append_cases (fetched_from a (side W b).inbox) (link W a b) m front) [
        | inr linked ↦ inl (tail-more a b m (inl linked))
        | inl first ↦ elim (cases_eq b i) [
          | inl here ↦
              let full : s.inbox ≡ Some (a, m) = ap (λ n. (side W n).inbox) (sym here) ∙ fetched-is a (side W b).inbox m first in
              elim (handled here full) [ inl still ↦ inl still | inr act ↦ inr (here, full, act) ]
          | inr away ↦ inl (Contains-append_left (fetched_from a (side V b).inbox ++ link V a b) (outbox (side V a) b) m
              (Contains-append_left (fetched_from a (side V b).inbox) (link V a b) m
              (subst (λ t. Contains (fetched_from a t.inbox) m)
              (sym (side-other T valid J runs before e later parts (all-caused T valid J runs before (e ∷ later) parts) b away)) first)))
        ]
      ]
    ]

    -- where the inbox stays too
    inbox-stays : (stepped T W e.event).side.inbox ≡ s.inbox → (a b : ℕ) (m : Message) → b ≡ i → s.inbox ≡ Some (a, m) → Contains (way V a b) m
    inbox-stays same a b m here full =
        let now : (side V b).inbox ≡ Some (a, m) =
        ap (λ (t : Side). t.inbox) (side-here T valid J runs before e later parts (all-caused T valid J runs before (e ∷ later) parts) b here)
        ∙ (same ∙ full) in
        Contains-append_left (fetched_from a (side V b).inbox ++ link V a b) (outbox (side V a) b) m
        (Contains-append_left (fetched_from a (side V b).inbox) (link V a b) m
        (subst (λ xs. Contains xs m) (sym (ap (fetched_from a) now ∙ cond-true (a == a) (m ∷ []) [] (eq-eqb a a refl))) (Contains-head m [])))

  grows : Grows T (grants before) W (R T valid J runs before e later parts) (H T valid J runs before e later parts)
      (losing T valid J runs before (e ∷ later) parts (all-caused T valid J runs before (e ∷ later) parts)) i e.event.act (stepped T W e.event).side
  grows = event-grows T (grants before) W (R T valid J runs before e later parts) (H T valid J runs before e later parts)
      (losing T valid J runs before (e ∷ later) parts (all-caused T valid J runs before (e ∷ later) parts)) i e.event.act
      (loses T valid J runs before e later parts e.event.act refl) (told T valid J runs before e later parts)

  world-is : (a : Act) → e.event.act ≡ a → V ≡ after T W (event i a)
  world-is a act = run-append T before (e ∷ []) (start T) ∙ ap (λ x. after T W (event i x)) act

  abbrev GrowsBy : Act → Type 0
  GrowsBy a = Grows T (grants before) W (R T valid J runs before e later parts) (H T valid J runs before e later parts)
      (losing T valid J runs before (e ∷ later) parts (all-caused T valid J runs before (e ∷ later) parts)) i a (stepped T W e.event).side

  pub goes : (a b : ℕ) (m : Message) → Contains (way W a b) m → Goes a b m
  unfolding after local_step
  goes a b m among = by e.event.act refl grows
    where
      same : (n : Act) → e.event.act ≡ n → ((x y : ℕ) → way (after T W (event i n)) x y ≡ way W x y) → Goes a b m
      same n act ways = inl (subst (λ xs. Contains xs m) (sym (ap (λ X. way X a b) (world-is n act) ∙ ways a b)) among)

      by : (n : Act) → e.event.act ≡ n → GrowsBy n → Goes a b m
      by (Calls v) act g =
          stays (ap (λ (X : World). X.links) (world-is (Calls v) act)) g.1 a b m
          (λ here full. inl (inbox-stays (ap (λ (X : World). X.links) (world-is (Calls v) act)) g.1 g.0 a b m here full)) among
      by (Upcall v) act g = stays (ap (λ (X : World). X.links) (world-is (Upcall v) act)) g.1 a b m
          (λ here full. inl (inbox-stays (ap (λ (X : World). X.links) (world-is (Upcall v) act)) g.1 g.0 a b m here full)) among
      by (Resume v) act g = stays (ap (λ (X : World). X.links) (world-is (Resume v) act)) g.1 a b m
          (λ here full. inl (inbox-stays (ap (λ (X : World). X.links) (world-is (Resume v) act)) g.1 g.0 a b m here full)) among
      by (Kill v) act g =
          stays (ap (λ (X : World). X.links) (world-is (Kill v) act)) g.1 a b m
          (λ here full. inl (inbox-stays (ap (λ (X : World). X.links) (world-is (Kill v) act)) g.1 g.0 a b m here full)) among
      by Handle act g = stays (ap (λ (X : World). X.links) (world-is Handle act)) g.1 a b m (λ here full. inr act) among
      by (Fetch j) act g = same (Fetch j) act (fetched (slice_get (link W j i) 0) refl)
        where
          outer : (is_locally_enabled T i s (Fetch j) ≡ true) × (is_allowed T W i (Fetch j) ≡ true)
          outer = enabled-parts T W i (Fetch j) (subst (λ n. is_enabled T W (event i n) ≡ true) act (at T valid J runs before e later parts).1)

          empty : (o : Option (ℕ × Message)) → s.inbox ≡ o → s.inbox ≡ None
          empty None none = none
          empty (Some x) full = absurd (true≢false (sym (fetch-empty T i s j outer.0) ∙ ap is_none full))

          fetched : (o : Option Message) → slice_get (link W j i) 0 ≡ o → (x y : ℕ) → way (after T W (event i (Fetch j))) x y ≡ way W x y
          fetched None none x y = absurd (true≢false (sym outer.1 ∙ ap is_some none))
          fetched (Some q) some x y = subst (λ o. way (with_link j i (drop 1 (link W j i)) (with_side i (with_inbox (option_map (λ z. (j, z)) o) s) W)) x y
              ≡ way W x y) (sym some) (way-fetched j i q (drop 1 (link W j i)) W (list-front (link W j i) q some) (empty s.inbox refl) x y)
      by (Flush j) act g = same (Flush j) act (flushed (slice_get (outbox s j) 0) refl)
        where
          outer : (is_locally_enabled T i s (Flush j) ≡ true) × (is_allowed T W i (Flush j) ≡ true)
          outer = enabled-parts T W i (Flush j) (subst (λ n. is_enabled T W (event i n) ≡ true) act (at T valid J runs before e later parts).1)

          flushed : (o : Option Message) → slice_get (outbox s j) 0 ≡ o → (x y : ℕ) → way (after T W (event i (Flush j))) x y ≡ way W x y
          flushed None none x y = absurd (true≢false (sym (flush-some T i s j outer.0) ∙ ap is_some none))
          flushed (Some q) some x y =
              subst (λ o. way (option_map_or (λ z. with_link i j (link W i j ++ z ∷ []) (with_side i (sent j s) W)) o (with_side i (sent j s) W)) x y
              ≡ way W x y) (sym some) (way-flushed i j q (drop 1 (outbox s j)) W (list-front (outbox s j) q some) x y)

pub all-go : (T : Setup) → IsSetup T → (J : List Entry) → IsSchedule T J → (before : List Entry) (e : Entry) (later : List Entry) → J ≡ before ++ e ∷ later →
    (a b : ℕ) (m : Message) → Contains (way (world_after T before) a b) m
    → Contains (way (world_after T (before ++ e ∷ [])) a b) m ⊎ ((b ≡ e.event.kernel) × ((side (world_after T before) b).inbox ≡ Some (a, m))
    × (e.event.act ≡ Handle))
all-go T valid J runs before e later parts a b m among = elim (goes T valid J runs before e later parts a b m among) [
  | inl still ↦ inl still
  | inr (here, full, act) ↦ inr (here, ap (λ n. (side (world_after T before) n).inbox) here ∙ full, act)
]
