-- What is so of each side and of each message in a link is so after an event, if the step keeps it of its side.
use Rattle.std.proofs.Common.{◌≡◌, ℕ, zero, suc, ◌+◌, List, [], ◌∷◌, ◌++◌, drop, get_or, map, replicate, Option, Some, None, slice_get, refl, sym, ap, ◌∙◌}
use Rattle.std.proofs.Common.{subst, inl, inr}
use Rattle.std.specs.List.{Contains, range_with_len}
use Rattle.std.specs.Option.{option_map_or}
use Rattle.std.proofs.lemmas.Bool.{cases_eq}
use Rattle.std.proofs.lemmas.Option.{slice_get_within, get_or_from_slice_get}
use Rattle.std.proofs.lemmas.List.Elements.{Contains-append_cases}
use Rattle.sem_key.specs.Lists.{put}
use Rattle.sem_key.proofs.Members.{Contains-nil, Contains-cons_cases, Contains-tail}
use Rattle.sem_key.proofs.Puts.{get_or-put_same, get_or-put_other}
use Rattle.sem_msg.specs.declared.event.Act.{Act}
use Rattle.sem_msg.specs.declared.event.Act.TheVariants.{Call as Calls, Fetch, Handle, Upcall, Resume, Flush, Kill}
use Rattle.sem_msg.specs.declared.event.Event.{Event}
use Rattle.sem_msg.specs.declared.entry.Entry.{Entry}
use Rattle.sem_msg.specs.declared.message.Message.{Message}
use Rattle.sem_msg.specs.declared.state.Slot.TheVariants.{Free}
use Rattle.sem_msg.specs.Rows.{VpeRow, no_vpe}
use Rattle.sem_msg.specs.Setup.{Setup}
use Rattle.sem_machine.specs.Sides.{Side, no_side, row, own, cap_in, outbox, call_counted}
use Rattle.sem_machine.specs.Machine.{World, side, link, with_side, with_link, link_moved, start, start_side, input_of, after}
use Rattle.sem_safety.proofs.CarryingWorlds.{stepped}
use Rattle.sem_machine.specs.Schedules.{world_after}
use Rattle.sem_safety.proofs.Drawers.{side-after}
use Rattle.sem_safety.proofs.GoingOn.{moved-sides, run-append}

-- the first message is one of the list
pub front-among : (ms : List Message) (m : Message) → slice_get ms 0 ≡ Some m → Contains ms m
front-among ms m there = (0, slice_get_within ms 0 m there, get_or_from_slice_get ms 0 m m there)

later-among : (ms : List Message) (m : Message) → Contains (drop 1 ms) m → Contains ms m
later-among [] m among = among
later-among (x ∷ ms) m among = Contains-tail x ms m among

module _ (P : Side → Type 0) (Q : Message → Type 0) where
  pub record IsSpread (W : World) : Type 0 where
    pub sides : (i : ℕ) → P (side W i)
    pub links : (i j : ℕ) (m : Message) → Contains (link W i j) m → Q m

  abbrev AreSent : List Message → Type 0
  AreSent ms = (m : Message) → Contains ms m → Q m

  link-put : (V : World) (i j : ℕ) (ms : List Message) → AreSent ms → ((a b : ℕ) → AreSent (link V a b)) → (a b : ℕ) → AreSent (link (with_link i j ms V) a b)
  link-put V i j ms new old a b = elim (cases_eq a i) [
    | inl same ↦
        let line : List (List Message) = put [] (get_or V.links i []) j ms in
        let inner : link (with_link i j ms V) a b ≡ get_or line b [] = ap (λ k. link (with_link i j ms V) k b) same
        ∙ ap (λ (ls : List (List Message)). get_or ls b []) (get_or-put_same [] V.links i line) in
        subst AreSent (sym inner) (elim (cases_eq b j) [
          | inl at ↦ subst (λ k. AreSent (get_or line k [])) (sym at) (subst AreSent (sym (get_or-put_same [] (get_or V.links i []) j ms)) new)
          | inr other ↦ subst AreSent (sym (get_or-put_other [] (get_or V.links i []) j b ms other)) (old i b)
        ])
    | inr other ↦ subst (λ (ls : List (List Message)). AreSent (get_or ls b []))
        (sym (get_or-put_other [] V.links i a (put [] (get_or V.links i []) j ms) other))
        (old a b)
  ]

  moved-links : (W : World) → IsSpread W → (i : ℕ) (x : Side) (act : Act) → ((j : ℕ) → AreSent (outbox (side W i) j)) → (a b : ℕ)
      → AreSent (link (link_moved i (side W i) act (with_side i x W)) a b)
  moved-links W is i x (Calls v) outs a b = is.links a b
  moved-links W is i x (Fetch j) outs a b = link-put (with_side i x W) j i (drop 1 (link W j i)) (λ q later. is.links j i q (later-among (link W j i) q later))
      is.links
      a b
  moved-links W is i x Handle outs a b = is.links a b
  moved-links W is i x (Upcall v) outs a b = is.links a b
  moved-links W is i x (Resume v) outs a b = is.links a b
  moved-links W is i x (Kill v) outs a b = is.links a b
  moved-links W is i x (Flush j) outs a b = from (slice_get (outbox (side W i) j) 0) refl
    where
      from : (o : Option Message) → slice_get (outbox (side W i) j) 0 ≡ o
          → AreSent (link (option_map_or (λ q. with_link i j (link (with_side i x W) i j ++ q ∷ []) (with_side i x W)) o (with_side i x W)) a b)
      from None at = is.links a b
      from (Some q) at = link-put (with_side i x W) i j (link W i j ++ q ∷ []) (λ y among. elim (Contains-append_cases (link W i j) (q ∷ []) y among) [
        | inl before ↦ is.links i j y before
        | inr now ↦ elim (Contains-cons_cases q [] y now) [
          | inl same ↦ subst Q same (outs j q (front-among (outbox (side W i) j) q at))
          | inr none ↦
              absurd (Contains-nil y none)
        ]
      ]) is.links a b

  pub after-spread : (T : Setup) (W : World) (e : Event) → IsSpread W → P (stepped T W e).side → ((j : ℕ) → AreSent (outbox (side W e.kernel) j))
      → IsSpread (after T W e)
  unfolding after
  after-spread T W e is now outs =
      let i : ℕ = e.kernel in
      let x : Side = (stepped T W e).side in
      let V : World = link_moved i (side W i) e.act (with_side i x W) in
      let same : V.sides ≡ put no_side W.sides i x = moved-sides i (side W i) e.act (with_side i x W) in
      record {
        sides = λ j. subst (λ (ss : List Side). P (get_or ss j no_side)) (sym same) (elim (cases_eq j i) [
          | inl at ↦ subst (λ k. P (get_or (put no_side W.sides i x) k no_side)) (sym at) (subst P (sym (get_or-put_same no_side W.sides i x)) now)
          | inr other ↦ subst P (sym (get_or-put_other no_side W.sides i j x other)) (is.sides j)
        ]);
        links = moved-links W is i x e.act outs;
      }

  -- what an act takes in comes from a link
  pub input-among : (W : World) → IsSpread W → (i : ℕ) (a : Act) (m : Message) → input_of W i a ≡ Some m → Q m
  input-among W is i (Fetch j) m there = is.links j i m (front-among (link W j i) m there)
  input-among W is i (Calls v) m there = absurd cc
  input-among W is i Handle m there = absurd cc
  input-among W is i (Upcall v) m there = absurd cc
  input-among W is i (Resume v) m there = absurd cc
  input-among W is i (Flush j) m there = absurd cc
  input-among W is i (Kill v) m there = absurd cc

  -- At the start.

  no-links : (T : Setup) (n i j : ℕ) (m : Message) → Contains (get_or (get_or (replicate n (replicate T.kernels [])) i []) j []) m → ⊥
  no-links T zero i j m among = Contains-nil m among
  no-links T (suc n) zero j m among = inner T.kernels j among
    where
      inner : (k j : ℕ) → Contains (get_or (replicate k []) j []) m → ⊥
      inner zero j among = Contains-nil m among
      inner (suc k) zero among = Contains-nil m among
      inner (suc k) (suc j) among = inner k j among
  no-links T (suc n) (suc i) j m among = no-links T n i j m among

  pub start-spread : (T : Setup) → P no_side → ((i : ℕ) → P (start_side T i)) → IsSpread (start T)
  unfolding start
  start-spread T past each = record {
    sides = from (range_with_len 0 T.kernels);
    links = λ a b m among. absurd (no-links T T.kernels a b m among);
  }
    where
      from : (is : List ℕ) (j : ℕ) → P (get_or (map (start_side T) is) j no_side)
      from [] j = past
      from (n ∷ ns) zero = each n
      from (n ∷ ns) (suc j) = from ns j

-- The world after one entry more.
module _ (T : Setup) (before : List Entry) (e : Entry) where
  abbrev W : World
  W = world_after T before

  pub world-next : world_after T (before ++ e ∷ []) ≡ after T W e.event
  world-next = run-append T before (e ∷ []) (start T)

  pub side-here : (j : ℕ) → j ≡ e.event.kernel → side (world_after T (before ++ e ∷ [])) j ≡ (stepped T W e.event).side
  side-here j same = ap (side (world_after T (before ++ e ∷ []))) same ∙ (ap (λ (V : World). side V e.event.kernel) world-next ∙ side-after T W e.event)

  other-after : (j : ℕ) → (j ≡ e.event.kernel → ⊥) → side (after T W e.event) j ≡ side W j
  unfolding after
  other-after j away =
      let i : ℕ = e.event.kernel in
      ap (λ (ss : List Side). get_or ss j no_side) (moved-sides i (side W i) e.event.act (with_side i (stepped T W e.event).side W))
      ∙ get_or-put_other no_side W.sides i j (stepped T W e.event).side away

  pub side-other : (j : ℕ) → (j ≡ e.event.kernel → ⊥) → side (world_after T (before ++ e ∷ [])) j ≡ side W j
  side-other j away = ap (λ (V : World). side V j) world-next ∙ other-after j away

-- The number of calls made does not show in selectors.
pub counted-own : (s : Side) (u sel : ℕ) → own (call_counted u s) u sel ≡ own s u sel
counted-own s u sel = ap (λ (r : VpeRow). cap_in s (get_or r.slots sel Free))
    (get_or-put_same no_vpe s.vpes u (record (row s u) { next_call = (row s u).next_call + 1 }))

pub counted-call : (s : Side) (u : ℕ) → (row (call_counted u s) u).next_call ≡ (row s u).next_call + 1
counted-call s u = ap (λ (r : VpeRow). r.next_call) (get_or-put_same no_vpe s.vpes u (record (row s u) { next_call = (row s u).next_call + 1 }))
