-- What an event does to a sum over the messages and jobs of a world: a fetch and a flush leave it, and any other event changes it as the side of its kernel
-- changes.
use Rattle.std.proofs.Common.{◌≡◌, ◌⊎◌, ℕ, ◌+◌, true, List, [], ◌∷◌, ◌++◌, drop, Option, Some, None, slice_get, is_some, is_none, refl, sym, ap, ◌∙◌, subst}
use Rattle.std.proofs.Common.{inl, inr, arith}
use Rattle.std.specs.Option.{option_map, option_map_or}
use Rattle.std.proofs.lemmas.Bool.{true≢false}
use Rattle.std.proofs.lemmas.List.Sums.{sum_by_push}
use Rattle.sem_msg.specs.declared.event.Act.{Act}
use Rattle.sem_msg.specs.declared.event.Act.TheVariants.{Call as Calls, Fetch, Handle, Upcall, Resume, Flush, Kill}
use Rattle.sem_msg.specs.declared.message.Message.{Message}
use Rattle.sem_msg.specs.Setup.{Setup}
use Rattle.sem_machine.specs.Sides.{Side, outbox, sent, with_inbox}
use Rattle.sem_machine.specs.Machine.{World, side, link, with_side, with_link, local_step, after, event, is_enabled, is_locally_enabled, is_allowed}
use Rattle.sem_machine.proofs.Weighing.{of_option, weigh-drop}
use Rattle.sem_safety.proofs.CarryingWorlds.{stepped}
use Rattle.sem_revoke.specs.Scales.{Scale, of_messages, of_inbox, of_side, of_world}
use Rattle.sem_revoke.proofs.Revoking.{enabled-parts, fetch-empty}
use Rattle.sem_revoke.proofs.Scaling.{side-sent, side-inbox, world-side, world-link}

-- a message moves on its way
abbrev pub Moves : Act → Type 0
Moves (Calls v) = ⊥
Moves (Fetch j) = Unit {0}
Moves Handle = ⊥
Moves (Upcall v) = ⊥
Moves (Resume v) = ⊥
Moves (Flush j) = Unit {0}
Moves (Kill v) = ⊥

module _ (S : Scale) (T : Setup) (W : World) (i : ℕ) where
  abbrev now : Side
  now = side W i

  front-of : (from to : ℕ) (ms : List Message) (m : Message) → slice_get ms 0 ≡ Some m →
      of_messages S from to (drop 1 ms) + S.message from to m ≡ of_messages S from to ms
  front-of from to ms m front = let sum = weigh-drop (S.message from to) ms in let one : of_option (S.message from to) (slice_get ms 0) ≡ S.message from to m =
      ap (of_option (S.message from to)) front in omega (arith, sum, one)

  fetched-sum : (j : ℕ) (m : Message) → slice_get (link W j i) 0 ≡ Some m → now.inbox ≡ None →
      of_world S (with_link j i (drop 1 (link W j i)) (with_side i (with_inbox (Some (j, m)) now) W)) ≡ of_world S W
  fetched-sum j m front empty =
      let t : Side = with_inbox (Some (j, m)) now in
      let V : World = with_side i t W in
      let world = world-side S W i t in
      let moved : of_world S (with_link j i (drop 1 (link W j i)) V) + of_messages S j i (link W j i) ≡ of_world S V + of_messages S j i (drop 1 (link W j i)) =
      world-link S V j i (drop 1 (link W j i)) in
      let first = front-of j i (link W j i) m front in
      let inbox = side-inbox S i now (Some (j, m)) in
      let none : of_inbox S i now.inbox ≡ 0 = ap (of_inbox S i) empty in
      omega (arith, world, moved, first, inbox, none)

  flushed-more : (V : World) (j : ℕ) (o : Option Message) → of_world S (option_map_or (λ m. with_link i j (link V i j ++ m ∷ []) V) o V)
      ≡ of_world S V + of_option (S.message i j) o
  flushed-more V j None = omega arith
  flushed-more V j (Some m) = let more' = world-link S V i j (link V i j ++ m ∷ []) in let push = sum_by_push (S.message i j) (link V i j) m in
      omega (arith, more', push)

  flushed-sum : (j : ℕ) →
      of_world S (option_map_or (λ m. with_link i j (link W i j ++ m ∷ []) (with_side i (sent j now) W)) (slice_get (outbox now j) 0)
      (with_side i (sent j now) W)) ≡ of_world S W
  flushed-sum j =
      let V : World = with_side i (sent j now) W in
      let world = world-side S W i (sent j now) in
      let gone = side-sent S i now j in
      let more' : of_world S (option_map_or (λ m. with_link i j (link W i j ++ m ∷ []) V) (slice_get (outbox now j) 0) V)
      ≡ of_world S V + of_option (S.message i j) (slice_get (outbox now j) 0) = flushed-more V j (slice_get (outbox now j) 0) in
      omega (arith, world, gone, more')

  abbrev Acted : Act → Type 0
  Acted a = of_world S (after T W (event i a)) + of_side S i now ≡ of_world S W + of_side S i (stepped T W (event i a)).side

  pub moved-sum : (a : Act) → is_enabled T W (event i a) ≡ true → ((Moves a → ⊥) × Acted a) ⊎ (Moves a × (of_world S (after T W (event i a)) ≡ of_world S W))
  unfolding after local_step
  moved-sum (Calls v) enabled = inl (λ moves. moves, world-side S W i (stepped T W (event i (Calls v))).side)
  moved-sum Handle enabled = inl (λ moves. moves, world-side S W i (stepped T W (event i Handle)).side)
  moved-sum (Upcall v) enabled = inl (λ moves. moves, world-side S W i (stepped T W (event i (Upcall v))).side)
  moved-sum (Resume v) enabled = inl (λ moves. moves, world-side S W i (stepped T W (event i (Resume v))).side)
  moved-sum (Kill v) enabled = inl (λ moves. moves, world-side S W i (stepped T W (event i (Kill v))).side)
  moved-sum (Flush j) enabled = inr (tt, flushed-sum j)
  moved-sum (Fetch j) enabled = inr (tt, fetched (slice_get (link W j i) 0) refl)
    where
      outer : (is_locally_enabled T i now (Fetch j) ≡ true) × (is_allowed T W i (Fetch j) ≡ true)
      outer = enabled-parts T W i (Fetch j) enabled

      empty : (o : Option (ℕ × Message)) → now.inbox ≡ o → now.inbox ≡ None
      empty None none = none
      empty (Some x) full = absurd (true≢false (sym (fetch-empty T i now j outer.0) ∙ ap is_none full))

      fetched : (o : Option Message) → slice_get (link W j i) 0 ≡ o → of_world S (after T W (event i (Fetch j))) ≡ of_world S W
      fetched None none = absurd (true≢false (sym outer.1 ∙ ap is_some none))
      fetched (Some m) some = subst (λ o. of_world S (with_link j i (drop 1 (link W j i)) (with_side i (with_inbox (option_map (λ m. (j, m)) o) now) W))
          ≡ of_world S W) (sym some) (fetched-sum j m some (empty now.inbox refl))
