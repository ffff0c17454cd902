-- A message in flight weighs among the sides and the links.
use Rattle.std.proofs.Common.{◌≡◌, ℕ, ◌+◌, ◌≤◌, ◌++◌, List, [], ◌∷◌, get_or, Option, Some, None, refl, ap, inl, inr, arith}
use Rattle.std.specs.Prelude.{◌==◌}
use Rattle.std.specs.List.{Contains, sum_by}
use Rattle.std.proofs.lemmas.Bool.{cases_Bool, cond-true, cond-false}
use Rattle.std.proofs.lemmas.List.Sums.{sum_by-append, sum_by-cons}
use Rattle.sem_msg.specs.declared.message.Message.{Message}
use Rattle.sem_machine.specs.Sides.{Side, no_side, outbox}
use Rattle.sem_machine.specs.Machine.{World, side, link}
use Rattle.sem_machine.specs.Living.{way, fetched_from}
use Rattle.sem_machine.proofs.Weighing.{weigh-among}
use Rattle.sem_safety.proofs.HeldOnce.{weigh-at}

-- a side weighs no less than its inbox and its outboxes, and an inbox no less than its message
module _ (of_message : Message → ℕ) (of_inbox : Option (ℕ × Message) → ℕ) (of_side : Side → ℕ) (none : of_side no_side ≡ 0)
    (inbox : (x : ℕ × Message) → of_message x.1 ≤ of_inbox (Some x))
    (parts : (s : Side) → of_inbox s.inbox + sum_by (λ ms. sum_by of_message ms) s.outs ≤ of_side s) where
  abbrev of_messages : List Message → ℕ
  of_messages ms = sum_by of_message ms

  abbrev of_links : List (List (List Message)) → ℕ
  of_links links = sum_by (λ ls. sum_by of_messages ls) links

  pub flight-weighs : (W : World) (a b : ℕ) (m : Message) → Contains (way W a b) m → 1 ≤ of_message m → 1 ≤ sum_by of_side W.sides + of_links W.links
  flight-weighs W a b m among some =
      let weighs = weigh-among of_message (way W a b) m among in
      let one = sum_by-append of_message (fetched_from a (side W b).inbox ++ link W a b) (outbox (side W a) b) in
      let two = sum_by-append of_message (fetched_from a (side W b).inbox) (link W a b) in
      let arrived = fetched (side W b).inbox in
      let parts-b = parts (side W b) in
      let parts-a = parts (side W a) in
      let side-b = weigh-at of_side no_side none W.sides b in
      let side-a = weigh-at of_side no_side none W.sides a in
      let outs = weigh-at of_messages [] refl (side W a).outs b in
      let row-a = weigh-at (λ ls. sum_by of_messages ls) [] refl W.links a in
      let cell = weigh-at of_messages [] refl (get_or W.links a []) b in
      positive (sum_by of_side W.sides) (of_links W.links)
      (omega (arith, weighs, one, two, arrived, parts-b, parts-a, side-b, side-a, outs, row-a, cell, some))
    where
      fetched : (o : Option (ℕ × Message)) → of_messages (fetched_from a o) ≤ of_inbox o
      fetched None = omega arith
      fetched (Some x) = let here = inbox x in elim (cases_Bool (x.0 == a)) [
        | inl same ↦ let is = ap of_messages (cond-true (x.0 == a) (x.1 ∷ []) [] same) in let all = sum_by-cons of_message x.1 [] in
            omega (arith, is, all, here)
        | inr other ↦ let is = ap of_messages (cond-false (x.0 == a) (x.1 ∷ []) [] other) in omega (arith, is)
      ]

      positive : (x y : ℕ) → 1 ≤ x + (x + y) → 1 ≤ x + y
      positive x y more = omega (arith, more)
