-- Sums over kernels, and how many messages are in flight once one is sent or handled.
use Rattle.std.proofs.Common.{◌≡◌, ℕ, zero, suc, ◌+◌, ◌<◌, ◌≤◌, Bool, List, [], ◌∷◌, ◌++◌, Some, None, refl, sym, ◌∙◌, ap, inl, inr, arith}
use Rattle.std.specs.Prelude.{count_by}
use Rattle.std.proofs.lemmas.Bool.{cases_eq}
use Rattle.std.proofs.lemmas.List.Sums.{sum_by-append, sum_by-cons}
use Rattle.sem_msg.specs.declared.message.Message.{Message}
use Rattle.sem_machine.specs.Sides.{outbox, send, sent, with_inbox}
use Rattle.sem_machine.specs.Machine.{World, side, link, with_side, with_link}
use Rattle.sem_machine.specs.Living.{way}
use Rattle.sem_safety.specs.Counts.{sum_to, count_if, in_flight}
use Rattle.sem_safety.proofs.Worlds.{way-flushed, way-fetched, way-taken, way-taken_other, way-posted, way-posted_other}

-- sums of functions that agree below n
sum_to-same : (n : ℕ) (f g : ℕ → ℕ) → ((i : ℕ) → i < n → f i ≡ g i) → sum_to n f ≡ sum_to n g
sum_to-same zero f g same = refl
sum_to-same (suc n) f g same = let rest = sum_to-same n f g (λ i lt. same i (omega arith)) in let here = same n (omega arith) in omega arith

-- where two functions differ only at i, their sums differ by what they differ there
pub sum_to-but : (n : ℕ) (f g : ℕ → ℕ) (i : ℕ) → i < n → ((j : ℕ) → (j ≡ i → ⊥) → g j ≡ f j) → sum_to n g + f i ≡ sum_to n f + g i
sum_to-but zero f g i within same = absurd (omega arith)
sum_to-but (suc n) f g i within same = elim (cases_eq i n) [
  | inl last ↦
      let rest = sum_to-same n g f (λ j lt. same j (λ at_i. omega arith)) in
      let here : f i ≡ f n = ap f last in
      let there : g i ≡ g n = ap g last in
      omega arith
  | inr other ↦
      let rest = sum_to-but n f g i (omega arith) same in
      let here = same n (λ at_i. other (sym at_i)) in
      omega arith
]

-- each value is at most the sum
pub sum_to-le : (n : ℕ) (f : ℕ → ℕ) (i : ℕ) → i < n → f i ≤ sum_to n f
sum_to-le zero f i within = absurd (omega arith)
sum_to-le (suc n) f i within = elim (cases_eq i n) [
  | inl last ↦ let here : f i ≡ f n = ap f last in omega arith
  | inr other ↦ let rest = sum_to-le n f i (omega arith) in omega arith
]

-- where two functions of two numbers differ only at one pair
sums-but : (n : ℕ) (f g : ℕ → ℕ → ℕ) (i j : ℕ) → i < n → j < n → ((a b : ℕ) → ((a ≡ i) × (b ≡ j) → ⊥) → g a b ≡ f a b) →
    sum_to n (λ a. sum_to n (g a)) + f i j ≡ sum_to n (λ a. sum_to n (f a)) + g i j
sums-but n f g i j in_i in_j same =
    let row = sum_to-but n (f i) (g i) j in_j (λ b other. same i b (λ both. other both.1)) in
    let rows = sum_to-but n (λ a. sum_to n (f a)) (λ a. sum_to n (g a)) i in_i (λ a other. sum_to-same n (g a) (f a) (λ b lt. same a b (λ both. other both.0)))
    in
    omega arith

-- Messages.

module _ (test : Message → Bool) where
  count-front : (m : Message) (ms : List Message) → count_by test (m ∷ ms) ≡ count_if test m + count_by test ms
  count-front m ms = sum_by-cons (count_if test) m ms

  count-end : (ms : List Message) (m : Message) → count_by test (ms ++ m ∷ []) ≡ count_by test ms + count_if test m
  count-end ms m = sum_by-append (count_if test) ms (m ∷ []) ∙ ap (λ n. count_by test ms + n) (omega arith)

  -- a flush and a fetch leave the number
  pub in_flight-flushed : (n i j : ℕ) (m : Message) (rest : List Message) (W : World) → outbox (side W i) j ≡ m ∷ rest →
      in_flight n test (with_link i j (link W i j ++ m ∷ []) (with_side i (sent j (side W i)) W)) ≡ in_flight n test W
  in_flight-flushed n i j m rest W front = sum_to-same n _ _ (λ a lt. sum_to-same n _ _ (λ b below. ap (count_by test) (way-flushed i j m rest W front a b)))

  pub in_flight-fetched : (n i j : ℕ) (m : Message) (rest : List Message) (W : World) → link W i j ≡ m ∷ rest → (side W j).inbox ≡ None →
      in_flight n test (with_link i j rest (with_side j (with_inbox (Some (i, m)) (side W j)) W)) ≡ in_flight n test W
  in_flight-fetched n i j m rest W front empty =
      sum_to-same n _ _ (λ a lt. sum_to-same n _ _ (λ b below. ap (count_by test) (way-fetched i j m rest W front empty a b)))

  -- what is handled is one less
  pub in_flight-handled : (n i j : ℕ) (m : Message) (W : World) → i < n → j < n → (side W j).inbox ≡ Some (i, m) →
      in_flight n test W ≡ in_flight n test (with_side j (with_inbox None (side W j)) W) + count_if test m
  in_flight-handled n i j m W in_i in_j held =
      let V : World = with_side j (with_inbox None (side W j)) W in
      let apart = sums-but n (λ a b. count_by test (way W a b)) (λ a b. count_by test (way V a b)) i j in_i in_j
      (λ a b other. ap (count_by test) (way-taken_other i j m W held a b other)) in
      let here : count_by test (way W i j) ≡ count_if test m + count_by test (way V i j) = ap (count_by test) (way-taken i j m W held)
      ∙ count-front m (way V i j) in
      omega arith

  -- what is sent is one more
  pub in_flight-sent : (n i j : ℕ) (m : Message) (W : World) → i < n → j < n →
      in_flight n test (with_side i (send j m (side W i)) W) ≡ in_flight n test W + count_if test m
  in_flight-sent n i j m W in_i in_j =
      let V : World = with_side i (send j m (side W i)) W in
      let apart = sums-but n (λ a b. count_by test (way W a b)) (λ a b. count_by test (way V a b)) i j in_i in_j
      (λ a b other. ap (count_by test) (way-posted_other i j m W a b other)) in
      let here : count_by test (way V i j) ≡ count_by test (way W i j) + count_if test m = ap (count_by test) (way-posted i j m W) ∙ count-end (way W i j) m in
      omega arith
