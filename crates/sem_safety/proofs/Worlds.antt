-- How a changed side or link shows in what is observed of a world, and that a flush and a fetch move a message along its way.
use Rattle.std.proofs.Common.{◌≡◌, ℕ, true, false, List, [], ◌∷◌, ◌++◌, drop, get_or, Some, None, refl, sym, ◌∙◌, ap, inl, inr, eq-eqb, append_assoc, ◌⊎◌}
use Rattle.std.specs.Prelude.{◌==◌}
use Rattle.std.proofs.lemmas.Bool.{cases_Bool, cases_eq, cond-true, cond-false, ne_eqb}
use Rattle.sem_key.specs.Lists.{put}
use Rattle.sem_msg.specs.declared.message.Message.{Message}
use Rattle.sem_machine.specs.Sides.{Side, no_side, outbox, send, sent, with_inbox}
use Rattle.sem_machine.specs.Machine.{World, side, link, with_side, with_link}
use Rattle.sem_machine.specs.Living.{fetched_from, way}
use Rattle.sem_safety.specs.Observations.{ObservedSide, seen, observed, at}
use Rattle.sem_safety.proofs.Updates.{ext, reads-put}

-- what is read off a value that is another at one number
at-ap : {X Y : Type 0} (g : X → Y) (i : ℕ) (x : X) (f : ℕ → X) (j : ℕ) → g (at i x f j) ≡ at i (g x) (λ n. g (f n)) j
at-ap g i x f j = elim (cases_Bool (j == i)) [
  | inl here ↦ ap g (cond-true (j == i) x (f j) here) ∙ sym (cond-true (j == i) (g x) (g (f j)) here)
  | inr other ↦ ap g (cond-false (j == i) x (f j) other) ∙ sym (cond-false (j == i) (g x) (g (f j)) other)
]

pub side-with_side : (i : ℕ) (s : Side) (W : World) (j : ℕ) → side (with_side i s W) j ≡ at i s (side W) j
side-with_side i s W j = ap (λ (f : ℕ → Side). f j) (reads-put no_side W.sides i s)

pub observed-with_side : (i : ℕ) (s : Side) (W : World) → observed (with_side i s W) ≡ record (observed W) { kernel = at i (seen s) (λ j. seen (side W j)) }
observed-with_side i s W = ap (λ (kernels : ℕ → ObservedSide). record (observed W) { kernel = kernels }) (ext _ _ (λ j. ap seen (side-with_side i s W j)
    ∙ at-ap seen i s (side W) j))

pub link-with_link : (i j : ℕ) (messages : List Message) (W : World) (a b : ℕ) →
    link (with_link i j messages W) a b ≡ at i (at j messages (link W i)) (link W) a b
link-with_link i j messages W a b =
    ap (λ (row : List (List Message)). get_or row b [])
    (ap (λ (f : ℕ → List (List Message)). f a) (reads-put [] W.links i (put [] (get_or W.links i []) j messages)))
    ∙ (at-ap (λ (row : List (List Message)). get_or row b []) i (put [] (get_or W.links i []) j messages) (λ n. get_or W.links n []) a
    ∙ row-at (cases_Bool (a == i)))
  where
    inner : get_or (put [] (get_or W.links i []) j messages) b [] ≡ at j messages (link W i) b
    inner = ap (λ (f : ℕ → List Message). f b) (reads-put [] (get_or W.links i []) j messages)

    row-at : ((a == i) ≡ true) ⊎ ((a == i) ≡ false) → at i (get_or (put [] (get_or W.links i []) j messages) b []) (λ n. get_or (get_or W.links n []) b []) a
        ≡ at i (at j messages (link W i)) (link W) a b
    row-at (inl here) = cond-true (a == i) _ _ here
        ∙ (inner ∙ sym (ap (λ (f : ℕ → List Message). f b) (cond-true (a == i) (at j messages (link W i)) (link W a) here)))
    row-at (inr other) = cond-false (a == i) _ _ other
        ∙ sym (ap (λ (f : ℕ → List Message). f b) (cond-false (a == i) (at j messages (link W i)) (link W a) other))

pub observed-with_link : (i j : ℕ) (messages : List Message) (W : World) →
    observed (with_link i j messages W) ≡ record (observed W) { link = at i (at j messages (link W i)) (link W) }
observed-with_link i j messages W = ap (λ (links : ℕ → ℕ → List Message). record (observed W) { link = links })
    (ext _ _ (λ a. ext _ _ (λ b. link-with_link i j messages W a b)))

-- The value at the number itself, written again, changes nothing.
at-same : {X : Type 0} (i : ℕ) (f : ℕ → X) (j : ℕ) → at i (f i) f j ≡ f j
at-same i f j = elim (cases_eq j i) [
  | inl here ↦ cond-true (j == i) (f i) (f j) (eq-eqb j i here) ∙ ap f (sym here)
  | inr other ↦ cond-false (j == i) (f i) (f j) (ne_eqb j i other)
]

-- what is read at the number, and elsewhere
at-here : {X : Type 0} (i : ℕ) (x : X) (f : ℕ → X) → at i x f i ≡ x
at-here i x f = cond-true (i == i) x (f i) (eq-eqb i i refl)

at-other : {X : Type 0} (i : ℕ) (x : X) (f : ℕ → X) (j : ℕ) → (j ≡ i → ⊥) → at i x f j ≡ f j
at-other i x f j other = cond-false (j == i) x (f j) (ne_eqb j i other)

-- the parts of a way: what was fetched, what is in the link, and what waits to be sent
abbrev joined : List Message → List Message → List Message → List Message
joined fetched linked waiting = fetched ++ linked ++ waiting

-- A flush: the front of the outbox goes to the end of the link.
module _ (i j : ℕ) (m : Message) (rest : List Message) (W : World) (front : outbox (side W i) j ≡ m ∷ rest) where
  abbrev pub flushed : World
  flushed = with_link i j (link W i j ++ m ∷ []) (with_side i (sent j (side W i)) W)

  flushed-inbox : (b : ℕ) → (side flushed b).inbox ≡ (side W b).inbox
  flushed-inbox b =
      ap (λ (s : Side). s.inbox) (side-with_side i (sent j (side W i)) W b)
      ∙ (at-ap (λ (s : Side). s.inbox) i (sent j (side W i)) (side W) b ∙ at-same i (λ n. (side W n).inbox) b)

  flushed-outbox : (a b : ℕ) → outbox (side flushed a) b ≡ at i (at j rest (outbox (side W i)) b) (λ n. outbox (side W n) b) a
  flushed-outbox a b =
      ap (λ (s : Side). outbox s b) (side-with_side i (sent j (side W i)) W a)
      ∙ (at-ap (λ (s : Side). outbox s b) i (sent j (side W i)) (side W) a
      ∙ ap (λ x. at i x (λ n. outbox (side W n) b) a) (ap (λ (f : ℕ → List Message). f b) (reads-put [] (side W i).outs j (drop 1 (outbox (side W i) j)))
      ∙ ap (λ x. at j x (outbox (side W i)) b) (ap (drop 1) front)))

  pub way-flushed : (a b : ℕ) → way flushed a b ≡ way W a b
  way-flushed a b =
      ap (λ inbox. joined (fetched_from a inbox) (link flushed a b) (outbox (side flushed a) b)) (flushed-inbox b)
      ∙ (ap (λ l. joined (fetched_from a (side W b).inbox) l (outbox (side flushed a) b))
      (link-with_link i j (link W i j ++ m ∷ []) (with_side i (sent j (side W i)) W) a b)
      ∙ (ap (λ o. joined (fetched_from a (side W b).inbox) (at i (at j (link W i j ++ m ∷ []) (link W i)) (link W) a b) o) (flushed-outbox a b)
      ∙ by_pair (cases_eq a i) (cases_eq b j)))
    where
      now : ℕ → ℕ → List Message
      now a b = joined (fetched_from a (side W b).inbox) (at i (at j (link W i j ++ m ∷ []) (link W i)) (link W) a b)
          (at i (at j rest (outbox (side W i)) b) (λ n. outbox (side W n) b) a)

      here : joined (fetched_from i (side W j).inbox) (link W i j ++ m ∷ []) rest ≡ way W i j
      here = rw (front, append_assoc, append_assoc, append_assoc) refl

      by_pair : ((a ≡ i) ⊎ (a ≡ i → ⊥)) → ((b ≡ j) ⊎ (b ≡ j → ⊥)) → now a b ≡ way W a b
      by_pair (inr other) b_is = rw (
        at-other i (at j (link W i j ++ m ∷ []) (link W i)) (link W) a other,
        at-other i (at j rest (outbox (side W i)) b) (λ n. outbox (side W n) b) a other,
      ) refl
      by_pair (inl same) (inr other) = rw (
        same,
        at-here i (at j (link W i j ++ m ∷ []) (link W i)) (link W),
        at-other j (link W i j ++ m ∷ []) (link W i) b other,
        at-here i (at j rest (outbox (side W i)) b) (λ n. outbox (side W n) b),
        at-other j rest (outbox (side W i)) b other,
      ) refl
      by_pair (inl same) (inl to) = rw (
        same,
        to,
        at-here i (at j (link W i j ++ m ∷ []) (link W i)) (link W),
        at-here j (link W i j ++ m ∷ []) (link W i),
        at-here i (at j rest (outbox (side W i)) j) (λ n. outbox (side W n) j),
        at-here j rest (outbox (side W i)),
      ) here

-- A fetch: the front of the link goes to the empty inbox.
module _ (i j : ℕ) (m : Message) (rest : List Message) (W : World) (front : link W i j ≡ m ∷ rest) (empty : (side W j).inbox ≡ None) where
  abbrev pub fetched : World
  fetched = with_link i j rest (with_side j (with_inbox (Some (i, m)) (side W j)) W)

  fetched-inbox : (b : ℕ) → (side fetched b).inbox ≡ at j (Some (i, m)) (λ n. (side W n).inbox) b
  fetched-inbox b =
      ap (λ (s : Side). s.inbox) (side-with_side j (with_inbox (Some (i, m)) (side W j)) W b)
      ∙ at-ap (λ (s : Side). s.inbox) j (with_inbox (Some (i, m)) (side W j)) (side W) b

  fetched-outbox : (a b : ℕ) → outbox (side fetched a) b ≡ outbox (side W a) b
  fetched-outbox a b =
      ap (λ (s : Side). outbox s b) (side-with_side j (with_inbox (Some (i, m)) (side W j)) W a)
      ∙ (at-ap (λ (s : Side). outbox s b) j (with_inbox (Some (i, m)) (side W j)) (side W) a ∙ at-same j (λ n. outbox (side W n) b) a)

  pub way-fetched : (a b : ℕ) → way fetched a b ≡ way W a b
  way-fetched a b =
      ap (λ inbox. joined (fetched_from a inbox) (link fetched a b) (outbox (side fetched a) b)) (fetched-inbox b)
      ∙ (ap (λ l. joined (fetched_from a (at j (Some (i, m)) (λ n. (side W n).inbox) b)) l (outbox (side fetched a) b))
      (link-with_link i j rest (with_side j (with_inbox (Some (i, m)) (side W j)) W) a b)
      ∙ (ap (joined (fetched_from a (at j (Some (i, m)) (λ n. (side W n).inbox) b)) (at i (at j rest (link W i)) (link W) a b)) (fetched-outbox a b)
      ∙ by_pair (cases_eq a i) (cases_eq b j)))
    where
      now : ℕ → ℕ → List Message
      now a b = joined (fetched_from a (at j (Some (i, m)) (λ n. (side W n).inbox) b)) (at i (at j rest (link W i)) (link W) a b) (outbox (side W a) b)

      mine : fetched_from i (Some (i, m)) ≡ m ∷ []
      mine = cond-true (i == i) (m ∷ []) [] (eq-eqb i i refl)

      others : (a : ℕ) → (a ≡ i → ⊥) → fetched_from a (Some (i, m)) ≡ []
      others a other = cond-false (i == a) (m ∷ []) [] (ne_eqb i a (λ same. other (sym same)))

      by_pair : ((a ≡ i) ⊎ (a ≡ i → ⊥)) → ((b ≡ j) ⊎ (b ≡ j → ⊥)) → now a b ≡ way W a b
      by_pair (inl same) (inl to) = rw (
        same,
        to,
        at-here j (Some (i, m)) (λ n. (side W n).inbox),
        mine,
        at-here i (at j rest (link W i)) (link W),
        at-here j rest (link W i),
        empty,
        front,
      ) refl
      by_pair (inl same) (inr other) = rw (
        same,
        at-other j (Some (i, m)) (λ n. (side W n).inbox) b other,
        at-here i (at j rest (link W i)) (link W),
        at-other j rest (link W i) b other,
      ) refl
      by_pair (inr other) (inl to) = rw (
        to,
        at-here j (Some (i, m)) (λ n. (side W n).inbox),
        others a other,
        at-other i (at j rest (link W i)) (link W) a other,
        empty,
      ) refl
      by_pair (inr other) (inr apart) = rw (at-other j (Some (i, m)) (λ n. (side W n).inbox) b apart, at-other i (at j rest (link W i)) (link W) a other) refl

-- A message that is taken out of the inbox was the front of its way.
module _ (i j : ℕ) (m : Message) (W : World) (held : (side W j).inbox ≡ Some (i, m)) where
  abbrev pub taken : World
  taken = with_side j (with_inbox None (side W j)) W

  taken-inbox : (b : ℕ) → (side taken b).inbox ≡ at j None (λ n. (side W n).inbox) b
  taken-inbox b =
      ap (λ (s : Side). s.inbox) (side-with_side j (with_inbox None (side W j)) W b)
      ∙ at-ap (λ (s : Side). s.inbox) j (with_inbox None (side W j)) (side W) b

  taken-outbox : (a b : ℕ) → outbox (side taken a) b ≡ outbox (side W a) b
  taken-outbox a b =
      ap (λ (s : Side). outbox s b) (side-with_side j (with_inbox None (side W j)) W a)
      ∙ (at-ap (λ (s : Side). outbox s b) j (with_inbox None (side W j)) (side W) a ∙ at-same j (λ n. outbox (side W n) b) a)

  parts : (a b : ℕ) → way taken a b ≡ joined (fetched_from a (at j None (λ n. (side W n).inbox) b)) (link W a b) (outbox (side W a) b)
  parts a b =
      ap (λ inbox. joined (fetched_from a inbox) (link W a b) (outbox (side taken a) b)) (taken-inbox b)
      ∙ ap (joined (fetched_from a (at j None (λ n. (side W n).inbox) b)) (link W a b)) (taken-outbox a b)

  pub way-taken : way W i j ≡ m ∷ way taken i j
  way-taken = rw (parts i j, at-here j None (λ n. (side W n).inbox), held, cond-true (i == i) (m ∷ []) [] (eq-eqb i i refl)) refl

  pub way-taken_other : (a b : ℕ) → ((a ≡ i) × (b ≡ j) → ⊥) → way taken a b ≡ way W a b
  way-taken_other a b other = parts a b ∙ by_receiver (cases_eq b j)
    where
      by_receiver : ((b ≡ j) ⊎ (b ≡ j → ⊥)) → joined (fetched_from a (at j None (λ n. (side W n).inbox) b)) (link W a b) (outbox (side W a) b) ≡ way W a b
      by_receiver (inl to) = rw (to, at-here j None (λ n. (side W n).inbox), held, cond-false (i == a) (m ∷ []) [] (ne_eqb i a (λ same. other (sym same, to))))
          refl
      by_receiver (inr apart) = rw (at-other j None (λ n. (side W n).inbox) b apart) refl

-- A message that is sent stands at the end of its way.
module _ (i j : ℕ) (m : Message) (W : World) where
  abbrev pub posted : World
  posted = with_side i (send j m (side W i)) W

  posted-inbox : (b : ℕ) → (side posted b).inbox ≡ (side W b).inbox
  posted-inbox b =
      ap (λ (s : Side). s.inbox) (side-with_side i (send j m (side W i)) W b)
      ∙ (at-ap (λ (s : Side). s.inbox) i (send j m (side W i)) (side W) b ∙ at-same i (λ n. (side W n).inbox) b)

  posted-outbox : (a b : ℕ) → outbox (side posted a) b ≡ at i (at j (outbox (side W i) j ++ m ∷ []) (outbox (side W i)) b) (λ n. outbox (side W n) b) a
  posted-outbox a b =
      ap (λ (s : Side). outbox s b) (side-with_side i (send j m (side W i)) W a)
      ∙ (at-ap (λ (s : Side). outbox s b) i (send j m (side W i)) (side W) a
      ∙ ap (λ x. at i x (λ n. outbox (side W n) b) a) (ap (λ (f : ℕ → List Message). f b) (reads-put [] (side W i).outs j (outbox (side W i) j ++ m ∷ []))))

  posted-parts : (a b : ℕ) →
      way posted a b ≡ joined (fetched_from a (side W b).inbox) (link W a b)
      (at i (at j (outbox (side W i) j ++ m ∷ []) (outbox (side W i)) b) (λ n. outbox (side W n) b) a)
  posted-parts a b =
      ap (λ inbox. joined (fetched_from a inbox) (link W a b) (outbox (side posted a) b)) (posted-inbox b)
      ∙ ap (joined (fetched_from a (side W b).inbox) (link W a b)) (posted-outbox a b)

  pub way-posted : way posted i j ≡ way W i j ++ m ∷ []
  way-posted = rw (
    posted-parts i j,
    at-here i (at j (outbox (side W i) j ++ m ∷ []) (outbox (side W i)) j) (λ n. outbox (side W n) j),
    at-here j (outbox (side W i) j ++ m ∷ []) (outbox (side W i)),
  )
      (sym (append_assoc (fetched_from i (side W j).inbox ++ link W i j) (outbox (side W i) j) (m ∷ [])))

  pub way-posted_other : (a b : ℕ) → ((a ≡ i) × (b ≡ j) → ⊥) → way posted a b ≡ way W a b
  way-posted_other a b other = posted-parts a b ∙ by_sender (cases_eq a i)
    where
      by_sender : ((a ≡ i) ⊎ (a ≡ i → ⊥)) →
          joined (fetched_from a (side W b).inbox) (link W a b) (at i (at j (outbox (side W i) j ++ m ∷ []) (outbox (side W i)) b) (λ n. outbox (side W n) b) a)
          ≡ way W a b
      by_sender (inr apart) = rw (at-other i (at j (outbox (side W i) j ++ m ∷ []) (outbox (side W i)) b) (λ n. outbox (side W n) b) a apart) refl
      by_sender (inl same) = rw (
        same,
        at-here i (at j (outbox (side W i) j ++ m ∷ []) (outbox (side W i)) b) (λ n. outbox (side W n) b),
        at-other j (outbox (side W i) j ++ m ∷ []) (outbox (side W i)) b (λ to. other (same, to)),
      ) refl
