-- A list that is made from numbers, one after another.
use Rattle.std.proofs.Common.{◌≡◌, ℕ, List, ◌∷◌, [], ◌++◌, map, sym, ◌∙◌, ap}
use Rattle.std.proofs.lemmas.List.{append_assoc, append-nil}
use Rattle.sem_msg.specs.declared.event.Event.{Event}

module _ (f : ℕ → Event) (so_far : List Event) (left : List ℕ) (whole : List Event) (is : so_far ++ map f left ≡ whole) where
  -- what the first of the numbers makes was appended
  pub next-appended : (low : ℕ) (rest : List ℕ) (new : List Event) → left ≡ low ∷ rest → new ≡ so_far ++ f low ∷ [] → new ++ map f rest ≡ whole
  next-appended low rest new first pushed =
      ap (λ es. es ++ map f rest) pushed
      ∙ (append_assoc so_far (f low ∷ []) (map f rest) ∙ (ap (λ ns. so_far ++ map f ns) (sym first) ∙ is))

  -- no number is left
  pub all-appended : left ≡ [] → so_far ≡ whole
  all-appended none = sym (ap (λ ns. so_far ++ map f ns) none ∙ append-nil so_far) ∙ is
