-- Texts that are appended part by part, and the line of a key that is followed up to its root.
use Rattle.std.proofs.Common.{◌≡◌, ℕ, zero, suc, ◌+◌, ◌-◌, ◌≤◌, ◌<◌, List, [], ◌∷◌, ◌++◌, map, Some, None, refl, sym, ap, ◌∙◌, subst, append-nil, append_assoc}
use Rattle.std.proofs.Common.{arith}
use Rattle.std.specs.Option.{option_map_or}
use Rattle.sem_key.specs.KeyName.{KeyName}
use Rattle.sem_text.specs.Lines.{line, text}
use Rattle.sem_machine.specs.Journals.{parent_in, ancestry_in}
use Rattle.sem_query.specs.Paths.{step_words}

-- the keys above a key, at most n of them
pub above : ℕ → List (KeyName × KeyName) → KeyName → List KeyName
above zero gs k = []
above (suc n) gs k = option_map_or (ancestry_in n gs) (parent_in gs k) []

-- a line is its key and the keys above it
line-above : (n : ℕ) (gs : List (KeyName × KeyName)) (k : KeyName) → ancestry_in n gs k ≡ k ∷ above n gs k
unfolding ancestry_in above
line-above zero gs k = refl
line-above (suc n) gs k = refl

above-some : (n : ℕ) (gs : List (KeyName × KeyName)) (k p : KeyName) → parent_in gs k ≡ Some p → above (suc n) gs k ≡ p ∷ above n gs p
unfolding above
above-some n gs k p some = ap (λ o. option_map_or (ancestry_in n gs) o []) some ∙ line-above n gs p

above-none : (n : ℕ) (gs : List (KeyName × KeyName)) (k : KeyName) → parent_in gs k ≡ None → above n gs k ≡ []
unfolding above
above-none zero gs k none = refl
above-none (suc n) gs k none = ap (λ o. option_map_or (ancestry_in n gs) o []) none

module _ (cut : List KeyName) (gs : List (KeyName × KeyName)) where
  abbrev lines : List KeyName → List ℕ
  lines ks = text (map (step_words cut) ks)

  -- how far a line was told: what is told and the lines of the keys above the last one are the whole
  abbrev pub IsToldTo : (whole so_far : List ℕ) (left : ℕ) (last : KeyName) → Type 0
  IsToldTo whole so_far left last = so_far ++ lines (above left gs last) ≡ whole

  -- at first the key itself is told
  told-first : (n : ℕ) (k : KeyName) (old now : List ℕ) → now ≡ old ++ line (step_words cut k) → IsToldTo (old ++ lines (ancestry_in n gs k)) now n k
  told-first n k old now is =
      ap (λ t. t ++ lines (above n gs k)) is
      ∙ (append_assoc old (line (step_words cut k)) (lines (above n gs k))
      ∙ ap (λ ks. old ++ lines ks) (sym (line-above n gs k)))

  pub told-start : (n : ℕ) (k : KeyName) (old now : List ℕ) → now ≡ old ++ line (step_words cut k) → IsToldTo (old ++ lines (ancestry_in n gs k)) now (n - 0) k
  told-start n k old now is = let same : n ≡ n - 0 = omega arith in
      subst (λ m. IsToldTo (old ++ lines (ancestry_in n gs k)) now m k) same (told-first n k old now is)

  -- then its parent
  pub told-next : (n i : ℕ) (k p : KeyName) (whole now new : List ℕ) → i < n → parent_in gs k ≡ Some p → IsToldTo whole now (n - i) k →
      new ≡ now ++ line (step_words cut p) → IsToldTo whole new (n - (i + 1)) p
  told-next n i k p whole now new within some told is =
      let left : n - i ≡ suc (n - (i + 1)) = omega arith in
      let more = ap (λ m. lines (above m gs k)) left ∙ ap lines (above-some (n - (i + 1)) gs k p some) in
      ap (λ t. t ++ lines (above (n - (i + 1)) gs p)) is
      ∙ (append_assoc now (line (step_words cut p)) (lines (above (n - (i + 1)) gs p))
      ∙ (ap (λ t. now ++ t) (sym more) ∙ told))

  -- until there is none
  pub told-root : (n i : ℕ) (k : KeyName) (whole now : List ℕ) → parent_in gs k ≡ None → IsToldTo whole now (n - i) k → now ≡ whole
  told-root n i k whole now none told = sym (append-nil now) ∙ (ap (λ ks. now ++ lines ks) (sym (above-none (n - i) gs k none)) ∙ told)

  -- or all are told that a line may have
  pub told-all : (n i : ℕ) (k : KeyName) (whole now : List ℕ) → n ≤ i → IsToldTo whole now (n - i) k → now ≡ whole
  unfolding above
  told-all n i k whole now all told =
      let none : n - i ≡ 0 = omega arith in
      sym (append-nil now) ∙ (ap (λ m. now ++ lines (above m gs k)) (sym none) ∙ told)
