-- The journals of histories, as their steps grow.
use Rattle.std.proofs.Common.{◌≡◌, ℕ, ◌+◌, ◌<◌, ◌≤◌, arith, List, [], ◌∷◌, ◌++◌, length, get_or, refl, sym, ◌∙◌, ap, subst, inl, inr, ◌⊎◌}
use Rattle.std.proofs.lemmas.Bool.{cases_lt}
use Rattle.std.proofs.lemmas.List.{length_push, get_or_at, get_or_append_left}
use Rattle.std.proofs.lemmas.List.Sums.{fold-append}
use Rattle.sem_msg.specs.Setup.{Setup}
use Rattle.sem_parts.proofs.Growing.{snoc-induct}
use Rattle.sem_histories.specs.Outcomes.{and_then}
use Rattle.sem_outcomes.specs.declared.steps.Step.{Step}
use Rattle.sem_outcomes.specs.Met.{AreEarlier, journals, journal_at}

module _ (T : Setup) where
  pub journals-start : journals T [] ≡ [] ∷ []
  unfolding journals
  journals-start = refl

  pub journals-push : (steps : List Step) (s : Step) → journals T (steps ++ s ∷ []) ≡ journals T steps ++ and_then T (journal_at T steps s.from) s.event ∷ []
  unfolding journals
  journals-push steps s = fold-append (λ V (x : Step). V ++ and_then T (get_or V x.from []) x.event ∷ []) ([] ∷ []) steps (s ∷ [])

  pub journals-length : (steps : List Step) → length (journals T steps) ≡ length steps + 1
  journals-length = snoc-induct (λ steps. length (journals T steps) ≡ length steps + 1) (ap length journals-start) (λ steps s before.
      let whole = ap length (journals-push steps s) in
      let more = length_push (journals T steps) (and_then T (journal_at T steps s.from) s.event) in
      let long = length_push steps s in
      omega (arith, before, whole, more, long))

  pub earlier-front : (steps : List Step) (s : Step) → AreEarlier (steps ++ s ∷ []) → AreEarlier steps
  earlier-front steps s earlier k d here =
      let long = length_push steps s in
      subst (λ (x : Step). x.from ≤ k) (get_or_append_left steps (s ∷ []) d k here) (earlier k d (omega (arith, here, long)))

  -- a history stays as it was
  pub journal-kept : (steps : List Step) (s : Step) (k : ℕ) → k < length steps + 1 → journal_at T (steps ++ s ∷ []) k ≡ journal_at T steps k
  journal-kept steps s k here =
      let long = journals-length steps in
      ap (λ V. get_or V k []) (journals-push steps s)
      ∙ get_or_append_left (journals T steps) (and_then T (journal_at T steps s.from) s.event ∷ []) [] k (omega (arith, here, long))

  -- the first is empty
  pub journal-zero : (steps : List Step) → journal_at T steps 0 ≡ []
  journal-zero = snoc-induct (λ steps. journal_at T steps 0 ≡ []) (ap (λ V. get_or V 0 []) journals-start)
      (λ steps s before. journal-kept steps s 0 (omega arith) ∙ before)

  -- history k + 1 goes on by step k
  pub journal-step : (steps : List Step) → AreEarlier steps → (k : ℕ) (d : Step) → k < length steps
      → journal_at T steps (k + 1) ≡ and_then T (journal_at T steps (get_or steps k d).from) (get_or steps k d).event
  journal-step = snoc-induct (λ steps. AreEarlier steps → (k : ℕ) (d : Step) → k < length steps
      → journal_at T steps (k + 1) ≡ and_then T (journal_at T steps (get_or steps k d).from) (get_or steps k d).event)
      (λ earlier k d here. absurd (none k here)) (λ steps s before earlier k d here. by_place steps s before earlier k d (place steps s k here))
    where
      none : (k : ℕ) → k < 0 → ⊥
      none k here = omega (arith, here)

      place : (steps : List Step) (s : Step) (k : ℕ) → k < length (steps ++ s ∷ []) → (k < length steps) ⊎ (length steps ≡ k)
      place steps s k here =
          let long = length_push steps s in
          elim (cases_lt k (length steps)) [
            | inl less ↦ inl less
            | inr past ↦ inr (omega (arith, here, long, past))
          ]

      by_place : (steps : List Step) (s : Step) → (AreEarlier steps → (k : ℕ) (d : Step) → k < length steps
          → journal_at T steps (k + 1) ≡ and_then T (journal_at T steps (get_or steps k d).from) (get_or steps k d).event)
          → AreEarlier (steps ++ s ∷ []) → (k : ℕ) (d : Step) → (k < length steps) ⊎ (length steps ≡ k)
          → journal_at T (steps ++ s ∷ []) (k + 1) ≡ and_then T (journal_at T (steps ++ s ∷ []) (get_or (steps ++ s ∷ []) k d).from)
          (get_or (steps ++ s ∷ []) k d).event
      by_place steps s before earlier k d (inl less) =
          let low = earlier-front steps s earlier k d less in
          subst (λ (x : Step). journal_at T (steps ++ s ∷ []) (k + 1) ≡ and_then T (journal_at T (steps ++ s ∷ []) x.from) x.event)
          (sym (get_or_append_left steps (s ∷ []) d k less))
          (journal-kept steps s (k + 1) (omega (arith, less))
          ∙ (before (earlier-front steps s earlier) k d less
          ∙ ap (λ L. and_then T L (get_or steps k d).event) (sym (journal-kept steps s (get_or steps k d).from (omega (arith, less, low))))))
      by_place steps s before earlier k d (inr last) =
          let long = journals-length steps in
          let more = length_push steps s in
          let low : s.from ≤ k = subst (λ (x : Step). x.from ≤ k) (get_or_at steps s [] d k last) (earlier k d (omega (arith, last, more))) in
          subst (λ (x : Step). journal_at T (steps ++ s ∷ []) (k + 1) ≡ and_then T (journal_at T (steps ++ s ∷ []) x.from) x.event)
          (sym (get_or_at steps s [] d k last))
          (ap (λ V. get_or V (k + 1) []) (journals-push steps s)
          ∙ (get_or_at (journals T steps) (and_then T (journal_at T steps s.from) s.event) [] [] (k + 1) (omega (arith, long, last))
          ∙ ap (λ L. and_then T L s.event) (sym (journal-kept steps s s.from (omega (arith, low, last))))))
