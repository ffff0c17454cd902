-- A search begins with the empty history.
use Rattle.std.proofs.Common.{◌≡◌, ℕ, ◌<◌, Bool, true, false, arith, List, [], ◌∷◌, ◌++◌, length, map, get_or, replicate, refl, sym, ◌∙◌, ap, subst}
use Rattle.std.specs.List.{Contains, All}
use Rattle.std.proofs.lemmas.List.{length-replicate, get_or-replicate}
use Rattle.std.proofs.lemmas.List.Elements.{All-nil, All-cons}
use Rattle.sem_msg.specs.declared.entry.Entry.{Entry}
use Rattle.sem_msg.specs.Setup.{Setup}
use Rattle.sem_machine.specs.Schedules.{IsSchedule, IsLocalRun}
use Rattle.sem_machine.proofs.Pushing.{schedule-empty}
use Rattle.sem_parts.proofs.LocalRuns.{runs-start}
use Rattle.sem_numbering.specs.Nodes.{Node}
use Rattle.sem_histories.specs.Outcomes.{HasSameParts}
use Rattle.sem_histories.specs.Closed.{ByParts}
use Rattle.sem_histories.specs.Search.{IsSearched, HasMoreThan}
use Rattle.sem_histories.specs.Trees.{IsTree}
use Rattle.sem_histories.proofs.Closing.{itself}
use Rattle.sem_histories.proofs.Searching.{searched-start}
use Rattle.sem_histories.proofs.TreeParts.{tree-start}
use Rattle.sem_outcomes.specs.declared.steps.Step.{Step}
use Rattle.sem_outcomes.specs.Met.{journals, journal_at, kernel_parts, AreMet, ArePartTrees, AreNumbersIn, HistoriesValue, IsUnderWay}
use Rattle.sem_outcomes.proofs.Growing.{journals-start}
use Rattle.sem_outcomes.proofs.PartsOf.{parts-start, told}

module _ (T : Setup) where
  abbrev trees : List (List Node)
  trees = replicate T.kernels []

  many : length trees ≡ T.kernels
  many = length-replicate T.kernels []

  empty : (i : ℕ) → i < T.kernels → get_or trees i [] ≡ []
  empty i here = get_or-replicate T.kernels i [] [] here

  empty-part : (i : ℕ) → i < T.kernels → get_or (map kernel_parts trees) i [] ≡ [] ∷ []
  empty-part i here = told T trees i many here ∙ (ap kernel_parts (empty i here) ∙ parts-start)

  start-trees : ArePartTrees T (replicate T.kernels [])
  start-trees = record {
    many = many;
    each = λ i here. subst (λ (ns : List Node). IsTree ns (kernel_parts ns)) (sym (empty i here)) (subst (IsTree []) (sym parts-start) tree-start);
    runs = λ i here. subst (λ (ns : List Node). All (IsLocalRun T i) (kernel_parts ns)) (sym (empty i here))
        (subst (All (IsLocalRun T i)) (sym parts-start) (All-cons (IsLocalRun T i) [] [] (runs-start T i).run (All-nil (IsLocalRun T i))));
  }

  zero-at : (i : ℕ) → i < T.kernels → ◌≡◌ {A = ℕ} (get_or (replicate T.kernels 0) i 0) 0
  zero-at i here = get_or-replicate T.kernels i 0 0 here

  start-numbers : AreNumbersIn T (replicate T.kernels []) (replicate T.kernels 0) []
  start-numbers = record {
    count = length-replicate T.kernels 0;
    within = λ i here.
        subst (λ n. n < length (get_or (map kernel_parts trees) i [])) (sym (zero-at i here))
        (subst (λ (L : List (List Entry)). 0 < length L) (sym (empty-part i here)) (omega arith));
    parts = λ i here. ap (λ n. get_or (get_or (map kernel_parts trees) i []) n []) (zero-at i here) ∙ ap (λ L. get_or L 0 []) (empty-part i here);
  }

  pub met-start : AreMet T (record { steps = []; numbers = replicate T.kernels 0 ∷ []; trees = replicate T.kernels [] })
  met-start = record {
    steps = record {
      earlier = λ k d here. absurd (none k here);
      schedules = subst (All (IsSchedule T)) (sym (journals-start T)) (All-cons (IsSchedule T) [] [] (schedule-empty T [] refl) (All-nil (IsSchedule T)));
    };
    trees = start-trees;
    many = refl;
    numbers = λ k here. first k here;
  }
    where
      none : (k : ℕ) → k < 0 → ⊥
      none k here = omega (arith, here)

      zeroth : AreNumbersIn T trees (replicate T.kernels 0) (journal_at T [] 0)
      zeroth = subst (λ V. AreNumbersIn T trees (replicate T.kernels 0) (get_or V 0 [])) (sym (journals-start T)) start-numbers

      first : (k : ℕ) → k < 1 → AreNumbersIn T trees (get_or (replicate T.kernels 0 ∷ []) k []) (journal_at T [] k)
      first k here =
          let zero : 0 ≡ k = omega (arith, here) in
          subst (λ n. AreNumbersIn T trees (get_or (replicate T.kernels 0 ∷ []) n []) (journal_at T [] n)) zero zeroth

  pub search-start : (steps : List Step) → steps ≡ [] → IsSearched (HasSameParts T) T (journals T steps) 0
  search-start steps none = subst (λ V. IsSearched (HasSameParts T) T V 0) (sym (ap (journals T) none ∙ journals-start T))
      (searched-start T (HasSameParts T) (itself ByParts T))

  -- there is a history, so there are more than none
  pub more-than-none : (limit : ℕ) → limit ≡ 0 → HasMoreThan (HasSameParts T) T limit
  more-than-none limit none = record { found = [] ∷ []; apart = (searched-start T (HasSameParts T) (itself ByParts T)).apart; many = omega (arith, none) }

  pub met-begun : (h : HistoriesValue) → h.steps ≡ [] → h.numbers ≡ replicate T.kernels 0 ∷ [] → h.trees ≡ replicate T.kernels [] → AreMet T h
  met-begun h steps numbers trees = subst (AreMet T) (λ i. record { steps = sym steps i; numbers = sym numbers i; trees = sym trees i }) met-start

  pub way-begun : (limit : ℕ) (h : HistoriesValue) → AreMet T h → h.steps ≡ [] → 0 < limit → IsUnderWay T limit 0 h
  way-begun limit h met none some = record {
    met = met;
    few = let many = met.many in let short = ap length none in omega (arith, many, short, some);
    searched = search-start h.steps none;
  }

-- the first list of numbers is added
pub first-added : (old numbers : List (List ℕ)) (ns : List ℕ) (added : Bool) → old ≡ [] → (added ≡ true → (Contains old ns → ⊥) × (numbers ≡ old ++ ns ∷ []))
    → (added ≡ false → Contains old ns × (numbers ≡ old)) → numbers ≡ ns ∷ []
first-added old numbers ns true nothing new there = (new refl).1 ∙ ap (λ (ms : List (List ℕ)). ms ++ ns ∷ []) nothing
first-added old numbers ns false nothing new there = absurd (none (subst (λ (ms : List (List ℕ)). Contains ms ns) nothing (there refl).0))
  where
    less : (k : ℕ) → k < 0 → ⊥
    less k within = omega (arith, within)

    none : Contains [] ns → ⊥
    none (k, within, is) = less k within
