-- A sample grows by one seed.
use Rattle.std.proofs.Common.{◌≡◌, ◌≢◌, ℕ, zero, suc, ◌+◌, ◌-◌, ◌<◌, ◌≤◌, arith, List, [], ◌∷◌, ◌++◌, length, map, get_or, set, slice_get, Some, refl, sym, ◌∙◌}
use Rattle.std.proofs.Common.{ap, subst, inl, inr}
use Rattle.std.specs.List.{Contains, All, AllPairs, range_with_len}
use Rattle.std.proofs.lemmas.Bool.{cases_eq, cases_lt}
use Rattle.std.proofs.lemmas.Option.{slice_get_within, get_or_from_slice_get}
use Rattle.std.proofs.lemmas.List.{map-append, length-map, length-set, get_or-map, get_or-set_same, get_or-set_other}
use Rattle.std.proofs.lemmas.List.FromFn.{length-range_with_len, get_or-range_with_len}
use Rattle.std.proofs.lemmas.List.Elements.{All-nil, All-cons, All-append, All-contains, Contains-get_or, Contains-append_left, Contains-append_right}
use Rattle.std.proofs.lemmas.List.Elements.{Contains-append_cases}
use Rattle.std.proofs.lemmas.List.Quantifiers.{all_pairs_push}
use Rattle.std.proofs.Math.Seq.{map-set_same}
use Rattle.sem_key.proofs.Members.{Contains-head, Contains-nil, Contains-cons_cases, Contains-from_map}
use Rattle.sem_msg.specs.Setup.{Setup}
use Rattle.sem_machine.specs.Seeded.{seeded}
use Rattle.sem_histories.specs.Outcomes.{RunOutcome}
use Rattle.sem_histories.specs.Listing.{Witness, witness_of, HasSoMany}
use Rattle.sem_histories.specs.declared.witnesses.Sampled.{Sampled}
use Rattle.sem_outcomes.specs.Samples.{seeded_outcome, sampled_outcomes, seeds_of, IsSampled, IsSample, NextSampled, again, first}
use Rattle.sem_outcomes.proofs.Places.{mapped-at}
use Rattle.sem_outcomes.proofs.Counts.{count-more, count-same, count-few, count-none}

-- Seeds.

range-more : (a n : ℕ) → range_with_len a (suc n) ≡ range_with_len a n ++ (a + n) ∷ []
range-more a zero = let same : a ≡ a + 0 = omega arith in ap (λ k. k ∷ []) same
range-more a (suc m) =
    let same : (a + 1) + m ≡ a + suc m = omega arith in
    ap (λ ks. a ∷ ks) (range-more (a + 1) m ∙ ap (λ k. range_with_len (a + 1) m ++ k ∷ []) same)

pub range-push : (a n : ℕ) → range_with_len a (n + 1) ≡ range_with_len a n ++ (a + n) ∷ []
range-push a n =
    let same : suc n ≡ n + 1 = omega arith in
    subst (λ k. range_with_len a k ≡ range_with_len a n ++ (a + n) ∷ []) same (range-more a n)

in-range : (a n k : ℕ) → a ≤ k → k < a + n → Contains (range_with_len a n) k
in-range a n k from below =
    let long = length-range_with_len a n in
    let at : get_or (range_with_len a n) (k - a) 0 ≡ k = get_or-range_with_len a n (k - a) 0 (omega (arith, from, below)) ∙ omega (arith, from) in
    subst (Contains (range_with_len a n)) at (Contains-get_or (range_with_len a n) (k - a) 0 (omega (arith, long, from, below)))

pub sample-same : (T : Setup) (a b n m : ℕ) (found : List Sampled) → a ≡ b → n ≡ m → IsSample T b m found → IsSample T a n found
sample-same T a b n m found from seeds is =
    subst (λ k. IsSample T k n found) (sym from) (subst (λ k. IsSample T b k found) (sym seeds) is)

-- the count at the place of the outcome goes up
pub sampled-again-at : (old : List Sampled) (w : Witness) (seed k : ℕ) (x : Sampled) (o : RunOutcome) → x ≡ get_or old k x
    → slice_get (map (λ (s : Sampled). s.witness.outcome) old) k ≡ Some o → o ≡ w.outcome
    → NextSampled old w seed (set old k (record x { count = x.count + 1 }))
sampled-again-at old w seed k x o is there same =
    let (y, here, own) = mapped-at (λ (s : Sampled). s.witness.outcome) old k o there in
    let at : x ≡ y = is ∙ get_or_from_slice_get old k y x here in
    again k x (here ∙ ap Some (sym at)) (ap (λ (s : Sampled). s.witness.outcome) at ∙ (own ∙ same)) refl

module _ (T : Setup) (from : ℕ) where
  pub sample-none : IsSample T from 0 []
  sample-none = record {
    all = λ seed among. absurd (Contains-nil seed among);
    sampled = All-nil (IsSampled T from 0);
    once = λ i j d less inside. absurd (none j inside);
  }
    where
      none : (j : ℕ) → j < 0 → ⊥
      none j inside = omega (arith, inside)

  module _ (n : ℕ) (found : List Sampled) (is : IsSample T from n found) where
    abbrev last : ℕ
    last = from + n

    abbrev IsOutcomeOf : RunOutcome → ℕ → Type 0
    IsOutcomeOf o seed = seeded_outcome T seed ≡ o

    more-seeds : seeds_of from (n + 1) ≡ seeds_of from n ++ last ∷ []
    more-seeds = range-push from n

    pub few-counted : (k : ℕ) (d : Sampled) → k < length found → (get_or found k d).count ≤ n
    few-counted k d here =
        let few = count-few (IsOutcomeOf (get_or found k d).witness.outcome) (seeds_of from n) (get_or found k d).count (is.sampled k d here).count in
        let long = length-range_with_len from n in
        omega (arith, few, long)

    -- one that does not end so leaves what is sampled
    kept : (s : Sampled) → IsSampled T from n s → (seeded_outcome T last ≡ s.witness.outcome → ⊥) → IsSampled T from (n + 1) s
    kept s was other = record {
      journal = was.journal;
      outcome = was.outcome;
      among = subst (λ ks. Contains ks s.seed) (sym more-seeds) (Contains-append_left (seeds_of from n) (last ∷ []) s.seed was.among);
      least = was.least;
      count = subst (λ ks. HasSoMany (IsOutcomeOf s.witness.outcome) ks s.count) (sym more-seeds)
          (count-same (IsOutcomeOf s.witness.outcome) (seeds_of from n) s.count last other was.count);
    }

    grown-all : (more : List Sampled) → ((o : RunOutcome) → Contains (sampled_outcomes found) o → Contains (sampled_outcomes more) o)
        → Contains (sampled_outcomes more) (seeded_outcome T last)
        → (seed : ℕ) → Contains (seeds_of from (n + 1)) seed → Contains (sampled_outcomes more) (seeded_outcome T seed)
    grown-all more before new seed among = elim (Contains-append_cases (seeds_of from n) (last ∷ []) seed (subst (λ ks. Contains ks seed) more-seeds among)) [
      | inl old ↦ before (seeded_outcome T seed) (is.all seed old)
      | inr at ↦ elim (Contains-cons_cases last [] seed at) [
        | inl same ↦ subst (λ k. Contains (sampled_outcomes more) (seeded_outcome T k)) same new
        | inr none ↦ absurd (Contains-nil seed none)
      ]
    ]

    outcome-at : (k : ℕ) (d : Sampled) (o : RunOutcome) → k < length found → get_or (sampled_outcomes found) k o ≡ (get_or found k d).witness.outcome
    outcome-at k d o here = get_or-map (λ (x : Sampled). x.witness.outcome) found k d o here

    -- the outcome of the seed stands at a place
    module _ (k : ℕ) (s : Sampled) (here : slice_get found k ≡ Some s) (same : s.witness.outcome ≡ seeded_outcome T last) where
      abbrev counted : Sampled
      counted = record s { count = s.count + 1 }

      k-within : k < length found
      k-within = slice_get_within found k s here

      k-is : (d : Sampled) → get_or found k d ≡ s
      k-is d = get_or_from_slice_get found k s d here

      was : IsSampled T from n s
      was = subst (IsSampled T from n) (k-is s) (is.sampled k s k-within)

      counted-is : IsSampled T from (n + 1) counted
      counted-is = record {
        journal = was.journal;
        outcome = was.outcome;
        among = subst (λ ks. Contains ks s.seed) (sym more-seeds) (Contains-append_left (seeds_of from n) (last ∷ []) s.seed was.among);
        least = was.least;
        count = subst (λ ks. HasSoMany (IsOutcomeOf s.witness.outcome) ks (s.count + 1)) (sym more-seeds)
            (count-more (IsOutcomeOf s.witness.outcome) (seeds_of from n) s.count last (sym same) was.count);
      }

      same-outcomes : sampled_outcomes (set found k counted) ≡ sampled_outcomes found
      same-outcomes = map-set_same (λ (x : Sampled). x.witness.outcome) found k counted s (ap (λ (x : Sampled). x.witness.outcome) (sym (k-is s)))

      listed : Contains (sampled_outcomes found) (seeded_outcome T last)
      listed =
          let long = length-map found (λ (x : Sampled). x.witness.outcome) in
          let inside = k-within in
          subst (Contains (sampled_outcomes found)) (outcome-at k s s.witness.outcome inside ∙ (ap (λ (x : Sampled). x.witness.outcome) (k-is s) ∙ same))
          (Contains-get_or (sampled_outcomes found) k s.witness.outcome (omega (arith, long, inside)))

      alone : (j : ℕ) (d : Sampled) → j < length found → j ≢ k → seeded_outcome T last ≡ (get_or found j d).witness.outcome → ⊥
      alone j d there apart also =
          let long = length-map found (λ (x : Sampled). x.witness.outcome) in
          let inside = k-within in
          let o : RunOutcome = seeded_outcome T last in
          let at_j : get_or (sampled_outcomes found) j o ≡ o = outcome-at j d o there ∙ sym also in
          let at_k : get_or (sampled_outcomes found) k o ≡ o = outcome-at k d o inside ∙ (ap (λ (x : Sampled). x.witness.outcome) (k-is d) ∙ same) in
          elim (cases_lt j k) [
            | inl less ↦ is.once j k o less (omega (arith, long, inside)) (at_j ∙ sym at_k)
            | inr past ↦ is.once k j o (omega (arith, past, apart)) (omega (arith, long, there)) (at_k ∙ sym at_j)
          ]

      sampled-again : All (IsSampled T from (n + 1)) (set found k counted)
      sampled-again j d there =
          let long = length-set found k counted in
          let within : j < length found = omega (arith, there, long) in
          elim (cases_eq j k) [
            | inl equal ↦ subst (IsSampled T from (n + 1))
                (sym (ap (λ m. get_or (set found k counted) m d) equal ∙ get_or-set_same found k counted d k-within)) counted-is
            | inr apart ↦ subst (IsSampled T from (n + 1))
                (sym (get_or-set_other found k j counted d apart)) (kept (get_or found j d) (is.sampled j d within) (alone j d within apart))
          ]

      pub sample-again : IsSample T from (n + 1) (set found k (record s { count = s.count + 1 }))
      sample-again = record {
        all = grown-all (set found k counted) (λ o there. subst (λ os. Contains os o) (sym same-outcomes) there)
            (subst (λ os. Contains os (seeded_outcome T last)) (sym same-outcomes) listed);
        sampled = sampled-again;
        once = subst (AllPairs (λ a b. a ≢ b)) (sym same-outcomes) is.once;
      }

    -- the outcome of the seed is new
    module _ (none : All (λ (s : Sampled). s.witness.outcome ≢ seeded_outcome T last) found) where
      abbrev newest : Sampled
      newest = record { witness = witness_of T (seeded T last); count = 1; seed = last }

      unlisted : Contains (sampled_outcomes found) (seeded_outcome T last) → ⊥
      unlisted among =
          let (s, inside, told) = Contains-from_map (λ (x : Sampled). x.witness.outcome) found (seeded_outcome T last) among in
          All-contains (λ (x : Sampled). x.witness.outcome ≢ seeded_outcome T last) found s none inside told

      newest-is : IsSampled T from (n + 1) newest
      newest-is = record {
        journal = refl;
        outcome = refl;
        among = subst (λ ks. Contains ks last) (sym more-seeds) (Contains-append_right (seeds_of from n) (last ∷ []) last (Contains-head last []));
        least = λ seed low below same. unlisted (subst (Contains (sampled_outcomes found)) same (is.all seed (in-range from n seed low below)));
        count = subst (λ ks. HasSoMany (IsOutcomeOf (seeded_outcome T last)) ks 1) (sym more-seeds)
            (count-more (IsOutcomeOf (seeded_outcome T last)) (seeds_of from n) 0 last refl
            (count-none (IsOutcomeOf (seeded_outcome T last)) (seeds_of from n)
            (λ seed among same. unlisted (subst (Contains (sampled_outcomes found)) same (is.all seed among)))));
      }

      more-outcomes : sampled_outcomes (found ++ newest ∷ []) ≡ sampled_outcomes found ++ seeded_outcome T last ∷ []
      more-outcomes = map-append (λ (x : Sampled). x.witness.outcome) found (newest ∷ [])

      pub sample-first : IsSample T from (n + 1) (found ++ record { witness = witness_of T (seeded T (from + n)); count = 1; seed = from + n } ∷ [])
      sample-first = record {
        all = grown-all (found ++ newest ∷ [])
            (λ o there. subst (λ os. Contains os o) (sym more-outcomes) (Contains-append_left (sampled_outcomes found) (seeded_outcome T last ∷ []) o there))
            (subst (λ os. Contains os (seeded_outcome T last)) (sym more-outcomes)
            (Contains-append_right (sampled_outcomes found) (seeded_outcome T last ∷ []) (seeded_outcome T last) (Contains-head (seeded_outcome T last) [])));
        sampled = All-append (IsSampled T from (n + 1)) found (newest ∷ [])
            (λ j d there. kept (get_or found j d) (is.sampled j d there) (λ same. none j d there (sym same)))
            (All-cons (IsSampled T from (n + 1)) newest [] newest-is (All-nil (IsSampled T from (n + 1))));
        once = subst (AllPairs (λ a b. a ≢ b)) (sym more-outcomes)
            (all_pairs_push (λ a b. a ≢ b) (sampled_outcomes found) (seeded_outcome T last) is.once
            (λ k d inside same. unlisted (subst (Contains (sampled_outcomes found)) same (Contains-get_or (sampled_outcomes found) k d inside))));
      }

    -- either way
    pub sample-next : (w : Witness) (new : List Sampled) → w ≡ witness_of T (seeded T (from + n))
        → NextSampled found w (from + n) new → IsSample T from (n + 1) new
    sample-next w new run (again k s here same made) =
        subst (IsSample T from (n + 1)) (sym made) (sample-again k s here (same ∙ ap (λ (x : Witness). x.outcome) run))
    sample-next w new run (first none made) =
        subst (IsSample T from (n + 1)) (sym (made ∙ ap (λ (x : Witness). found ++ record { witness = x; count = 1; seed = from + n } ∷ []) run))
        (sample-first (λ k d here same. none k d here (same ∙ sym (ap (λ (x : Witness). x.outcome) run))))
