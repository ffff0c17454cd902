-- The outcomes of the runs of a setup by seeds.
use Rattle.std.specs.Prelude.{◌≡◌, ◌≢◌, ℕ, ◌+◌, ◌<◌, ◌≤◌, List, [], ◌∷◌, ◌++◌, map, slice_get, slice_set, Some}
use Rattle.std.specs.Prelude.{Contains, All, AllPairs}
use Rattle.std.specs.List.{range_with_len}
use Rattle.sem_machine.specs.Prelude.{Setup, seeded}
use Rattle.sem_histories.specs.Outcomes.{RunOutcome, outcome}
use Rattle.sem_histories.specs.Listing.{Witness, HasSoMany}
use Rattle.sem_histories.specs.declared.witnesses.Sampled.{Sampled}

-- the outcome of the run by a seed
abbrev pub seeded_outcome : Setup → ℕ → RunOutcome
seeded_outcome T seed = outcome T (seeded T seed)

abbrev pub sampled_outcomes : List Sampled → List RunOutcome
sampled_outcomes found = map (λ s. s.witness.outcome) found

-- the seeds of a sample
abbrev pub seeds_of : ℕ → ℕ → List ℕ
seeds_of from seeds = range_with_len from seeds

-- Exactly that many seeds of the sample end with the outcome. The given seed is the least of them,
-- and the journal is that of its run.
pub record IsSampled (T : Setup) (from seeds : ℕ) (s : Sampled) : Type 0 where
  pub journal : s.witness.journal ≡ seeded T s.seed
  pub outcome : s.witness.outcome ≡ seeded_outcome T s.seed
  pub among : Contains (seeds_of from seeds) s.seed
  pub least : (seed : ℕ) → from ≤ seed → seed < s.seed → seeded_outcome T seed ≢ s.witness.outcome
  pub count : HasSoMany (λ seed. seeded_outcome T seed ≡ s.witness.outcome) (seeds_of from seeds) s.count

-- Each of that many seeds from `from` on ends with one of the outcomes. Each outcome is sampled so,
-- and none stands twice.
pub record IsSample (T : Setup) (from seeds : ℕ) (found : List Sampled) : Type 0 where
  pub all : (seed : ℕ) → Contains (seeds_of from seeds) seed →
      Contains (sampled_outcomes found) (seeded_outcome T seed)
  pub sampled : All (IsSampled T from seeds) found
  pub once : AllPairs (λ a b. a ≢ b) (sampled_outcomes found)

-- the first seed, how many seeds there were, and what was found
pub record SampleValue : Type 0 where
  pub from : ℕ
  pub seeds : ℕ
  pub found : List Sampled

-- One more run is counted: where its outcome stands, or at the end of the list, if it stands
-- nowhere.
pub data NextSampled (old : List Sampled) (w : Witness) (seed : ℕ) (new : List Sampled) : Type 0 where
  again : (k : ℕ) (s : Sampled) → slice_get old k ≡ Some s → s.witness.outcome ≡ w.outcome
      → new ≡ slice_set old k (record s { count = s.count + 1 }) → NextSampled old w seed new
  first : All (λ s. s.witness.outcome ≢ w.outcome) old
      → new ≡ old ++ record { witness = w; count = 1; seed = seed } ∷ [] → NextSampled old w seed new
