-- The way to a history.
use Rattle.std.specs.Prelude.{◌≡◌, ℕ, ◌-◌, ◌<◌, List, [], ◌∷◌, slice_get, Some}
use Rattle.sem_outcomes.specs.declared.steps.Step.{Step}

-- History `to` comes from history `from` by these. The first of them is `to`, and each goes on from
-- the one after it.
abbrev pub ComesFrom : List Step → ℕ → List ℕ → ℕ → Type 0
ComesFrom steps to [] from = to ≡ from
ComesFrom steps to (n ∷ ns) from =
    (n ≡ to) × (0 < n) × ((s : Step) × (slice_get steps (n - 1) ≡ Some s) × ComesFrom steps s.from ns from)
