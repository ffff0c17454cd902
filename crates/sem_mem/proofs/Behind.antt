-- Runs one behind another: where some end, those behind them begin.
use Rattle.std.proofs.Common.{◌≡◌, ℕ, ◌+◌, ◌≤◌, ◌<◌, List, [], ◌∷◌, ◌++◌, Option, Some, None, refl, ◌∙◌, inl, inr, arith, ◌⊎◌}
use Rattle.std.specs.List.{All}
use Rattle.std.proofs.lemmas.Bool.{cases_lt}
use Rattle.std.proofs.lemmas.List.Elements.{All-nil, All-cons, All-head, All-tail, All-weaker}
use Rattle.sem_access.specs.declared.run.Run.{Run}
use Rattle.sem_access.specs.Runs.{AreRunsBehind, AreRuns, entry_at}
use Rattle.sem_mem.proofs.KeptRuns.{first-run, first-apart, more-runs, no-runs, run-before, entry-later, below-range, behind-range}

abbrev pub EndsBy : ℕ → Run → Type 0
EndsBy a r = r.base + r.len ≤ a

abbrev pub BeginsFrom : ℕ → Run → Type 0
BeginsFrom a r = a ≤ r.base

-- where the last of some runs ends, or that address if there is none
abbrev pub end_behind : ℕ → List Run → ℕ
end_behind a [] = a
end_behind a (r ∷ rs) = end_behind (r.base + r.len) rs

-- Some of the runs.

-- they are runs behind no other
pub some-runs : (b : ℕ) (e : Option ℕ) (rs : List Run) → AreRunsBehind b e rs → AreRuns rs
some-runs b e [] are = no-runs 0 None
some-runs b e (r ∷ rs) are = run-before 0 None r rs (first-run b e r rs are) (omega arith, λ touch same. absurd (cc)) (more-runs b e r rs are)

-- the first of them
pub runs-before : (b : ℕ) (e : Option ℕ) (rs qs : List Run) → AreRunsBehind b e (rs ++ qs) → AreRunsBehind b e rs
runs-before b e [] qs are = no-runs b e
runs-before b e (r ∷ rs) qs are = run-before b e r rs (first-run b e r (rs ++ qs) are) (first-apart b e r (rs ++ qs) are)
    (runs-before (r.base + r.len) (Some r.entry) rs qs (more-runs b e r (rs ++ qs) are))

-- the entry of the last
abbrev pub entry_behind : Option ℕ → List Run → Option ℕ
entry_behind e [] = e
entry_behind e (r ∷ rs) = entry_behind (Some r.entry) rs

-- the others
pub runs-behind : (b : ℕ) (e : Option ℕ) (rs qs : List Run) → AreRunsBehind b e (rs ++ qs) → AreRunsBehind (end_behind b rs) (entry_behind e rs) qs
runs-behind b e [] qs are = are
runs-behind b e (r ∷ rs) qs are = runs-behind (r.base + r.len) (Some r.entry) rs qs (more-runs b e r (rs ++ qs) are)

-- Where they end and begin.

-- they do not end before the address behind which they are
pub end-from : (b : ℕ) (e : Option ℕ) (rs : List Run) → AreRunsBehind b e rs → b ≤ end_behind b rs
end-from b e [] are = omega arith
end-from b e (r ∷ rs) are =
    let apart = first-apart b e r rs are in
    let rest = end-from (r.base + r.len) (Some r.entry) rs (more-runs b e r rs are) in
    omega (arith, apart.0, rest)

-- each ends by the end of the last
pub ends-by : (b : ℕ) (e : Option ℕ) (rs : List Run) → AreRunsBehind b e rs → All (EndsBy (end_behind b rs)) rs
ends-by b e [] are = All-nil (EndsBy b)
ends-by b e (r ∷ rs) are =
    let more = more-runs b e r rs are in
    All-cons (EndsBy (end_behind (r.base + r.len) rs)) r rs (end-from (r.base + r.len) (Some r.entry) rs more) (ends-by (r.base + r.len) (Some r.entry) rs more)

-- each begins behind the address
pub begin-behind : (b : ℕ) (e : Option ℕ) (rs : List Run) → AreRunsBehind b e rs → All (BeginsFrom b) rs
begin-behind b e [] are = All-nil (BeginsFrom b)
begin-behind b e (r ∷ rs) are =
    let apart = first-apart b e r rs are in
    let later : (q : Run) → BeginsFrom (r.base + r.len) q → BeginsFrom b q = λ q from. omega (arith, apart.0, from) in
    All-cons (BeginsFrom b) r rs apart.0
    (All-weaker (BeginsFrom (r.base + r.len)) (BeginsFrom b) later rs (begin-behind (r.base + r.len) (Some r.entry) rs (more-runs b e r rs are)))

-- What they do not tell.

-- those that end by an address tell nothing from there on
pub before-silent : (base : ℕ) (qs : List Run) (a : ℕ) → All (EndsBy base) qs → base ≤ a → entry_at qs a ≡ None
before-silent base [] a ends from = refl
before-silent base (q ∷ qs) a ends from =
    let ends-here : q.base + q.len ≤ base = All-head (EndsBy base) q qs ends in
    entry-later q qs a (behind-range q.base q.len a (omega (arith, ends-here, from))) ∙ before-silent base qs a (All-tail (EndsBy base) q qs ends) from

-- those that begin from an address on tell nothing below it
pub behind-silent : (end : ℕ) (qs : List Run) (a : ℕ) → All (BeginsFrom end) qs → a < end → entry_at qs a ≡ None
behind-silent end [] a begins below = refl
behind-silent end (q ∷ qs) a begins below =
    let begins-here : end ≤ q.base = All-head (BeginsFrom end) q qs begins in
    entry-later q qs a (below-range q.base q.len a (omega (arith, begins-here, below))) ∙ behind-silent end qs a (All-tail (BeginsFrom end) q qs begins) below

-- of the first of some runs and the others one part tells nothing of an address
pub one-silent : (rs qs : List Run) → AreRuns (rs ++ qs) → (a : ℕ) → (entry_at rs a ≡ None) ⊎ (entry_at qs a ≡ None)
one-silent rs qs are a = elim (cases_lt a (end_behind 0 rs)) [
  | inl below ↦ inr (behind-silent (end_behind 0 rs) qs a (begin-behind (end_behind 0 rs) (entry_behind None rs) qs (runs-behind 0 None rs qs are)) below)
  | inr from ↦ inl (before-silent (end_behind 0 rs) rs a (ends-by 0 None rs (runs-before 0 None rs qs are)) from)
]
