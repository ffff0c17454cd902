-- Runs: longest ranges of addresses with the same last write ("What memory holds" in
-- docs/machine.md).
use Rattle.std.specs.Prelude.{◌≡◌, ◌≢◌, ℕ, zero, suc, ◌+◌, ◌<◌, ◌≤◌, ◌==◌, ◌&&◌, List, [], ◌∷◌, Option, Some, None}
use Rattle.std.specs.Prelude.{All, find, if◌then◌else◌}
use Rattle.std.specs.Option.{option_map}
use Rattle.sem_key.specs.declared.limits.TheConstants.{ADDRESSES}
use Rattle.sem_access.specs.declared.run.Run.{Run}
use Rattle.sem_access.specs.LastWrites.{has_address}

-- the run of that many addresses from one on, last written by that entry
abbrev pub run_of : (base len entry : ℕ) → Run
run_of base len entry = record { base = base; len = len; entry = entry }

-- Runs of addresses with given last writes.

-- an address before runs that begin after it: it is a run of its own, or joins the next one
abbrev pub joined : ℕ → Option ℕ → List Run → List Run
joined a None rs = rs
joined a (Some entry) [] = run_of a 1 entry ∷ []
joined a (Some entry) (r ∷ rs) =
    if (r.base == a + 1) && (r.entry == entry)
    then run_of a (r.len + 1) entry ∷ rs
    else run_of a 1 entry ∷ r ∷ rs

-- the runs of that many addresses from one on
unfoldable pub runs_from : (ℕ → Option ℕ) → (address many : ℕ) → List Run
runs_from last a zero = []
runs_from last a (suc n) = joined a (last a) (runs_from last (a + 1) n)

-- the runs of all addresses
unfoldable pub all_runs : (ℕ → Option ℕ) → List Run
all_runs last = runs_from last 0 ADDRESSES

-- Runs as they are kept.

-- the last write of an address, by the run that has it
abbrev pub entry_at : List Run → ℕ → Option ℕ
entry_at rs a = option_map (λ r. r.entry) (find (λ r. has_address r.base r.len a) rs)

-- a run has an address, and none past the end of memory
abbrev pub IsValidRun : Run → Type 0
IsValidRun r = (1 ≤ r.len) × (r.base + r.len ≤ ADDRESSES)

-- a run begins after the end of another one, or right there with another entry
abbrev pub IsApart : ℕ → Option ℕ → Run → Type 0
IsApart end entry r = (end ≤ r.base) × (end ≡ r.base → entry ≢ Some r.entry)

-- runs after an address at which a run of that entry ends: they rise, and none can join the one
-- before it
unfoldable pub AreRunsBehind : ℕ → Option ℕ → List Run → Type 0
AreRunsBehind end entry [] = Unit {0}
AreRunsBehind end entry (r ∷ rs) =
    IsValidRun r × IsApart end entry r × AreRunsBehind (r.base + r.len) (Some r.entry) rs

abbrev pub AreRuns : List Run → Type 0
AreRuns rs = AreRunsBehind 0 None rs

-- the entry comes after those of all runs
abbrev pub IsNewer : List Run → ℕ → Type 0
IsNewer rs entry = All (λ r. r.entry < entry) rs
