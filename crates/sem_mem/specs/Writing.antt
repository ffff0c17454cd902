-- What the private functions of this crate say of how runs change when an entry writes a range, and
-- of what they tell of a range.
use Rattle.std.specs.Prelude.{ℕ, ◌+◌, ◌-◌, ◌==◌, min, max, nat_lt, List, ◌∷◌, ◌++◌, filter_map, Option, Some, None}
use Rattle.std.specs.Prelude.{if◌then◌else◌}
use Rattle.sem_access.specs.declared.run.Run.{Run}
use Rattle.sem_access.specs.declared.look.Look.{Look}
use Rattle.sem_access.specs.LastWrites.{greater_with}
use Rattle.sem_access.specs.Runs.{run_of}

-- the part of a run that lies below an address
abbrev pub lower_part : ℕ → Run → Option Run
lower_part end r =
    if nat_lt r.base end
    then Some (run_of r.base (min (r.base + r.len) end - r.base) r.entry)
    else None

-- the part of a run that lies from an address on
abbrev pub upper_part : ℕ → Run → Option Run
upper_part from r =
    if nat_lt from (r.base + r.len)
    then Some (run_of (max r.base from) (r.base + r.len - max r.base from) r.entry)
    else None

-- the runs after an entry wrote a range that has an address
abbrev pub overwritten : List Run → (base len entry : ℕ) → List Run
overwritten rs base len entry =
    filter_map (lower_part base) rs
    ++ run_of base len entry
    ∷ filter_map (upper_part (base + len)) rs

-- how many addresses of a run lie from one address on and below another
abbrev pub shared : (from end : ℕ) → Run → ℕ
shared from end r = min end (r.base + r.len) - max r.base from

-- what was found, and what a run tells besides
abbrev pub with_run : (from end : ℕ) → Look → Run → Look
with_run from end found r =
    if shared from end r == 0
    then found
    else record {
      written = found.written + shared from end r;
      newest = greater_with r.entry found.newest;
    }

-- the greater of two optional numbers
abbrev pub greater_of : Option ℕ → Option ℕ → Option ℕ
greater_of None other = other
greater_of (Some n) other = greater_with n other

-- what some runs tell, and what others tell that share no address with them
abbrev pub both : Look → Look → Look
both some more = record {
  written = some.written + more.written;
  newest = greater_of some.newest more.newest;
}
