-- What the private functions of this crate say of runs kept in chunks, and of the chunks that a
-- range of addresses meets.
use Rattle.std.specs.Prelude.{◌≡◌, ℕ, ◌+◌, ◌≤◌, List, [], ◌∷◌, All, length, map, take, drop}
use Rattle.std.specs.Global.{Vec}
use Rattle.std.specs.List.{flat_map}
use Rattle.sem_access.specs.declared.run.Run.{Run}
use Rattle.sem_access.specs.Runs.{AreRuns}
use Rattle.sem_mem.specs.declared.chunks.TheConstants.{CHUNK}

-- the runs of all chunks
abbrev pub together : List (Vec Run) → List Run
together cs = flat_map (λ c. c.items) cs

-- a chunk has a run
abbrev pub HasAnyRun : Vec Run → Type 0
HasAnyRun c = 1 ≤ length c.items

-- a chunk has a run, and not too many
abbrev pub IsSized : Vec Run → Type 0
IsSized c = HasAnyRun c × (length c.items ≤ CHUNK)

-- each chunk has a run and not too many, and together they are runs
pub record AreChunks (cs : List (Vec Run)) : Type 0 where
  pub sized : All IsSized cs
  pub runs : AreRuns (together cs)

-- where the first of some runs begins
abbrev pub first_base : List Run → ℕ
first_base [] = 0
first_base (r ∷ rs) = r.base

-- where each chunk begins
abbrev pub beginnings_of : List (Vec Run) → List ℕ
beginnings_of cs = map (λ c. first_base c.items) cs

-- chunks, and where each of them begins
pub record AreIndexed (cs : List (Vec Run)) (beginnings : List ℕ) : Type 0 where
  pub chunks : AreChunks cs
  pub begin : beginnings ≡ beginnings_of cs

-- the runs of the chunks before chunk i end before the addresses from base up to end, and those of
-- the chunks from chunk j on begin after them
pub record AreMetChunks (cs : List (Vec Run)) (base end i j : ℕ) : Type 0 where
  pub order : i ≤ j
  pub within : j ≤ length cs
  pub before : All (λ r. r.base + r.len ≤ base) (together (take i cs))
  pub behind : All (λ r. end ≤ r.base) (together (drop j cs))
