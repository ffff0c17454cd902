-- The VPEs that wait for a job: their numbers, 0 to 127, in rising order ("State" in
-- docs/machine.md).
use Rattle.std.specs.Prelude.{ℕ, ◌<◌, ◌==◌, List, filter, All}
use Rattle.std.specs.List.{AllPairs, range_with_len}
use Rattle.std.specs.Int.{bit_at}
use Rattle.sem_msg.specs.Prelude.{VPES}

-- rising numbers of VPEs
pub record IsVpeList (vs : List ℕ) : Type 0 where
  pub rising : AllPairs (λ v w. v < w) vs
  pub below : All (λ v. v < VPES) vs

-- the VPEs of a mask, which has a bit for each
unfoldable pub members : ℕ → List ℕ
members mask = filter (λ v. bit_at mask v == 1) (range_with_len 0 VPES)
