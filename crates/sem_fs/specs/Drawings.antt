-- Which call of a VPE drew a number ("The file service" in docs/proof.md).
use Rattle.std.specs.Prelude.{◌≡◌, ℕ, ◌<◌, ◌+◌, List, [], ◌∷◌, ◌++◌}
use Rattle.sem_machine.specs.Prelude.{Entry, Setup, row, world_after}
use Rattle.sem_fs.specs.Holding.{home}

-- number n of VPE v was drawn by its call m: by the entry in which it made that call
pub record IsDrawnBy (T : Setup) (J : List Entry) (v n m : ℕ) : Type 0 where
  pub before : List Entry
  pub later : List Entry
  pub entry : Entry
  pub among : J ≡ before ++ entry ∷ later
  pub number : (row (home T (world_after T before) v) v).next_number ≡ n
  pub call : (row (home T (world_after T before) v) v).next_call ≡ m
  pub drawn : n < (row (home T (world_after T (before ++ entry ∷ [])) v) v).next_number
  pub called : (row (home T (world_after T (before ++ entry ∷ [])) v) v).next_call ≡ m + 1
