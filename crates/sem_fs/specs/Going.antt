-- What holds after every schedule of a file service ("The file service" in docs/proof.md).
use Rattle.std.specs.Prelude.{◌≡◌, ℕ, List, Contains, Some}
use Rattle.sem_machine.specs.Prelude.{Entry, Reply, VpeDecl, Setup, decl, world_after}
use Rattle.sem_files.specs.Compiled.{SERVER}
use Rattle.sem_fs.specs.Serving.{IsServedWorld}
use Rattle.sem_fs.specs.Holding.{IsHolding}
use Rattle.sem_fs.specs.Supplies.{IsServing}

-- what every client holds
abbrev pub AllHold : Setup → List Entry → Type 0
AllHold T J =
    (v : ℕ) (d : VpeDecl) → decl T v ≡ Some d → (v ≡ SERVER → ⊥) → IsHolding T J v

-- each reply so far is a success
abbrev pub AllSucceed : List Entry → Type 0
AllSucceed J = (e : Entry) (r : Reply) → Contains J e → e.reply ≡ Some r → r.code ≡ 0

pub record IsGoing (T : Setup) (J : List Entry) : Type 0 where
  pub served : IsServedWorld T (world_after T J)
  pub holding : AllHold T J
  pub serving : IsServing T J
  pub succeeds : AllSucceed J
