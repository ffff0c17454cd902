-- What the private functions of this crate say of the use of an endpoint.
use Rattle.std.specs.Prelude.{ℕ}
use Rattle.sem_machine.specs.Prelude.{OkCode, Side, endpoint}
use Rattle.sem_dtu.specs.declared.op.Op.{Op}
use Rattle.sem_dtu.specs.Uses.{use_tests, use_done}
use Rattle.sem_machine.specs.Steps.{Step, answer, unless}
use Rattle.sem_machine.specs.Stores.{with_endpoints}

-- the row of a call that uses an endpoint
abbrev pub use_row : Op → ℕ → ℕ → Side → Step
use_row op v ep s =
    unless (use_tests op (endpoint s v ep)) (λ code. answer code s)
    (answer OkCode (with_endpoints (use_done op v ep s.endpoints) s))
