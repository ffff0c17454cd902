-- How many calls and kills a journal has ("The bound" in docs/proof.md).
use Rattle.std.specs.Prelude.{ℕ, List, count_by}
use Rattle.sem_machine.specs.Prelude.{Entry}
use Rattle.sem_machine.specs.Seeded.{is_call, is_kill}

-- the entries of calls
abbrev pub calls_made : List Entry → ℕ
calls_made J = count_by (λ e. is_call e.event.act) J

-- the entries of kills
abbrev pub kills_made : List Entry → ℕ
kills_made J = count_by (λ e. is_kill e.event.act) J
