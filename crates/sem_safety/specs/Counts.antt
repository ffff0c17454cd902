-- How many messages of a kind are in flight.
use Rattle.std.specs.Prelude.{ℕ, zero, suc, ◌+◌, Bool, count_by, if◌then◌else◌}
use Rattle.sem_machine.specs.Prelude.{Message, World}
use Rattle.sem_machine.specs.Living.{way}

-- the sum of the values of a function below n
abbrev pub sum_to : ℕ → (ℕ → ℕ) → ℕ
sum_to zero f = 0
sum_to (suc n) f = sum_to n f + f n

-- one, if the message passes the test
abbrev pub count_if : (Message → Bool) → Message → ℕ
count_if test m = if test m then 1 else 0

-- how many messages that pass the test are on the ways between n kernels
abbrev pub in_flight : ℕ → (Message → Bool) → World → ℕ
in_flight n test W = sum_to n (λ i. sum_to n (λ j. count_by test (way W i j)))
