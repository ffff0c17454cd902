use Rattle.std.proofs.Common.{◌≡◌, ℕ, ◌<◌, ◌≤◌, List, ◌++◌, map, length, take, drop, get_or, decimal}
use Rattle.sem_trace.specs.Forms.{Place, form_fault}
use Rattle.sem_trace.specs.Declarations.{number_at}
use Rattle.sem_trace.specs.Places.{number_place, least_at, most_at}
use Rattle.sem_trace.proofs.cursor.Words.numbers.Given as goal

-- the places so far have no fault, and the numbers in them are read
abbrev pub invariant-loop-place : goal.invariant-loop-place
invariant-loop-place l = record {
  five : length l.values ≡ 5;
  fault : (places : List Place) →
      form_fault (map number_place l.ranges ++ places) l.fn.self ≡ form_fault (map number_place (drop l.place l.ranges) ++ places) l.self;
  values : (i : ℕ) → i < l.place → get_or l.values i 0 ≡ number_at l.fn.self i;
  least : (i : ℕ) → i < l.place → least_at l.ranges i ≤ get_or l.values i 0;
  most : (i : ℕ) → i < l.place → get_or l.values i 0 ≤ most_at l.ranges i;
  spelled : l.fn.self ≡ map decimal (take l.place l.values) ++ l.self;
  behind : l.self ≡ drop l.place l.fn.self;
}
