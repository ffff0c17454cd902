use Rattle.std.proofs.Common.{◌≡◌, ℕ, ◌<◌, List, ◌++◌, map, length, take, drop, get_or, decimal}
use Rattle.sem_trace.specs.declared.slots.Slot.TheVariants.{Selector}
use Rattle.sem_trace.specs.Forms.{Place, form_fault}
use Rattle.sem_trace.specs.Declarations.{number_at}
use Rattle.sem_trace.specs.Places.{CanStand}
use Rattle.sem_trace.specs.Slots.{slot_place}
use Rattle.sem_trace.proofs.cursor.Words.slot_numbers.Given as goal

-- the places so far have no fault, and the numbers in them are read
abbrev pub invariant-loop-place : goal.invariant-loop-place
invariant-loop-place l = record {
  five : length l.values ≡ 5;
  fault : (places : List Place) → form_fault (map (slot_place l.version l.kernels) l.slots ++ places) l.fn.self
      ≡ form_fault (map (slot_place l.version l.kernels) (drop l.place l.slots) ++ places) l.self;
  values : (i : ℕ) → i < l.place → get_or l.values i 0 ≡ number_at l.fn.self i;
  within : (i : ℕ) → i < l.place → CanStand (slot_place l.version l.kernels (get_or l.slots i Selector)) (get_or l.values i 0);
  spelled : l.fn.self ≡ map decimal (take l.place l.values) ++ l.self;
  behind : l.self ≡ drop l.place l.fn.self;
}
