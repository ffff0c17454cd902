-- What is found wrong with a journal excludes all else.
use Rattle.std.proofs.Common.{◌≡◌, ℕ, ◌≤◌, List, take, slice_get, Option, sym, ◌∙◌, ap, arith}
use Rattle.std.specs.Option.{option_map}
use Rattle.std.proofs.lemmas.Option.{slice_get_within, none-some, same_Some}
use Rattle.sem_msg.specs.declared.event.Event.{Event}
use Rattle.sem_msg.specs.declared.entry.Entry.{Entry}
use Rattle.sem_msg.specs.Setup.{Setup}
use Rattle.sem_machine.specs.Machine.{entry_of}
use Rattle.sem_machine.specs.Schedules.{world_after}
use Rattle.sem_machine.specs.Living.{IsQuiet}
use Rattle.sem_check.specs.Replays.{entry_made, DiffersAt}
use Rattle.sem_check.specs.Verdicts.{GoesOn}
use Rattle.sem_check.proofs.Longest.{differs-longest}

-- no entry differs before the first that does
not-later : (T : Setup) (J : List Entry) (m n : ℕ) (x y : Entry) (a b : Option Entry) → DiffersAt T J m x a → DiffersAt T J n y b → n ≤ m
not-later T J m n x y a b first second =
    let inside = slice_get_within J n y second.there in
    (differs-longest T J m x a first).longest n (omega arith) second.before

pub one-difference : (T : Setup) (J : List Entry) (m n : ℕ) (x y : Entry) (a b : Option Entry) → DiffersAt T J m x a → DiffersAt T J n y b →
    (m ≡ n) × (x ≡ y) × (a ≡ b)
one-difference T J m n x y a b first second =
    let below = not-later T J m n x y a b first second in
    let above = not-later T J n m y x b a second first in
    let place : m ≡ n = omega arith in
    let entered : x ≡ y = same_Some x y (sym first.there ∙ (ap (slice_get J) place ∙ second.there)) in (
      place,
      entered,
      first.made ∙ (ap (λ (k : ℕ). entry_made T (world_after T (take k J)) x.event) place
          ∙ (ap (λ (z : Entry). entry_made T (world_after T (take n J)) z.event) entered ∙ sym second.made)),
    )

pub not-quiet : (T : Setup) (J : List Entry) (n : ℕ) (x : Entry) → GoesOn T J n x → IsQuiet T (world_after T J) → ⊥
not-quiet T J n x goes quiet = none-some x (sym (ap (λ (es : List Event). option_map (entry_of T (world_after T J)) (slice_get es 0)) quiet) ∙ goes.next_entry)

pub one-next : (T : Setup) (J : List Entry) (m n : ℕ) (x y : Entry) → GoesOn T J m x → GoesOn T J n y → (m ≡ n) × (x ≡ y)
one-next T J m n x y first second = (first.counted ∙ sym second.counted, same_Some x y (sym first.next_entry ∙ second.next_entry))
