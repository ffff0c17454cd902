-- How many entries of a journal are a schedule.
use Rattle.std.proofs.Common.{◌≡◌, ℕ, zero, suc, ◌<◌, true, cond, List, [], ◌∷◌, length, take, slice_get, Option, Some, None, sym, ◌∙◌, ap, subst, arith, inl}
use Rattle.std.proofs.Common.{inr}
use Rattle.std.proofs.lemmas.Bool.{cases_lt}
use Rattle.std.proofs.lemmas.Option.{slice_get_within, none-some, same_Some}
use Rattle.std.proofs.lemmas.List.{take_all}
use Rattle.sem_msg.specs.declared.entry.Entry.{Entry}
use Rattle.sem_msg.specs.Setup.{Setup}
use Rattle.sem_machine.specs.Machine.{World, start, after, entry_of, is_enabled}
use Rattle.sem_machine.specs.Schedules.{IsRun, IsSchedule, run, world_after}
use Rattle.sem_check.specs.Replays.{entry_made, DiffersAt, IsLongestSchedule}

-- what an entry of a run is
pub run-at : (T : Setup) (W : World) (J : List Entry) (m n : ℕ) (x : Entry) → IsRun T W (take m J) → n < m → slice_get J n ≡ Some x →
    (is_enabled T (run T W (take n J)) x.event ≡ true) × (x ≡ entry_of T (run T W (take n J)) x.event)
unfolding IsRun
run-at T W [] m n x is_run less there = absurd (none-some x there)
run-at T W (y ∷ ys) zero n x is_run less there = absurd (omega arith)
run-at T W (y ∷ ys) (suc m) zero x is_run less there = subst (λ (z : Entry). (is_enabled T W z.event ≡ true) × (z ≡ entry_of T W z.event)) (same_Some y x there)
    (is_run.0, is_run.1)
run-at T W (y ∷ ys) (suc m) (suc n) x is_run less there = run-at T (after T W y.event) ys m n x is_run.2 (omega arith) there

-- it is the one that its event makes
run-makes : (T : Setup) (J : List Entry) (m n : ℕ) (x : Entry) → IsSchedule T (take m J) → n < m → slice_get J n ≡ Some x →
    entry_made T (world_after T (take n J)) x.event ≡ Some x
run-makes T J m n x schedule less there =
    let at = run-at T (start T) J m n x schedule less there in
    ap (λ b. cond b (Some (entry_of T (world_after T (take n J)) x.event)) None) at.0 ∙ ap Some (sym at.1)

-- up to the first entry that differs
pub differs-longest : (T : Setup) (J : List Entry) (n : ℕ) (x : Entry) (made : Option Entry) → DiffersAt T J n x made → IsLongestSchedule T J n
differs-longest T J n x made differs = record {
  within = let inside = slice_get_within J n x differs.there in omega arith;
  schedule = differs.before;
  longest = λ m within schedule. elim (cases_lt n m) [
    | inl more ↦ absurd (differs.other (differs.made ∙ run-makes T J m n x schedule more differs.there))
    | inr no_more ↦ no_more
  ];
}

-- all, where none differs
pub all-longest : (T : Setup) (J : List Entry) → IsSchedule T J → IsLongestSchedule T J (length J)
all-longest T J schedule = record {
  within = omega arith;
  schedule = subst (IsSchedule T) (sym (take_all (length J) J (omega arith))) schedule;
  longest = λ m within schedule. within;
}

-- what is a schedule differs nowhere
pub no-difference : (T : Setup) (J : List Entry) (n : ℕ) (x : Entry) (made : Option Entry) → IsSchedule T J → DiffersAt T J n x made → ⊥
no-difference T J n x made schedule differs =
    let inside = slice_get_within J n x differs.there in
    let all = all-longest T J schedule in
    let fewer = (differs-longest T J n x made differs).longest (length J) all.within all.schedule in
    omega arith
