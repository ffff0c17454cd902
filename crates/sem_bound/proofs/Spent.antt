-- The bound by the setup, and by numbers of calls; and no run is spent: after as many entries as a run can have
-- nothing is enabled.
use Rattle.std.proofs.Common.{◌≡◌, ap, ◌+◌, ◌*◌, ◌≤◌, List, [], ◌∷◌, ◌++◌, length, refl, sym, subst, arith}
use Rattle.std.specs.Prelude.{if◌then◌else◌}
use Rattle.std.specs.List.{Contains, filter}
use Rattle.std.proofs.lemmas.List.Sums.{sum_by-cons}
use Rattle.sem_msg.specs.declared.entry.Entry.{Entry}
use Rattle.sem_msg.specs.declared.event.Event.{Event}
use Rattle.sem_msg.specs.Setup.{Setup, IsSetup, call_count, kill_count}
use Rattle.sem_machine.specs.Machine.{World, start, after, entry_of, is_enabled, enabled, all_events}
use Rattle.sem_machine.specs.Schedules.{IsRun, IsSchedule, world_after}
use Rattle.sem_machine.specs.Living.{IsQuiet}
use Rattle.sem_machine.specs.Seeded.{is_call, entry_limit, entry_bound}
use Rattle.sem_key.proofs.Members.{Contains-head, Contains-from_filter}
use Rattle.sem_machine.proofs.Pushing.{schedule-push}
use Rattle.sem_bound.specs.Counts.{calls_made, kills_made}
use Rattle.sem_bound.specs.Costs.{call_entries, costs_made, costs_declared}
use Rattle.sem_bound.proofs.Bound.{costs-bounded}
use Rattle.sem_bound.proofs.CostRanges.{declared-few}
use Rattle.sem_bound.proofs.Left.{few-made, brings-few}

-- in terms of the setup
pub costs-limited : (T : Setup) → IsSetup T → (J : List Entry) → IsSchedule T J →
    length J ≤ costs_declared T + kill_count T
costs-limited T valid J runs =
    let bound = costs-bounded T valid J runs in
    let few = few-made T J runs in
    let calls = few.0 in
    let kills = few.1 in
    omega (arith, bound, calls, kills)

-- 21 for each call are enough
costs-few : (T : Setup) (J : List Entry) (W : World) → IsRun T W J → costs_made T J ≤ 21 * calls_made J
unfolding IsRun
costs-few T [] W runs = omega arith
costs-few T (e ∷ es) W runs =
    let rest = costs-few T es (after T W e.event) runs.2 in
    let costs = sum_by-cons (λ (x : Entry). call_entries T x.event.kernel x.detail) e es in
    let calls = sum_by-cons (λ (x : Entry). if is_call x.event.act then 1 else 0) e es in
    let few = brings-few T W e.event.kernel e.event.act in
    let shown = ap (λ (x : Entry). call_entries T e.event.kernel x.detail) runs.1 in
    omega (arith, rest, costs, calls, few, shown)

pub bounded : (T : Setup) → IsSetup T → (J : List Entry) → IsSchedule T J →
    length J ≤ 21 * calls_made J + kills_made J
bounded T valid J runs =
    let bound = costs-bounded T valid J runs in
    let few = costs-few T J (start T) runs in
    omega (arith, bound, few)

pub limited : (T : Setup) → IsSetup T → (J : List Entry) → IsSchedule T J →
    length J ≤ 21 * call_count T + kill_count T
limited T valid J runs =
    let bound = costs-limited T valid J runs in
    let few = declared-few T in
    omega (arith, bound, few)

pub within-limit : (T : Setup) → IsSetup T → (J : List Entry) → IsSchedule T J → length J ≤ entry_limit T
within-limit T valid J runs = let few = limited T valid J runs in omega (arith, few)

pub within-bound : (T : Setup) → IsSetup T → (J : List Entry) → IsSchedule T J → length J ≤ entry_bound J
within-bound T valid J runs = let few = bounded T valid J runs in omega (arith, few)

pub never-spent : (T : Setup) → IsSetup T → (J : List Entry) → IsSchedule T J → entry_limit T ≤ length J →
    IsQuiet T (world_after T J)
unfolding enabled
never-spent T valid J runs full = from (enabled T (world_after T J)) refl
  where
    longer : (xs : List Entry) (x : Entry) → length (xs ++ x ∷ []) ≡ length xs + 1
    longer [] x = refl
    longer (y ∷ ys) x = let rest = longer ys x in omega (arith, rest)

    from : (es : List Event) → enabled T (world_after T J) ≡ es → es ≡ []
    from [] same = refl
    from (e ∷ es) same =
        let W : World = world_after T J in
        let among : Contains (filter (is_enabled T W) (all_events T)) e =
        subst (λ xs. Contains xs e) (sym same) (Contains-head e es) in
        let allowed = (Contains-from_filter (is_enabled T W) (all_events T) e among).1 in
        let few = within-limit T valid (J ++ entry_of T W e ∷ []) (schedule-push T J e runs allowed) in
        let more = longer J (entry_of T W e) in
        absurd (omega (arith, few, more, full))
