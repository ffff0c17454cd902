-- The seeded journal: each step draws one word, which picks one of the enabled events ("Runs" in
-- docs/machine.md).
use Rattle.std.specs.Prelude.{ℕ, zero, suc, ◌+◌, ◌-◌, ◌*◌, ◌%◌, Bool, true, false, List, [], ◌∷◌, ◌++◌, length}
use Rattle.std.specs.Prelude.{count_by, slice_get, Option}
use Rattle.std.specs.Option.{option_map_or}
use Rattle.rand_pcg.specs.Lcg.{Lcg}
use Rattle.rand_pcg.specs.Pcg.{pcg32}
use Rattle.sem_pick.specs.Seeds.{generator_of}
use Rattle.sem_msg.specs.declared.event.Act.{Act}
use Rattle.sem_msg.specs.declared.event.Act.TheVariants.{Call as Calls, Kill}
use Rattle.sem_msg.specs.declared.event.Event.{Event}
use Rattle.sem_msg.specs.declared.entry.Entry.{Entry}
use Rattle.sem_msg.specs.Prelude.{Setup}
use Rattle.sem_msg.specs.Setup.{call_count, kill_count}
use Rattle.sem_machine.specs.Machine.{World, after, entry_of, enabled}
use Rattle.sem_machine.specs.Schedules.{world_after}

-- no run has more entries: 24 for each call and one for each kill
abbrev pub entry_limit : Setup → ℕ
entry_limit T = 24 * call_count T + kill_count T

abbrev pub is_call : Act → Bool
is_call (Calls v) = true
is_call act = false

abbrev pub is_kill : Act → Bool
is_kill (Kill v) = true
is_kill act = false

-- the bound on the entries of a journal, by the calls and the kills in it
abbrev pub entry_bound : List Entry → ℕ
entry_bound J = 24 * count_by (λ e. is_call e.event.act) J + count_by (λ e. is_kill e.event.act) J

-- the event that a word picks among the enabled ones, if there is one
abbrev pub picked : ℕ → List Event → Option Event
picked word es = slice_get es (word % length es)

-- The entries of a run from a world on: as long as an event is enabled and n is not used up, the
-- next word picks one.
unfoldable pub drain : ℕ → Setup → World → Lcg → List Entry
drain zero T W g = []
drain (suc n) T W g = option_map_or (λ e. entry_of T W e ∷ drain n T (after T W e) (pcg32 g).1)
    (picked (pcg32 g).0 (enabled T W)) []

-- a journal drained: continued by the words of the seed
abbrev pub drained : Setup → List Entry → ℕ → List Entry
drained T J seed = J ++ drain (entry_limit T - length J) T (world_after T J) (generator_of seed)

-- the seeded journal
abbrev pub seeded : Setup → ℕ → List Entry
seeded T seed = drained T [] seed
