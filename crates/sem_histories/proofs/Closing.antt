-- A set of schedules that no event leads out of represents every schedule.
use Rattle.std.proofs.Common.{◌≡◌, true, List, [], ◌∷◌, ◌++◌, refl, sym, ◌∙◌, subst}
use Rattle.std.specs.List.{Contains}
use Rattle.std.proofs.lemmas.List.Elements.{All-contains}
use Rattle.sem_msg.specs.declared.entry.Entry.{Entry}
use Rattle.sem_msg.specs.declared.event.Event.{Event}
use Rattle.sem_msg.specs.Setup.{Setup, IsSetup}
use Rattle.sem_machine.specs.Machine.{start, is_enabled}
use Rattle.sem_machine.specs.Schedules.{IsSchedule, world_after}
use Rattle.sem_safety.proofs.GoingOn.{entry-enabled}
use Rattle.sem_parts.proofs.Growing.{snoc-induct}
use Rattle.sem_histories.specs.Outcomes.{RunOutcome, HasSameParts, HasSameState, IsOutcome, and_then}
use Rattle.sem_histories.specs.Closed.{Sameness, Telling, ByParts, ByStates, CountsAs, Represents, IsClosed, IsOutcomeAmong}
use Rattle.sem_histories.proofs.SameParts.{same-worlds, parts-next}
use Rattle.sem_histories.proofs.SameOutcomes.{parts-state, state-outcome, state-complete, state-next}

-- What a closed set needs of a sameness, of schedules: it goes on from one to the next, it tells the world, and events keep it.
pub record IsKept (T : Setup) (Same : Sameness) : Type 0 where
  pub follows : (J K L : List Entry) → Same J K → Same K L → Same J L
  pub worlds : (J K : List Entry) → IsSchedule T J → IsSchedule T K → Same J K → world_after T J ≡ world_after T K
  pub onward : (J K : List Entry) (e : Event) → IsSchedule T J → IsSchedule T K → Same J K → Same (and_then T J e) (and_then T K e)

parts-kept : (T : Setup) → IsKept T (HasSameParts T)
parts-kept T = record {
  follows = λ J K L first second i here. first i here ∙ second i here;
  worlds = same-worlds T;
  onward = λ J K e runs runs' same. parts-next T J K runs runs' same e;
}

state-kept : (T : Setup) → IsKept T (HasSameState T)
state-kept T = record {
  follows = λ J K L first second. record { world = first.world ∙ second.world; codes = λ d among. first.codes d among ∙ second.codes d among };
  worlds = λ J K runs runs' same. same.world;
  onward = λ J K e runs runs' same. state-next T J K e same;
}

module _ (T : Setup) (Same : Sameness) (kept : IsKept T Same) (V : List (List Entry)) (closed : IsClosed Same T V) where
  of-set : (K : List Entry) → Contains V K → IsSchedule T K
  of-set K among = All-contains (IsSchedule T) V K closed.schedules among

  -- one of the set goes on by what the schedule goes on by
  more : (J : List Entry) (e : Event) → IsSchedule T J → Represents Same V J → is_enabled T (world_after T J) e ≡ true → Represents Same V (and_then T J e)
  more J e runs (K, among, same) enabled =
      let runs' = of-set K among in
      let there : is_enabled T (world_after T K) e ≡ true = subst (λ W. is_enabled T W e ≡ true) (kept.worlds J K runs runs' same) enabled in
      let (L, within, alike) = closed.onward K e among there in
      (L, within, kept.follows (and_then T J e) (and_then T K e) L (kept.onward J K e runs runs' same) alike)

  pub closed-all : (J : List Entry) → IsSchedule T J → Represents Same V J
  closed-all J = snoc-induct (λ L. IsSchedule T L → Represents Same V L) (λ runs. closed.start) (λ L e before runs.
      let (first, enabled, made) = entry-enabled T L (start T) e [] runs in
      subst (λ x. Represents Same V (L ++ x ∷ [])) (sym made) (more L e.event first (before first) enabled)) J

-- the complete schedules of a set have no outcome but those of the setup
pub among-outcome : (T : Setup) (V : List (List Entry)) (o : RunOutcome) → IsOutcomeAmong T V o → IsOutcome T o
among-outcome T V o (J, among, complete, is) = (J, complete, is)

-- By parts or by states.

pub itself : (by : Telling) (T : Setup) (J : List Entry) → CountsAs by T J J
itself ByParts T J = λ i here. refl
itself ByStates T J = record { world = refl; codes = λ d among. refl }

pub back : (by : Telling) (T : Setup) (J K : List Entry) → CountsAs by T J K → CountsAs by T K J
back ByParts T J K same = λ i here. sym (same i here)
back ByStates T J K same = record { world = sym same.world; codes = λ d among. sym (same.codes d among) }

pub kept : (by : Telling) (T : Setup) → IsKept T (CountsAs by T)
kept ByParts T = parts-kept T
kept ByStates T = state-kept T

state-of : (by : Telling) (T : Setup) (J K : List Entry) → IsSchedule T J → IsSchedule T K → CountsAs by T J K → HasSameState T J K
state-of ByParts T J K runs runs' same = parts-state T J K runs runs' same
state-of ByStates T J K runs runs' same = same

module _ (by : Telling) (T : Setup) (V : List (List Entry)) (closed : IsClosed (CountsAs by T) T V) where
  pub all-represented : (J : List Entry) → IsSchedule T J → Represents (CountsAs by T) V J
  all-represented = closed-all T (CountsAs by T) (kept by T) V closed

  pub all-outcomes : IsSetup T → (o : RunOutcome) → IsOutcome T o → IsOutcomeAmong T V o
  all-outcomes valid o (J, complete, is) =
      let (K, among, same) = all-represented J complete.schedule in
      let runs' : IsSchedule T K = All-contains (IsSchedule T) V K closed.schedules among in
      let alike : HasSameState T J K = state-of by T J K complete.schedule runs' same in
      (K, among, state-complete T J K valid complete runs' alike, sym (state-outcome T J K alike) ∙ is)
