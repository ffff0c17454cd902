-- How far a run goes: where an event is enabled, it has fewer entries than a run can have.
use Rattle.std.proofs.Common.{◌≡◌, ◌<◌, true, List, [], length, subst, inl, inr}
use Rattle.std.proofs.lemmas.Bool.{cases_Bool, ltb-true, ltb-false}
use Rattle.std.specs.Prelude.{nat_lt}
use Rattle.std.specs.List.{Contains}
use Rattle.sem_key.proofs.Members.{Contains-nil}
use Rattle.sem_msg.specs.declared.event.Event.{Event}
use Rattle.sem_msg.specs.declared.entry.Entry.{Entry}
use Rattle.sem_msg.specs.Setup.{Setup, IsSetup}
use Rattle.sem_machine.specs.Machine.{enabled, is_enabled}
use Rattle.sem_machine.specs.Schedules.{IsSchedule, world_after}
use Rattle.sem_machine.specs.Seeded.{entry_limit}
use Rattle.sem_machine.proofs.EnabledList.{enabled-exact}
use Rattle.sem_bound.proofs.Spent.{never-spent}

-- a journal after which an event is enabled is shorter than any can be
pub goes-on : (T : Setup) → IsSetup T → (J : List Entry) → IsSchedule T J → (e : Event) → is_enabled T (world_after T J) e ≡ true → length J < entry_limit T
goes-on T valid J runs e on = elim (cases_Bool (nat_lt (length J) (entry_limit T))) [
  | inl less ↦ ltb-true (length J) (entry_limit T) less
  | inr full ↦
      let quiet : enabled T (world_after T J) ≡ [] = never-spent T valid J runs (ltb-false (length J) (entry_limit T) full) in
      absurd (Contains-nil e (subst (λ es. Contains es e) quiet ((enabled-exact T (world_after T J) e).1 on)))
]
