-- What follows a schedule, if anything does.
use Rattle.std.proofs.Common.{◌≡◌, true, cond, List, [], ◌∷◌, slice_get, Option, Some, None, refl, sym, ◌∙◌, ap}
use Rattle.std.specs.Option.{option_map}
use Rattle.std.proofs.lemmas.Option.{slice_get_within, get_or_from_slice_get, none-some}
use Rattle.sem_msg.specs.declared.event.Event.{Event}
use Rattle.sem_msg.specs.declared.entry.Entry.{Entry}
use Rattle.sem_msg.specs.Setup.{Setup, IsSetup}
use Rattle.sem_machine.specs.Machine.{World, enabled, is_enabled, entry_of}
use Rattle.sem_machine.specs.Schedules.{world_after}
use Rattle.sem_machine.specs.Living.{IsQuiet, IsComplete}
use Rattle.sem_machine.proofs.EnabledList.{enabled-exact}
use Rattle.sem_kernel.specs.Worlds.{WorldValue}
use Rattle.sem_revoke.proofs.Completing.{quiet-complete}
use Rattle.sem_check.specs.Replays.{entry_made, next_made, IsWorldAfter}

-- the first of the enabled events is enabled
first-enabled : (T : Setup) (W : World) (e : Event) → slice_get (enabled T W) 0 ≡ Some e → is_enabled T W e ≡ true
first-enabled T W e first = (enabled-exact T W e).0 (0, slice_get_within (enabled T W) 0 e first, get_or_from_slice_get (enabled T W) 0 e e first)

made-enabled : (T : Setup) (W : World) (e : Event) → is_enabled T W e ≡ true → entry_made T W e ≡ Some (entry_of T W e)
made-enabled T W e enabled = ap (λ b. cond b (Some (entry_of T W e)) None) enabled

-- so it makes the next entry
pub makes-next : (T : Setup) (W : World) (e : Event) (made : Option Entry) → slice_get (enabled T W) 0 ≡ Some e → made ≡ entry_made T W e → made ≡ next_made T W
makes-next T W e made first is = is ∙ (made-enabled T W e (first-enabled T W e first) ∙ ap (option_map (entry_of T W)) (sym first))

pub makes-some : (T : Setup) (W : World) (e : Event) (made : Option Entry) → slice_get (enabled T W) 0 ≡ Some e → made ≡ entry_made T W e → made ≡ None → ⊥
makes-some T W e made first is none = none-some (entry_of T W e) (sym none ∙ (is ∙ made-enabled T W e (first-enabled T W e first)))

-- no entry comes next only where no event is enabled
none-next : {X : Type 0} (f : Event → X) (es : List Event) → None ≡ option_map f (slice_get es 0) → es ≡ []
none-next f [] none = refl
none-next f (e ∷ es) none = absurd (none-some (f e) none)

module _ (T : Setup) (J : List Entry) (w : WorldValue) (stands : IsWorldAfter T J w) (none : None ≡ next_made w.setup w.world) where
  quiet : IsQuiet T (world_after T J)
  quiet = none-next (entry_of T (world_after T J)) (enabled T (world_after T J)) (none ∙ ap (λ (v : WorldValue). next_made v.setup v.world) stands.world)

  pub completes : IsSetup T → IsComplete T J
  completes valid = quiet-complete T valid J stands.schedule quiet
