-- Given events that happen one after another.
use Rattle.std.proofs.Common.{◌≡◌, ℕ, ◌+◌, ◌<◌, ◌≤◌, Bool, true, false, List, [], ◌∷◌, ◌++◌, length, take, get_or, Some, Result, Ok, Err, refl, sym, ◌∙◌, ap}
use Rattle.std.proofs.Common.{subst, length-append}
use Rattle.std.specs.Prelude.{◌↔◌, IsErrOf}
use Rattle.std.proofs.lemmas.Option.{slice_get-get_or}
use Rattle.std.proofs.lemmas.List.{map-append, take_more, take_all}
use Rattle.sem_msg.specs.declared.event.Event.{Event}
use Rattle.sem_msg.specs.declared.entry.Entry.{Entry}
use Rattle.sem_msg.specs.Setup.{Setup}
use Rattle.sem_machine.specs.Machine.{start, after, entry_of, is_enabled}
use Rattle.sem_machine.specs.Schedules.{IsSchedule, world_after}
use Rattle.sem_kernel.specs.Worlds.{WorldValue}
use Rattle.sem_kernel.specs.declared.world.World.{World}
use Rattle.sem_serial.specs.declared.faults.PlayError.{PlayError}
use Rattle.sem_serial.specs.declared.faults.PlayError.TheVariants.{NotEnabled, Memory}
use Rattle.sem_serial.specs.Playing.{events_of, IsNotEnabledAt}
use Rattle.sem_machine.proofs.Pushing.{schedule-push, schedule-empty, world_after-push, entry_of-event}

-- the first n events happened, and made the journal
pub record IsPlaying (T : Setup) (events : List Event) (w : WorldValue) (J : List Entry) (n : ℕ) : Type 0 where
  pub world : w ≡ record { setup = T; world = world_after T J }
  pub schedule : IsSchedule T J
  pub many : length J ≡ n
  pub made : events_of J ≡ take n events

pub playing-start : (T : Setup) (events : List Event) (w : WorldValue) (J : List Entry) → J ≡ [] → w ≡ record { setup = T; world = start T } →
    IsPlaying T events w J 0
playing-start T events w J none booted = record {
  world = booted ∙ ap (λ K. record { setup = T; world = world_after T K }) (sym none);
  schedule = schedule-empty T J none;
  many = ap length none;
  made = ap events_of none;
}

abbrev stopped_of : Result World PlayError → ℕ
stopped_of (Ok x) = 0
stopped_of (Err (NotEnabled n)) = n
stopped_of (Err Memory) = 0

module _ (T : Setup) (events : List Event) (w : WorldValue) (J : List Entry) (n : ℕ) (so_far : IsPlaying T events w J n) where
  pub playing-setup : w.setup ≡ T
  playing-setup = ap (λ (x : WorldValue). x.setup) so_far.world

  pub playing-world : w.world ≡ world_after T J
  playing-world = ap (λ (x : WorldValue). x.world) so_far.world

  pub playing-more : (e : Event) (x : Entry) (v : WorldValue) (K : List Entry) → n < length events → e ≡ get_or events n e →
      is_enabled w.setup w.world e ≡ true → x ≡ entry_of w.setup w.world e → v ≡ record { setup = w.setup; world = after w.setup w.world e } → K ≡ J ++ x ∷ [] →
      IsPlaying T events v K (n + 1)
  playing-more e x v K within at enabled made moved entered =
      let journal : K ≡ J ++ entry_of T (world_after T J) e ∷ [] = entered
      ∙ ap (λ y. J ++ y ∷ []) (made ∙ ap (λ (z : WorldValue). entry_of z.setup z.world e) so_far.world) in
      record {
        world =
            moved
            ∙ (ap (λ (z : WorldValue). record { setup = z.setup; world = after z.setup z.world e }) so_far.world
            ∙ ap (λ V. record { setup = T; world = V }) (sym (world_after-push T J e) ∙ ap (world_after T) (sym journal)));
        schedule = subst (IsSchedule T) (sym journal)
            (schedule-push T J e so_far.schedule (ap (λ (z : WorldValue). is_enabled z.setup z.world e) (sym so_far.world) ∙ enabled));
        many = ap length journal ∙ (length-append J (entry_of T (world_after T J) e ∷ []) ∙ ap (λ k. k + 1) so_far.many);
        made =
            ap events_of journal
            ∙ (map-append (λ (y : Entry). y.event) J (entry_of T (world_after T J) e ∷ [])
            ∙ (ap (λ ys. ys ++ (entry_of T (world_after T J) e).event ∷ []) so_far.made
            ∙ (ap (λ y. take n events ++ y ∷ []) (entry_of-event T (world_after T J) e ∙ at)
            ∙ sym (take_more events n e within))));
      }

  pub playing-part : events_of J ≡ take (length J) events
  playing-part = so_far.made ∙ ap (λ k. take k events) (sym so_far.many)

  pub playing-all : length events ≤ n → events_of J ≡ events
  playing-all all = so_far.made ∙ take_all n events all

  -- what is not enabled stops the play
  pub stops : (e : Event) → n < length events → e ≡ get_or events n e → is_enabled w.setup w.world e ≡ false → (K : List Entry) → K ≡ J → (m : ℕ) →
      IsErrOf {T = World} (Err (NotEnabled n)) (NotEnabled m) → IsNotEnabledAt T events K m
  stops e within at disabled K journal m same =
      subst (IsNotEnabledAt T events K) (ap stopped_of same) (record {
        next = sym so_far.many ∙ ap length (sym journal);
        event = e;
        there = slice_get-get_or events n e within ∙ ap Some (sym at);
        disabled = ap (λ K'. is_enabled T (world_after T K') e) journal ∙ (ap (λ (z : WorldValue). is_enabled z.setup z.world e) (sym so_far.world) ∙ disabled);
      })

-- of no events no entry was made
pub played-none : (events : List Event) (J : List Entry) → J ≡ [] → events_of J ≡ take (length J) events
played-none events J none = subst (λ K. events_of K ≡ take (length K) events) (sym none) refl

-- where no refusal came the event was enabled
pub ok-enabled : {X E : Type 0} (x : X) (e : E) (b : Bool) → (IsErrOf (Ok x) e ↔ (b ≡ false)) → b ≡ true
ok-enabled x e true refused = refl
ok-enabled x e false refused = let no_error = refused.1 refl in absurd (cc)
