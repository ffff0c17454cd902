-- The way to a history is played again.
use Rattle.std.proofs.Common.{◌≡◌, ℕ, ◌+◌, ◌-◌, ◌<◌, ◌≤◌, true, arith, List, [], ◌∷◌, ◌++◌, length, get_or, slice_get, Some, refl, sym, ◌∙◌, ap, subst}
use Rattle.std.proofs.lemmas.Option.{slice_get_within, slice_get-get_or, get_or_from_slice_get}
use Rattle.sem_msg.specs.declared.event.Event.{Event}
use Rattle.sem_msg.specs.declared.entry.Entry.{Entry}
use Rattle.sem_msg.specs.Setup.{Setup}
use Rattle.sem_msg.specs.Fabric.{FabricValue}
use Rattle.sem_machine.specs.Machine.{World, start, entry_of, is_enabled}
use Rattle.sem_machine.specs.Schedules.{IsSchedule, world_after}
use Rattle.sem_machine.proofs.Pushing.{entry_of-event}
use Rattle.sem_safety.proofs.GoingOn.{entry-enabled}
use Rattle.sem_kernel.specs.KernelValue.{KernelValue}
use Rattle.sem_kernel.specs.Worlds.{world_of}
use Rattle.sem_kernel.specs.Standing.{StandsAt}
use Rattle.sem_histories.specs.Outcomes.{and_then}
use Rattle.sem_outcomes.specs.declared.steps.Step.{Step}
use Rattle.sem_outcomes.specs.Met.{AreEarlier, AreSteps, journal_at}
use Rattle.sem_outcomes.specs.Ways.{ComesFrom}
use Rattle.sem_outcomes.proofs.Growing.{journals-length, journal-zero, journal-step}

-- Ways.

pub way-push : (steps : List Step) (to : ℕ) (ns : List ℕ) (from : ℕ) (s : Step) → ComesFrom steps to ns from → 0 < from → slice_get steps (from - 1) ≡ Some s
    → ComesFrom steps to (ns ++ from ∷ []) s.from
way-push steps to [] from s comes more here = (sym comes, more, (s, here, refl))
way-push steps to (n ∷ ns) from s (same, many, (x, there, comes)) more here = (same, many, (x, there, way-push steps x.from ns from s comes more here))

-- the last step of a way, which is the first to be played
pub record EndsWith (steps : List Step) (to : ℕ) (ns : List ℕ) (n from : ℕ) : Type 0 where
  pub step : Step
  pub more : 0 < n
  pub here : slice_get steps (n - 1) ≡ Some step
  pub goes : step.from ≡ from
  pub before : ComesFrom steps to ns n

pub way-pop : (steps : List Step) (to : ℕ) (ns : List ℕ) (n from : ℕ) → ComesFrom steps to (ns ++ n ∷ []) from → EndsWith steps to ns n from
way-pop steps to [] n from (same, many, (x, there, comes)) = record { step = x; more = many; here = there; goes = comes; before = sym same }
way-pop steps to (m ∷ ms) n from (same, many, (x, there, comes)) =
    let inner = way-pop steps x.from ms n from comes in
    record { step = inner.step; more = inner.more; here = inner.here; goes = inner.goes; before = (same, many, (x, there, inner.before)) }

-- a way that is gone back on
pub way-next : (steps : List Step) (to : ℕ) (ns new : List ℕ) (n : ℕ) (d : Step) → AreEarlier steps → ComesFrom steps to ns n → 0 < n → n ≤ length steps →
    new ≡ ns ++ n ∷ []
    → ComesFrom steps to new (get_or steps (n - 1) d).from × ((get_or steps (n - 1) d).from ≤ length steps)
way-next steps to ns new n d earlier comes more few is =
    let less : n - 1 < length steps = omega (arith, more, few) in
    let low = earlier (n - 1) d less in (
      subst (λ ks. ComesFrom steps to ks (get_or steps (n - 1) d).from) (sym is)
          (way-push steps to ns n (get_or steps (n - 1) d) comes more (slice_get-get_or steps (n - 1) d less)),
      omega (arith, low, less),
    )

-- Steps.

module _ (T : Setup) (steps : List Step) (are : AreSteps T steps) where
  pub journal-schedule : (k : ℕ) → k ≤ length steps → IsSchedule T (journal_at T steps k)
  journal-schedule k here =
      let long = journals-length T steps in
      are.schedules k [] (omega (arith, here, long))

  -- the step of history n
  module _ (n : ℕ) (s : Step) (more : 0 < n) (here : slice_get steps (n - 1) ≡ Some s) where
    pub step-journal : journal_at T steps n ≡ and_then T (journal_at T steps s.from) s.event
    step-journal =
        let less : n - 1 < length steps = slice_get_within steps (n - 1) s here in
        let up : n - 1 + 1 ≡ n = omega (arith, more) in
        subst (λ m. journal_at T steps m ≡ and_then T (journal_at T steps s.from) s.event) up
        (subst (λ (x : Step). journal_at T steps (n - 1 + 1) ≡ and_then T (journal_at T steps x.from) x.event) (get_or_from_slice_get steps (n - 1) s s here)
        (journal-step T steps are.earlier (n - 1) s less))

    pub step-enabled : is_enabled T (world_after T (journal_at T steps s.from)) s.event ≡ true
    step-enabled =
        let less : n - 1 < length steps = slice_get_within steps (n - 1) s here in
        let L : List Entry = journal_at T steps s.from in
        let e : Entry = entry_of T (world_after T L) s.event in
        let runs : IsSchedule T (L ++ e ∷ []) = subst (IsSchedule T) step-journal (journal-schedule n (omega (arith, more, less))) in
        let (first, enabled, made) = entry-enabled T L (start T) e [] runs in
        subst (λ (x : Event). is_enabled T (world_after T L) x ≡ true) (entry_of-event T (world_after T L) s.event) enabled

-- Played to a history on the way to another.
pub record IsPlayed (T : Setup) (steps : List Step) (to : ℕ) (way : List ℕ) (ks : List KernelValue) (f : FabricValue) : Type 0 where
  pub stand : StandsAt T ks f
  pub at : ℕ
  pub left : ComesFrom steps to way at
  pub journal : f.journal ≡ journal_at T steps at

pub played-start : (T : Setup) (steps : List Step) (to : ℕ) (way : List ℕ) (ks : List KernelValue) (f : FabricValue) → ComesFrom steps to way 0 →
    StandsAt T ks f → f.journal ≡ [] → IsPlayed T steps to way ks f
played-start T steps to way ks f comes stand none = record { stand = stand; at = 0; left = comes; journal = none ∙ sym (journal-zero T steps) }

pub played-all : (T : Setup) (steps : List Step) (to : ℕ) (ks : List KernelValue) (f : FabricValue) → IsPlayed T steps to [] ks f →
    f.journal ≡ journal_at T steps to
played-all T steps to ks f is = is.journal ∙ ap (journal_at T steps) (sym is.left)

module _ (T : Setup) (steps : List Step) (are : AreSteps T steps) (to n : ℕ) (ns : List ℕ) (ks : List KernelValue) (f : FabricValue)
    (is : IsPlayed T steps to (ns ++ n ∷ []) ks f) where
  pub played-last : EndsWith steps to ns n is.at
  played-last = way-pop steps to ns n is.at is.left

  pub played-world : world_of ks f ≡ world_after T (journal_at T steps played-last.step.from)
  played-world = is.stand.world ∙ ap (world_after T) (is.journal ∙ ap (journal_at T steps) (sym played-last.goes))

  pub played-within : n - 1 < length steps
  played-within = slice_get_within steps (n - 1) played-last.step played-last.here

  pub played-enabled : is_enabled T (world_of ks f) played-last.step.event ≡ true
  played-enabled = subst (λ (W : World). is_enabled T W played-last.step.event ≡ true) (sym played-world)
      (step-enabled T steps are n played-last.step played-last.more played-last.here)

  pub played-more : (ls : List KernelValue) (g : FabricValue) → StandsAt T ls g →
      g.journal ≡ f.journal ++ entry_of T (world_of ks f) played-last.step.event ∷ []
      → IsPlayed T steps to ns ls g
  played-more ls g stand entered = record {
    stand = stand;
    at = n;
    left = played-last.before;
    journal =
        entered
        ∙ ((λ k. (is.journal ∙ ap (journal_at T steps) (sym played-last.goes)) k ++ entry_of T (played-world k) played-last.step.event ∷ [])
        ∙ sym (step-journal T steps are n played-last.step played-last.more played-last.here));
  }

-- The last of the way that is left is played.
module _ (T : Setup) (steps : List Step) (are : AreSteps T steps) (to n : ℕ) (ns way : List ℕ) (ks : List KernelValue) (f : FabricValue)
    (before : IsPlayed T steps to way ks f) (ends : way ≡ ns ++ n ∷ []) where
  is-last : IsPlayed T steps to (ns ++ n ∷ []) ks f
  is-last = subst (λ (w : List ℕ). IsPlayed T steps to w ks f) ends before

  abbrev last : EndsWith steps to ns n is-last.at
  last = played-last T steps are to n ns ks f is-last

  at-step : (d : Step) → get_or steps (n - 1) d ≡ last.step
  at-step d = get_or_from_slice_get steps (n - 1) last.step d last.here

  pub go-some : 0 < n
  go-some = last.more

  pub go-within : n - 1 < length steps
  go-within = slice_get_within steps (n - 1) last.step last.here

  pub go-enabled : (d : Step) → is_enabled T (world_of ks f) (get_or steps (n - 1) d).event ≡ true
  go-enabled d = subst (λ (x : Step). is_enabled T (world_of ks f) x.event ≡ true) (sym (at-step d)) (played-enabled T steps are to n ns ks f is-last)

  pub go-more : (d : Step) (ls : List KernelValue) (g : FabricValue) → StandsAt T ls g →
      g.journal ≡ f.journal ++ entry_of T (world_of ks f) (get_or steps (n - 1) d).event ∷ []
      → IsPlayed T steps to ns ls g
  go-more d ls g stand entered =
      played-more T steps are to n ns ks f is-last ls g stand (entered ∙ ap (λ (x : Step). f.journal ++ entry_of T (world_of ks f) x.event ∷ []) (at-step d))
