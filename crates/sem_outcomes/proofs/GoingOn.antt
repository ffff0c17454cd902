-- How a search goes on from a history, as its functions see it.
use Rattle.std.proofs.Common.{◌≡◌, ◌≢◌, ℕ, ◌+◌, ◌^◌, ◌<◌, true, arith, List, [], ◌∷◌, ◌++◌, length, take, get_or, sym, ◌∙◌, ap, subst}
use Rattle.std.specs.List.{Contains, All}
use Rattle.std.proofs.lemmas.List.{take_more, length-take-le}
use Rattle.std.proofs.lemmas.List.Elements.{Contains-get_or}
use Rattle.sem_msg.specs.declared.event.Event.{Event}
use Rattle.sem_msg.specs.declared.entry.Entry.{Entry}
use Rattle.sem_msg.specs.Setup.{Setup, IsSetup}
use Rattle.sem_msg.specs.Fabric.{FabricValue}
use Rattle.sem_machine.specs.Machine.{World, is_enabled, enabled}
use Rattle.sem_machine.specs.Schedules.{world_after}
use Rattle.sem_machine.specs.Living.{IsComplete}
use Rattle.sem_machine.proofs.EnabledList.{enabled-exact}
use Rattle.sem_kernel.specs.KernelValue.{KernelValue}
use Rattle.sem_kernel.specs.Standing.{StandsAt}
use Rattle.sem_kernel.specs.Worlds.{world_of}
use Rattle.sem_revoke.proofs.Completing.{quiet-complete}
use Rattle.sem_histories.specs.declared.witnesses.Listed.{Listed}
use Rattle.sem_outcomes.specs.Met.{journals, journal_at, HistoriesValue, AreMet, HasLinks, IsUnderWay, HasMet}
use Rattle.sem_outcomes.specs.Endings.{ListsEndings}
use Rattle.sem_outcomes.proofs.Searching.{many-journals, met-none, kept-at, met-more-events, search-further, listed-further, listed-skip}

among-journals : (T : Setup) (h : HistoriesValue) → AreMet T h → (at : ℕ) → at < length h.numbers → at < length (journals T h.steps)
among-journals T h met at here = let many = many-journals T h met in omega (arith, many, here)

-- What the first events lead to is met.
module _ (T : Setup) (limit at : ℕ) (old now : HistoriesValue) (met : AreMet T old) (here : at < length old.numbers) (done : List Event)
    (is : HasMet T limit at done old now) where
  pub all-at : at < length now.numbers
  all-at = (kept-at T limit at done old now (among-journals T old met at here) is).0

  same-journal : journal_at T now.steps at ≡ journal_at T old.steps at
  same-journal = (kept-at T limit at done old now (among-journals T old met at here) is).1

  pub all-links : (f : FabricValue) → HasLinks T f (journal_at T old.steps at) → HasLinks T f (journal_at T now.steps at)
  all-links f = subst (HasLinks T f) (sym same-journal)

  pub all-enabled : (es : List Event) → All (λ e. is_enabled T (world_after T (journal_at T old.steps at)) e ≡ true) es
      → (i : ℕ) (d : Event) → i < length es → is_enabled T (world_after T (journal_at T now.steps at)) (get_or es i d) ≡ true
  all-enabled es enabled i d less = subst (λ J. is_enabled T (world_after T J) (get_or es i d) ≡ true) (sym same-journal) (enabled i d less)

  pub all-more : (es : List Event) (i : ℕ) (d : Event) (new : HistoriesValue) → done ≡ take i es → i < length es
      → HasMet T limit at (get_or es i d ∷ []) now new → HasMet T limit at (take (i + 1) es) old new
  all-more es i d new first less one =
      subst (λ (ds : List Event). HasMet T limit at ds old new)
      (ap (λ (ds : List Event). ds ++ get_or es i d ∷ []) first ∙ sym (take_more es i d less))
      (met-more-events T limit at done (get_or es i d) old now new (among-journals T old met at here) is one)

-- Played to the history; v is what is kept of the histories h.
module _ (T : Setup) (limit at : ℕ) (h v : HistoriesValue) (is : v ≡ h) (way : IsUnderWay T limit at h) (here : at < length h.numbers) (ks : List KernelValue)
    (f : FabricValue)
    (stand : StandsAt T ks f) (entered : f.journal ≡ journal_at T v.steps at) where
  abbrev J : List Entry
  J = journal_at T h.steps at

  within : at < length (journals T h.steps)
  within = among-journals T h way.met at here

  pub is-journal : f.journal ≡ journal_at T h.steps at
  is-journal = entered ∙ ap (λ (g : HistoriesValue). journal_at T g.steps at) is

  is-world : world_of ks f ≡ world_after T (journal_at T h.steps at)
  is-world = stand.world ∙ ap (world_after T) is-journal

  pub has-links : HasLinks T f (journal_at T h.steps at)
  has-links = record { kernels = stand.together.fabric.kernels; links = ap (λ (W : World). W.links) is-world }

  module _ (events : List Event) (all : events ≡ enabled T (world_of ks f)) where
    are-enabled : events ≡ enabled T (world_after T (journal_at T h.steps at))
    are-enabled = all ∙ ap (enabled T) is-world

    pub each-enabled : All (λ e. is_enabled T (world_after T (journal_at T h.steps at)) e ≡ true) events
    each-enabled i d less = (enabled-exact T (world_after T J) (get_or events i d)).0
        (subst (λ (es : List Event). Contains es (get_or events i d)) are-enabled (Contains-get_or events i d less))

    -- The history ends there.
    module _ (none : events ≡ []) where
      pub is-complete : IsSetup T → IsComplete T f.journal
      is-complete valid = quiet-complete T valid f.journal stand.schedule (ap (enabled T) (sym stand.world) ∙ (sym all ∙ none))

      nothing-more : HasMet T limit at (enabled T (world_after T (journal_at T h.steps at))) h h
      nothing-more = subst (λ (es : List Event). HasMet T limit at es h h) (sym none ∙ are-enabled) (met-none T limit at h way)

      pub ended-search : IsUnderWay T limit (at + 1) h
      ended-search = search-further T limit at h h within nothing-more

      pub ended-listed : (found found' : List Listed) → ListsEndings T (take at (journals T h.steps)) found
          → ((V : List (List Entry)) → ListsEndings T V found → ListsEndings T (V ++ f.journal ∷ []) found') →
          ListsEndings T (take (at + 1) (journals T h.steps)) found'
      ended-listed found found' listed more =
          listed-further T limit at [] h h found' within (met-none T limit at h way)
          (subst (λ K. ListsEndings T (take at (journals T h.steps) ++ K ∷ []) found') is-journal (more (take at (journals T h.steps)) listed))

    -- It goes on.
    module _ (some : events ≢ []) (new : HistoriesValue) (more : HasMet T limit at events h new) where
      all-met : HasMet T limit at (enabled T (world_after T (journal_at T h.steps at))) h new
      all-met = subst (λ (es : List Event). HasMet T limit at es h new) are-enabled more

      pub went-search : IsUnderWay T limit (at + 1) new
      went-search = search-further T limit at h new within all-met

      pub went-listed : (found : List Listed) → ListsEndings T (take at (journals T h.steps)) found →
          ListsEndings T (take (at + 1) (journals T new.steps)) found
      went-listed found listed = listed-skip T limit at events h new found within more (λ quiet. some (are-enabled ∙ quiet)) listed

-- the histories that are listed are fewer than numbers can tell
pub few-listed : (T : Setup) (limit at : ℕ) (h : HistoriesValue) (found : List Listed) → IsUnderWay T limit at h → at < length h.numbers → limit < 2 ^ 64
    → ListsEndings T (take at (journals T h.steps)) found → (V : List (List Entry)) × ListsEndings T V found × (length V + 1 < 2 ^ 64)
few-listed T limit at h found way here small listed =
    let many = many-journals T h way.met in
    let few = way.few in
    let long : length (take at (journals T h.steps)) ≡ at = length-take-le at (journals T h.steps) (omega (arith, many, here)) in
    (take at (journals T h.steps), listed, omega (arith, long, few, here, small))

pub some-elements : {A : Type 0} (xs : List A) → length xs ≢ 0 → xs ≢ []
some-elements xs some none = some (ap length none)
