-- What a search has met, and how it goes on.
use Rattle.std.proofs.Common.{◌≡◌, ◌≢◌, ℕ, suc, ◌+◌, ◌<◌, ◌≤◌, true, arith, List, [], ◌∷◌, ◌++◌, length, map, take, get_or, slice_get, Some, sym, ◌∙◌, ap}
use Rattle.std.proofs.Common.{subst, inl, inr, ◌⊎◌, length-append, append-nil}
use Rattle.std.specs.List.{Contains, All}
use Rattle.std.proofs.lemmas.Bool.{cases_lt}
use Rattle.std.proofs.lemmas.Option.{slice_get-get_or}
use Rattle.std.proofs.lemmas.List.{length_push, append_assoc, get_or_at, get_or_append_left, get_or_default, take-append-le}
use Rattle.std.proofs.lemmas.List.Elements.{All-nil, All-cons, All-append, Contains-get_or}
use Rattle.std.proofs.Math.Seq.{take-suc}
use Rattle.sem_msg.specs.declared.event.Event.{Event}
use Rattle.sem_msg.specs.declared.entry.Entry.{Entry}
use Rattle.sem_msg.specs.Setup.{Setup}
use Rattle.sem_machine.specs.Machine.{is_enabled, enabled}
use Rattle.sem_machine.specs.Schedules.{IsSchedule, world_after}
use Rattle.sem_machine.proofs.Pushing.{schedule-push}
use Rattle.sem_numbering.specs.Nodes.{Node}
use Rattle.sem_histories.specs.Outcomes.{HasSameParts, and_then}
use Rattle.sem_histories.specs.Closed.{ByParts, Represents}
use Rattle.sem_histories.specs.Search.{IsSearched, HasMoreThan, HasGoneOn}
use Rattle.sem_histories.specs.declared.witnesses.Listed.{Listed}
use Rattle.sem_histories.proofs.Closing.{itself}
use Rattle.sem_histories.proofs.Numbers.{numbers-parts, parts-numbers}
use Rattle.sem_histories.proofs.Searching.{searched-put, searched-next, represents-last, gone-on-more}
use Rattle.sem_outcomes.specs.declared.steps.Step.{Step}
use Rattle.sem_outcomes.specs.Met.{journals, journal_at, kernel_parts, AreEarlier, ArePartTrees, AreNumbersIn, HistoriesValue, AreMet, Continues, IsUnderWay, HasMet}
use Rattle.sem_outcomes.specs.Endings.{ListsEndings}
use Rattle.sem_outcomes.proofs.Growing.{journals-push, journals-length, journal-kept}
use Rattle.sem_outcomes.proofs.PartsOf.{TreesGrow, trees-are, numbers-kept}
use Rattle.sem_outcomes.proofs.Listing.{endings-skip}

-- the trees have more parts
pub met-trees : (T : Setup) (h : HistoriesValue) → AreMet T h → (more : List (List Node)) → ArePartTrees T more → TreesGrow T h.trees more
    → AreMet T (record h { trees = more })
met-trees T h met more are grow = record {
  steps = met.steps;
  trees = are;
  many = met.many;
  numbers = λ k here. numbers-kept T h.trees more (get_or h.numbers k []) (journal_at T h.steps k) met.trees.many are.many grow (met.numbers k here);
}

module _ (T : Setup) (h : HistoriesValue) (met : AreMet T h) where
  pub many-journals : length (journals T h.steps) ≡ length h.numbers
  many-journals = journals-length T h.steps ∙ sym met.many

  module _ (at : ℕ) (here : at < length h.numbers) (ev : Event) (enabled : is_enabled T (world_after T (journal_at T h.steps at)) ev ≡ true) where
    abbrev J : List Entry
    J = journal_at T h.steps at

    abbrev K : List Entry
    K = and_then T J ev

    pub at-schedule : IsSchedule T (journal_at T h.steps at)
    at-schedule = let many = many-journals in met.steps.schedules at [] (omega (arith, here, many))

    module _ (ns : List ℕ) (of_K : AreNumbersIn T h.trees ns (and_then T (journal_at T h.steps at) ev)) where
      -- it is there
      pub met-there : Contains h.numbers ns → Represents (HasSameParts T) (journals T h.steps) (and_then T (journal_at T h.steps at) ev)
      met-there (k, within, is) =
          let many = many-journals in (
            journal_at T h.steps k,
            Contains-get_or (journals T h.steps) k [] (omega (arith, within, many)),
            numbers-parts T (map kernel_parts h.trees) ns (get_or h.numbers k []) K (journal_at T h.steps k) (trees-are T h.trees met.trees) of_K
                (met.numbers k within)
                (sym (get_or_default h.numbers k [] ns within ∙ is)),
          )

      -- it is not
      pub met-new : (Contains h.numbers ns → ⊥) → Represents (HasSameParts T) (journals T h.steps) (and_then T (journal_at T h.steps at) ev) → ⊥
      met-new new (L, (k, within, is), same) =
          let many = many-journals in
          let inside : k < length h.numbers = omega (arith, within, many) in
          let is' : journal_at T h.steps k ≡ L = get_or_default (journals T h.steps) k [] L within ∙ is in
          new (
            k,
            inside,
            sym (get_or_default h.numbers k [] ns inside)
                ∙ sym (parts-numbers T (map kernel_parts h.trees) ns (get_or h.numbers k []) K (journal_at T h.steps k) (trees-are T h.trees met.trees) of_K
                (met.numbers k inside)
                (subst (λ M. HasSameParts T K M) (sym is') same)),
          )

      -- a step more
      module _ (s : Step) (goes : s.from ≡ at) (by : s.event ≡ ev) where
        pub journals-more : journals T (h.steps ++ s ∷ []) ≡ journals T h.steps ++ and_then T (journal_at T h.steps at) ev ∷ []
        journals-more = journals-push T h.steps s ∙ (λ k. journals T h.steps ++ and_then T (journal_at T h.steps (goes k)) (by k) ∷ [])

        earlier-more : AreEarlier (h.steps ++ s ∷ [])
        earlier-more k d within = by_place (place k within)
          where
            place : (k : ℕ) → k < length (h.steps ++ s ∷ []) → (k < length h.steps) ⊎ (length h.steps ≡ k)
            place k within =
                let long = length_push h.steps s in
                elim (cases_lt k (length h.steps)) [
                  | inl less ↦ inl less
                  | inr past ↦ inr (omega (arith, within, long, past))
                ]

            by_place : (k < length h.steps) ⊎ (length h.steps ≡ k) → (get_or (h.steps ++ s ∷ []) k d).from ≤ k
            by_place (inl less) = subst (λ (x : Step). x.from ≤ k) (sym (get_or_append_left h.steps (s ∷ []) d k less)) (met.steps.earlier k d less)
            by_place (inr last) =
                let many = met.many in
                subst (λ (x : Step). x.from ≤ k) (sym (get_or_at h.steps s [] d k last)) (omega (arith, goes, last, many, here))

        pub met-more : AreMet T (record { steps = h.steps ++ s ∷ []; numbers = h.numbers ++ ns ∷ []; trees = h.trees })
        met-more = record {
          steps = record {
            earlier = earlier-more;
            schedules = subst (All (IsSchedule T)) (sym journals-more)
                (All-append (IsSchedule T) (journals T h.steps) (K ∷ []) met.steps.schedules
                (All-cons (IsSchedule T) K [] (schedule-push T J ev at-schedule enabled) (All-nil (IsSchedule T))));
          };
          trees = met.trees;
          many =
              let long = length_push h.numbers ns in
              let long' = length_push h.steps s in
              let many = met.many in
              omega (arith, long, long', many);
          numbers = λ k within. by_place k (place k within);
        }
          where
            place : (k : ℕ) → k < length (h.numbers ++ ns ∷ []) → (k < length h.numbers) ⊎ (length h.numbers ≡ k)
            place k within =
                let long = length_push h.numbers ns in
                elim (cases_lt k (length h.numbers)) [
                  | inl less ↦ inl less
                  | inr past ↦ inr (omega (arith, within, long, past))
                ]

            by_place : (k : ℕ) → (k < length h.numbers) ⊎ (length h.numbers ≡ k) → AreNumbersIn T h.trees (get_or (h.numbers ++ ns ∷ []) k [])
                (journal_at T (h.steps ++ s ∷ []) k)
            by_place k (inl less) =
                let many = met.many in
                subst (λ ms. AreNumbersIn T h.trees ms (journal_at T (h.steps ++ s ∷ []) k)) (sym (get_or_append_left h.numbers (ns ∷ []) [] k less))
                (subst (AreNumbersIn T h.trees (get_or h.numbers k [])) (sym (journal-kept T h.steps s k (omega (arith, less, many)))) (met.numbers k less))
            by_place k (inr last) =
                let many = many-journals in
                subst (λ ms. AreNumbersIn T h.trees ms (journal_at T (h.steps ++ s ∷ []) k)) (sym (get_or_at h.numbers ns [] [] k last))
                (subst (AreNumbersIn T h.trees ns) (sym (ap (λ V. get_or V k []) journals-more
                ∙ get_or_at (journals T h.steps) K [] [] k (omega (arith, last, many)))) of_K)

      -- the search with one history more
      pub search-more : IsSearched (HasSameParts T) T (journals T h.steps) at → (Contains h.numbers ns → ⊥)
          → IsSearched (HasSameParts T) T (journals T h.steps ++ and_then T (journal_at T h.steps at) ev ∷ []) at
      search-more is new = searched-put T (HasSameParts T) (itself ByParts T) (journals T h.steps) at J ev is at-schedule enabled (met-new new)

      pub too-many : IsSearched (HasSameParts T) T (journals T h.steps) at → (Contains h.numbers ns → ⊥) → (limit : ℕ) → limit < length (h.numbers ++ ns ∷ [])
          → HasMoreThan (HasSameParts T) T limit
      too-many is new limit past =
          let many = many-journals in
          let long = length_push h.numbers ns in
          let long' = length_push (journals T h.steps) K in
          record { found = journals T h.steps ++ K ∷ []; apart = (search-more is new).apart; many = omega (arith, past, many, long, long') }

-- One event more.

-- with trees that have more parts
pub way-same : (T : Setup) (limit at : ℕ) (h g : HistoriesValue) → IsUnderWay T limit at h → AreMet T g → g.steps ≡ h.steps → g.numbers ≡ h.numbers
    → IsUnderWay T limit at g
way-same T limit at h g way met steps numbers = record {
  met = met;
  few = subst (λ (ns : List (List ℕ)). length ns ≤ limit) (sym numbers) way.few;
  searched = subst (λ (ss : List Step). IsSearched (HasSameParts T) T (journals T ss) at) (sym steps) way.searched;
}

pub met-same : (T : Setup) (limit at : ℕ) (es : List Event) (h g new : HistoriesValue) → g.steps ≡ h.steps → HasMet T limit at es g new →
    HasMet T limit at es h new
met-same T limit at es h g new steps is = record {
  now = is.now;
  grown = subst (λ (ss : List Step). Continues (journals T ss) (journals T new.steps)) steps is.grown;
  gone_on = subst (λ (ss : List Step). HasGoneOn (HasSameParts T) T (journals T new.steps) (journal_at T ss at) es) steps is.gone_on;
}

pub goes-on-same : (V : List (List Entry)) → Continues V V
goes-on-same V = ([], sym (append-nil V))

pub goes-on-both : (U V W : List (List Entry)) → Continues U V → Continues V W → Continues U W
goes-on-both U V W one two = (one.0 ++ two.0, two.1 ∙ (ap (λ X. X ++ two.0) one.1 ∙ append_assoc U one.0 two.0))

gone-none : (T : Setup) (V : List (List Entry)) (L : List Entry) → HasGoneOn (HasSameParts T) T V L []
gone-none T V L = All-nil (λ e. Represents (HasSameParts T) V (and_then T L e))

gone-one : (T : Setup) (V : List (List Entry)) (L : List Entry) (ev : Event) → Represents (HasSameParts T) V (and_then T L ev)
    → HasGoneOn (HasSameParts T) T V L (ev ∷ [])
gone-one T V L ev there = All-cons (λ e. Represents (HasSameParts T) V (and_then T L e)) ev [] there (gone-none T V L)

module _ (T : Setup) (limit at : ℕ) (h : HistoriesValue) (way : IsUnderWay T limit at h) where
  pub met-none : HasMet T limit at [] h h
  met-none = record { now = way; grown = goes-on-same (journals T h.steps); gone_on = gone-none T (journals T h.steps) (journal_at T h.steps at) }

  module _ (here : at < length h.numbers) (ev : Event) (enabled : is_enabled T (world_after T (journal_at T h.steps at)) ev ≡ true)
      (ns : List ℕ) (of_K : AreNumbersIn T h.trees ns (and_then T (journal_at T h.steps at) ev)) where
    pub put-there : Contains h.numbers ns → HasMet T limit at (ev ∷ []) h h
    put-there among = record {
      now = way;
      grown = goes-on-same (journals T h.steps);
      gone_on = gone-one T (journals T h.steps) (journal_at T h.steps at) ev (met-there T h way.met at here ev enabled ns of_K among);
    }

    module _ (new : Contains h.numbers ns → ⊥) where
      pub put-many : (limit : ℕ) → limit < length (h.numbers ++ ns ∷ []) → HasMoreThan (HasSameParts T) T limit
      put-many limit past = too-many T h way.met at here ev enabled ns of_K way.searched new limit past

      pub put-new : (s : Step) → s.from ≡ at → s.event ≡ ev → length (h.numbers ++ ns ∷ []) ≤ limit
          → HasMet T limit at (ev ∷ []) h (record { steps = h.steps ++ s ∷ []; numbers = h.numbers ++ ns ∷ []; trees = h.trees })
      put-new s goes by few =
          let more = journals-more T h way.met at here ev enabled ns of_K s goes by in
          record {
            now = record {
              met = met-more T h way.met at here ev enabled ns of_K s goes by;
              few = few;
              searched = subst (λ V. IsSearched (HasSameParts T) T V at) (sym more) (search-more T h way.met at here ev enabled ns of_K way.searched new);
            };
            grown = (and_then T (journal_at T h.steps at) ev ∷ [], more);
            gone_on = gone-one T (journals T (h.steps ++ s ∷ [])) (journal_at T h.steps at) ev
                (subst (λ V. Represents (HasSameParts T) V (and_then T (journal_at T h.steps at) ev)) (sym more)
                (represents-last T (HasSameParts T) (itself ByParts T) (journals T h.steps) (and_then T (journal_at T h.steps at) ev)));
          }

-- the same history, in a search that has met more
pub kept-at : (T : Setup) (limit at : ℕ) (es : List Event) (old new : HistoriesValue) → at < length (journals T old.steps) → HasMet T limit at es old new
    → (at < length new.numbers) × (journal_at T new.steps at ≡ journal_at T old.steps at)
kept-at T limit at es old new here is =
    let whole = ap length is.grown.1 in
    let long = length-append (journals T old.steps) is.grown.0 in
    let many = many-journals T new is.now.met in
    (omega (arith, here, whole, long, many), ap (λ U. get_or U at []) is.grown.1 ∙ get_or_append_left (journals T old.steps) is.grown.0 [] at here)

-- what one event more leads to
pub met-more-events : (T : Setup) (limit at : ℕ) (es : List Event) (ev : Event) (old mid new : HistoriesValue) → at < length (journals T old.steps)
    → HasMet T limit at es old mid → HasMet T limit at (ev ∷ []) mid new → HasMet T limit at (es ++ ev ∷ []) old new
met-more-events T limit at es ev old mid new here one two = record {
  now = two.now;
  grown = goes-on-both (journals T old.steps) (journals T mid.steps) (journals T new.steps) one.grown two.grown;
  gone_on =
      let same = (kept-at T limit at es old mid here one).1 in
      All-append (λ e. Represents (HasSameParts T) (journals T new.steps) (and_then T (journal_at T old.steps at) e)) es (ev ∷ [])
      (subst (λ V. HasGoneOn (HasSameParts T) T V (journal_at T old.steps at) es) (sym two.grown.1)
      (gone-on-more T (HasSameParts T) (itself ByParts T) (journals T mid.steps) two.grown.0 (journal_at T old.steps at) es one.gone_on))
      (subst (λ L. HasGoneOn (HasSameParts T) T (journals T new.steps) L (ev ∷ [])) same two.gone_on);
}

-- Gone on from.

-- where all that is enabled after the history has been met, the search is one history further
pub search-further : (T : Setup) (limit at : ℕ) (old new : HistoriesValue) → at < length (journals T old.steps)
    → HasMet T limit at (enabled T (world_after T (journal_at T old.steps at))) old new
    → IsUnderWay T limit (at + 1) new
search-further T limit at old new here is =
    let V : List (List Entry) = journals T new.steps in
    let kept = kept-at T limit at (enabled T (world_after T (journal_at T old.steps at))) old new here is in
    let many = many-journals T new is.now.met in
    let inside = kept.0 in
    let last : slice_get V at ≡ Some (journal_at T old.steps at) = slice_get-get_or V at [] (omega (arith, many, inside)) ∙ ap Some kept.1 in
    record {
      met = is.now.met;
      few = is.now.few;
      searched = searched-next T (HasSameParts T) (itself ByParts T) V at (journal_at T old.steps at) is.now.searched last is.gone_on;
    }

taken-more : (T : Setup) (limit at : ℕ) (es : List Event) (old new : HistoriesValue) → at < length (journals T old.steps) → HasMet T limit at es old new
    → take (at + 1) (journals T new.steps) ≡ take at (journals T old.steps) ++ journal_at T old.steps at ∷ []
taken-more T limit at es old new here is =
    let V : List (List Entry) = journals T old.steps in
    let W : List (List Entry) = journals T new.steps in
    let kept = kept-at T limit at es old new here is in
    let many = many-journals T new is.now.met in
    let inside = kept.0 in
    let few : at ≤ length V = omega (arith, here) in
    let longer : at < length W = omega (arith, inside, many) in
    let one : suc at ≡ at + 1 = omega arith in
    subst (λ m. take m W ≡ take at V ++ get_or V at [] ∷ []) one
    (take-suc W at [] longer
    ∙ (λ k. (ap (take at) is.grown.1 ∙ take-append-le at V is.grown.0 few) k ++ kept.1 k ∷ []))

-- and the list too
pub listed-further : (T : Setup) (limit at : ℕ) (es : List Event) (old new : HistoriesValue) (found : List Listed) → at < length (journals T old.steps)
    → HasMet T limit at es old new
    → ListsEndings T (take at (journals T old.steps) ++ journal_at T old.steps at ∷ []) found → ListsEndings T (take (at + 1) (journals T new.steps)) found
listed-further T limit at es old new found here is lists = subst (λ U. ListsEndings T U found) (sym (taken-more T limit at es old new here is)) lists

pub listed-skip : (T : Setup) (limit at : ℕ) (es : List Event) (old new : HistoriesValue) (found : List Listed) → at < length (journals T old.steps)
    → HasMet T limit at es old new
    → enabled T (world_after T (journal_at T old.steps at)) ≢ [] → ListsEndings T (take at (journals T old.steps)) found
    → ListsEndings T (take (at + 1) (journals T new.steps)) found
listed-skip T limit at es old new found here is goes lists =
    listed-further T limit at es old new found here is (endings-skip T (take at (journals T old.steps)) (journal_at T old.steps at) found lists
    (λ complete. goes complete.quiet))
