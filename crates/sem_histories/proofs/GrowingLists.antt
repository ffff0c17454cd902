-- The list of witnesses grows with the schedules that it lists.
use Rattle.std.proofs.Common.{◌≡◌, ◌≢◌, ℕ, ◌<◌, arith, List, [], ◌∷◌, ◌++◌, refl, sym, subst, inl, inr}
use Rattle.std.specs.List.{AllPairs, Contains}
use Rattle.std.proofs.lemmas.List.{map-append}
use Rattle.std.proofs.lemmas.List.Elements.{All-nil, All-cons, All-append, Contains-append_left, Contains-append_right, Contains-append_cases, Contains-get_or}
use Rattle.std.proofs.lemmas.List.Quantifiers.{all_pairs_push}
use Rattle.sem_key.proofs.Members.{Contains-head, Contains-nil, Contains-cons_cases}
use Rattle.sem_msg.specs.declared.entry.Entry.{Entry}
use Rattle.sem_msg.specs.Setup.{Setup}
use Rattle.sem_machine.specs.Living.{IsComplete}
use Rattle.sem_histories.specs.Outcomes.{RunOutcome, outcome}
use Rattle.sem_histories.specs.Listing.{Witness, witness_of, outcomes_of, IsShown, ListsOutcomes}

module _ (T : Setup) where
  pub lists-none : ListsOutcomes T [] []
  lists-none = record {
    shown = All-nil (IsShown T);
    whole = λ J among complete. absurd (Contains-nil J among);
    once = λ i j d less inside. absurd (none j inside);
  }
    where
      none : (j : ℕ) → j < 0 → ⊥
      none j inside = omega (arith, inside)

  module _ (V : List (List Entry)) (J : List Entry) (witnesses : List Witness) (lists : ListsOutcomes T V witnesses) where
    -- where a longer list has what was listed, and the outcome of the schedule
    whole-more : (more : List Witness) → ((o : RunOutcome) → Contains (outcomes_of witnesses) o → Contains (outcomes_of more) o)
        → (IsComplete T J → Contains (outcomes_of more) (outcome T J))
        → (K : List Entry) → Contains (V ++ J ∷ []) K → IsComplete T K → Contains (outcomes_of more) (outcome T K)
    whole-more more kept new K among complete = elim (Contains-append_cases V (J ∷ []) K among) [
      | inl before ↦ kept (outcome T K) (lists.whole K before complete)
      | inr last ↦ elim (Contains-cons_cases J [] K last) [
        | inl same ↦ subst (λ L. Contains (outcomes_of more) (outcome T L)) same (new (subst (IsComplete T) (sym same) complete))
        | inr none ↦ absurd (Contains-nil K none)
      ]
    ]

    pub lists-skip : (IsComplete T J → Contains (outcomes_of witnesses) (outcome T J)) → ListsOutcomes T (V ++ J ∷ []) witnesses
    lists-skip listed = record {
      shown = lists.shown;
      whole = whole-more witnesses (λ o there. there) listed;
      once = lists.once;
    }

    pub lists-put : IsComplete T J → (Contains (outcomes_of witnesses) (outcome T J) → ⊥) → ListsOutcomes T (V ++ J ∷ []) (witnesses ++ witness_of T J ∷ [])
    lists-put complete new =
        let more : outcomes_of (witnesses ++ witness_of T J ∷ []) ≡ outcomes_of witnesses ++ outcome T J ∷ [] =
        map-append (λ (d : Witness). d.outcome) witnesses (witness_of T J ∷ []) in
        record {
          shown = All-append (IsShown T) witnesses (witness_of T J ∷ []) lists.shown
              (All-cons (IsShown T) (witness_of T J) [] (record { complete = complete; comes_to = refl }) (All-nil (IsShown T)));
          whole = whole-more (witnesses ++ witness_of T J ∷ [])
              (λ o there. subst (λ os. Contains os o) (sym more) (Contains-append_left (outcomes_of witnesses) (outcome T J ∷ []) o there))
              (λ whole. subst (λ os. Contains os (outcome T J)) (sym more) (Contains-append_right (outcomes_of witnesses) (outcome T J ∷ []) (outcome T J)
              (Contains-head (outcome T J) [])));
          once = subst (AllPairs (λ a b. a ≢ b)) (sym more)
              (all_pairs_push (λ a b. a ≢ b) (outcomes_of witnesses) (outcome T J) lists.once
              (λ k d inside same. new (subst (Contains (outcomes_of witnesses)) same (Contains-get_or (outcomes_of witnesses) k d inside))));
        }
