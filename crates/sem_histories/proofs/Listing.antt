-- The witnesses of a closed set are all witnesses of its setup.
use Rattle.std.proofs.Common.{List, ◌∙◌, subst}
use Rattle.std.specs.List.{Contains}
use Rattle.std.proofs.lemmas.List.Elements.{All-contains}
use Rattle.sem_key.proofs.Members.{Contains-from_map}
use Rattle.sem_msg.specs.declared.entry.Entry.{Entry}
use Rattle.sem_msg.specs.Setup.{Setup, IsSetup}
use Rattle.sem_histories.specs.Outcomes.{RunOutcome, IsOutcome}
use Rattle.sem_histories.specs.Closed.{Telling, CountsAs, IsClosed, IsOutcomeAmong}
use Rattle.sem_histories.specs.Listing.{Witness, outcomes_of, IsShown, ListsOutcomes, ListsAllOutcomes}
use Rattle.sem_histories.proofs.Closing.{all-outcomes}

module _ (by : Telling) (T : Setup) (valid : IsSetup T) (V : List (List Entry)) (closed : IsClosed (CountsAs by T) T V) (witnesses : List Witness)
    (lists : ListsOutcomes T V witnesses) where
  listed : (o : RunOutcome) → IsOutcomeAmong T V o → Contains (outcomes_of witnesses) o
  listed o (J, among, complete, is) = subst (Contains (outcomes_of witnesses)) is (lists.whole J among complete)

  met : (o : RunOutcome) → Contains (outcomes_of witnesses) o → IsOutcome T o
  met o among =
      let (d, there, is) = Contains-from_map (λ (x : Witness). x.outcome) witnesses o among in
      let shown = All-contains (IsShown T) witnesses d lists.shown there in
      (d.journal, shown.complete, shown.comes_to ∙ is)

  pub lists-all : ListsAllOutcomes T witnesses
  lists-all = record {
    shown = lists.shown;
    exact = λ o. (λ (is : IsOutcome T o). listed o (all-outcomes by T V closed valid o is), met o);
    once = lists.once;
  }
