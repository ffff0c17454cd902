-- A search that has gone on from all that it has met.
use Rattle.std.proofs.Common.{◌≡◌, ℕ, ◌≤◌, ◌<◌, arith, List, length, take, sym, ◌∙◌, ap, subst}
use Rattle.std.proofs.Math.Seq.{take-length}
use Rattle.sem_msg.specs.Setup.{Setup, IsSetup}
use Rattle.sem_histories.specs.Outcomes.{HasSameParts}
use Rattle.sem_histories.specs.Closed.{ByParts, IsClosed}
use Rattle.sem_histories.specs.Search.{IsSearched, HasMoreThan}
use Rattle.sem_histories.specs.Listing.{ListsAllOutcomes}
use Rattle.sem_histories.specs.declared.witnesses.Listed.{Listed}
use Rattle.sem_histories.specs.declared.witnesses.AllOutcomes.{AllOutcomes}
use Rattle.sem_histories.proofs.Closing.{itself}
use Rattle.sem_histories.proofs.Counted.{few-apart}
use Rattle.sem_histories.proofs.Listing.{lists-all}
use Rattle.sem_histories.proofs.Searching.{searched-closed}
use Rattle.sem_outcomes.specs.Met.{journals, HistoriesValue, IsUnderWay}
use Rattle.sem_outcomes.specs.Endings.{witnesses_of, ListsEndings, AreCounted, AreTold}
use Rattle.sem_outcomes.proofs.Searching.{many-journals}

module _ (T : Setup) (limit at : ℕ) (h : HistoriesValue) (way : IsUnderWay T limit at h) (done : length h.numbers ≤ at) where
  all-gone : at ≡ length (journals T h.steps)
  all-gone =
      let many = many-journals T h way.met in
      let within = way.searched.within in
      omega (arith, many, within, done)

  closed : IsClosed (HasSameParts T) T (journals T h.steps)
  closed = searched-closed T (HasSameParts T) (itself ByParts T) (journals T h.steps)
      (subst (IsSearched (HasSameParts T) T (journals T h.steps)) all-gone way.searched)

  pub few-told : HasMoreThan (HasSameParts T) T limit → ⊥
  few-told more =
      let most = few-apart ByParts T (journals T h.steps) closed more.found more.apart in
      let many = many-journals T h way.met in
      let few = way.few in
      let past = more.many in
      none (length more.found) (length (journals T h.steps)) (length h.numbers) most past many few
    where
      none : (a b c : ℕ) → a ≤ b → limit < a → b ≡ c → c ≤ limit → ⊥
      none a b c most past many few = omega (arith, most, past, many, few)

  module _ (found : List Listed) (lists : ListsEndings T (take at (journals T h.steps)) found) where
    lists-whole : ListsEndings T (journals T h.steps) found
    lists-whole = subst (λ V. ListsEndings T V found) (ap (λ n. take n (journals T h.steps)) all-gone ∙ take-length (journals T h.steps)) lists

    pub all-told : IsSetup T → ListsAllOutcomes T (witnesses_of found)
    all-told valid = lists-all ByParts T valid (journals T h.steps) closed (witnesses_of found) lists-whole.lists

    pub counts-told : (all : AllOutcomes) → all.found.items ≡ found → all.histories ≡ length h.numbers → AreTold T all
    counts-told all same histories = record {
      met = journals T h.steps;
      closed = closed;
      apart = way.searched.apart;
      many = many-journals T h way.met ∙ sym histories;
      counts = subst (λ ls. AreCounted T (journals T h.steps) ls) (sym same) lists-whole.counts;
    }
