-- How histories end, counted.
use Rattle.std.specs.Prelude.{◌≡◌, List, length, map, All}
use Rattle.sem_machine.specs.Prelude.{Entry, Setup}
use Rattle.sem_histories.specs.Listing.{Witness, IsEnding, HasSoMany, ListsOutcomes}
use Rattle.sem_histories.specs.Closed.{CountsAs, ByParts, IsClosed}
use Rattle.sem_histories.specs.Search.{AreApart}
use Rattle.sem_histories.specs.declared.witnesses.Listed.{Listed}
use Rattle.sem_histories.specs.declared.witnesses.AllOutcomes.{AllOutcomes}

abbrev pub witnesses_of : List Listed → List Witness
witnesses_of found = map (λ l. l.witness) found

-- each outcome is that of exactly that many of the histories, all complete
abbrev pub AreCounted : Setup → List (List Entry) → List Listed → Type 0
AreCounted T V found = All (λ l. HasSoMany (IsEnding T l.witness.outcome) V l.histories) found

-- the outcomes of these histories are listed and counted
pub record ListsEndings (T : Setup) (V : List (List Entry)) (found : List Listed) : Type 0 where
  pub lists : ListsOutcomes T V (witnesses_of found)
  pub counts : AreCounted T V found

-- That many histories were met: no two of them have the same parts, and no event leads out of them.
-- The outcome of each witness is that of exactly that many of them, all complete.
pub record AreTold (T : Setup) (all : AllOutcomes) : Type 0 where
  pub met : List (List Entry)
  pub closed : IsClosed (CountsAs ByParts T) T met
  pub apart : AreApart (CountsAs ByParts T) T met
  pub many : length met ≡ all.histories
  pub counts : AreCounted T met all.found.items
