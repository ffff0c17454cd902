-- No list of schedules that are told apart is longer than a closed set.
use Rattle.std.proofs.Common.{◌≡◌, ℕ, zero, suc, ◌<◌, ◌≤◌, true, false, List, [], ◌∷◌, length, get_or, refl, sym, ◌∙◌, ap, subst, arith, eqb}
use Rattle.std.specs.List.{All, list_any}
use Rattle.std.proofs.lemmas.Bool.{ne_eqb, eqb-true}
use Rattle.std.proofs.lemmas.List.{get_or_default}
use Rattle.std.proofs.lemmas.List.Elements.{All-head, All-tail}
use Rattle.std.proofs.lemmas.Map.Keys.{IsDistinct-from_apart}
use Rattle.std.proofs.lemmas.Map.Steps.{length-le_from_distinct_below}
use Rattle.sem_key.proofs.Members.{list_any-some}
use Rattle.sem_msg.specs.declared.entry.Entry.{Entry}
use Rattle.sem_msg.specs.Setup.{Setup}
use Rattle.sem_machine.specs.Schedules.{IsSchedule}
use Rattle.sem_histories.specs.Closed.{Telling, CountsAs, IsClosed}
use Rattle.sem_histories.specs.Search.{AreApart}
use Rattle.sem_histories.proofs.Closing.{kept, back, all-represented}

module _ (by : Telling) (T : Setup) (V : List (List Entry)) (closed : IsClosed (CountsAs by T) T V) where
  -- at which places of the set the schedules of a list are represented
  record Placed (W : List (List Entry)) : Type 0 where
    places : List ℕ
    long : length places ≡ length W
    within : (k : ℕ) → k < length W → get_or places k 0 < length V
    same : (k : ℕ) → k < length W → CountsAs by T (get_or W k []) (get_or V (get_or places k 0) [])

  all-placed : (W : List (List Entry)) → All (IsSchedule T) W → Placed W
  all-placed [] runs = record { places = []; long = refl; within = λ k less. absurd (none k less); same = λ k less. absurd (none k less) }
    where
      none : (k : ℕ) → k < 0 → ⊥
      none k less = omega (arith, less)
  all-placed (J ∷ W) runs =
      let rest = all-placed W (All-tail (IsSchedule T) J W runs) in
      let (K, (at, less, found), same) = all-represented by T V closed J (All-head (IsSchedule T) J W runs) in
      let here : get_or V at [] ≡ K = get_or_default V at [] K less ∙ found in
      record {
        places = at ∷ rest.places;
        long = ap suc rest.long;
        within = λ k inside. within-cons at rest.places k less rest.within inside;
        same = λ k inside. same-cons at rest.places k (subst (CountsAs by T J) (sym here) same) rest.same inside;
      }
    where
      within-cons : (at : ℕ) (places : List ℕ) (k : ℕ) → at < length V → ((m : ℕ) → m < length W → get_or places m 0 < length V) → k < suc (length W) →
          get_or (at ∷ places) k 0 < length V
      within-cons at places zero less later inside = less
      within-cons at places (suc k) less later inside = later k (omega (arith, inside))

      same-cons : (at : ℕ) (places : List ℕ) (k : ℕ) → CountsAs by T J (get_or V at []) →
          ((m : ℕ) → m < length W → CountsAs by T (get_or W m []) (get_or V (get_or places m 0) []))
          → k < suc (length W) → CountsAs by T (get_or (J ∷ W) k []) (get_or V (get_or (at ∷ places) k 0) [])
      same-cons at places zero first later inside = first
      same-cons at places (suc k) first later inside = later k (omega (arith, inside))

  pub few-apart : (W : List (List Entry)) → AreApart (CountsAs by T) T W → length W ≤ length V
  few-apart W are =
      let placed = all-placed W are.schedules in
      let places : List ℕ = placed.places in
      let long = placed.long in
      let few : length places ≤ length V = length-le_from_distinct_below places (length V)
      (IsDistinct-from_apart eqb places (λ i j d less inside. differ placed i j d less inside))
      (λ q any. below placed q any) in
      omega (arith, long, few)
    where
      differ : (placed : Placed W) (i j d : ℕ) → i < j → j < length placed.places → eqb (get_or placed.places i d) (get_or placed.places j d) ≡ false
      differ placed i j d less inside =
          let long = placed.long in
          let last : j < length W = omega (arith, long, inside) in
          let first : i < length W = omega (arith, less, last) in
          let at_i : get_or placed.places i d ≡ get_or placed.places i 0 = get_or_default placed.places i d 0 (omega (arith, less, inside)) in
          let at_j : get_or placed.places j d ≡ get_or placed.places j 0 = get_or_default placed.places j d 0 inside in
          ne_eqb (get_or placed.places i d) (get_or placed.places j d) (λ equal.
          let one : get_or placed.places j 0 ≡ get_or placed.places i 0 = sym at_j ∙ (sym equal ∙ at_i) in
          let low = placed.same i first in
          let high = subst (λ p. CountsAs by T (get_or W j []) (get_or V p [])) one (placed.same j last) in
          are.apart i j [] less last ((kept by T).follows (get_or W j []) (get_or V (get_or placed.places i 0) []) (get_or W i []) high
          (back by T (get_or W i []) (get_or V (get_or placed.places i 0) []) low)))

      below : (placed : Placed W) (q : ℕ) → list_any (eqb q) placed.places ≡ true → q < length V
      below placed q any =
          let long = placed.long in
          let (x, (k, less, found), equal) = list_any-some (eqb q) placed.places any in
          let inside : k < length W = omega (arith, long, less) in
          let at : get_or placed.places k 0 ≡ x = get_or_default placed.places k 0 x less ∙ found in
          let same : q ≡ x = eqb-true q x equal in
          let short = placed.within k inside in
          omega (arith, at, same, short)
