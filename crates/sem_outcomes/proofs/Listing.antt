-- The list of outcomes grows with each history.
use Rattle.std.proofs.Common.{◌≡◌, ◌≢◌, ℕ, ◌+◌, ◌^◌, ◌<◌, arith, List, [], ◌∷◌, ◌++◌, length, map, get_or, set, slice_get, Some, refl, sym, ◌∙◌, ap, subst, inl}
use Rattle.std.proofs.Common.{inr}
use Rattle.std.specs.List.{Contains, All}
use Rattle.std.proofs.lemmas.Bool.{cases_eq, cases_lt}
use Rattle.std.proofs.lemmas.Option.{slice_get_within, get_or_from_slice_get}
use Rattle.std.proofs.lemmas.List.{map-append, length-map, length-set, get_or-map, get_or-set_same, get_or-set_other}
use Rattle.std.proofs.lemmas.List.Elements.{All-nil, All-cons, All-append, All-contains, Contains-get_or}
use Rattle.std.proofs.Math.Seq.{map-set_same}
use Rattle.sem_key.proofs.Members.{Contains-from_map}
use Rattle.sem_msg.specs.declared.entry.Entry.{Entry}
use Rattle.sem_msg.specs.Setup.{Setup}
use Rattle.sem_machine.specs.Living.{IsComplete}
use Rattle.sem_histories.specs.Outcomes.{RunOutcome, outcome}
use Rattle.sem_histories.specs.Listing.{Witness, witness_of, outcomes_of, IsEnding, HasSoMany, ListsOutcomes}
use Rattle.sem_histories.specs.declared.witnesses.Listed.{Listed}
use Rattle.sem_histories.proofs.GrowingLists.{lists-none, lists-skip, lists-put}
use Rattle.sem_outcomes.specs.Endings.{witnesses_of, AreCounted, ListsEndings}
use Rattle.sem_outcomes.proofs.Places.{mapped-at}
use Rattle.sem_outcomes.proofs.Counts.{count-more, count-same, count-few, count-none}

pub outcome-at : (found : List Listed) (k : ℕ) (l : Listed) (o : RunOutcome) → k < length found
    → get_or (outcomes_of (witnesses_of found)) k o ≡ (get_or found k l).witness.outcome
outcome-at found k l o here =
    let long = length-map found (λ (x : Listed). x.witness) in
    get_or-map (λ (w : Witness). w.outcome) (witnesses_of found) k l.witness o (omega (arith, here, long))
    ∙ ap (λ (w : Witness). w.outcome) (get_or-map (λ (x : Listed). x.witness) found k l l.witness here)

many-outcomes : (found : List Listed) → length (outcomes_of (witnesses_of found)) ≡ length found
many-outcomes found = length-map (witnesses_of found) (λ (w : Witness). w.outcome) ∙ length-map found (λ (x : Listed). x.witness)

module _ (T : Setup) where
  pub endings-none : ListsEndings T [] []
  endings-none = record { lists = lists-none T; counts = All-nil (λ (l : Listed). HasSoMany (IsEnding T l.witness.outcome) [] l.histories) }

  module _ (V : List (List Entry)) (J : List Entry) (found : List Listed) (is : ListsEndings T V found) where
    -- a history that is not complete adds nothing
    pub endings-skip : (IsComplete T J → ⊥) → ListsEndings T (V ++ J ∷ []) found
    endings-skip goes = record {
      lists = lists-skip T V J (witnesses_of found) is.lists (λ complete. absurd (goes complete));
      counts = λ k d here.
          count-same (IsEnding T (get_or found k d).witness.outcome) V (get_or found k d).histories J (λ ends. goes ends.0) (is.counts k d here);
    }

    module _ (complete : IsComplete T J) where
      -- the outcome stands at a place
      module _ (k : ℕ) (l : Listed) (here : slice_get found k ≡ Some l) (same : l.witness.outcome ≡ outcome T J) where
        abbrev counted : Listed
        counted = record l { histories = l.histories + 1 }

        k-within : k < length found
        k-within = slice_get_within found k l here

        k-is : (d : Listed) → get_or found k d ≡ l
        k-is d = get_or_from_slice_get found k l d here

        pub l-counts : HasSoMany (IsEnding T l.witness.outcome) V l.histories
        l-counts = subst (λ (x : Listed). HasSoMany (IsEnding T x.witness.outcome) V x.histories) (k-is l) (is.counts k l k-within)

        same-witnesses : witnesses_of (set found k counted) ≡ witnesses_of found
        same-witnesses = map-set_same (λ (x : Listed). x.witness) found k counted l (ap (λ (x : Listed). x.witness) (sym (k-is l)))

        listed : Contains (outcomes_of (witnesses_of found)) (outcome T J)
        listed =
            let long = many-outcomes found in
            let inside = k-within in
            subst (Contains (outcomes_of (witnesses_of found)))
            (outcome-at found k l l.witness.outcome inside ∙ (ap (λ (x : Listed). x.witness.outcome) (k-is l) ∙ same))
            (Contains-get_or (outcomes_of (witnesses_of found)) k l.witness.outcome (omega (arith, long, inside)))

        -- no other place has it
        alone : (j : ℕ) (d : Listed) → j < length found → j ≢ k → (get_or found j d).witness.outcome ≡ outcome T J → ⊥
        alone j d there apart also =
            let long = many-outcomes found in
            let inside = k-within in
            let o : RunOutcome = outcome T J in
            let at_j : get_or (outcomes_of (witnesses_of found)) j o ≡ o = outcome-at found j d o there ∙ also in
            let at_k : get_or (outcomes_of (witnesses_of found)) k o ≡ o =
            outcome-at found k d o inside ∙ (ap (λ (x : Listed). x.witness.outcome) (k-is d) ∙ same) in
            elim (cases_lt j k) [
              | inl less ↦ is.lists.once j k o less (omega (arith, long, inside)) (at_j ∙ sym at_k)
              | inr past ↦ is.lists.once k j o (omega (arith, past, apart)) (omega (arith, long, there)) (at_k ∙ sym at_j)
            ]

        counts-again : AreCounted T (V ++ J ∷ []) (set found k counted)
        counts-again j d there =
            let long = length-set found k counted in
            let within : j < length found = omega (arith, there, long) in
            elim (cases_eq j k) [
              | inl equal ↦
                  subst (λ (x : Listed). HasSoMany (IsEnding T x.witness.outcome) (V ++ J ∷ []) x.histories)
                  (sym (ap (λ n. get_or (set found k counted) n d) equal ∙ get_or-set_same found k counted d k-within))
                  (count-more (IsEnding T l.witness.outcome) V l.histories J (complete, sym same) l-counts)
              | inr apart ↦
                  subst (λ (x : Listed). HasSoMany (IsEnding T x.witness.outcome) (V ++ J ∷ []) x.histories)
                  (sym (get_or-set_other found k j counted d apart))
                  (count-same (IsEnding T (get_or found j d).witness.outcome) V (get_or found j d).histories J
                  (λ ends. alone j d within apart (sym ends.1)) (is.counts j d within))
            ]

        pub endings-again : ListsEndings T (V ++ J ∷ []) (set found k (record l { histories = l.histories + 1 }))
        endings-again = record {
          lists = subst (ListsOutcomes T (V ++ J ∷ [])) (sym same-witnesses) (lists-skip T V J (witnesses_of found) is.lists (λ whole. listed));
          counts = counts-again;
        }

      -- the outcome is new
      module _ (none : All (λ (l : Listed). l.witness.outcome ≢ outcome T J) found) where
        unlisted : Contains (outcomes_of (witnesses_of found)) (outcome T J) → ⊥
        unlisted among =
            let (w, inside, is) = Contains-from_map (λ (x : Witness). x.outcome) (witnesses_of found) (outcome T J) among in
            let (l, within, told) = Contains-from_map (λ (x : Listed). x.witness) found w inside in
            All-contains (λ (x : Listed). x.witness.outcome ≢ outcome T J) found l none within (ap (λ (x : Witness). x.outcome) told ∙ is)

        abbrev first : Listed
        first = record { witness = witness_of T J; histories = 1 }

        pub endings-first : ListsEndings T (V ++ J ∷ []) (found ++ record { witness = witness_of T J; histories = 1 } ∷ [])
        endings-first = record {
          lists = subst (ListsOutcomes T (V ++ J ∷ [])) (sym (map-append (λ (x : Listed). x.witness) found (first ∷ [])))
              (lists-put T V J (witnesses_of found) is.lists complete unlisted);
          counts = All-append (λ (x : Listed). HasSoMany (IsEnding T x.witness.outcome) (V ++ J ∷ []) x.histories) found (first ∷ [])
              (λ j d there. count-same (IsEnding T (get_or found j d).witness.outcome) V (get_or found j d).histories J
              (λ ends. none j d there (sym ends.1)) (is.counts j d there))
              (All-cons (λ (x : Listed). HasSoMany (IsEnding T x.witness.outcome) (V ++ J ∷ []) x.histories) first []
              (count-more (IsEnding T (outcome T J)) V 0 J (complete, refl)
              (count-none (IsEnding T (outcome T J)) V
              (λ K among ends. unlisted (subst (Contains (outcomes_of (witnesses_of found))) ends.1 (is.lists.whole K among ends.0)))))
              (All-nil (λ (x : Listed). HasSoMany (IsEnding T x.witness.outcome) (V ++ J ∷ []) x.histories)));
        }

-- a count that fewer histories than a word holds can go up
pub listed-few : (T : Setup) (found : List Listed) → ((V : List (List Entry)) × ListsEndings T V found × (length V + 1 < 2 ^ 64))
    → (k : ℕ) (x : Listed) → k < length found → x ≡ get_or found k x → x.histories + 1 < 2 ^ 64
listed-few T found (V, is, few) k x here same =
    let many = count-few (IsEnding T (get_or found k x).witness.outcome) V (get_or found k x).histories (is.counts k x here) in
    let count : x.histories ≡ (get_or found k x).histories = ap (λ (l : Listed). l.histories) same in
    omega (arith, many, count, few)

module _ (T : Setup) (J : List Entry) (found : List Listed) (complete : IsComplete T J) where
  -- the count at the place of the outcome goes up
  pub endings-again-at : (k : ℕ) (x : Listed) (o : RunOutcome) → x ≡ get_or found k x
      → slice_get (map (λ (l : Listed). l.witness.outcome) found) k ≡ Some o → o ≡ outcome T J
      → (V : List (List Entry)) → ListsEndings T V found → ListsEndings T (V ++ J ∷ []) (set found k (record x { histories = x.histories + 1 }))
  endings-again-at k x o same there own V is =
      let (y, here, has) = mapped-at (λ (l : Listed). l.witness.outcome) found k o there in
      let at : x ≡ y = same ∙ get_or_from_slice_get found k y x here in
      endings-again T V J found is complete k x (here ∙ ap Some (sym at)) (ap (λ (l : Listed). l.witness.outcome) at ∙ (has ∙ own))

  -- a new outcome is listed
  pub endings-first-at : (w : Witness) → w ≡ witness_of T J → All (λ (l : Listed). l.witness.outcome ≢ w.outcome) found
      → (V : List (List Entry)) → ListsEndings T V found → ListsEndings T (V ++ J ∷ []) (found ++ record { witness = w; histories = 1 } ∷ [])
  endings-first-at w made none V is =
      subst (λ (x : Witness). ListsEndings T (V ++ J ∷ []) (found ++ record { witness = x; histories = 1 } ∷ [])) (sym made)
      (endings-first T V J found is complete (λ k d here same. none k d here (same ∙ sym (ap (λ (x : Witness). x.outcome) made))))
