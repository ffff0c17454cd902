-- A search goes on, and ends with a closed set.
use Rattle.std.proofs.Common.{◌≡◌, ℕ, suc, ◌+◌, ◌<◌, true, List, [], ◌∷◌, ◌++◌, length, take, get_or, slice_get, Some, refl, sym, ◌∙◌, ap, subst, inl, inr}
use Rattle.std.proofs.Common.{arith, ◌⊎◌}
use Rattle.std.specs.List.{Contains}
use Rattle.std.proofs.lemmas.List.{take-append-le, length_push}
use Rattle.std.proofs.Math.Seq.{take-suc, take-length}
use Rattle.std.proofs.lemmas.Option.{slice_get_within, get_or_from_slice_get}
use Rattle.std.proofs.lemmas.List.Quantifiers.{all_pairs_push}
use Rattle.std.proofs.lemmas.List.Elements.{All-nil, All-cons, All-append, All-contains, Contains-append_left, Contains-append_right, Contains-append_cases}
use Rattle.std.proofs.lemmas.List.Elements.{Contains-get_or}
use Rattle.sem_key.proofs.Members.{Contains-head, Contains-nil, Contains-cons_cases}
use Rattle.sem_msg.specs.declared.entry.Entry.{Entry}
use Rattle.sem_msg.specs.declared.event.Event.{Event}
use Rattle.sem_msg.specs.Setup.{Setup}
use Rattle.sem_machine.specs.Machine.{is_enabled, enabled}
use Rattle.sem_machine.specs.Schedules.{IsSchedule, world_after}
use Rattle.sem_machine.proofs.EnabledList.{enabled-exact}
use Rattle.sem_machine.proofs.Pushing.{schedule-push, schedule-empty}
use Rattle.sem_histories.specs.Outcomes.{and_then}
use Rattle.sem_histories.specs.Closed.{Sameness, Represents, IsClosed}
use Rattle.sem_histories.specs.Search.{IsSearched, HasGoneOn}

-- whatever counts as one, if each journal counts as itself
module _ (T : Setup) (Same : Sameness) (itself : (J : List Entry) → Same J J) where
  pub represents-more : (V W : List (List Entry)) (J : List Entry) → Represents Same V J → Represents Same (V ++ W) J
  represents-more V W J (K, among, same) = (K, Contains-append_left V W K among, same)

  pub represents-last : (V : List (List Entry)) (J : List Entry) → Represents Same (V ++ J ∷ []) J
  represents-last V J = (J, Contains-append_right V (J ∷ []) J (Contains-head J []), itself J)

  pub gone-on-more : (V W : List (List Entry)) (J : List Entry) (es : List Event) → HasGoneOn Same T V J es → HasGoneOn Same T (V ++ W) J es
  gone-on-more V W J es gone = λ k d within. represents-more V W (and_then T J (get_or es k d)) (gone k d within)

  pub searched-start : IsSearched Same T ([] ∷ []) 0
  searched-start = record {
    apart = record {
      schedules = All-cons (IsSchedule T) [] [] (schedule-empty T [] refl) (All-nil (IsSchedule T));
      apart = λ i j d less within. absurd (none i j less within);
    };
    start = represents-last [] [];
    within = omega arith;
    onward = λ J e among enabled. absurd (Contains-nil J among);
  }
    where
      none : (i j : ℕ) → i < j → j < 1 → ⊥
      none i j less within = omega (arith, less, within)

  pub searched-put : (V : List (List Entry)) (n : ℕ) (J : List Entry) (e : Event) → IsSearched Same T V n → IsSchedule T J →
      is_enabled T (world_after T J) e ≡ true
      → (Represents Same V (and_then T J e) → ⊥) → IsSearched Same T (V ++ and_then T J e ∷ []) n
  searched-put V n J e is runs enabled new =
      let K : List Entry = and_then T J e in
      let short = is.within in
      let long = length_push V K in
      record {
        apart = record {
          schedules = All-append (IsSchedule T) V (K ∷ []) is.apart.schedules
              (All-cons (IsSchedule T) K [] (schedule-push T J e runs enabled) (All-nil (IsSchedule T)));
          apart = all_pairs_push (λ A B. Same B A → ⊥) V K is.apart.apart (λ k d within same. new (get_or V k d, Contains-get_or V k d within, same));
        };
        start = represents-more V (K ∷ []) [] is.start;
        within = omega (arith, short, long);
        onward = λ L x among able. represents-more V (K ∷ []) (and_then T L x)
            (is.onward L x (subst (λ P. Contains P L) (take-append-le n V (K ∷ []) short) among) able);
      }

  pub searched-next : (V : List (List Entry)) (n : ℕ) (J : List Entry) → IsSearched Same T V n → slice_get V n ≡ Some J
      → HasGoneOn Same T V J (enabled T (world_after T J)) → IsSearched Same T V (n + 1)
  searched-next V n J is here gone =
      let less : n < length V = slice_get_within V n J here in
      let same : get_or V n J ≡ J = get_or_from_slice_get V n J J here in
      record {
        apart = is.apart;
        start = is.start;
        within = omega (arith, less);
        onward = λ L x among able. by_place L x (Contains-append_cases (take n V) (J ∷ []) L (subst (λ P. Contains P L) (taken less same) among)) able;
      }
    where
      taken : n < length V → get_or V n J ≡ J → take (n + 1) V ≡ take n V ++ J ∷ []
      taken less same =
          let one : suc n ≡ n + 1 = omega arith in
          subst (λ m. take m V ≡ take n V ++ J ∷ []) one (take-suc V n J less ∙ ap (λ x. take n V ++ x ∷ []) same)

      by_place : (L : List Entry) (x : Event) → Contains (take n V) L ⊎ Contains (J ∷ []) L → is_enabled T (world_after T L) x ≡ true →
          Represents Same V (and_then T L x)
      by_place L x (inl before) able = is.onward L x before able
      by_place L x (inr last) able = elim (Contains-cons_cases J [] L last) [
        | inl same ↦ subst (λ K. Represents Same V (and_then T K x)) same
            (All-contains (λ e. Represents Same V (and_then T J e)) (enabled T (world_after T J)) x gone
            ((enabled-exact T (world_after T J) x).1 (subst (λ K. is_enabled T (world_after T K) x ≡ true) (sym same) able)))
        | inr none ↦ absurd (Contains-nil L none)
      ]

  pub searched-closed : (V : List (List Entry)) → IsSearched Same T V (length V) → IsClosed Same T V
  searched-closed V is = record {
    schedules = is.apart.schedules;
    start = is.start;
    onward = λ J e among able. is.onward J e (subst (λ P. Contains P J) (sym (take-length V)) among) able;
  }
