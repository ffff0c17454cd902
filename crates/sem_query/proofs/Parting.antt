-- Marked keys are parted into those that stay as they are and those that a token may take away.
use Rattle.std.proofs.Common.{◌≡◌, ℕ, Bool, true, false, not, List, [], map, Option, Some, None, refl, sym, ap, ◌∙◌, subst, inl, inr, eq-eqb}
use Rattle.std.specs.Prelude.{◌==◌}
use Rattle.std.specs.List.{Contains, filter}
use Rattle.std.specs.Option.{option_map_or}
use Rattle.std.specs.Result.{OnOk}
use Rattle.std.specs.declared.result.Result.{Result}
use Rattle.std.specs.declared.result.Result.TheVariants.{Ok, Err}
use Rattle.std.proofs.lemmas.Bool.{cases_Bool, cases_eq, true≢false, and_from, and_parts, eqb-true}
use Rattle.sem_key.specs.KeyName.{KeyName}
use Rattle.sem_key.proofs.Members.{Contains-nil, Contains-filter, Contains-from_filter, Contains-map, Contains-from_map}
use Rattle.sem_msg.specs.declared.entry.Entry.{Entry}
use Rattle.sem_msg.specs.Setup.{Setup}
use Rattle.sem_msg.specs.Lookups.{owner_of}
use Rattle.sem_machine.specs.Machine.{World}
use Rattle.sem_query.specs.declared.marked.Token.{Token}
use Rattle.sem_query.specs.Building.{returned}
use Rattle.sem_query.specs.MarkedKeys.{mark_at, has_mark_of, AreAllMarked, IsIdleToken, IsBounded, is_swept, StaysMarked, AreParted}
use Rattle.sem_query.specs.MarkedKeys.StaysMarked.{no_token, elsewhere, still_marked, still_open, of_other}

-- what two clauses say of a success
pub on_ok_both : {X E P Q R : Type 0} (r : Result X E) → (P → Q → R) → OnOk r P → OnOk r Q → OnOk r R
on_ok_both (Ok x) f p q = f p q
on_ok_both (Err e) f p q = p

-- a mark that is tested
pub mark-is : (o : Option ℕ) (j : ℕ) → option_map_or (λ m. m == j) o false ≡ true → o ≡ Some j
mark-is None j no' = absurd cc
mark-is (Some m) j pass = ap Some (eqb-true m j pass)

-- Before the entry.
module _ (T : Setup) (W : World) (e : Entry) (marked : List (KeyName × ℕ)) (M : AreAllMarked T W marked) where
  -- no token comes back
  pub idle-none : returned e.event.act e.detail ≡ None → IsIdleToken T W e
  idle-none none j k some home mark = (let clash : ◌≡◌ {A = Option ℕ} None (Some j) = sym none ∙ some in absurd cc)

  -- or to a job that marks none of them
  pub idle-unlisted : (j : ℕ) → returned e.event.act e.detail ≡ Some j → ((k : KeyName) → owner_of T k ≡ e.event.kernel → Contains marked (k, j) → ⊥) →
      IsIdleToken T W e
  idle-unlisted j is absent i k some home mark =
      let same : Some j ≡ Some i = sym is ∙ some in
      absent k home (subst (λ x. Contains marked (k, x)) (of_some same) ((M k i).1 mark))
    where
      of_some : Some j ≡ Some i → i ≡ j
      of_some same = cc

module _ (T : Setup) (V : World) (e : Entry) (marked : List (KeyName × ℕ)) where
  -- no token comes back
  pub parted-none : AreParted T V e None marked marked []
  parted-none = record {
    each = λ k j among. inl among;
    stays = λ k j among. (among, no_token refl);
    goes = λ k among. absurd (Contains-nil k among);
  }

  module _ (t : Token) where
    -- the job marks one still
    pub parted-open : has_mark_of T V t.key t.job ≡ true → AreParted T V e (Some t) marked marked []
    parted-open is = record {
      each = λ k j among. inl among;
      stays = λ k j among. (among, still_open t refl (mark-is (mark_at T V t.key) t.job is));
      goes = λ k among. absurd (Contains-nil k among);
    }

    -- one job is given only where no other is finished
    module _ (only : Option ℕ) (alone : (j : ℕ) → only ≡ Some j → (j ≡ t.job) × IsBounded T V t) where
      abbrev swept : KeyName × ℕ → Bool
      swept = is_swept T V e.event.kernel only

      abbrev part_of : KeyName × ℕ → Bool
      part_of p = option_map_or (λ j. p.1 == j) only (not (has_mark_of T V p.0 p.1))

      stays-so : (k : KeyName) (j : ℕ) → not (swept (k, j)) ≡ true → StaysMarked T V e (Some t) k j
      stays-so k j left = elim (cases_eq (owner_of T k) e.event.kernel) [
        | inr other ↦ elsewhere other
        | inl same ↦ by only refl (elim (cases_Bool (part_of (k, j))) [
          | inl out ↦ absurd (true≢false (sym left
              ∙ ap not (and_from (owner_of T k == e.event.kernel) (part_of (k, j)) (eq-eqb (owner_of T k) e.event.kernel same) out)))
          | inr in' ↦ in'
        ])
      ]
        where
          by : (o : Option ℕ) → only ≡ o → option_map_or (λ i. j == i) o (not (has_mark_of T V k j)) ≡ false → StaysMarked T V e (Some t) k j
          by None none kept = still_marked (mark-is (mark_at T V k) j (still (has_mark_of T V k j) kept))
            where
              still : (b : Bool) → not b ≡ false → b ≡ true
              still true is = refl
              still false is = absurd cc
          by (Some i) some kept = of_other t refl (λ same. true≢false (sym (eq-eqb j i (same ∙ sym (alone i some).0)) ∙ kept)) (alone i some).1

      pub parted-swept : (kept : List (KeyName × ℕ)) → kept ≡ filter (λ p. not (is_swept T V e.event.kernel only p)) marked →
          AreParted T V e (Some t) marked kept (map (λ (p : KeyName × ℕ). p.0) (filter (is_swept T V e.event.kernel only) marked))
      parted-swept kept is = record {
        each = λ k j among. elim (cases_Bool (swept (k, j))) [
          | inl out ↦ inr (Contains-map (λ (p : KeyName × ℕ). p.0) (filter swept marked) (k, j) (Contains-filter swept marked (k, j) among out))
          | inr left ↦ inl (subst (λ ps. Contains ps (k, j)) (sym is) (Contains-filter (λ p. not (swept p)) marked (k, j) among (ap not left)))
        ];
        stays = λ k j among. (let x = Contains-from_filter (λ p. not (swept p)) marked (k, j) (subst (λ ps. Contains ps (k, j)) is among) in
            (x.0, stays-so k j x.1));
        goes = λ k among.
            (let p = Contains-from_map (λ (p : KeyName × ℕ). p.0) (filter swept marked) k among in
            let x = Contains-from_filter swept marked p.0 p.1 in (
              p.0.1,
              subst (λ q. Contains marked (q, p.0.1)) p.2 x.0,
              ap (owner_of T) (sym p.2)
                  ∙ eqb-true (owner_of T p.0.0) e.event.kernel (and_parts (owner_of T p.0.0 == e.event.kernel) (part_of p.0) x.1).0,
              refl,
            ));
      }
