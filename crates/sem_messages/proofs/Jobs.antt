-- A job of an id that changes, and what that does to two sums over jobs.
use Rattle.std.proofs.Common.{◌≡◌, ℕ, ◌+◌, ◌≤◌, Bool, List, [], ◌∷◌, Option, Some, None, refl, sym, ap, ◌∙◌, arith}
use Rattle.std.proofs.Common.{inl, inr, subst, eq-eqb}
use Rattle.std.specs.Prelude.{◌==◌, if◌then◌else◌}
use Rattle.std.specs.Option.{option_map, option_or}
use Rattle.std.specs.List.{sum_by}
use Rattle.std.proofs.lemmas.Bool.{cases_Bool, cond-true, cond-false, eqb-true}
use Rattle.std.proofs.lemmas.List.Sums.{sum_by-cons}
use Rattle.std.proofs.lemmas.Option.{same_Some}
use Rattle.sem_key.specs.KeyName.{KeyName}
use Rattle.sem_key.specs.Lists.{change}
use Rattle.sem_msg.specs.declared.state.Up.{Up}
use Rattle.sem_msg.specs.declared.state.Up.TheVariants.{Local, Remote}
use Rattle.sem_msg.specs.Rows.{JobRow}
use Rattle.sem_msg.specs.JobRows.{job_of, if_done, next_done}
use Rattle.sem_machine.specs.Sides.{Side, job, job_opened, job_changed}
use Rattle.sem_key.proofs.Members.{found}
use Rattle.sem_safety.specs.Observations.{ObservedSide}
use Rattle.sem_safety.proofs.JobIds.{IdsRise}
use Rattle.sem_safety.proofs.Updates.{seen-job_changed, seen-job_opened}
use Rattle.sem_revoke.proofs.Scaling.{jobs-changed}
use Rattle.sem_messages.proofs.Tallies.{Tally}

-- a change of a job that is not there leaves a sum
changed-absent : (w : JobRow → ℕ) (f : JobRow → JobRow) (m : ℕ) (xs : List JobRow) → job_of xs m ≡ None →
    sum_by w (change (λ x. x.id == m) f xs) ≡ sum_by w xs
changed-absent w f m [] none = refl
changed-absent w f m (y ∷ ys) none =
    let new = sum_by-cons w (if y.id == m then f y else y) (change (λ x. x.id == m) f ys) in
    let old = sum_by-cons w y ys in
    elim (cases_Bool (y.id == m)) [
      | inl pass ↦
          let some : Some y ≡ None = sym (cond-true (y.id == m) (Some y) (job_of ys m) pass) ∙ none in absurd cc
      | inr fail ↦
          let here : w (if y.id == m then f y else y) ≡ w y = ap w (cond-false (y.id == m) (f y) y fail) in
          let rest = changed-absent w f m ys (sym (cond-false (y.id == m) (Some y) (job_of ys m) fail) ∙ none) in
          omega (arith, new, old, here, rest)
    ]

module _ (P N : Tally) (f : JobRow → JobRow) (m a b : ℕ) where
  -- what becomes of a job
  abbrev pub Turns : JobRow → Type 0
  Turns x = (P.job (f x) + N.job x) + a ≤ (N.job (f x) + P.job x) + b

  -- and of both sums over the jobs
  abbrev pub Turned : List JobRow → Type 0
  Turned xs = (sum_by P.job (change (λ x. x.id == m) f xs) + sum_by N.job xs) + a
      ≤ (sum_by P.job xs + sum_by N.job (change (λ x. x.id == m) f xs)) + b

  pub turned-there : (xs : List JobRow) (x : JobRow) → IdsRise xs → job_of xs m ≡ Some x → Turns x → Turned xs
  turned-there xs x rise open_ turns =
      let p = jobs-changed P.job f m xs x rise open_ in
      let n = jobs-changed N.job f m xs x rise open_ in
      omega (arith, p, n, turns)

  -- where it may not be there
  pub turned : (xs : List JobRow) → IdsRise xs → a ≤ b → ((x : JobRow) → Turns x) → Turned xs
  turned xs rise less each = from (job_of xs m) refl
    where
      from : (o : Option JobRow) → job_of xs m ≡ o → Turned xs
      from None none =
          let p = changed-absent P.job f m xs none in
          let n = changed-absent N.job f m xs none in
          omega (arith, p, n, less)
      from (Some x) some = turned-there xs x rise some (each x)

-- A job that is open.

abbrev pub IsThere : ℕ → Side → Type 0
IsThere j s = (x : JobRow) × (job s j ≡ Some x)

pub there-changed : (j m : ℕ) (f : JobRow → JobRow) (s : Side) → ((x : JobRow) → (f x).id ≡ x.id) → IsThere j s →
    IsThere j (job_changed m f s)
there-changed j m f s keeps is =
    let now : job (job_changed m f s) j ≡ (if j == m then option_map f (job s j) else job s j) =
    ap (λ (q : ObservedSide). q.job j) (seen-job_changed m f s keeps) in
    elim (cases_Bool (j == m)) [
      | inl same ↦ (
        f is.0,
        now ∙ (cond-true (j == m) (option_map f (job s j)) (job s j) same ∙ ap (option_map f) is.1),
      )
      | inr other ↦ (is.0, now ∙ (cond-false (j == m) (option_map f (job s j)) (job s j) other ∙ is.1))
    ]

pub there-opened : (root : KeyName) (up : Option Up) (ws : List ℕ) (keep : Bool) (s : Side) →
    IsThere s.next_job (job_opened root up ws keep s)
there-opened root up ws keep s = from (job s s.next_job) now
  where
    new : JobRow
    new = record { id = s.next_job; root = root; up = up; waiters = ws; count = 0; keep = keep }

    now : job (job_opened root up ws keep s) s.next_job
        ≡ option_or (job s s.next_job) (if s.next_job == s.next_job then Some new else None)
    now = ap (λ (q : ObservedSide). q.job s.next_job) (seen-job_opened root up ws keep s)

    from : (o : Option JobRow) → job (job_opened root up ws keep s) s.next_job
        ≡ option_or o (if s.next_job == s.next_job then Some new else None) →
        IsThere s.next_job (job_opened root up ws keep s)
    from None is = (new, is ∙ cond-true (s.next_job == s.next_job) (Some new) None (eq-eqb s.next_job s.next_job refl))
    from (Some x) is = (x, is)

-- A job that is done is open, and counts nothing.

abbrev pub IsDone : Side → JobRow → Type 0
IsDone s y = (job s y.id ≡ Some y) × (y.count ≡ 0)

pub done-is : (s : Side) (j : ℕ) (y : JobRow) → if_done (job s j) ≡ Some y → IsDone s y
done-is s j y done = from (job s j) refl done
  where
    from : (o : Option JobRow) → job s j ≡ o → if_done o ≡ Some y → IsDone s y
    from None none is = absurd cc
    from (Some x) some is = elim (cases_Bool (x.count == 0)) [
      | inl pass ↦
          let same : x ≡ y = same_Some x y (sym (cond-true (x.count == 0) (Some x) None pass) ∙ is) in
          let at : x.id ≡ j = eqb-true x.id j (found (λ (z : JobRow). z.id == j) s.jobs x some).1 in
          let open_ : job s x.id ≡ Some x = ap (job s) at ∙ some in (
            subst (λ (z : JobRow). job s z.id ≡ Some z) same open_,
            subst (λ (z : JobRow). z.count ≡ 0) same (eqb-true x.count 0 pass),
          )
      | inr fail ↦ let none : None ≡ Some y = sym (cond-false (x.count == 0) (Some x) None fail) ∙ is in absurd cc
    ]

pub next-is : (up : Option Up) (s : Side) (y : JobRow) → next_done up s.jobs ≡ Some y → IsDone s y
next-is None s y next = absurd cc
next-is (Some (Local j)) s y next = done-is s j y next
next-is (Some (Remote kernel j)) s y next = absurd cc
