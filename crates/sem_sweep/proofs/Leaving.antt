-- A VPE that leaves the jobs for which it waits.
use Rattle.std.proofs.Common.{◌≡◌, ℕ, Bool, true, false, not, cond, List, [], ◌∷◌, Some, None, refl, sym, ◌∙◌, ap, inl, inr, arith}
use Rattle.std.specs.Prelude.{◌==◌, ◌&&◌}
use Rattle.std.proofs.lemmas.Bool.{cases_Bool, cond-true, cond-false, eqb-true, ne_eqb}
use Rattle.std.proofs.lemmas.Option.{same_Some}
use Rattle.sem_key.proofs.Members.{Contains-map, find_none}
use Rattle.sem_msg.specs.Rows.{JobRow}
use Rattle.sem_msg.specs.JobRows.{job_of, ids_of, keep_given_up, waiter_removed, waiter_left, without_number}
use Rattle.sem_jobs.proofs.JobPlaces.{changed-absent}
use Rattle.sem_sweep.specs.Sweeping.{root_left}
use Rattle.sem_sweep.proofs.Swept.{Rises, rises-tail, rises-head}

-- the job keeps its root as before, unless both tests hold
abbrev kept : Bool → Bool → Bool
kept keep test = keep && not test

kept-on : (keep : Bool) → kept keep false ≡ keep
kept-on true = refl
kept-on false = refl

kept-off : (keep : Bool) → kept keep true ≡ false
kept-off true = refl
kept-off false = refl

-- nothing changes where the job is not there
pub left-absent : (j v : ℕ) (xs : List JobRow) → job_of xs j ≡ None → root_left j v xs ≡ xs
left-absent j v [] none = refl
left-absent j v (y ∷ ys) none = elim (cases_Bool (y.id == j)) [
  | inl here ↦ let some : Some y ≡ None = sym (cond-true (y.id == j) (Some y) (job_of ys j) here) ∙ none in absurd cc
  | inr other ↦
      let head : record y { keep = y.keep && not ((y.id == j) && (y.root.vpe == v)) } ≡ y =
      ap (λ t. record y { keep = y.keep && not (t && (y.root.vpe == v)) }) other ∙ ap (λ t. record y { keep = t }) (kept-on y.keep) in
      let tail = left-absent j v ys (sym (cond-false (y.id == j) (Some y) (job_of ys j) other) ∙ none) in
      ap (λ z. z ∷ root_left j v ys) head ∙ ap (λ zs. y ∷ zs) tail
]

-- the ids rise, so no later job has the id of the first
later-absent : (j : ℕ) (y : JobRow) (ys : List JobRow) → Rises (ids_of (y ∷ ys)) → (y.id == j) ≡ true → job_of ys j ≡ None
later-absent j y ys rises here = find_none (λ (x : JobRow). x.id == j) ys (λ x there.
    let above = rises-head y.id (ids_of ys) rises x.id (Contains-map (λ (x : JobRow). x.id) ys x there) in
    let is = eqb-true y.id j here in
    ne_eqb x.id j (λ same. omega (arith, above, is, same)))

-- the root of the job is of the VPE: it gives it up
pub left-own : (j v : ℕ) (xs : List JobRow) (x : JobRow) → Rises (ids_of xs) → job_of xs j ≡ Some x → (x.root.vpe == v) ≡ true →
    keep_given_up j xs ≡ root_left j v xs
left-own j v [] x rises some own = absurd cc
left-own j v (y ∷ ys) x rises some own = elim (cases_Bool (y.id == j)) [
  | inl here ↦
      let same : y ≡ x = same_Some y x (sym (cond-true (y.id == j) (Some y) (job_of ys j) here) ∙ some) in
      let own' : (y.root.vpe == v) ≡ true = ap (λ (z : JobRow). z.root.vpe == v) same ∙ own in
      let none = later-absent j y ys rises here in
      let head : record y { keep = y.keep && not ((y.id == j) && (y.root.vpe == v)) } ≡ record y { keep = false } =
      ap (λ t. record y { keep = y.keep && not (t && (y.root.vpe == v)) }) here ∙ ap (λ t. record y { keep = y.keep && not t }) own'
      ∙ ap (λ t. record y { keep = t }) (kept-off y.keep) in
      let given : cond {A = JobRow} (y.id == j) (record y { keep = false }) y ≡ record y { keep = false } =
      cond-true (y.id == j) (record y { keep = false }) y here in
      ap (λ z. z ∷ keep_given_up j ys) (given ∙ sym head)
      ∙ ap (λ zs. record y { keep = y.keep && not ((y.id == j) && (y.root.vpe == v)) } ∷ zs) (changed-absent j _ ys none ∙ sym (left-absent j v ys none))
  | inr other ↦
      let head : record y { keep = y.keep && not ((y.id == j) && (y.root.vpe == v)) } ≡ y =
      ap (λ t. record y { keep = y.keep && not (t && (y.root.vpe == v)) }) other ∙ ap (λ t. record y { keep = t }) (kept-on y.keep) in
      let given : cond {A = JobRow} (y.id == j) (record y { keep = false }) y ≡ y = cond-false (y.id == j) (record y { keep = false }) y other in
      let tail = left-own j v ys x (rises-tail y.id (ids_of ys) rises) (sym (cond-false (y.id == j) (Some y) (job_of ys j) other) ∙ some) own in
      ap (λ z. z ∷ keep_given_up j ys) (given ∙ sym head) ∙ ap (λ zs. record y { keep = y.keep && not ((y.id == j) && (y.root.vpe == v)) } ∷ zs) tail
]

-- the root of the job is of another VPE: nothing changes
pub left-other : (j v : ℕ) (xs : List JobRow) (x : JobRow) → Rises (ids_of xs) → job_of xs j ≡ Some x → (x.root.vpe == v) ≡ false → root_left j v xs ≡ xs
left-other j v [] x rises some foreign = refl
left-other j v (y ∷ ys) x rises some foreign = elim (cases_Bool (y.id == j)) [
  | inl here ↦
      let same : y ≡ x = same_Some y x (sym (cond-true (y.id == j) (Some y) (job_of ys j) here) ∙ some) in
      let foreign' : (y.root.vpe == v) ≡ false = ap (λ (z : JobRow). z.root.vpe == v) same ∙ foreign in
      let head : record y { keep = y.keep && not ((y.id == j) && (y.root.vpe == v)) } ≡ y =
      ap (λ t. record y { keep = y.keep && not (t && (y.root.vpe == v)) }) here ∙ ap (λ t. record y { keep = y.keep && not t }) foreign'
      ∙ ap (λ t. record y { keep = t }) (kept-on y.keep) in
      ap (λ z. z ∷ root_left j v ys) head ∙ ap (λ zs. y ∷ zs) (left-absent j v ys (later-absent j y ys rises here))
  | inr other ↦
      let head : record y { keep = y.keep && not ((y.id == j) && (y.root.vpe == v)) } ≡ y =
      ap (λ t. record y { keep = y.keep && not (t && (y.root.vpe == v)) }) other ∙ ap (λ t. record y { keep = t }) (kept-on y.keep) in
      let tail = left-other j v ys x (rises-tail y.id (ids_of ys) rises) (sym (cond-false (y.id == j) (Some y) (job_of ys j) other) ∙ some) foreign in
      ap (λ z. z ∷ root_left j v ys) head ∙ ap (λ zs. y ∷ zs) tail
]

-- to give up the root and to leave the waiters is one change
pub left-both : (j v : ℕ) (xs : List JobRow) → waiter_removed v (root_left j v xs) ≡ waiter_left j v xs
left-both j v [] = refl
left-both j v (x ∷ xs) = ap (λ zs. record x { waiters = without_number x.waiters v; keep = x.keep && not ((x.id == j) && (x.root.vpe == v)) } ∷ zs)
    (left-both j v xs)
