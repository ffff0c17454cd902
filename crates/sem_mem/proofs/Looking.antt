-- What runs tell of a range of addresses: one run more tells of the addresses that it shares with the range.
use Rattle.std.proofs.Common.{◌≡◌, ℕ, zero, suc, ◌+◌, ◌-◌, ◌≤◌, ◌<◌, Bool, true, false, cond, List, [], ◌∷◌, ◌++◌, length, take, drop, get_or, Option, Some}
use Rattle.std.proofs.Common.{None, refl, sym, ◌∙◌, ap, subst, inl, inr, arith, ◌⊎◌}
use Rattle.std.specs.List.{filter_map, range_with_len, cons_option}
use Rattle.std.specs.Prelude.{◌==◌, min, max}
use Rattle.std.proofs.lemmas.Bool.{cases_Bool, cases_lt, cases_eq, cond-true, cond-false, eq-eqb, ne_eqb}
use Rattle.std.proofs.lemmas.List.{take_more, take-append-drop}
use Rattle.std.proofs.Math.Nat.{max_comm}
use Rattle.std.proofs.Math.Seq.{drop-cons}
use Rattle.sem_access.specs.declared.run.Run.{Run}
use Rattle.sem_access.specs.declared.look.Look.{Look}
use Rattle.sem_access.specs.LastWrites.{has_address, greater_with, greatest, looked}
use Rattle.sem_access.specs.Runs.{AreRuns, entry_at}
use Rattle.sem_mem.specs.Writing.{shared, with_run, greater_of, both}
use Rattle.sem_mem.proofs.Behind.{one-silent}
use Rattle.sem_mem.proofs.KeptRuns.{has-address, address-in, entry-here, entry-later, entry-behind, entry-before, none-before}

-- The greatest of entries.

greater-again : (e : ℕ) (o : Option ℕ) → greater_with e (greater_with e o) ≡ greater_with e o
greater-again e None = let same : max e e ≡ e = omega arith in ap Some same
greater-again e (Some n) = let same : max e (max e n) ≡ max e n = omega arith in ap Some same

greater-swap : (m e : ℕ) (o : Option ℕ) → greater_with m (greater_with e o) ≡ greater_with e (greater_with m o)
greater-swap m e None = ap Some (max_comm m e)
greater-swap m e (Some n) = let same : max m (max e n) ≡ max e (max m n) = omega arith in ap Some same

-- a test as a number
abbrev one_if : Bool → ℕ
one_if b = cond b 1 0

-- how many of some numbers pass a test
abbrev many : (ℕ → Bool) → List ℕ → ℕ
many p [] = 0
many p (x ∷ xs) = one_if (p x) + many p xs

-- f tells what g tells, and the entry e beside it where the test passes
module _ (p : ℕ → Bool) (e : ℕ) (f g : ℕ → Option ℕ) (new : (a : ℕ) → p a ≡ true → f a ≡ Some e) (old : (a : ℕ) → p a ≡ false → f a ≡ g a) (free : (a : ℕ) →
    p a ≡ true → g a ≡ None) where
  one-more : (o : Option ℕ) (xs ys : List ℕ) (n : ℕ) → length xs ≡ length ys + n → length (cons_option o xs) ≡ length (cons_option o ys) + n
  one-more None xs ys n same = same
  one-more (Some x) xs ys n same = omega (arith, same)

  more-found : (xs : List ℕ) → length (filter_map f xs) ≡ length (filter_map g xs) + many p xs
  more-found [] = refl
  more-found (x ∷ xs) = elim (cases_Bool (p x)) [
    | inl passes ↦
        let one : length (cons_option (f x) (filter_map f xs)) ≡ suc (length (filter_map f xs)) =
        ap (λ o. length (cons_option o (filter_map f xs))) (new x passes) in
        let none : length (cons_option (g x) (filter_map g xs)) ≡ length (filter_map g xs) =
        ap (λ o. length (cons_option o (filter_map g xs))) (free x passes) in
        let count : one_if (p x) ≡ 1 = cond-true (p x) 1 0 passes in
        let rest = more-found xs in
        omega (arith, one, none, count, rest)
    | inr fails ↦
        let count : one_if (p x) ≡ 0 = cond-false (p x) 1 0 fails in
        let rest = more-found xs in
        let both : length (cons_option (g x) (filter_map f xs)) ≡ length (cons_option (g x) (filter_map g xs)) + many p xs =
        one-more (g x) (filter_map f xs) (filter_map g xs) (many p xs) rest in
        let same : length (cons_option (f x) (filter_map f xs)) ≡ length (cons_option (g x) (filter_map f xs)) =
        ap (λ o. length (cons_option o (filter_map f xs))) (old x fails) in
        omega (arith, same, both, count)
  ]

  -- the greatest, where some pass and where none does
  abbrev Newest : List ℕ → Type 0
  Newest xs = (many p xs ≡ 0 → greatest (filter_map f xs) ≡ greatest (filter_map g xs))
      × (1 ≤ many p xs → greatest (filter_map f xs) ≡ greater_with e (greatest (filter_map g xs)))

  newest-found : (xs : List ℕ) → Newest xs
  newest-found [] = (λ none. refl, λ some. absurd (omega (arith, some)))
  newest-found (x ∷ xs) = elim (cases_Bool (p x)) [
    | inl passes ↦
        let count : one_if (p x) ≡ 1 = cond-true (p x) 1 0 passes in
        let one : greatest (cons_option (f x) (filter_map f xs)) ≡ greater_with e (greatest (filter_map f xs)) =
        ap (λ o. greatest (cons_option o (filter_map f xs))) (new x passes) in
        let none : greatest (cons_option (g x) (filter_map g xs)) ≡ greatest (filter_map g xs) =
        ap (λ o. greatest (cons_option o (filter_map g xs))) (free x passes) in
        (λ zero. absurd (omega (arith, zero, count)), λ some. one ∙ (passed (newest-found xs) ∙ ap (greater_with e) (sym none)))
    | inr fails ↦
        let count : one_if (p x) ≡ 0 = cond-false (p x) 1 0 fails in
        let same : greatest (cons_option (f x) (filter_map f xs)) ≡ greatest (cons_option (g x) (filter_map f xs)) =
        ap (λ o. greatest (cons_option o (filter_map f xs))) (old x fails) in
        let rest = failed (g x) (newest-found xs) in
        (λ zero. same ∙ rest.0 (omega (arith, zero, count)), λ some. same ∙ rest.1 (omega (arith, some, count)))
  ]
    where
      passed : Newest xs → greater_with e (greatest (filter_map f xs)) ≡ greater_with e (greatest (filter_map g xs))
      passed rest = elim (cases_eq (many p xs) 0) [
        | inl none ↦ ap (greater_with e) (rest.0 none)
        | inr some ↦ ap (greater_with e) (rest.1 (omega (arith, some))) ∙ greater-again e (greatest (filter_map g xs))
      ]

      failed : (o : Option ℕ) → Newest xs → (many p xs ≡ 0 → greatest (cons_option o (filter_map f xs)) ≡ greatest (cons_option o (filter_map g xs)))
          × (1 ≤ many p xs → greatest (cons_option o (filter_map f xs)) ≡ greater_with e (greatest (cons_option o (filter_map g xs))))
      failed None rest = rest
      failed (Some m) rest = (λ none. ap (greater_with m) (rest.0 none), λ some. ap (greater_with m) (rest.1 some) ∙ greater-swap m e (greatest (filter_map g xs)))

-- how many addresses of a range another range has
range-shares : (b l n base : ℕ) → many (has_address b l) (range_with_len base n) ≡ min (base + n) (b + l) - max b base
range-shares b l zero base = omega arith
range-shares b l (suc n) base =
    let rest = range-shares b l n (base + 1) in
    elim (cases_Bool (has_address b l base)) [
      | inl has ↦
          let inside = address-in b l base has in
          let count : one_if (has_address b l base) ≡ 1 = cond-true (has_address b l base) 1 0 has in
          omega (arith, rest, count, inside.0, inside.1)
      | inr lacks ↦
          let count : one_if (has_address b l base) ≡ 0 = cond-false (has_address b l base) 1 0 lacks in
          elim (cases_lt base b) [
            | inl below ↦ omega (arith, rest, count, below)
            | inr from ↦ elim (cases_lt base (b + l)) [
              | inl inside ↦ let both : true ≡ false = sym (has-address b l base from inside) ∙ lacks in absurd (cc)
              | inr behind ↦ omega (arith, rest, count, behind, from)
            ]
          ]
    ]

abbrev found : ℕ → Option ℕ → Look
found written newest = record { written = written; newest = newest }

-- what a range tells, where one run more tells of what it shares with it
looked-more : (f g : ℕ → Option ℕ) (r : Run) (from end : ℕ) → from ≤ end → ((a : ℕ) → has_address r.base r.len a ≡ true → f a ≡ Some r.entry) →
    ((a : ℕ) → has_address r.base r.len a ≡ false → f a ≡ g a) → ((a : ℕ) → has_address r.base r.len a ≡ true → g a ≡ None)
    → looked f from (end - from) ≡ with_run from end (looked g from (end - from)) r
unfolding looked
looked-more f g r from end le new old free =
    let p : ℕ → Bool = has_address r.base r.len in
    let R : List ℕ = range_with_len from (end - from) in
    let whole : from + (end - from) ≡ end = omega (arith, le) in
    let counted : many p R ≡ shared from end r = range-shares r.base r.len (end - from) from ∙ ap (λ n. min n (r.base + r.len) - max r.base from) whole in
    let written : length (filter_map f R) ≡ length (filter_map g R) + shared from end r = more-found p r.entry f g new old free R
    ∙ ap (λ n. length (filter_map g R) + n) counted in
    let newest = newest-found p r.entry f g new old free R in
    elim (cases_eq (shared from end r) 0) [
      | inl none ↦
          let same : length (filter_map f R) ≡ length (filter_map g R) = omega (arith, written, none) in
          found-is (length (filter_map f R)) (length (filter_map g R)) (greatest (filter_map f R)) (greatest (filter_map g R)) same (newest.0 (counted ∙ none))
          ∙ sym (cond-true (shared from end r == 0) _ _ (eq-eqb (shared from end r) 0 none))
      | inr some ↦
          found-is (length (filter_map f R)) (length (filter_map g R) + shared from end r) (greatest (filter_map f R))
          (greater_with r.entry (greatest (filter_map g R))) written (newest.1 (omega (arith, counted, some)))
          ∙ sym (cond-false (shared from end r == 0) _ _ (ne_eqb (shared from end r) 0 some))
    ]
  where
    found-is : (m n : ℕ) (o q : Option ℕ) → m ≡ n → o ≡ q → found m o ≡ found n q
    found-is m n o q same equal = ap (λ k. found k o) same ∙ ap (found n) equal

-- no more addresses are found than the range has
few-found : (f : ℕ → Option ℕ) (n base : ℕ) → length (filter_map f (range_with_len base n)) ≤ n
few-found f zero base = omega arith
few-found f (suc n) base = from (f base) (few-found f n (base + 1))
  where
    from : (o : Option ℕ) → length (filter_map f (range_with_len (base + 1) n)) ≤ n →
        length (cons_option o (filter_map f (range_with_len (base + 1) n))) ≤ suc n
    from None few = omega (arith, few)
    from (Some x) few = omega (arith, few)

looked-few : (f : ℕ → Option ℕ) (base len : ℕ) → (looked f base len).written ≤ len
unfolding looked
looked-few f base len = few-found f len base

with_run-written : (from end : ℕ) (found : Look) (r : Run) → (with_run from end found r).written ≡ found.written + shared from end r
with_run-written from end found r = elim (cases_eq (shared from end r) 0) [
  | inl none ↦ ap (λ (l : Look). l.written) (cond-true (shared from end r == 0) _ _ (eq-eqb (shared from end r) 0 none))
      ∙ let same : found.written ≡ found.written + shared from end r = omega (arith, none) in same
  | inr some ↦ ap (λ (l : Look). l.written) (cond-false (shared from end r == 0) _ _ (ne_eqb (shared from end r) 0 some))
]

-- Runs one after another.

nothing-found : (n base : ℕ) → filter_map (entry_at []) (range_with_len base n) ≡ []
nothing-found zero base = refl
nothing-found (suc n) base = nothing-found n (base + 1)

-- no runs tell nothing
pub start-found : (base len : ℕ) → found 0 None ≡ looked (entry_at []) base len
unfolding looked
start-found base len = sym (ap (λ xs. found (length xs) (greatest xs)) (nothing-found len base))

-- the first runs, the next one and the others
cut-at : (runs : List Run) (i : ℕ) (d : Run) → i < length runs → runs ≡ take i runs ++ get_or runs i d ∷ drop (suc i) runs
cut-at runs i d within = sym (ap (λ xs. take i runs ++ xs) (sym (drop-cons runs i d within)) ∙ take-append-drop i runs)

module _ (runs : List Run) (i : ℕ) (d : Run) (base len : ℕ) (are : AreRuns runs) (within : i < length runs) where
  abbrev r : Run
  r = get_or runs i d

  before-none : (a : ℕ) → has_address r.base r.len a ≡ true → entry_at (take i runs) a ≡ None
  before-none a has = none-before 0 None (take i runs) r (drop (suc i) runs) a (subst AreRuns (cut-at runs i d within) are) (address-in r.base r.len a has).0

  told-new : (a : ℕ) → has_address r.base r.len a ≡ true → entry_at (take i runs ++ r ∷ []) a ≡ Some r.entry
  told-new a has = entry-behind (take i runs) (r ∷ []) a (before-none a has) ∙ entry-here r [] a has

  told-old : (a : ℕ) → has_address r.base r.len a ≡ false → entry_at (take i runs ++ r ∷ []) a ≡ entry_at (take i runs) a
  told-old a lacks = entry-before (take i runs) (r ∷ []) a (entry-later r [] a lacks)

  -- one run more
  pub next-found : looked (entry_at (take (i + 1) runs)) base len ≡ with_run base (base + len) (looked (entry_at (take i runs)) base len) r
  next-found =
      let size : base + len - base ≡ len = omega arith in
      let more = looked-more (entry_at (take i runs ++ r ∷ [])) (entry_at (take i runs)) r base (base + len) (omega arith) told-new told-old before-none in
      ap (λ xs. looked (entry_at xs) base len) (take_more runs i d within)
      ∙ subst (λ n. looked (entry_at (take i runs ++ r ∷ [])) base n ≡ with_run base (base + len) (looked (entry_at (take i runs)) base n) r) size more

  -- what is found so far and what the next run shares are no more than the range has
  pub next-few : (looked (entry_at (take i runs)) base len).written + shared base (base + len) r ≤ len
  next-few =
      let few : (looked (entry_at (take (i + 1) runs)) base len).written ≤ len = looked-few (entry_at (take (i + 1) runs)) base len in
      let same : (looked (entry_at (take (i + 1) runs)) base len).written ≡ (looked (entry_at (take i runs)) base len).written + shared base (base + len) r =
      ap (λ (l : Look). l.written) next-found ∙ with_run-written base (base + len) (looked (entry_at (take i runs)) base len) r in
      omega (arith, few, same)

-- What is found by some runs and by others.

greater-both : (m : ℕ) (p q : Option ℕ) → greater_with m (greater_of p q) ≡ greater_of (greater_with m p) q
greater-both m None q = refl
greater-both m (Some e) None = refl
greater-both m (Some e) (Some n) = let same : max m (max e n) ≡ max (max m e) n = omega arith in ap Some same

greater-other : (m : ℕ) (p q : Option ℕ) → greater_with m (greater_of p q) ≡ greater_of p (greater_with m q)
greater-other m None q = refl
greater-other m (Some e) q = greater-swap m e q

-- f tells what g tells or what h tells, of which one tells nothing
module _ (f g h : ℕ → Option ℕ) (parts : (a : ℕ) → ((g a ≡ None) × (f a ≡ h a)) ⊎ ((h a ≡ None) × (f a ≡ g a))) where
  abbrev Joined : List ℕ → List ℕ → List ℕ → Type 0
  Joined xs ys zs = (length xs ≡ length ys + length zs) × (greatest xs ≡ greater_of (greatest ys) (greatest zs))

  right-more : (o : Option ℕ) (xs ys zs : List ℕ) → Joined xs ys zs → Joined (cons_option o xs) ys (cons_option o zs)
  right-more None xs ys zs is = is
  right-more (Some m) xs ys zs is = let count = is.0 in (omega (arith, count), ap (greater_with m) is.1 ∙ greater-other m (greatest ys) (greatest zs))

  left-more : (o : Option ℕ) (xs ys zs : List ℕ) → Joined xs ys zs → Joined (cons_option o xs) (cons_option o ys) zs
  left-more None xs ys zs is = is
  left-more (Some m) xs ys zs is = let count = is.0 in (omega (arith, count), ap (greater_with m) is.1 ∙ greater-both m (greatest ys) (greatest zs))

  joined-found : (xs : List ℕ) → Joined (filter_map f xs) (filter_map g xs) (filter_map h xs)
  joined-found [] = (refl, refl)
  joined-found (x ∷ xs) = elim (parts x) [
    | inl is ↦
        subst (λ o. Joined (cons_option (f x) (filter_map f xs)) (cons_option o (filter_map g xs)) (cons_option (h x) (filter_map h xs))) (sym is.0)
        (subst (λ o. Joined (cons_option o (filter_map f xs)) (filter_map g xs) (cons_option (h x) (filter_map h xs))) (sym is.1)
        (right-more (h x) (filter_map f xs) (filter_map g xs) (filter_map h xs) (joined-found xs)))
    | inr is ↦
        subst (λ o. Joined (cons_option (f x) (filter_map f xs)) (cons_option (g x) (filter_map g xs)) (cons_option o (filter_map h xs))) (sym is.0)
        (subst (λ o. Joined (cons_option o (filter_map f xs)) (cons_option (g x) (filter_map g xs)) (filter_map h xs)) (sym is.1)
        (left-more (g x) (filter_map f xs) (filter_map g xs) (filter_map h xs) (joined-found xs)))
  ]

module _ (rs qs : List Run) (are : AreRuns (rs ++ qs)) (base len : ℕ) where
  told-parts : (a : ℕ) → ((entry_at rs a ≡ None) × (entry_at (rs ++ qs) a ≡ entry_at qs a)) ⊎ ((entry_at qs a ≡ None) × (entry_at (rs ++ qs) a ≡ entry_at rs a))
  told-parts a = elim (one-silent rs qs are a) [
    | inl none ↦ inl (none, entry-behind rs qs a none)
    | inr none ↦ inr (none, entry-before rs qs a none)
  ]

  pub looked-both : looked (entry_at (rs ++ qs)) base len ≡ both (looked (entry_at rs) base len) (looked (entry_at qs) base len)
  unfolding looked
  looked-both =
      let is = joined-found (entry_at (rs ++ qs)) (entry_at rs) (entry_at qs) told-parts (range_with_len base len) in
      ap (λ n. found n (greatest (filter_map (entry_at (rs ++ qs)) (range_with_len base len)))) is.0
      ∙ ap (found (length (filter_map (entry_at rs) (range_with_len base len)) + length (filter_map (entry_at qs) (range_with_len base len)))) is.1

  -- together no more is found than the range has
  pub both-few : (looked (entry_at rs) base len).written + (looked (entry_at qs) base len).written ≤ len
  both-few =
      let few : (looked (entry_at (rs ++ qs)) base len).written ≤ len = looked-few (entry_at (rs ++ qs)) base len in
      let same : (looked (entry_at (rs ++ qs)) base len).written ≡ (looked (entry_at rs) base len).written + (looked (entry_at qs) base len).written =
      ap (λ (l : Look). l.written) looked-both in
      omega (arith, few, same)
