-- Runs that a range of addresses meets: only they change, and only they tell of it.
use Rattle.std.proofs.Common.{◌≡◌, ℕ, zero, suc, ◌+◌, ◌-◌, ◌≤◌, ◌<◌, Bool, true, false, cond, List, [], ◌∷◌, ◌++◌, length, take, drop, get_or, Option, Some, None}
use Rattle.std.proofs.Common.{drop-drop, refl, sym, ◌∙◌, ap, subst, inl, inr, arith}
use Rattle.std.specs.List.{All, filter_map, prefix_len, slice_range, range_with_len, cons_option}
use Rattle.std.specs.Option.{option_to_list}
use Rattle.std.specs.List.Sorted.{IsNonDecreasingBy, IsPartitionedBy, IsPartitionPoint}
use Rattle.std.specs.Prelude.{Result, Ok, Err, is_ok, OnOk, min, max, nat_lt}
use Rattle.std.proofs.lemmas.Bool.{cases_Bool, ltb-true, ltb-false}
use Rattle.std.proofs.lemmas.List.Sums.{prefix_len_passes, prefix_len_stops}
use Rattle.std.proofs.lemmas.List.{append_assoc, append-nil, take-append-drop, take_all, drop_more, get_or-take, get_or-drop, length-take, length-drop}
use Rattle.std.proofs.lemmas.List.Elements.{All-head, All-tail, All-take, All-drop, All-weaker, filter_map-append}
use Rattle.sem_access.specs.declared.run.Run.{Run}
use Rattle.sem_access.specs.LastWrites.{looked, greatest}
use Rattle.sem_access.specs.Runs.{run_of, IsValidRun, AreRunsBehind, AreRuns, entry_at}
use Rattle.sem_mem.specs.Writing.{lower_part, upper_part, overwritten}
use Rattle.sem_mem.specs.Meeting.{IsMetPart}
use Rattle.sem_mem.proofs.Behind.{EndsBy, BeginsFrom, some-runs, begin-behind, before-silent, behind-silent}
use Rattle.sem_mem.proofs.KeptRuns.{each-run, first-run, first-apart, more-runs, no-runs, run-before, entry-behind, entry-before}
use Rattle.sem_mem.proofs.Overwriting.{whole-run, lower-cons_some, lower-cons_none, upper-cons_some, upper-cons_none}

-- The parts of runs before a range and of runs behind it.

lower-whole : (base : ℕ) (rs : List Run) → All IsValidRun rs → All (EndsBy base) rs → filter_map (lower_part base) rs ≡ rs
lower-whole base [] valid ends = refl
lower-whole base (r ∷ rs) valid ends =
    let is = All-head IsValidRun r rs valid in
    let end : r.base + r.len ≤ base = All-head (EndsBy base) r rs ends in
    let len : min (r.base + r.len) base - r.base ≡ r.len = omega (arith, end) in
    lower-cons_some base r rs (omega (arith, is.0, end))
    ∙ (ap (λ q. q ∷ filter_map (lower_part base) rs) (whole-run r r.base (min (r.base + r.len) base - r.base) refl len)
    ∙ ap (λ qs. r ∷ qs) (lower-whole base rs (All-tail IsValidRun r rs valid) (All-tail (EndsBy base) r rs ends)))

lower-none : (base end : ℕ) (rs : List Run) → base ≤ end → All (BeginsFrom end) rs → filter_map (lower_part base) rs ≡ []
lower-none base end [] le from = refl
lower-none base end (r ∷ rs) le from =
    let begins : end ≤ r.base = All-head (BeginsFrom end) r rs from in
    lower-cons_none base r rs (omega (arith, le, begins)) ∙ lower-none base end rs le (All-tail (BeginsFrom end) r rs from)

upper-none : (from base : ℕ) (rs : List Run) → base ≤ from → All (EndsBy base) rs → filter_map (upper_part from) rs ≡ []
upper-none from base [] le ends = refl
upper-none from base (r ∷ rs) le ends =
    let end : r.base + r.len ≤ base = All-head (EndsBy base) r rs ends in
    upper-cons_none from r rs (omega (arith, le, end)) ∙ upper-none from base rs le (All-tail (EndsBy base) r rs ends)

upper-whole : (from : ℕ) (rs : List Run) → All IsValidRun rs → All (BeginsFrom from) rs → filter_map (upper_part from) rs ≡ rs
upper-whole from [] valid begins = refl
upper-whole from (r ∷ rs) valid begins =
    let is = All-head IsValidRun r rs valid in
    let begin : from ≤ r.base = All-head (BeginsFrom from) r rs begins in
    let base : max r.base from ≡ r.base = omega (arith, begin) in
    let len : r.base + r.len - max r.base from ≡ r.len = omega (arith, begin) in
    upper-cons_some from r rs (omega (arith, is.0, begin))
    ∙ (ap (λ q. q ∷ filter_map (upper_part from) rs) (whole-run r (max r.base from) (r.base + r.len - max r.base from) base len)
    ∙ ap (λ qs. r ∷ qs) (upper-whole from rs (All-tail IsValidRun r rs valid) (All-tail (BeginsFrom from) r rs begins)))

-- The runs in three parts.

seam : {X : Type 0} (a b c d : List X) (p : X) → a ++ ((b ++ p ∷ c) ++ d) ≡ (a ++ (b ++ [])) ++ p ∷ (c ++ d)
seam a b c d p =
    ap (λ (xs : List _). a ++ xs) (append_assoc b (p ∷ c) d)
    ∙ (sym (append_assoc a b (p ∷ (c ++ d)))
    ∙ ap (λ (xs : List _). (a ++ xs) ++ p ∷ (c ++ d)) (sym (append-nil b)))

pub in-three : {X : Type 0} (xs : List X) (i j : ℕ) → i ≤ j → xs ≡ take i xs ++ (slice_range xs i j ++ drop j xs)
in-three xs i j le =
    let rest : i + (j - i) ≡ j = omega (arith, le) in
    let later : drop (j - i) (drop i xs) ≡ drop j xs = drop-drop (j - i) i xs ∙ ap (λ n. drop n xs) rest in
    sym (ap (λ (ys : List _). take i xs ++ ys) (ap (λ (ys : List _). take (j - i) (drop i xs) ++ ys) (sym later) ∙ take-append-drop (j - i) (drop i xs))
    ∙ take-append-drop i xs)

three-parts : {X Y : Type 0} (h : X → Option Y) (a b c : List X) → filter_map h (a ++ (b ++ c)) ≡ filter_map h a ++ (filter_map h b ++ filter_map h c)
three-parts h a b c = filter_map-append h a (b ++ c) ∙ ap (λ (ys : List _). filter_map h a ++ ys) (filter_map-append h b c)

module _ (before middle behind : List Run) (base len : ℕ) (valid-before : All IsValidRun before) (valid-behind : All IsValidRun behind)
    (ends : All (EndsBy base) before) (begins : All (BeginsFrom (base + len)) behind) where
  abbrev whole : List Run
  whole = before ++ (middle ++ behind)

  abbrev end : ℕ
  end = base + len

  lower : filter_map (lower_part base) whole ≡ before ++ (filter_map (lower_part base) middle ++ [])
  lower =
      three-parts (lower_part base) before middle behind
      ∙ (ap (λ (xs : List Run). xs ++ (filter_map (lower_part base) middle ++ filter_map (lower_part base) behind)) (lower-whole base before valid-before ends)
      ∙ ap (λ (xs : List Run). before ++ (filter_map (lower_part base) middle ++ xs)) (lower-none base end behind (omega arith) begins))

  upper : filter_map (upper_part end) whole ≡ filter_map (upper_part end) middle ++ behind
  upper =
      three-parts (upper_part end) before middle behind
      ∙ (ap (λ (xs : List Run). xs ++ (filter_map (upper_part end) middle ++ filter_map (upper_part end) behind))
      (upper-none end base before (omega arith) ends)
      ∙ ap (λ (xs : List Run). filter_map (upper_part end) middle ++ xs) (upper-whole end behind valid-behind begins))

  -- an entry that writes the range changes the runs in the middle alone
  pub overwritten-within : (entry : ℕ) → before ++ (overwritten middle base len entry ++ behind) ≡ overwritten whole base len entry
  overwritten-within entry =
      let part : Run = run_of base len entry in
      seam before (filter_map (lower_part base) middle) (filter_map (upper_part end) middle) behind part
      ∙ (ap (λ (xs : List Run). xs ++ part ∷ (filter_map (upper_part end) middle ++ behind)) (sym lower)
      ∙ ap (λ (xs : List Run). filter_map (lower_part base) whole ++ part ∷ xs) (sym upper))

  -- the runs in the middle alone tell of the range
  tells-same : (a : ℕ) → base ≤ a → a < end → entry_at middle a ≡ entry_at whole a
  tells-same a from below =
      sym (entry-behind before (middle ++ behind) a (before-silent base before a ends from)
      ∙ entry-before middle behind a (behind-silent end behind a begins below))

  found-same : (n b : ℕ) → base ≤ b → b + n ≤ end → filter_map (entry_at middle) (range_with_len b n) ≡ filter_map (entry_at whole) (range_with_len b n)
  found-same zero b from within = refl
  found-same (suc n) b from within =
      ap (λ o. cons_option o (filter_map (entry_at middle) (range_with_len (b + 1) n))) (tells-same b from (omega (arith, within)))
      ∙ ap (cons_option (entry_at whole b)) (found-same n (b + 1) (omega (arith, from)) (omega (arith, within)))

  pub looked-within : looked (entry_at middle) base len ≡ looked (entry_at whole) base len
  unfolding looked
  looked-within = ap (λ (xs : List ℕ). record { written = length xs; newest = greatest xs }) (found-same len base (omega arith) (omega arith))

-- the runs of a list that a range meets tell of it what all of them tell
pub looked-middle : (rs : List Run) (base len i j : ℕ) → AreRuns rs → IsMetPart rs base (base + len) i j →
    looked (entry_at (slice_range rs i j)) base len ≡ looked (entry_at rs) base len
looked-middle rs base len i j are met =
    looked-within (take i rs) (slice_range rs i j) (drop j rs) base len (All-take IsValidRun i rs (each-run rs are))
    (All-drop IsValidRun j rs (each-run rs are)) met.before met.behind
    ∙ ap (λ (qs : List Run). looked (entry_at qs) base len) (sym (in-three rs i j met.order))

-- Parts of runs are runs.

dropped-runs : (b : ℕ) (e : Option ℕ) (n : ℕ) (rs : List Run) → AreRunsBehind b e rs → AreRuns (drop n rs)
dropped-runs b e zero rs are = some-runs b e rs are
dropped-runs b e (suc n) [] are = no-runs 0 None
dropped-runs b e (suc n) (r ∷ rs) are = dropped-runs (r.base + r.len) (Some r.entry) n rs (more-runs b e r rs are)

taken-runs : (b : ℕ) (e : Option ℕ) (n : ℕ) (rs : List Run) → AreRunsBehind b e rs → AreRunsBehind b e (take n rs)
taken-runs b e zero rs are = no-runs b e
taken-runs b e (suc n) [] are = no-runs b e
taken-runs b e (suc n) (r ∷ rs) are = run-before b e r (take n rs) (first-run b e r rs are) (first-apart b e r rs are)
    (taken-runs (r.base + r.len) (Some r.entry) n rs (more-runs b e r rs are))

pub runs-dropped : (n : ℕ) (rs : List Run) → AreRuns rs → AreRuns (drop n rs)
runs-dropped n rs are = dropped-runs 0 None n rs are

pub runs-within : (i j : ℕ) (rs : List Run) → AreRuns rs → AreRuns (slice_range rs i j)
runs-within i j rs are = taken-runs 0 None (j - i) (drop i rs) (runs-dropped i rs are)

-- Runs rise.

begins-at : (b : ℕ) (e : Option ℕ) (rs : List Run) → AreRunsBehind b e rs → (k : ℕ) (d : Run) → k < length rs → b ≤ (get_or rs k d).base
begins-at b e [] are k d within = absurd (omega (arith, within))
begins-at b e (r ∷ rs) are zero d within = (first-apart b e r rs are).0
begins-at b e (r ∷ rs) are (suc k) d within =
    let apart = first-apart b e r rs are in
    let later : r.base + r.len ≤ (get_or rs k d).base = begins-at (r.base + r.len) (Some r.entry) rs (more-runs b e r rs are) k d (omega (arith, within)) in
    omega (arith, apart.0, later)

rise-behind : (b : ℕ) (e : Option ℕ) (rs : List Run) → AreRunsBehind b e rs → (i j : ℕ) (d : Run) → i ≤ j → j < length rs
    → ((get_or rs i d).base ≤ (get_or rs j d).base) × ((get_or rs i d).base + (get_or rs i d).len ≤ (get_or rs j d).base + (get_or rs j d).len)
rise-behind b e [] are i j d le within = absurd (omega (arith, within))
rise-behind b e (r ∷ rs) are zero zero d le within = (omega arith, omega arith)
rise-behind b e (r ∷ rs) are zero (suc j) d le within =
    let later : r.base + r.len ≤ (get_or rs j d).base = begins-at (r.base + r.len) (Some r.entry) rs (more-runs b e r rs are) j d (omega (arith, within)) in
    (omega (arith, later), omega (arith, later))
rise-behind b e (r ∷ rs) are (suc i) zero d le within = absurd (omega (arith, le))
rise-behind b e (r ∷ rs) are (suc i) (suc j) d le within = rise-behind (r.base + r.len) (Some r.entry) rs (more-runs b e r rs are) i j d (omega (arith, le))
    (omega (arith, within))

pub bases-rise : (rs : List Run) → AreRuns rs → IsNonDecreasingBy (λ r. r.base) rs
bases-rise rs are i j d le within = (rise-behind 0 None rs are i j d le within).0

pub ends-rise : (rs : List Run) → AreRuns rs → IsNonDecreasingBy (λ r. r.base + r.len) rs
ends-rise rs are i j d le within = (rise-behind 0 None rs are i j d le within).1

-- What a binary search and a walk find.

-- a walk over what a test parts finds its place
pub walked : {X : Type 0} (p : X → Bool) (xs : List X) (k : ℕ) → k ≡ prefix_len p xs → IsPartitionedBy p xs →
    IsPartitionPoint (λ x. p x ≡ true) (λ x. p x ≡ false) xs k
walked p xs k is parted = (
  λ m d low below. prefix_len_passes p xs m d (omega (arith, is, below)),
  λ m d from within.
      let stops : p (get_or xs k d) ≡ false = subst (λ n. p (get_or xs n d) ≡ false) (sym is) (prefix_len_stops p xs d (omega (arith, is, from, within))) in
      elim (cases_Bool (p (get_or xs m d))) [
        | inl passes ↦ let both : true ≡ false = sym (parted k m d from within passes) ∙ stops in absurd (cc)
        | inr fails ↦ fails
      ],
)

pub met-part : (rs : List Run) (base end i k : ℕ) → i ≤ length rs → k ≤ length (drop i rs)
    → IsPartitionPoint (λ (r : Run). nat_lt (r.base + r.len) base ≡ true) (λ (r : Run). nat_lt (r.base + r.len) base ≡ false) rs i
    → IsPartitionPoint (λ (r : Run). nat_lt r.base end ≡ true) (λ (r : Run). nat_lt r.base end ≡ false) (drop i rs) k
    → IsMetPart rs base end i (i + k)
met-part rs base end i k within short first second =
    let rest : length (drop i rs) ≡ length rs - i = length-drop i rs in
    record {
      order = omega arith;
      within = omega (arith, within, short, rest);
      before = λ m d lt.
          let few : length (take i rs) ≡ min i (length rs) = length-take i rs in
          let below : m < i = omega (arith, lt, few) in
          let ends = ltb-true _ base (first.0 m d (omega arith) below) in
          subst (EndsBy base) (sym (get_or-take i rs m d below)) (omega (arith, ends));
      behind = λ m d lt.
          let far : length (drop (i + k) rs) ≡ length rs - (i + k) = length-drop (i + k) rs in
          let assoc : i + (k + m) ≡ i + k + m = omega arith in
          let same : get_or (drop i rs) (k + m) d ≡ get_or (drop (i + k) rs) m d = get_or-drop i rs (k + m) d
          ∙ (ap (λ n. get_or rs n d) assoc ∙ sym (get_or-drop (i + k) rs m d)) in
          subst (BeginsFrom end) same (ltb-false _ end (second.1 (k + m) d (omega arith) (omega (arith, lt, far, rest))));
    }

-- runs that were appended, unless memory ran out
pub added : {E : Type 0} (r : Result Unit E) (old more told new : List Run) → old ++ more ≡ told → new ≡ cond (is_ok r) (old ++ more) old →
    OnOk r (new ≡ told)
added (Ok x) old more told new same is = is ∙ same
added (Err e) old more told new same is = tt

listed-first : (o : Option Run) (rs : List Run) → cons_option o rs ≡ option_to_list o ++ rs
listed-first None rs = refl
listed-first (Some r) rs = refl

listed-alone : (o : Option Run) → cons_option o [] ≡ option_to_list o
listed-alone None = refl
listed-alone (Some r) = refl

-- The runs on one side of an address, where those before place i are the ones that end before it.

module _ (a i : ℕ) (rs : List Run) (are : AreRuns rs)
    (point : IsPartitionPoint (λ (r : Run). nat_lt (r.base + r.len) a ≡ true) (λ (r : Run). nat_lt (r.base + r.len) a ≡ false) rs i) where
  first-end : All (EndsBy a) (take i rs)
  first-end m d lt =
      let few : length (take i rs) ≡ min i (length rs) = length-take i rs in
      let below : m < i = omega (arith, lt, few) in
      let ends = ltb-true _ a (point.0 m d (omega arith) below) in
      subst (EndsBy a) (sym (get_or-take i rs m d below)) (omega (arith, ends))

  first-lower : filter_map (lower_part a) (take i rs) ≡ take i rs
  first-lower = lower-whole a (take i rs) (All-take IsValidRun i rs (each-run rs are)) first-end

  first-upper : filter_map (upper_part a) (take i rs) ≡ []
  first-upper = upper-none a a (take i rs) (omega arith) first-end

  split : (h : Run → Option Run) → filter_map h rs ≡ filter_map h (take i rs) ++ filter_map h (drop i rs)
  split h = ap (filter_map h) (sym (take-append-drop i rs)) ∙ filter_map-append h (take i rs) (drop i rs)

  -- all of them
  pub lower-all : length rs ≤ i → filter_map (lower_part a) rs ≡ take i rs
  lower-all all = ap (filter_map (lower_part a)) (sym (take_all i rs all)) ∙ first-lower

  pub upper-all : length rs ≤ i → filter_map (upper_part a) rs ≡ []
  upper-all all = ap (filter_map (upper_part a)) (sym (take_all i rs all)) ∙ first-upper

  -- or there is one at place i
  module _ (z : Run) (within : i < length rs) where
    abbrev here : Run
    here = get_or rs i z

    abbrev rest : List Run
    rest = drop (i + 1) rs

    from-here : drop i rs ≡ here ∷ rest
    from-here = drop_more rs i z within

    rest-runs : AreRunsBehind (here.base + here.len) (Some here.entry) rest
    rest-runs = more-runs 0 None here rest (subst AreRuns from-here (runs-dropped i rs are))

    rest-begin : All (BeginsFrom a) rest
    rest-begin =
        let late = ltb-false _ a (point.1 i z (omega arith) within) in
        let later : (q : Run) → BeginsFrom (here.base + here.len) q → BeginsFrom a q = λ q from. omega (arith, from, late) in
        All-weaker (BeginsFrom (here.base + here.len)) (BeginsFrom a) later rest (begin-behind (here.base + here.len) (Some here.entry) rest rest-runs)

    pub lower-at : filter_map (lower_part a) rs ≡ take i rs ++ option_to_list (lower_part a here)
    lower-at =
        split (lower_part a)
        ∙ (ap (λ (xs : List Run). xs ++ filter_map (lower_part a) (drop i rs)) first-lower
        ∙ ap (λ (xs : List Run). take i rs ++ xs)
        (ap (filter_map (lower_part a)) from-here
        ∙ (ap (cons_option (lower_part a here)) (lower-none a a rest (omega arith) rest-begin) ∙ listed-alone (lower_part a here))))

    pub upper-at : filter_map (upper_part a) rs ≡ option_to_list (upper_part a here) ++ rest
    upper-at =
        split (upper_part a)
        ∙ (ap (λ (xs : List Run). xs ++ filter_map (upper_part a) (drop i rs)) first-upper
        ∙ (ap (filter_map (upper_part a)) from-here
        ∙ (ap (cons_option (upper_part a here)) (upper-whole a rest (each-run rest (some-runs _ _ rest rest-runs)) rest-begin)
        ∙ listed-first (upper_part a here) rest)))
