-- What accesses tell one after another: the last writes so far, and what each read finds.
use Rattle.std.proofs.Common.{◌≡◌, ℕ, zero, suc, ◌+◌, ◌≤◌, ◌<◌, Bool, true, false, not, cond, List, [], ◌∷◌, ◌++◌, length, map, take, drop, get_or, Option}
use Rattle.std.proofs.Common.{Some, refl, sym, ◌∙◌, ap, subst, inl, inr, arith, append-nil, append_assoc, ◌⊎◌}
use Rattle.std.specs.List.{All, filter, filter_map, range_with_len, cons_option}
use Rattle.std.specs.Prelude.{Result, Ok, Err, is_ok, OnOk, ◌&&◌, nat_lt, max, codes, decimal}
use Rattle.std.proofs.lemmas.Bool.{cases_Bool, cases_eq, cond-true, cond-false, and_left, lt-ltb, le-ltb}
use Rattle.std.proofs.lemmas.Grind.{flat_map-append}
use Rattle.std.proofs.lemmas.List.{map-append, take_more, take-append-drop, length-take-le, get_or-take, get_or-drop, length-drop, get_or_default}
use Rattle.std.proofs.lemmas.List.Elements.{All-nil, All-head, All-tail, All-weaker, All-map, All-filter, filter-append}
use Rattle.sem_key.specs.declared.limits.TheConstants.{ADDRESSES}
use Rattle.sem_text.specs.Lines.{line, text}
use Rattle.sem_access.specs.declared.access.Access.{Access}
use Rattle.sem_access.specs.declared.run.Run.{Run}
use Rattle.sem_access.specs.declared.look.Look.{Look}
use Rattle.sem_access.specs.LastWrites.{is_write_at, is_write_before, greater_with, greatest, greatest_entry, last_write_in, looked}
use Rattle.sem_access.specs.Runs.{AreRuns, all_runs, entry_at}
use Rattle.sem_access.specs.ContentsText.{read_line, run_line, reads, found_by, access_lines}
use Rattle.sem_mem.specs.Reading.{AreInOrder, AreBefore}
use Rattle.sem_mem.specs.Chunks.{together}
use Rattle.sem_mem.proofs.KeptLongest.{kept-runs}
use Rattle.sem_mem.proofs.Chunking.{together-more}
use Rattle.std.specs.Global.{Vec}

-- Tests that agree, or that nothing passes.

filter-same : (p q : Access → Bool) (xs : List Access) → All (λ x. p x ≡ q x) xs → filter p xs ≡ filter q xs
filter-same p q [] same = refl
filter-same p q (x ∷ xs) same =
    ap (λ b. cond b (x ∷ filter p xs) (filter p xs)) (All-head (λ (y : Access). p y ≡ q y) x xs same)
    ∙ ap (λ ys. cond (q x) (x ∷ ys) ys) (filter-same p q xs (All-tail (λ (y : Access). p y ≡ q y) x xs same))

filter-none : (p : Access → Bool) (xs : List Access) → All (λ x. p x ≡ false) xs → filter p xs ≡ []
filter-none p [] none = refl
filter-none p (x ∷ xs) none =
    cond-false (p x) (x ∷ filter p xs) (filter p xs) (All-head (λ (y : Access). p y ≡ false) x xs none)
    ∙ filter-none p xs (All-tail (λ (y : Access). p y ≡ false) x xs none)

-- a test that holds leaves what stands beside it
kept-test : (b c : Bool) → b ≡ true → (b && c) ≡ c
kept-test b c holds = ap (λ x. x && c) holds

-- The greatest entry.

greatest-push : (ns : List ℕ) (n : ℕ) → All (λ m. m < n) ns → greatest (ns ++ n ∷ []) ≡ Some n
greatest-push [] n less = refl
greatest-push (m ∷ ns) n less =
    let below = All-head (λ (k : ℕ). k < n) m ns less in
    let most : max m n ≡ n = omega (arith, below) in
    ap (greater_with m) (greatest-push ns n (All-tail (λ (k : ℕ). k < n) m ns less)) ∙ ap Some most

older-entries : (n : ℕ) (test : Access → Bool) (xs : List Access) → AreBefore n xs → All (λ m. m < n) (map (λ (x : Access). x.entry) (filter test xs))
older-entries n test xs before = All-map (λ m. m < n) (λ (x : Access). x.entry) (filter test xs) (All-filter test (λ (x : Access). x.entry < n) xs before)

-- one access more, by a later entry
greatest-more : (test : Access → Bool) (xs : List Access) (x : Access) → AreBefore x.entry xs →
    greatest_entry test (xs ++ x ∷ []) ≡ cond (test x) (Some x.entry) (greatest_entry test xs)
greatest-more test xs x before =
    ap (λ ys. greatest (map (λ (y : Access). y.entry) ys)) (filter-append test xs (x ∷ []))
    ∙ elim (cases_Bool (test x)) [
      | inl passes ↦
          ap (λ ys. greatest (map (λ (y : Access). y.entry) (filter test xs ++ ys))) (cond-true (test x) (x ∷ []) [] passes)
          ∙ (ap greatest (map-append (λ (y : Access). y.entry) (filter test xs) (x ∷ []))
          ∙ (greatest-push (map (λ (y : Access). y.entry) (filter test xs)) x.entry (older-entries x.entry test xs before)
          ∙ sym (cond-true (test x) (Some x.entry) (greatest_entry test xs) passes)))
      | inr fails ↦
          ap (λ ys. greatest (map (λ (y : Access). y.entry) (filter test xs ++ ys))) (cond-false (test x) (x ∷ []) [] fails)
          ∙ (ap (λ ys. greatest (map (λ (y : Access). y.entry) ys)) (append-nil (filter test xs))
          ∙ sym (cond-false (test x) (Some x.entry) (greatest_entry test xs) fails))
    ]

-- The last writes before an entry.

-- accesses before the entry, and accesses from it on
last-before : (xs ys : List Access) (n a : ℕ) → AreBefore n xs → All (λ y. n ≤ y.entry) ys → last_write_in (xs ++ ys) n a ≡ greatest_entry (is_write_at a) xs
last-before xs ys n a before from =
    let same : filter (is_write_before n a) xs ≡ filter (is_write_at a) xs =
    filter-same (is_write_before n a) (is_write_at a) xs (All-weaker (λ (x : Access). x.entry < n) (λ (x : Access). is_write_before n a x ≡ is_write_at a x)
    (λ x below. kept-test (nat_lt x.entry n) (is_write_at a x) (lt-ltb x.entry n below)) xs before) in
    let none : filter (is_write_before n a) ys ≡ [] =
    filter-none (is_write_before n a) ys (All-weaker (λ (y : Access). n ≤ y.entry) (λ (y : Access). is_write_before n a y ≡ false)
    (λ y late. and_left (nat_lt y.entry n) (is_write_at a y) (le-ltb y.entry n late)) ys from) in
    ap (λ zs. greatest (map (λ (y : Access). y.entry) zs)) (filter-append (is_write_before n a) xs ys
    ∙ (ap (λ zs. zs ++ filter (is_write_before n a) ys) same ∙ (ap (λ zs. filter (is_write_at a) xs ++ zs) none ∙ append-nil (filter (is_write_at a) xs))))

-- accesses that all come before it
pub last-of-all : (xs : List Access) (n a : ℕ) → AreBefore n xs → last_write_in xs n a ≡ greatest_entry (is_write_at a) xs
last-of-all xs n a before = ap (λ zs. last_write_in zs n a) (sym (append-nil xs)) ∙ last-before xs [] n a before (All-nil (λ (y : Access). n ≤ y.entry))

-- what a range tells depends on the last writes of its addresses alone
same-found : (f g : ℕ → Option ℕ) → ((a : ℕ) → f a ≡ g a) → (n base : ℕ) → filter_map f (range_with_len base n) ≡ filter_map g (range_with_len base n)
same-found f g same zero base = refl
same-found f g same (suc n) base =
    ap (λ o. cons_option o (filter_map f (range_with_len (base + 1) n))) (same base)
    ∙ ap (cons_option (g base)) (same-found f g same n (base + 1))

pub looked-same : (f g : ℕ → Option ℕ) → ((a : ℕ) → f a ≡ g a) → (base len : ℕ) → looked f base len ≡ looked g base len
unfolding looked
looked-same f g same base len = ap (λ xs. found (length xs) (greatest xs)) (same-found f g same len base)
  where
    found : ℕ → Option ℕ → Look
    found written newest = record { written = written; newest = newest }

-- the lines of accesses so far
abbrev pub told_reads : List Access → List Access → List ℕ
told_reads all xs = text (map (λ (x : Access). read_line x (found_by all x)) (reads xs))

-- The access at place i.
module _ (xs : List Access) (order : AreInOrder xs) (i : ℕ) (x : Access) (is : x ≡ get_or xs i x) (within : i < length xs) where
  here : (e : Access) → get_or xs i e ≡ x
  here e = get_or_default xs i e x within ∙ sym is

  one-more : take (i + 1) xs ≡ take i xs ++ x ∷ []
  one-more = take_more xs i x within ∙ ap (λ (y : Access). take i xs ++ y ∷ []) (sym is)

  later-than : (k : ℕ) (e : Access) → i < k → k < length xs → x.entry < (get_or xs k e).entry
  later-than k e lt below = subst (λ (y : Access). y.entry < (get_or xs k e).entry) (here e) (order.rise i k e lt below)

  -- those before it
  pub before-it : AreBefore x.entry (take i xs)
  before-it k e below =
      let size : length (take i xs) ≡ i = length-take-le i xs (omega (arith, within)) in
      let lt : k < i = omega (arith, below, size) in
      let rise : (get_or xs k e).entry < (get_or xs i e).entry = order.rise k i e lt within in
      subst (λ (y : Access). y.entry < x.entry) (sym (get_or-take i xs k e lt)) (subst (λ (y : Access). (get_or xs k e).entry < y.entry) (here e) rise)

  -- those from it on
  from-it : All (λ (y : Access). x.entry ≤ y.entry) (drop i xs)
  from-it k e below =
      let size : length (drop i xs) + i ≡ length xs = let drops = length-drop i xs in omega (arith, drops, within) in
      subst (λ (y : Access). x.entry ≤ y.entry) (sym (get_or-drop i xs k e)) (at (cases_eq k 0) (omega (arith, below, size)))
    where
      at : (k ≡ 0) ⊎ (k ≡ 0 → ⊥) → i + k < length xs → x.entry ≤ (get_or xs (i + k) e).entry
      at (inl first) lt =
          let same : i + k ≡ i = omega (arith, first) in
          subst (λ n. x.entry ≤ (get_or xs n e).entry) (sym same) (subst (λ (y : Access). x.entry ≤ y.entry) (sym (here e)) (omega arith))
      at (inr behind) lt = let late = later-than (i + k) e (omega (arith, behind)) lt in omega (arith, late)

  last-at : (a : ℕ) → last_write_in xs x.entry a ≡ greatest_entry (is_write_at a) (take i xs)
  last-at a = ap (λ zs. last_write_in zs x.entry a) (sym (take-append-drop i xs)) ∙ last-before (take i xs) (drop i xs) x.entry a before-it from-it

  -- memory that tells the last writes of those before it, and then of it too
  pub kept-more : (old new : ℕ → Option ℕ) → ((a : ℕ) → old a ≡ greatest_entry (is_write_at a) (take i xs)) →
      ((a : ℕ) → new a ≡ cond (is_write_at a x) (Some x.entry) (old a)) → (a : ℕ) → new a ≡ greatest_entry (is_write_at a) (take (i + 1) xs)
  kept-more old new kept changed a =
      changed a ∙ (ap (cond (is_write_at a x) (Some x.entry)) (kept a)
      ∙ sym (ap (greatest_entry (is_write_at a)) one-more ∙ greatest-more (is_write_at a) (take i xs) x before-it))

  -- what it finds
  pub found-here : (old : ℕ → Option ℕ) → ((a : ℕ) → old a ≡ greatest_entry (is_write_at a) (take i xs)) → looked old x.base x.len ≡ found_by xs x
  found-here old kept = looked-same old (last_write_in xs x.entry) (λ a. kept a ∙ sym (last-at a)) x.base x.len

  -- its line
  abbrev its_line : List ℕ
  its_line = cond x.write [] (line (read_line x (found_by xs x)))

  line-here : (w : Bool) → text (map (λ (y : Access). read_line y (found_by xs y)) (cond (not w) (x ∷ []) [])) ≡ cond w [] (line (read_line x (found_by xs x)))
  line-here true = refl
  line-here false = append-nil (line (read_line x (found_by xs x)))

  pub told-more : told_reads xs (take (i + 1) xs) ≡ told_reads xs (take i xs) ++ its_line
  told-more =
      let f : Access → List (List ℕ) = λ (y : Access). read_line y (found_by xs y) in
      ap (told_reads xs) one-more
      ∙ (ap (λ ys. text (map f ys)) (filter-append (λ (y : Access). not y.write) (take i xs) (x ∷ []))
      ∙ (ap text (map-append f (reads (take i xs)) (cond (not x.write) (x ∷ []) []))
      ∙ (flat_map-append line (map f (reads (take i xs))) (map f (cond (not x.write) (x ∷ []) []))
      ∙ ap (λ ys. told_reads xs (take i xs) ++ ys) (line-here x.write))))

  -- it ends within memory
  pub fits-here : x.base + x.len ≤ ADDRESSES
  fits-here = subst (λ (y : Access). y.base + y.len ≤ ADDRESSES) (here x) (order.fit i x within)

-- The whole text: the first line, the reads, the runs, the last line.
pub whole-text : (xs : List Access) (n : ℕ) (rs : List Run) (start headed read ran ended : List ℕ) → AreBefore n xs → AreRuns rs →
    ((a : ℕ) → entry_at rs a ≡ greatest_entry (is_write_at a) xs)
    → headed ≡ start ++ line (codes "semper contents" ∷ decimal 1 ∷ []) → read ≡ headed ++ told_reads xs xs → ran ≡ read ++ text (map run_line rs) →
    ended ≡ ran ++ line (codes "end" ∷ [])
    → ended ≡ start ++ text (access_lines xs n)
whole-text xs n rs start headed read ran ended before are kept one two three four =
    let A : List (List (List ℕ)) = map (λ (x : Access). read_line x (found_by xs x)) (reads xs) in
    let B : List (List (List ℕ)) = map run_line (all_runs (last_write_in xs n)) in
    let head : List (List ℕ) = codes "semper" ∷ codes "contents" ∷ decimal 1 ∷ [] in
    let last : List (List ℕ) = codes "end" ∷ [] in
    let runs : rs ≡ all_runs (last_write_in xs n) = kept-runs (last_write_in xs n) rs are (λ a. kept a ∙ sym (last-of-all xs n a before)) in
    let parts : text (((head ∷ A) ++ B) ++ last ∷ []) ≡ ((line head ++ text A) ++ text B) ++ (line last ++ []) =
    flat_map-append line ((head ∷ A) ++ B) (last ∷ []) ∙ ap (λ bytes. bytes ++ (line last ++ [])) (flat_map-append line (head ∷ A) B) in
    four ∙ (ap (λ bytes. bytes ++ line last) (three
    ∙ (ap (λ qs. read ++ text (map run_line qs)) runs ∙ ap (λ bytes. bytes ++ text B) (two ∙ ap (λ bytes. bytes ++ text A) one)))
    ∙ (grouped start (line head) (text A) (text B) (line last) ∙ ap (λ bytes. start ++ bytes) (sym parts)))
  where
    grouped : (s h a b l : List ℕ) → (((s ++ h) ++ a) ++ b) ++ l ≡ s ++ (((h ++ a) ++ b) ++ (l ++ []))
    grouped s h a b l = simp (append_assoc, append-nil)

-- bytes that were appended, unless memory ran out
pub appended : {E : Type 0} (r : Result Unit E) (old bytes told new : List ℕ) → bytes ≡ told → new ≡ cond (is_ok r) (old ++ bytes) old →
    OnOk r (new ≡ old ++ told)
appended (Ok x) old bytes told new same is = is ∙ ap (λ bs. old ++ bs) same
appended (Err e) old bytes told new same is = tt

-- The runs of chunks.

-- the lines of one chunk more
pub chunk-told : (cs : List (Vec Run)) (i : ℕ) (c : Vec Run) (old : List ℕ) → i < length cs →
    (old ++ text (map run_line (together (take i cs)))) ++ text (map run_line (get_or cs i c).items) ≡ old ++ text (map run_line (together (take (i + 1) cs)))
chunk-told cs i c old within =
    let before = together (take i cs) in
    let here = (get_or cs i c).items in
    append_assoc old (text (map run_line before)) (text (map run_line here))
    ∙ ap (λ bytes. old ++ bytes)
    (sym (flat_map-append line (map run_line before) (map run_line here))
    ∙ ap text (sym (map-append run_line before here) ∙ ap (map run_line) (sym (together-more cs i c within))))
