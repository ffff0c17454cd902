-- What is held, in rising key order: a stable sort of what is held, from the last to the first.
use Rattle.std.proofs.Common.{◌≡◌, ◌≤◌, ◌<◌, Bool, true, false, cond, List, [], ◌∷◌, ◌++◌, append_assoc, append-nil, ℕ, zero, suc, ◌-◌}
use Rattle.std.proofs.Common.{length, drop, ◌⊎◌, get_or, map, not, reverse, refl, sym, ◌∙◌, ap, subst, inl, inr, arith}
use Rattle.std.specs.Prelude.{◌==◌, ◌&&◌}
use Rattle.std.specs.List.{AllPairs, Contains, filter, flat_map, slice_get}
use Rattle.std.specs.List.Sorted.{IsStableByKey, ties}
use Rattle.std.specs.Option.{option_to_list}
use Rattle.std.specs.Ordering.{is_lt, nat_cmp}
use Rattle.std.proofs.Math.Seq.{drop-cons}
use Rattle.std.proofs.lemmas.Bool.{cases_Bool, ltb-true, cond-true, cond-false}
use Rattle.std.proofs.lemmas.Bool.Decides.{nat_tests}
use Rattle.std.proofs.lemmas.List.{drop_all, map-append, length-map, get_or-map, reverse-append}
use Rattle.std.proofs.lemmas.List.Elements.{filter-append, Contains-get_or}
use Rattle.std.proofs.lemmas.List.Kept.{AllPairs-cons, AllPairs-filter}
use Rattle.sem_key.specs.KeyName.{packed, key_lt}
use Rattle.sem_key.specs.Lists.{in_turn}
use Rattle.sem_key.specs.Capability.{Capability}
use Rattle.sem_key.specs.CapList.{with_cap}
use Rattle.sem_key.proofs.Members.{Contains-head, Contains-nil, Contains-cons_cases, Contains-from_filter}
use Rattle.sem_msg.specs.declared.audit.Held.{Held}
use Rattle.sem_msg.specs.Audits.{held_pairs}
use Rattle.sem_machine.specs.Sides.{Side}
use Rattle.sem_kernel.specs.KernelValue.{KernelValue}
use Rattle.sem_mark.proofs.SortedKeys.{AllPairs-append}
use Rattle.sem_machine.specs.HeldKeys.{keys_held}
use Rattle.sem_audit.specs.Holding.{holding, IsInOrder, KeepsTies}

-- no key comes before one that stands earlier
abbrev Before : Held → Held → Type 0
Before a b = packed a.key ≤ packed b.key

-- Lists in order that have the same of each key are the same.

-- whether it is of the same key
abbrev tie : Held → Held → Bool
tie h x = packed x.key == packed h.key

tie-self : (h : Held) → tie h h ≡ true
tie-self h = grind (arith, nat_tests)

head-least : (x : Held) (xs : List Held) → AllPairs Before (x ∷ xs) → (y : Held) → Contains (x ∷ xs) y → packed x.key ≤ packed y.key
head-least x xs order y there = elim (Contains-cons_cases x xs y there) [
  | inl same ↦ omega (arith, ap (λ (h : Held). packed h.key) same)
  | inr later ↦ after later
]
  where
    after : Contains xs y → packed x.key ≤ packed y.key
    after (n, within, here) = let step : Before x (get_or xs n y) = order 0 (suc n) y (omega arith) (omega arith) in rw here at step

tail-order : (x : Held) (xs : List Held) → AllPairs Before (x ∷ xs) → AllPairs Before xs
tail-order x xs order i j d lt within = order (suc i) (suc j) d (omega arith) (omega arith)

tie-there : (x : Held) (xs ys : List Held) → filter (tie x) (x ∷ xs) ≡ filter (tie x) ys → Contains ys x
tie-there x xs ys same = (Contains-from_filter (tie x) ys x (subst (λ zs. Contains zs x) (sym first ∙ same) (Contains-head x (filter (tie x) xs)))).0
  where
    first : filter (tie x) (x ∷ xs) ≡ x ∷ filter (tie x) xs
    first = cond-true (tie x x) (x ∷ filter (tie x) xs) (filter (tie x) xs) (tie-self x)

heads-same : {X : Type 0} (x y : X) (xs ys : List X) → x ∷ xs ≡ y ∷ ys → x ≡ y
heads-same {X} x y xs ys same = ap (λ (zs : List X). get_or zs 0 x) same

tails-same : {X : Type 0} (x y : X) (xs ys : List X) → x ∷ xs ≡ y ∷ ys → xs ≡ ys
tails-same {X} x y xs ys same = ap (λ (zs : List X). drop 1 zs) same

sorted-same : (xs ys : List Held) → AllPairs Before xs → AllPairs Before ys → ((h : Held) → filter (tie h) xs ≡ filter (tie h) ys) → xs ≡ ys
sorted-same [] [] px py same = refl
sorted-same [] (y ∷ ys) px py same = absurd (Contains-nil y (tie-there y ys [] (sym (same y))))
sorted-same (x ∷ xs) [] px py same = absurd (Contains-nil x (tie-there x xs [] (same x)))
sorted-same (x ∷ xs) (y ∷ ys) px py same =
    let low = head-least y ys py x (tie-there x xs (y ∷ ys) (same x)) in
    let high = head-least x xs px y (tie-there y ys (x ∷ xs) (sym (same y))) in
    let tied : tie x y ≡ true = grind (arith, nat_tests) in
    let first = sym (cond-true (tie x x) (x ∷ filter (tie x) xs) (filter (tie x) xs) (tie-self x))
    ∙ (same x ∙ cond-true (tie x y) (y ∷ filter (tie x) ys) (filter (tie x) ys) tied) in
    let one : x ≡ y = heads-same x y (filter (tie x) xs) (filter (tie x) ys) first in
    let rest : xs ≡ ys = sorted-same xs ys (tail-order x xs px) (tail-order y ys py) (λ h. less h one (cases_Bool (tie h x))) in
    rw (one, rest) refl
  where
    less : (h : Held) → x ≡ y → ((tie h x ≡ true) ⊎ (tie h x ≡ false)) → filter (tie h) xs ≡ filter (tie h) ys
    less h one (inl yes') = tails-same x y (filter (tie h) xs) (filter (tie h) ys)
        (sym (cond-true (tie h x) (x ∷ filter (tie h) xs) (filter (tie h) xs) yes')
        ∙ (same h ∙ cond-true (tie h y) (y ∷ filter (tie h) ys) (filter (tie h) ys) (ap (tie h) (sym one) ∙ yes')))
    less h one (inr no') = sym (cond-false (tie h x) (x ∷ filter (tie h) xs) (filter (tie h) xs) no')
        ∙ (same h ∙ cond-false (tie h y) (y ∷ filter (tie h) ys) (filter (tie h) ys) (ap (tie h) (sym one) ∙ no'))

-- What the definition makes: each is put before those that do not come before it.

abbrev lower : List Held → Held → List Held
lower hs h = filter (λ x. key_lt x.key h.key) hs

abbrev upper : List Held → Held → List Held
upper hs h = filter (λ x. not (key_lt x.key h.key)) hs

abbrev with_held : List Held → Held → List Held
with_held hs h = lower hs h ++ h ∷ upper hs h

arranged : List Held → List Held
arranged [] = []
arranged (h ∷ hs) = with_held (arranged hs) h

with_held-order : (hs : List Held) (h : Held) → AllPairs Before hs → AllPairs Before (with_held hs h)
with_held-order hs h order = AllPairs-append Before (lower hs h) (h ∷ upper hs h)
    (AllPairs-filter Before (λ x. key_lt x.key h.key) hs order)
    (AllPairs-cons Before h (upper hs h)
    (λ k d within. high (get_or (upper hs h) k d) (Contains-get_or (upper hs h) k d within))
    (AllPairs-filter Before (λ x. not (key_lt x.key h.key)) hs order))
    (λ a b first second. elim (Contains-cons_cases h (upper hs h) b second) [
      | inl same ↦ let l = low a first in omega (arith, ap (λ (x : Held). packed x.key) same)
      | inr rest ↦ let l = low a first in let r = high b rest in omega arith
    ])
  where
    low : (x : Held) → Contains (lower hs h) x → packed x.key < packed h.key
    low x there = ltb-true (packed x.key) (packed h.key) (Contains-from_filter (λ y. key_lt y.key h.key) hs x there).1

    high : (x : Held) → Contains (upper hs h) x → packed h.key ≤ packed x.key
    high x there = let above = (Contains-from_filter (λ y. not (key_lt y.key h.key)) hs x there).1 in grind (arith, nat_tests)

arranged-order : (hs : List Held) → AllPairs Before (arranged hs)
unfolding arranged
arranged-order [] = λ i j d lt within. absurd (omega arith)
arranged-order (h ∷ hs) = with_held-order (arranged hs) h (arranged-order hs)

-- of a key that comes before h, all stand below h; of another, none
parted : (hs : List Held) (h t : Held) → (filter (tie t) (lower hs h) ≡ cond (key_lt t.key h.key) (filter (tie t) hs) [])
    × (filter (tie t) (upper hs h) ≡ cond (key_lt t.key h.key) [] (filter (tie t) hs))
parted [] h t = from (key_lt t.key h.key)
  where
    from : (b : Bool) → (filter (tie t) [] ≡ cond b (filter (tie t) []) []) × (filter (tie t) [] ≡ cond b [] (filter (tie t) []))
    from true = (refl, refl)
    from false = (refl, refl)
parted (x ∷ xs) h t = elim (cases_Bool (tie t x)) [
  | inl tied ↦
      let alike : key_lt x.key h.key ≡ key_lt t.key h.key = grind (arith, nat_tests) in
      rw (alike, tied) (here (key_lt t.key h.key) tied (parted xs h t))
  | inr apart ↦ rw apart (there (key_lt x.key h.key) apart (parted xs h t))
]
  where
    here : (b : Bool) → tie t x ≡ true →
        ((filter (tie t) (lower xs h) ≡ cond b (filter (tie t) xs) []) × (filter (tie t) (upper xs h) ≡ cond b [] (filter (tie t) xs))) →
        (filter (tie t) (cond b (x ∷ lower xs h) (lower xs h)) ≡ cond b (x ∷ filter (tie t) xs) [])
        × (filter (tie t) (cond (not b) (x ∷ upper xs h) (upper xs h)) ≡ cond b [] (x ∷ filter (tie t) xs))
    here true tied rest = (rw tied (ap (λ (zs : List Held). x ∷ zs) rest.0), rest.1)
    here false tied rest = (rest.0, rw tied (ap (λ (zs : List Held). x ∷ zs) rest.1))

    there : (b : Bool) → tie t x ≡ false →
        ((filter (tie t) (lower xs h) ≡ cond (key_lt t.key h.key) (filter (tie t) xs) [])
        × (filter (tie t) (upper xs h) ≡ cond (key_lt t.key h.key) [] (filter (tie t) xs))) →
        (filter (tie t) (cond b (x ∷ lower xs h) (lower xs h)) ≡ cond (key_lt t.key h.key) (filter (tie t) xs) [])
        × (filter (tie t) (cond (not b) (x ∷ upper xs h) (upper xs h)) ≡ cond (key_lt t.key h.key) [] (filter (tie t) xs))
    there true apart rest = (rw apart rest.0, rest.1)
    there false apart rest = (rest.0, rw apart rest.1)

with_held-ties : (hs : List Held) (h t : Held) → filter (tie t) (with_held hs h) ≡ cond (tie t h) (h ∷ filter (tie t) hs) (filter (tie t) hs)
with_held-ties hs h t =
    rw (filter-append (tie t) (lower hs h) (h ∷ upper hs h), (parted hs h t).0, (parted hs h t).1)
    (elim (cases_Bool (tie t h)) [
      | inl tied ↦ let level : key_lt t.key h.key ≡ false = grind (arith, nat_tests) in rw (level, tied) refl
      | inr apart ↦ rw apart (from (key_lt t.key h.key))
    ])
  where
    from : (b : Bool) → cond b (filter (tie t) hs) [] ++ cond b [] (filter (tie t) hs) ≡ filter (tie t) hs
    from true = append-nil (filter (tie t) hs)
    from false = refl

arranged-ties : (hs : List Held) (t : Held) → filter (tie t) (arranged hs) ≡ filter (tie t) hs
unfolding arranged
arranged-ties [] t = refl
arranged-ties (h ∷ hs) t = with_held-ties (arranged hs) h t ∙ ap (λ (zs : List Held). cond (tie t h) (h ∷ zs) zs) (arranged-ties hs t)

filter-map : {X Y : Type 0} (f : X → Y) (p : Y → Bool) (xs : List X) → filter p (map f xs) ≡ map f (filter (λ x. p (f x)) xs)
filter-map f p [] = refl
filter-map f p (x ∷ xs) = head (p (f x)) (filter-map f p xs)
  where
    head : (t : Bool) → filter p (map f xs) ≡ map f (filter (λ x. p (f x)) xs) →
        cond t (f x ∷ filter p (map f xs)) (filter p (map f xs)) ≡ map f (cond t (x ∷ filter (λ x. p (f x)) xs) (filter (λ x. p (f x)) xs))
    head true same = ap (λ ys. f x ∷ ys) same
    head false same = same

-- a capability at its place is what is held at its place
holding-with_cap : (cs : List Capability) (c : Capability) → with_held (map holding cs) (holding c) ≡ map holding (with_cap cs c)
holding-with_cap cs c =
    rw (filter-map holding (λ h. key_lt h.key c.key) cs, filter-map holding (λ h. not (key_lt h.key c.key)) cs)
    (sym (map-append holding (filter (λ x. key_lt x.key c.key) cs) (c ∷ filter (λ x. not (key_lt x.key c.key)) cs)))

-- so it is with capabilities that are put at their places in turn
gathered-is : (cs found : List Capability) (hs : List Held) → map holding found ≡ arranged hs →
    map holding (in_turn (λ c list. with_cap list c) cs found) ≡ arranged (reverse (map holding cs) ++ hs)
unfolding in_turn arranged
gathered-is [] found hs same = same
gathered-is (c ∷ cs) found hs same =
    gathered-is cs (with_cap found c) (holding c ∷ hs) (sym (holding-with_cap found c) ∙ ap (λ (zs : List Held). with_held zs (holding c)) same)
    ∙ ap arranged (sym (ap (λ (zs : List Held). zs ++ hs) (reverse-append (holding c ∷ []) (map holding cs))
    ∙ append_assoc (reverse (map holding cs)) (holding c ∷ []) hs))

holding-pairs : (cs : List Capability) → held_pairs (map holding cs) ≡ map (λ c. (c.key, c.selector)) cs
holding-pairs [] = refl
holding-pairs (c ∷ cs) = ap (λ ps. (c.key, c.selector) ∷ ps) (holding-pairs cs)

-- what all sides hold, from the last to the first and then sorted, tells what is held
pub held-is : (ss : List Side) (found sorted : List Held) → found ≡ reverse (map holding (flat_map (λ (s : Side). s.caps) ss)) → IsInOrder sorted →
    KeepsTies found sorted → held_pairs sorted ≡ keys_held ss
unfolding arranged
held-is ss found sorted is order ties =
    let cs = flat_map (λ (s : Side). s.caps) ss in
    let same : sorted ≡ arranged found = sorted-same sorted (arranged found) (λ i j d lt within. order i j d (omega arith) within) (arranged-order found)
    (λ h. ties h ∙ sym (arranged-ties found h)) in
    rw (same, is, ← append-nil (reverse (map holding cs)), ← gathered-is cs [] [] refl) (holding-pairs (in_turn (λ c list. with_cap list c) cs []))

-- a stable sort by the words of the keys keeps those of one key in their order
num-ties : (a b : ℕ) → (b == a) ≡ (not (is_lt (nat_cmp a b)) && not (is_lt (nat_cmp b a)))
num-ties a b = grind (arith, nat_tests)

filter-alike : (p q : Held → Bool) → ((h : Held) → p h ≡ q h) → (hs : List Held) → filter p hs ≡ filter q hs
filter-alike p q same [] = refl
filter-alike p q same (h ∷ hs) = rw (same h, filter-alike p q same hs) refl

pub ties-kept : (hs sorted : List Held) → IsStableByKey (λ (h : Held). packed h.key) nat_cmp hs sorted → KeepsTies hs sorted
ties-kept hs sorted stable h =
    let same : (x : Held) → tie h x ≡ ties (λ a b. is_lt (nat_cmp (packed a.key) (packed b.key))) h x = λ x. num-ties (packed h.key) (packed x.key) in
    filter-alike (tie h) (ties (λ a b. is_lt (nat_cmp (packed a.key) (packed b.key))) h) same sorted
    ∙ (stable h ∙ sym (filter-alike (tie h) (ties (λ a b. is_lt (nat_cmp (packed a.key) (packed b.key))) h) same hs))

-- Reading from the last place to the first.

drop-read : {X : Type 0} (xs : List X) (i : ℕ) → drop i xs ≡ option_to_list (slice_get xs i) ++ drop (suc i) xs
drop-read [] zero = refl
drop-read [] (suc i) = refl
drop-read (x ∷ xs) zero = refl
drop-read (x ∷ xs) (suc i) = drop-read xs i

one-turned : (cs : List Capability) (i : ℕ) → reverse (map holding (option_to_list (slice_get cs i))) ≡ map holding (option_to_list (slice_get cs i))
one-turned [] i = refl
one-turned (c ∷ cs) zero = refl
one-turned (c ∷ cs) (suc i) = one-turned cs i

-- nothing yet
pub held-none : (cs : List Capability) (n : ℕ) (before : List Held) → n ≡ length cs → before ≡ before ++ reverse (map holding (drop n cs))
held-none cs n before is = rw (is, drop_all (length cs) cs (omega arith)) (sym (append-nil before))

-- what is held at one place more
pub held-more : (cs : List Capability) (i : ℕ) (before now after : List Held) → 0 < i → now ≡ before ++ reverse (map holding (drop i cs)) →
    after ≡ now ++ map holding (option_to_list (slice_get cs (i - 1))) → after ≡ before ++ reverse (map holding (drop (i - 1) cs))
held-more cs i before now after some so_far is =
    let next : suc (i - 1) ≡ i = omega arith in
    let one = option_to_list (slice_get cs (i - 1)) in
    is ∙ (ap (λ (hs : List Held). hs ++ map holding one) so_far ∙ (append_assoc before (reverse (map holding (drop i cs))) (map holding one)
    ∙ ap (λ (hs : List Held). before ++ hs) (sym (rw (drop-read cs (i - 1), next) (ap reverse (map-append holding one (drop i cs))
    ∙ (reverse-append (map holding one) (map holding (drop i cs))
    ∙ ap (λ (hs : List Held). reverse (map holding (drop i cs)) ++ hs) (one-turned cs (i - 1))))))))

-- what is held at all places
pub held-all : (cs : List Capability) (i : ℕ) (before now : List Held) → i ≤ 0 → now ≡ before ++ reverse (map holding (drop i cs)) →
    now ≡ before ++ reverse (map holding cs)
held-all cs i before now done so_far = let first : i ≡ 0 = omega arith in rw first at so_far

abbrev sides : List KernelValue → List Side
sides ks = map (λ (k : KernelValue). k.side) ks

abbrev all_of : List Side → List Held
all_of ss = reverse (map holding (flat_map (λ (s : Side). s.caps) ss))

pub kernels-none : (ks : List KernelValue) (found : List Held) → found ≡ [] → found ≡ all_of (drop (length ks) (sides ks))
kernels-none ks found none = rw (none, drop_all (length ks) (sides ks) (rw (length-map ks (λ (x : KernelValue). x.side)) (omega arith))) refl

-- what one kernel more holds
pub kernels-more : (ks : List KernelValue) (i : ℕ) (k : KernelValue) (now after : List Held) → 0 < i → i ≤ length ks → k ≡ get_or ks (i - 1) k →
    now ≡ all_of (drop i (sides ks)) → after ≡ now ++ reverse (map holding k.side.caps) → after ≡ all_of (drop (i - 1) (sides ks))
kernels-more ks i k now after some within at so_far is =
    let low : i - 1 < length (sides ks) = rw (length-map ks (λ (x : KernelValue). x.side)) (omega arith) in
    let here : get_or (sides ks) (i - 1) k.side ≡ k.side =
    get_or-map (λ (x : KernelValue). x.side) ks (i - 1) k k.side (omega arith) ∙ ap (λ (x : KernelValue). x.side) (sym at) in
    let next : suc (i - 1) ≡ i = omega arith in
    let split : drop (i - 1) (sides ks) ≡ k.side ∷ drop i (sides ks) =
    drop-cons (sides ks) (i - 1) k.side low
    ∙ (ap (λ (s : Side). s ∷ drop (suc (i - 1)) (sides ks)) here ∙ ap (λ (j : ℕ). k.side ∷ drop j (sides ks)) next) in
    is ∙ (ap (λ (hs : List Held). hs ++ reverse (map holding k.side.caps)) so_far
    ∙ sym (ap all_of split ∙ (ap reverse (map-append holding k.side.caps (flat_map (λ (s : Side). s.caps) (drop i (sides ks))))
    ∙ reverse-append (map holding k.side.caps) (map holding (flat_map (λ (s : Side). s.caps) (drop i (sides ks)))))))

pub kernels-all : (ks : List KernelValue) (i : ℕ) (now : List Held) → i ≤ 0 → now ≡ all_of (drop i (sides ks)) → now ≡ all_of (sides ks)
kernels-all ks i now done so_far = let first : i ≡ 0 = omega arith in rw first at so_far
