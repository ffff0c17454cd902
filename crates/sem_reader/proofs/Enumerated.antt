-- Lists that are made by going through numbers, or through another list.
use Rattle.std.proofs.Common.{◌≡◌, ℕ, zero, suc, ◌+◌, ◌<◌, ◌≤◌, ◌⊎◌, List, [], ◌∷◌, ◌++◌, length, map, get_or, Option, Some, None, refl, ap, sym, ◌∙◌, subst}
use Rattle.std.proofs.Common.{arith, inl, inr}
use Rattle.std.specs.List.{All, AllPairs, Contains, filter_map, flat_map, cons_option, range_with_len}
use Rattle.std.proofs.lemmas.Bool.{cases_eq}
use Rattle.std.proofs.lemmas.Option.{none-some, same_Some}
use Rattle.std.proofs.lemmas.List.Elements.{All-nil, All-cons, All-append, All-contains, Contains-append_left, Contains-append_right, Contains-append_cases}

-- an element of a list with a first one
pub in_cons : {X : Type 0} (x : X) (xs : List X) (z : X) → Contains (x ∷ xs) z → (x ≡ z) ⊎ Contains xs z
in_cons x xs z (zero, lt, is) = inl is
in_cons x xs z (suc k, lt, is) = inr (k, (omega arith), is)

pub here : {X : Type 0} (x : X) (xs : List X) → Contains (x ∷ xs) x
here x xs = (zero, (omega arith), refl)

pub there : {X : Type 0} (x : X) (xs : List X) (z : X) → Contains xs z → Contains (x ∷ xs) z
there x xs z (k, lt, is) = (suc k, (omega arith), is)

pub in_nil : {X : Type 0} (z : X) → Contains [] z → ⊥
in_nil z (k, lt, is) = absurd (omega arith)

-- what holds of each element holds of all
pub all_in : {X : Type 0} (P : X → Type 0) (xs : List X) → ((x : X) → Contains xs x → P x) → All P xs
all_in P [] f = All-nil P
all_in P (x ∷ xs) f = All-cons P x xs (f x (here x xs)) (all_in P xs (λ y within. f y (there x xs y within)))

-- the first with the rest, and the pairs of the rest
pub pairs_cons : {X : Type 0} (R : X → X → Type 0) (x : X) (xs : List X) → All (R x) xs → AllPairs R xs → AllPairs R (x ∷ xs)
pairs_cons R x xs first rest zero zero d lt within = absurd (omega arith)
pairs_cons R x xs first rest zero (suc j) d lt within = first j d (omega arith)
pairs_cons R x xs first rest (suc i) zero d lt within = absurd (omega arith)
pairs_cons R x xs first rest (suc i) (suc j) d lt within = rest i j d (omega arith) (omega arith)

pub pairs_nil : {X : Type 0} (R : X → X → Type 0) → AllPairs R []
pairs_nil R i j d lt within = absurd (omega arith)

pub pairs_head : {X : Type 0} (R : X → X → Type 0) (x : X) (xs : List X) → AllPairs R (x ∷ xs) → All (R x) xs
pairs_head R x xs pairs k d within = pairs zero (suc k) d (omega arith) (omega arith)

pub pairs_tail : {X : Type 0} (R : X → X → Type 0) (x : X) (xs : List X) → AllPairs R (x ∷ xs) → AllPairs R xs
pairs_tail R x xs pairs i j d lt within = pairs (suc i) (suc j) d (omega arith) (omega arith)

pub pairs_append : {X : Type 0} (R : X → X → Type 0) (xs ys : List X) → AllPairs R xs → AllPairs R ys → ((x y : X) → Contains xs x → Contains ys y → R x y) →
    AllPairs R (xs ++ ys)
pairs_append R [] ys left right cross = right
pairs_append R (x ∷ xs) ys left right cross =
    pairs_cons R x (xs ++ ys)
    (All-append (R x) xs ys (pairs_head R x xs left) (all_in (R x) ys (λ y within. cross x y (here x xs) within)))
    (pairs_append R xs ys (pairs_tail R x xs left) right (λ z y within within'. cross z y (there x xs z within) within'))

-- an element that an option may add
in_option : {X : Type 0} (o : Option X) (xs : List X) (z : X) → Contains (cons_option o xs) z → (o ≡ Some z) ⊎ Contains xs z
in_option None xs z within = inr within
in_option (Some x) xs z within =
    elim (in_cons x xs z within) [
      | inl is ↦ inl (ap Some is)
      | inr rest ↦ inr rest
    ]

option_here : {X : Type 0} (o : Option X) (xs : List X) (z : X) → o ≡ Some z → Contains (cons_option o xs) z
option_here None xs z is = absurd (none-some z is)
option_here (Some x) xs z is = subst (Contains (x ∷ xs)) (same_Some x z is) (here x xs)

option_there : {X : Type 0} (o : Option X) (xs : List X) (z : X) → Contains xs z → Contains (cons_option o xs) z
option_there None xs z within = within
option_there (Some x) xs z within = there x xs z within

pairs_option : {X : Type 0} (R : X → X → Type 0) (o : Option X) (xs : List X) → ((x : X) → o ≡ Some x → All (R x) xs) → AllPairs R xs →
    AllPairs R (cons_option o xs)
pairs_option R None xs first rest = rest
pairs_option R (Some x) xs first rest = pairs_cons R x xs (first x refl) rest

-- where an element that h gives comes from
pub record IsGiven {X Y : Type 0} (h : X → Option Y) (xs : List X) (y : Y) : Type 0 where
  pub from : X
  pub within : Contains xs from
  pub gives : h from ≡ Some y

pub given : {X Y : Type 0} (h : X → Option Y) (xs : List X) (y : Y) → Contains (filter_map h xs) y → IsGiven h xs y
given h [] y within = absurd (in_nil y within)
given h (x ∷ xs) y within =
    elim (in_option (h x) (filter_map h xs) y within) [
      | inl gives ↦ record { from = x; within = here x xs; gives = gives }
      | inr rest ↦ let g = given h xs y rest in record { from = g.from; within = there x xs g.from g.within; gives = g.gives }
    ]

pub gives : {X Y : Type 0} (h : X → Option Y) (xs : List X) (x : X) (y : Y) → Contains xs x → h x ≡ Some y → Contains (filter_map h xs) y
gives h [] x y within is = absurd (in_nil x within)
gives h (z ∷ zs) x y within is =
    elim (in_cons z zs x within) [
      | inl same ↦ option_here (h z) (filter_map h zs) y (ap h same ∙ is)
      | inr rest ↦ option_there (h z) (filter_map h zs) y (gives h zs x y rest is)
    ]

-- where h keeps an order
pub pairs_given : {X Y : Type 0} (h : X → Option Y) (S : X → X → Type 0) (R : Y → Y → Type 0) (xs : List X) → AllPairs S xs →
    ((x x' : X) (y y' : Y) → S x x' → h x ≡ Some y → h x' ≡ Some y' → R y y') → AllPairs R (filter_map h xs)
pairs_given h S R [] pairs keeps = pairs_nil R
pairs_given h S R (x ∷ xs) pairs keeps =
    pairs_option R (h x) (filter_map h xs)
    (λ y gives. all_in (R y) (filter_map h xs) (λ y' within. let g = given h xs y' within in
    keeps x g.from y y' (All-contains (S x) xs g.from (pairs_head S x xs pairs) g.within) gives g.gives))
    (pairs_given h S R xs (pairs_tail S x xs pairs) keeps)

-- where an element of a joined list comes from
pub record IsJoined {X Y : Type 0} (h : X → List Y) (xs : List X) (y : Y) : Type 0 where
  pub from : X
  pub within : Contains xs from
  pub has : Contains (h from) y

pub joined : {X Y : Type 0} (h : X → List Y) (xs : List X) (y : Y) → Contains (flat_map h xs) y → IsJoined h xs y
joined h [] y within = absurd (in_nil y within)
joined h (x ∷ xs) y within =
    elim (Contains-append_cases (h x) (flat_map h xs) y within) [
      | inl first ↦ record { from = x; within = here x xs; has = first }
      | inr rest ↦ let g = joined h xs y rest in record { from = g.from; within = there x xs g.from g.within; has = g.has }
    ]

pub joins : {X Y : Type 0} (h : X → List Y) (xs : List X) (x : X) (y : Y) → Contains xs x → Contains (h x) y → Contains (flat_map h xs) y
joins h [] x y within has = absurd (in_nil x within)
joins h (z ∷ zs) x y within has =
    elim (in_cons z zs x within) [
      | inl same ↦ Contains-append_left (h z) (flat_map h zs) y (subst (λ w. Contains (h w) y) (sym same) has)
      | inr rest ↦ Contains-append_right (h z) (flat_map h zs) y (joins h zs x y rest has)
    ]

pub pairs_joined : {X Y : Type 0} (h : X → List Y) (S : X → X → Type 0) (R : Y → Y → Type 0) (xs : List X) → AllPairs S xs →
    ((x : X) → Contains xs x → AllPairs R (h x)) → ((x x' : X) (y y' : Y) → S x x' → Contains (h x) y → Contains (h x') y' → R y y') →
    AllPairs R (flat_map h xs)
pairs_joined h S R [] pairs each cross = pairs_nil R
pairs_joined h S R (x ∷ xs) pairs each cross =
    pairs_append R (h x) (flat_map h xs) (each x (here x xs))
    (pairs_joined h S R xs (pairs_tail S x xs pairs) (λ z within. each z (there x xs z within)) cross)
    (λ y y' within within'. let g = joined h xs y' within' in
    cross x g.from y y' (All-contains (S x) xs g.from (pairs_head S x xs pairs) g.within) within g.has)

-- numbers one after another
pub in_range : (a n v : ℕ) → Contains (range_with_len a n) v → (a ≤ v) × (v < a + n)
in_range a zero v within = absurd (in_nil v within)
in_range a (suc n) v within =
    elim (in_cons a (range_with_len (a + 1) n) v within) [
      | inl same ↦ (omega arith, omega arith)
      | inr rest ↦ let r = in_range (a + 1) n v rest in (omega arith, omega arith)
    ]

pub range_has : (a n v : ℕ) → a ≤ v → v < a + n → Contains (range_with_len a n) v
range_has a zero v low high = absurd (omega arith)
range_has a (suc n) v low high =
    elim (cases_eq a v) [
      | inl same ↦ subst (Contains (a ∷ range_with_len (a + 1) n)) same (here a (range_with_len (a + 1) n))
      | inr other ↦ there a (range_with_len (a + 1) n) v (range_has (a + 1) n v (omega arith) (omega arith))
    ]

pub range_rises : (a n : ℕ) → AllPairs (λ v w. v < w) (range_with_len a n)
range_rises a zero = pairs_nil (λ (v w : ℕ). v < w)
range_rises a (suc n) =
    pairs_cons (λ (v w : ℕ). v < w) a (range_with_len (a + 1) n) (all_in (λ (w : ℕ). a < w) (range_with_len (a + 1) n) (λ w within. let r =
    in_range (a + 1) n w within in omega arith)) (range_rises (a + 1) n)

pub length-range : (a n : ℕ) → length (range_with_len a n) ≡ n
length-range a zero = refl
length-range a (suc n) = ap suc (length-range (a + 1) n)

-- a table of what f gives of numbers
pub table_has : {X : Type 0} (f : ℕ → Option X) (a n i : ℕ) → i < n → get_or (map f (range_with_len a n)) i None ≡ f (a + i)
table_has f a zero i within = absurd (omega arith)
table_has f a (suc n) zero within = let e : a + 0 ≡ a = omega arith in rw e refl
table_has f a (suc n) (suc i) within = let e : a + suc i ≡ (a + 1) + i = omega arith in rw e (table_has f (a + 1) n i (omega arith))

pub in_table : {X : Type 0} (f : ℕ → Option X) (a n i : ℕ) (x : X) → get_or (map f (range_with_len a n)) i None ≡ Some x → f (a + i) ≡ Some x
in_table f a zero i x some = absurd (none-some x some)
in_table f a (suc n) zero x some = let e : a + 0 ≡ a = omega arith in rw e some
in_table f a (suc n) (suc i) x some = let e : a + suc i ≡ (a + 1) + i = omega arith in rw e (in_table f (a + 1) n i x some)

pub same_table : {X : Type 0} (f : ℕ → Option X) (xs : List (Option X)) (a n : ℕ) → length xs ≡ n → ((i : ℕ) → get_or xs i None ≡ f (a + i)) →
    xs ≡ map f (range_with_len a n)
same_table f [] a zero long tells = refl
same_table f [] a (suc n) long tells = absurd (omega arith)
same_table f (x ∷ xs) a zero long tells = absurd (omega arith)
same_table f (x ∷ xs) a (suc n) long tells =
    let e : a + 0 ≡ a = omega arith in
    let first : x ≡ f a = rw e at (tells 0) in
    let rest : xs ≡ map f (range_with_len (a + 1) n) = same_table f xs (a + 1) n (omega arith) (λ i. tells (suc i)
    ∙ (let s : a + suc i ≡ (a + 1) + i = omega arith in ap f s)) in
    rw (first, rest) refl
