-- Lists in rising order: with one more, and how long they can be.
use Rattle.std.proofs.Common.{◌≡◌, ℕ, zero, suc, ◌+◌, ◌<◌, ◌≤◌, Bool, true, List, [], ◌∷◌, ◌++◌, length, map, get_or, ap, subst, inl, inr, arith}
use Rattle.std.specs.Prelude.{nat_lt}
use Rattle.std.specs.List.{All, AllPairs, Contains, filter}
use Rattle.std.proofs.lemmas.Bool.{ltb-true}
use Rattle.std.proofs.lemmas.List.Elements.{All-append, Contains-get_or}
use Rattle.std.proofs.lemmas.List.Kept.{AllPairs-cons, AllPairs-filter}
use Rattle.sem_key.specs.declared.key.Kind.{Kind}
use Rattle.sem_key.specs.declared.key.Kind.TheVariants.{Mem as MemKind, Recv as RecvKind, Send as SendKind, Serv as ServKind, Sess as SessKind}
use Rattle.sem_key.specs.KeyName.{KeyName, IsValidKey, kind_number, packed, key_lt}
use Rattle.sem_key.specs.KeyList.{IsRising, with_key, key_set}
use Rattle.sem_key.specs.Lists.{in_turn}
use Rattle.sem_key.specs.Capability.{Capability}
use Rattle.sem_msg.specs.JobRows.{with_number}
use Rattle.sem_key.proofs.Members.{AllPairs-map, AllPairs-from_map, Contains-head, Contains-tail, Contains-cons_cases, Contains-from_filter}

all-from : {X : Type 0} (P : X → Type 0) (xs : List X) → ((x : X) → Contains xs x → P x) → All P xs
all-from P xs each k d within = each (get_or xs k d) (Contains-get_or xs k d within)

pairs-append : {X : Type 0} (R : X → X → Type 0) (xs ys : List X) → AllPairs R xs → AllPairs R ys → ((x y : X) → Contains xs x → Contains ys y → R x y) →
    AllPairs R (xs ++ ys)
pairs-append R [] ys first second across = second
pairs-append R (x ∷ xs) ys first second across =
    AllPairs-cons R x (xs ++ ys)
    (All-append (R x) xs ys (λ k d within. first zero (suc k) d (omega arith) (omega arith))
    (all-from (R x) ys (λ y in_ys. across x y (Contains-head x xs) in_ys)))
    (pairs-append R xs ys (λ m n d lt within. first (suc m) (suc n) d (omega arith) (omega arith)) second
    (λ a b in_xs in_ys. across a b (Contains-tail x xs a in_xs) in_ys))

module _ {X : Type 0} (w : X → ℕ) where
  abbrev Below : X → X → Type 0
  Below a b = w a < w b

  pub rising-middle : (p q : X → Bool) (xs : List X) (k : X) → ((x : X) → p x ≡ true → w x < w k) → ((x : X) → q x ≡ true → w k < w x) → AllPairs Below xs →
      AllPairs Below (filter p xs ++ k ∷ filter q xs)
  rising-middle p q xs k low high rise = pairs-append Below (filter p xs) (k ∷ filter q xs) (AllPairs-filter Below p xs rise)
      (AllPairs-cons Below k (filter q xs) (all-from (Below k) (filter q xs) (λ y kept. high y (Contains-from_filter q xs y kept).1))
      (AllPairs-filter Below q xs rise))
      (λ x y first second. let below = low x (Contains-from_filter p xs x first).1 in elim (Contains-cons_cases k (filter q xs) y second) [
        | inl same ↦ subst (Below x) same below
        | inr later ↦ let above = high y (Contains-from_filter q xs y later).1 in omega (arith, below, above)
      ])

  -- what rises below a bound is no longer than the bound
  rising-from : (n m : ℕ) (xs : List X) → m ≤ n → AllPairs Below xs → ((x : X) → Contains xs x → (m ≤ w x) × (w x < n)) → length xs + m ≤ n
  rising-from n m [] most rise within = omega (arith, most)
  rising-from n m (x ∷ xs) most rise within =
      let here = within x (Contains-head x xs) in
      let low = here.0 in
      let high = here.1 in
      let rest = rising-from n (m + 1) xs (omega (arith, low, high)) (λ a b d lt inside. rise (suc a) (suc b) d (omega arith) (omega arith))
      (λ y among. (above y among low, (within y (Contains-tail x xs y among)).1)) in
      omega (arith, rest)
    where
      above : (y : X) → Contains xs y → m ≤ w x → m + 1 ≤ w y
      above y (k, inside, at) low = let less = subst (λ (z : X). w x < w z) at (rise zero (suc k) y (omega arith) (omega arith)) in omega (arith, less, low)

  pub rising-few : (n : ℕ) (xs : List X) → AllPairs Below xs → ((x : X) → Contains xs x → w x < n) → length xs ≤ n
  rising-few n xs rise below = let all = rising-from n 0 xs (omega arith) rise (λ x among. (omega arith, below x among)) in omega (arith, all)

pub with_key-rises : (ks : List KeyName) (k : KeyName) → IsRising ks → IsRising (with_key ks k)
with_key-rises ks k rise = rising-middle packed (λ q. key_lt q k) (λ q. key_lt k q) ks k (λ x low. ltb-true (packed x) (packed k) low)
    (λ x high. ltb-true (packed k) (packed x) high) rise

pub with_number-rises : (vs : List ℕ) (v : ℕ) → AllPairs (λ a b. a < b) vs → AllPairs (λ a b. a < b) (with_number vs v)
with_number-rises vs v rise = rising-middle (λ (a : ℕ). a) (λ w. nat_lt w v) (λ w. nat_lt v w) vs v (λ x low. ltb-true x v low)
    (λ x high. ltb-true v x high) rise

set-rises : (ks found : List KeyName) → IsRising found → IsRising (in_turn (λ k list. with_key list k) ks found)
unfolding in_turn
set-rises [] found rise = rise
set-rises (k ∷ ks) found rise = set-rises ks (with_key found k) (with_key-rises found k rise)

pub key_set-rises : (ks : List KeyName) → IsRising (key_set ks)
key_set-rises ks = set-rises ks [] (λ a b d lt within. absurd (omega (arith, lt, within)))

packed-small : (k : KeyName) → IsValidKey k → packed k < 9223372036854775808
packed-small k valid =
    let pe = valid.0 in
    let vpe = valid.1 in
    let number = valid.2 in
    let kind = kind-small k.kind in
    omega (arith, pe, vpe, number, kind)
  where
    kind-small : (q : Kind) → kind_number q ≤ 5
    kind-small MemKind = omega arith
    kind-small RecvKind = omega arith
    kind-small SendKind = omega arith
    kind-small ServKind = omega arith
    kind-small SessKind = omega arith

-- there are no more than 2 to the 63 keys in a list that rises
pub keys-few : (ks : List KeyName) → IsRising ks → ((k : KeyName) → Contains ks k → IsValidKey k) → length ks ≤ 9223372036854775808
keys-few ks rise valid = rising-few packed 9223372036854775808 ks rise (λ k among. packed-small k (valid k among))

-- capabilities that are changed, each with its key, still rise; so do those that pass a test
pub mapped-rises : (f : Capability → Capability) → ((c : Capability) → (f c).key ≡ c.key) → (cs : List Capability) → IsRising (map (λ c. c.key) cs) →
    IsRising (map (λ c. c.key) (map f cs))
mapped-rises f same cs rise = AllPairs-map (λ a b. packed a < packed b) (λ (c : Capability). c.key) (map f cs)
    (AllPairs-map (λ (a b : Capability). packed a.key < packed b.key) f cs (λ m n d lt within.
    let one = ap packed (same (get_or cs m d)) in
    let two = ap packed (same (get_or cs n d)) in
    let below = AllPairs-from_map (λ a b. packed a < packed b) (λ (c : Capability). c.key) cs rise m n d lt within in
    omega (arith, one, two, below)))

pub filtered-rises : (p : Capability → Bool) (cs : List Capability) → IsRising (map (λ c. c.key) cs) → IsRising (map (λ c. c.key) (filter p cs))
filtered-rises p cs rise = AllPairs-map (λ a b. packed a < packed b) (λ (c : Capability). c.key) (filter p cs)
    (AllPairs-filter (λ (a b : Capability). packed a.key < packed b.key) p cs
    (AllPairs-from_map (λ a b. packed a < packed b) (λ (c : Capability). c.key) cs rise))
