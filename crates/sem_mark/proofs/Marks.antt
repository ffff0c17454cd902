-- Marks: what is found once the capabilities of some keys are marked.
use Rattle.std.proofs.Common.{◌≡◌, ℕ, Bool, true, false, not, ◌&&◌, ◌||◌, List, [], ◌∷◌, ◌++◌, map, Option, Some, None, is_none, if◌then◌else◌, refl, sym, ◌∙◌}
use Rattle.std.proofs.Common.{ap, inl, inr}
use Rattle.std.specs.List.{find}
use Rattle.std.specs.Option.{option_map, option_map_or}
use Rattle.std.proofs.lemmas.Bool.{cases_Bool, cond-true, cond-false}
use Rattle.sem_key.specs.KeyName.{KeyName, key_eq}
use Rattle.sem_key.specs.Capability.{Capability}
use Rattle.sem_key.specs.CapList.{cap_of, marked, with_mark}
use Rattle.sem_key.specs.Region.{has_key, all_marked}
use Rattle.sem_key.proofs.Members.{found}
use Rattle.sem_key.proofs.KeyTests.{key_eq-true}
use Rattle.sem_mark.specs.Walks.{is_unmarked_at, children_at}

-- a search after a change that the test does not see
pub find-map : {X : Type 0} (p : X → Bool) (f : X → X) → ((x : X) → p (f x) ≡ p x) → (xs : List X) → find p (map f xs) ≡ option_map f (find p xs)
find-map p f same [] = refl
find-map p f same (x ∷ xs) = elim (cases_Bool (p x)) [
  | inl pass ↦ cond-true (p (f x)) _ _ (same x ∙ pass) ∙ sym (ap (option_map f) (cond-true (p x) _ _ pass))
  | inr fail ↦ cond-false (p (f x)) _ _ (same x ∙ fail) ∙ (find-map p f same xs ∙ sym (ap (option_map f) (cond-false (p x) _ _ fail)))
]

pub map-same : {X Y : Type 0} (f g : X → Y) → ((x : X) → f x ≡ g x) → (xs : List X) → map f xs ≡ map g xs
map-same f g same [] = refl
map-same f g same (x ∷ xs) = rw (same x, map-same f g same xs) refl

pub map-map : {X : Type 0} (f g h : X → X) → ((x : X) → g (f x) ≡ h x) → (xs : List X) → map g (map f xs) ≡ map h xs
map-map f g h same [] = refl
map-map f g h same (x ∷ xs) = rw (same x, map-map f g h same xs) refl

-- a key is in a joined list where it is in a part
pub has_key-append : (ks more : List KeyName) (k : KeyName) → has_key (ks ++ more) k ≡ (has_key ks k || has_key more k)
has_key-append [] more k = refl
has_key-append (q ∷ ks) more k = ap (λ t. key_eq k q || t) (has_key-append ks more k) ∙ assoc (key_eq k q) (has_key ks k) (has_key more k)
  where
    assoc : (a b c : Bool) → (a || (b || c)) ≡ ((a || b) || c)
    assoc true b c = refl
    assoc false b c = refl

-- Marks.

abbrev pub mark_if : Bool → ℕ → Capability → Capability
mark_if t j c = if t then with_mark j c else c

mark_if-key : (t : Bool) (j : ℕ) (c : Capability) → (mark_if t j c).key ≡ c.key
mark_if-key true j c = refl
mark_if-key false j c = refl

mark_if-twice : (a b : Bool) (j : ℕ) (c : Capability) → mark_if b j (mark_if a j c) ≡ mark_if (a || (b || false)) j c
mark_if-twice true true j c = refl
mark_if-twice true false j c = refl
mark_if-twice false true j c = refl
mark_if-twice false false j c = refl

mark_if-open : (t : Bool) (j : ℕ) (c : Capability) → is_none (mark_if t j c).mark ≡ (is_none c.mark && not t)
mark_if-open true j c = and_false (is_none c.mark)
  where
    and_false : (t : Bool) → false ≡ (t && false)
    and_false true = refl
    and_false false = refl
mark_if-open false j c = and_true (is_none c.mark)
  where
    and_true : (t : Bool) → t ≡ (t && true)
    and_true true = refl
    and_true false = refl

module _ (cs : List Capability) (ks : List KeyName) (j : ℕ) where
  abbrev f : Capability → Capability
  f c = mark_if (has_key ks c.key) j c

  key-kept : (k : KeyName) (c : Capability) → key_eq (f c).key k ≡ key_eq c.key k
  key-kept k c = ap (λ q. key_eq q k) (mark_if-key (has_key ks c.key) j c)

  -- what is found under a key is marked where the key is listed
  pub cap_of-marked : (k : KeyName) → cap_of (all_marked ks j cs) k ≡ option_map (λ c. mark_if (has_key ks c.key) j c) (cap_of cs k)
  cap_of-marked k = find-map (λ c. key_eq c.key k) f (key-kept k) cs

  -- what is open is what was open and is not listed
  pub is_open-marked : (k : KeyName) → is_unmarked_at (all_marked ks j cs) k ≡ (is_unmarked_at cs k && not (has_key ks k))
  is_open-marked k = ap (λ o. option_map_or (λ c. is_none c.mark) o false) (cap_of-marked k) ∙ from (cap_of cs k) refl
    where
      from : (o : Option Capability) → cap_of cs k ≡ o → option_map_or (λ c. is_none c.mark) (option_map (λ c. mark_if (has_key ks c.key) j c) o) false
          ≡ (option_map_or (λ c. is_none c.mark) o false && not (has_key ks k))
      from None none = refl
      from (Some c) some =
          let same : c.key ≡ k = key_eq-true c.key k (found (λ x. key_eq x.key k) cs c some).1 in
          mark_if-open (has_key ks c.key) j c ∙ ap (λ q. is_none c.mark && not (has_key ks q)) same

  -- one key more is marked
  pub marked-more : (k : KeyName) → marked (all_marked ks j cs) k j ≡ all_marked (ks ++ k ∷ []) j cs
  marked-more k = map-map f (λ c. mark_if (key_eq c.key k) j c) (λ c. mark_if (has_key (ks ++ k ∷ []) c.key) j c) each cs
    where
      each : (c : Capability) → mark_if (key_eq (f c).key k) j (f c) ≡ mark_if (has_key (ks ++ k ∷ []) c.key) j c
      each c =
          ap (λ t. mark_if t j (f c)) (key-kept k c)
          ∙ (mark_if-twice (has_key ks c.key) (key_eq c.key k) j c
          ∙ ap (λ t. mark_if t j c) (sym (has_key-append ks (k ∷ []) c.key)))

-- marks by lists with the same keys
pub all_marked-same : (cs : List Capability) (ks qs : List KeyName) (j : ℕ) → ((k : KeyName) → has_key ks k ≡ has_key qs k) →
    all_marked ks j cs ≡ all_marked qs j cs
all_marked-same cs ks qs j same = map-same (λ c. mark_if (has_key ks c.key) j c) (λ c. mark_if (has_key qs c.key) j c)
    (λ c. ap (λ t. mark_if t j c) (same c.key)) cs

pub none_marked : (cs : List Capability) (j : ℕ) → cs ≡ all_marked [] j cs
none_marked [] j = refl
none_marked (c ∷ cs) j = ap (λ xs. c ∷ xs) (none_marked cs j)

-- a mark leaves the children
pub children-marked : (cs : List Capability) (k p : KeyName) (j : ℕ) → children_at (marked cs k j) p ≡ children_at cs p
children-marked cs k p j =
    ap (λ o. option_map_or (λ (c : Capability). c.children) o [])
    (find-map (λ c. key_eq c.key p) (λ c. mark_if (key_eq c.key k) j c) (λ c. ap (λ q. key_eq q p) (mark_if-key (key_eq c.key k) j c)) cs) ∙ from (cap_of cs p)
  where
    keeps : (t : Bool) (c : Capability) → (mark_if t j c).children ≡ c.children
    keeps true c = refl
    keeps false c = refl

    from : (o : Option Capability) → option_map_or (λ (c : Capability). c.children) (option_map (λ c. mark_if (key_eq c.key k) j c) o) []
        ≡ option_map_or (λ (c : Capability). c.children) o []
    from None = refl
    from (Some c) = keeps (key_eq c.key k) c
