-- How many capabilities are held without a mark.
use Rattle.std.proofs.Common.{◌≡◌, ℕ, ◌+◌, ◌≤◌, Bool, true, false, List, [], ◌∷◌, length, Some, is_none, if◌then◌else◌, refl, sym, ◌∙◌, ap, inl, inr, arith}
use Rattle.std.specs.List.{filter}
use Rattle.std.specs.Option.{option_map_or}
use Rattle.std.proofs.lemmas.Bool.{cases_Bool, cond-true, cond-false, false≢true}
use Rattle.sem_key.specs.KeyName.{KeyName, key_eq}
use Rattle.sem_key.specs.Capability.{Capability}
use Rattle.sem_key.specs.CapList.{cap_of, marked, with_mark}
use Rattle.sem_mark.specs.Walks.{is_unmarked_at, unmarked_count}
use Rattle.sem_mark.proofs.Marks.{mark_if}

filter-open : (c : Capability) (cs : List Capability) (t : Bool) → is_none c.mark ≡ t → unmarked_count (c ∷ cs) ≡ (if t then unmarked_count cs + 1 else unmarked_count cs)
filter-open c cs true e =
    ap length (cond-true (is_none c.mark) (c ∷ filter (λ (x : Capability). is_none x.mark) cs) (filter (λ (x : Capability). is_none x.mark) cs) e) ∙ omega arith
filter-open c cs false e =
    ap length (cond-false (is_none c.mark) (c ∷ filter (λ (x : Capability). is_none x.mark) cs) (filter (λ (x : Capability). is_none x.mark) cs) e)

-- how many are open with one more, whether it is open before and whether after
count-le : (c d : Capability) (xs cs : List Capability) (t u : Bool) → is_none c.mark ≡ t → is_none d.mark ≡ u → unmarked_count xs ≤ unmarked_count cs →
    ((t ≡ true) → (u ≡ true)) → unmarked_count (c ∷ xs) ≤ unmarked_count (d ∷ cs)
count-le c d xs cs true true a b rest open' = let x = filter-open c xs true a in let y = filter-open d cs true b in omega arith
count-le c d xs cs true false a b rest open' = absurd (false≢true (open' refl))
count-le c d xs cs false true a b rest open' = let x = filter-open c xs false a in let y = filter-open d cs true b in omega arith
count-le c d xs cs false false a b rest open' = let x = filter-open c xs false a in let y = filter-open d cs false b in omega arith

count-less : (c d : Capability) (xs cs : List Capability) (t u : Bool) → is_none c.mark ≡ t → is_none d.mark ≡ u → unmarked_count xs + 1 ≤ unmarked_count cs →
    ((t ≡ true) → (u ≡ true)) → unmarked_count (c ∷ xs) + 1 ≤ unmarked_count (d ∷ cs)
count-less c d xs cs true true a b rest open' = let x = filter-open c xs true a in let y = filter-open d cs true b in omega arith
count-less c d xs cs true false a b rest open' = absurd (false≢true (open' refl))
count-less c d xs cs false true a b rest open' = let x = filter-open c xs false a in let y = filter-open d cs true b in omega arith
count-less c d xs cs false false a b rest open' = let x = filter-open c xs false a in let y = filter-open d cs false b in omega arith

mark_if-opens : (t : Bool) (j : ℕ) (c : Capability) → is_none (mark_if t j c).mark ≡ true → is_none c.mark ≡ true
mark_if-opens true j c h = absurd (false≢true h)
mark_if-opens false j c h = h

-- marks make no more open
open_count-le : (cs : List Capability) (k : KeyName) (j : ℕ) → unmarked_count (marked cs k j) ≤ unmarked_count cs
open_count-le [] k j = omega arith
open_count-le (c ∷ cs) k j = count-le (mark_if (key_eq c.key k) j c) c (marked cs k j) cs (is_none (mark_if (key_eq c.key k) j c).mark)
    (is_none c.mark) refl refl (open_count-le cs k j) (mark_if-opens (key_eq c.key k) j c)

-- a mark makes one fewer open
pub open_count-marked : (cs : List Capability) (k : KeyName) (j : ℕ) → is_unmarked_at cs k ≡ true → unmarked_count (marked cs k j) + 1 ≤ unmarked_count cs
open_count-marked [] k j open' = absurd (false≢true open')
open_count-marked (c ∷ cs) k j open' = elim (cases_Bool (key_eq c.key k)) [
  | inl here ↦
      let unmarked : is_none c.mark ≡ true =
      sym (ap (λ o. option_map_or (λ (x : Capability). is_none x.mark) o false) (cond-true (key_eq c.key k) (Some c) (cap_of cs k) here)) ∙ open' in
      let rest = open_count-le cs k j in
      let x = filter-open (with_mark j c) (marked cs k j) false refl in
      let y = filter-open c cs true unmarked in
      rw here (omega arith)
  | inr there ↦
      let open_rest : is_unmarked_at cs k ≡ true =
      sym (ap (λ o. option_map_or (λ (x : Capability). is_none x.mark) o false) (cond-false (key_eq c.key k) (Some c) (cap_of cs k) there)) ∙ open' in
      count-less (mark_if (key_eq c.key k) j c) c (marked cs k j) cs (is_none (mark_if (key_eq c.key k) j c).mark) (is_none c.mark) refl refl
      (open_count-marked cs k j open_rest) (mark_if-opens (key_eq c.key k) j c)
]

-- no more are open than there are
pub open_count-length : (cs : List Capability) → unmarked_count cs ≤ length cs
open_count-length [] = omega arith
open_count-length (c ∷ cs) = count-length c cs (is_none c.mark) refl (open_count-length cs)
  where
    count-length : (c : Capability) (cs : List Capability) (t : Bool) → is_none c.mark ≡ t → unmarked_count cs ≤ length cs → unmarked_count (c ∷ cs) ≤ length (c ∷ cs)
    count-length c cs true e rest = let x = filter-open c cs true e in omega arith
    count-length c cs false e rest = let x = filter-open c cs false e in omega arith

-- what is open is one of those that are open
pub open_count-some : (cs : List Capability) (k : KeyName) → is_unmarked_at cs k ≡ true → 1 ≤ unmarked_count cs
open_count-some cs k open' = let fewer = open_count-marked cs k 0 open' in omega arith
