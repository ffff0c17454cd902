-- Lists that are read place by place, and what is gathered from them.
use Rattle.std.proofs.Common.{◌≡◌, ℕ, zero, suc, ◌+◌, ◌<◌, Bool, true, false, cond, List, [], ◌∷◌, ◌++◌, length, take, get_or, refl, add-one, append_assoc}
use Rattle.std.proofs.Common.{append-nil}
use Rattle.std.specs.List.{All, filter, slice_get}
use Rattle.std.specs.Option.{option_to_list}
use Rattle.std.proofs.lemmas.List.{take_more}
use Rattle.std.proofs.lemmas.List.Elements.{All-push, filter_more}
use Rattle.sem_key.specs.KeyName.{KeyName, IsValidKey}
use Rattle.sem_key.specs.KeyList.{with_key}
use Rattle.sem_key.specs.Lists.{in_turn}
use Rattle.sem_key.proofs.InTurns.{in_turn-append}

-- the set with these keys added
abbrev pub with_keys : List KeyName → List KeyName → List KeyName
with_keys found ks = in_turn (λ k found. with_key found k) ks found

take-suc-read : {X : Type 0} (xs : List X) (i : ℕ) → take (suc i) xs ≡ take i xs ++ option_to_list (slice_get xs i)
take-suc-read [] zero = refl
take-suc-read [] (suc i) = refl
take-suc-read (x ∷ xs) zero = refl
take-suc-read (x ∷ xs) (suc i) = rw (take-suc-read xs i) refl

-- one more of the first elements, if there is one
pub take-read_more : {X : Type 0} (xs : List X) (i : ℕ) → take (i + 1) xs ≡ take i xs ++ option_to_list (slice_get xs i)
take-read_more xs i = rw add-one (take-suc-read xs i)

-- `now` ends with what f gives of the elements before place i; with what it gives of the element there, it is that of one more
pub gathered_more : {X Y : Type 0} (f : List X → List Y) → ((xs ys : List X) → f (xs ++ ys) ≡ f xs ++ f ys) →
    (xs : List X) (i : ℕ) (before now after : List Y) → now ≡ before ++ f (take i xs) → after ≡ now ++ f (option_to_list (slice_get xs i)) →
    after ≡ before ++ f (take (i + 1) xs)
gathered_more f joins xs i before now after so_far more =
    rw (take-read_more xs i, joins, more, so_far) (append_assoc before (f (take i xs)) (f (option_to_list (slice_get xs i))))

-- keys that are added one list after the other are those of both
pub with_keys-append : (found ks ls : List KeyName) → with_keys found (ks ++ ls) ≡ with_keys (with_keys found ks) ls
with_keys-append found ks ls = in_turn-append _ ks ls found

pub with_keys-none : (found : List KeyName) → with_keys found [] ≡ found
unfolding in_turn
with_keys-none found = refl

-- those keys are appended that pass a test
module _ (p : KeyName → Bool) (ks : List KeyName) (i : ℕ) (k : KeyName) (before now : List KeyName) (more : i < length ks) (found : k ≡ get_or ks i k)
    (so_far : now ≡ before ++ filter p (take i ks)) where
  next : filter p (take (i + 1) ks) ≡ filter p (take i ks) ++ cond (p k) (k ∷ []) []
  next = rw (← found) at (filter_more p ks i k more)

  pub chosen_more : (after : List KeyName) → p k ≡ true → after ≡ now ++ k ∷ [] → after ≡ before ++ filter p (take (i + 1) ks)
  chosen_more after pass is = rw (next, pass, ← append_assoc before (filter p (take i ks)) (k ∷ []), ← so_far) is

  pub chosen_skip : p k ≡ false → now ≡ before ++ filter p (take (i + 1) ks)
  chosen_skip fail = rw (next, fail, append-nil) so_far

-- the keys before place i were added to no keys; with the key there, those of one more
pub set_more : (ks : List KeyName) (i : ℕ) (k : KeyName) (now after : List KeyName) → i < length ks → k ≡ get_or ks i k → now ≡ with_keys [] (take i ks) →
    after ≡ with_key now k → after ≡ with_keys [] (take (i + 1) ks)
unfolding in_turn
set_more ks i k now after more found so_far is = rw (take_more ks i k more, ← found, with_keys-append, ← so_far) is

pub valid_more : (ks : List KeyName) (i : ℕ) (k : KeyName) → i < length ks → k ≡ get_or ks i k → All IsValidKey (take i ks) → IsValidKey k →
    All IsValidKey (take (i + 1) ks)
valid_more ks i k more found so_far valid = rw (take_more ks i k more, ← found) (All-push IsValidKey (take i ks) k so_far valid)
