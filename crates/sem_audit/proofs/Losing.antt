-- Going once through the grants tells which keys have an ancestor that was cut off.
use Rattle.std.proofs.Common.{◌≡◌, ℕ, zero, suc, ◌+◌, ◌<◌, ◌≤◌, ◌||◌, ◌&&◌, Bool, true, false, List, [], ◌∷◌, ◌++◌, length, take, get_or, not, Option, Some}
use Rattle.std.proofs.Common.{None, inl, inr, refl, sym, ◌∙◌, ap, subst, arith, length-append, append-nil}
use Rattle.std.specs.List.{list_any, Contains, filter}
use Rattle.std.proofs.lemmas.Bool.{false_from_ne_true}
use Rattle.std.proofs.lemmas.List.Sums.{fold-append}
use Rattle.std.proofs.lemmas.List.Elements.{Contains-append_right}
use Rattle.sem_key.proofs.Members.{Contains-head, Contains-tail}
use Rattle.sem_key.specs.KeyName.{KeyName, IsValidKey, key_eq}
use Rattle.sem_key.specs.Region.{has_key}
use Rattle.sem_key.proofs.KeyTests.{key_eq-same, key_eq-true}
use Rattle.sem_msg.specs.declared.entry.Entry.{Entry}
use Rattle.sem_msg.specs.Setup.{Setup, IsSetup}
use Rattle.sem_machine.specs.Journals.{ancestry_in, grants, root_keys, made, cut, forest, descends_from_any}
use Rattle.sem_machine.specs.Schedules.{IsSchedule}
use Rattle.indexmap.specs.IndexSet.{IndexSet}
use Rattle.std.specs.Option.{IfSome, option_to_list}
use Rattle.std.proofs.lemmas.List.{take_more}
use Rattle.sem_safety.proofs.OneLife.{all-grown}
use Rattle.sem_revoke.proofs.Forests.{made-valid}
use Rattle.sem_audit.proofs.Upwards.{grants-more}
use Rattle.sem_safety.specs.Growth.{grown, IsGrown}
use Rattle.sem_safety.specs.Growth.IsGrown.{no_grants, granted_next}
use Rattle.sem_safety.proofs.GrownLines.{line-stays, line-new, grown-more, grown-keeps, child-grown, few-grants}
use Rattle.sem_grants.specs.Words.{has_word, HasWords}
use Rattle.sem_audit.specs.Losing.{lose, lost}

or_false : (b : Bool) → (b || false) ≡ b
or_false true = refl
or_false false = refl

-- one grant more
pub lost-more : (p : KeyName → Bool) (gs : List (KeyName × KeyName)) (g : KeyName × KeyName) → lost p (gs ++ g ∷ []) ≡ lose (lost p gs) g
unfolding lost
lost-more p gs g = fold-append lose p gs (g ∷ [])

grown-has : (roots : List KeyName) (gs : List (KeyName × KeyName)) (a c : KeyName) → Contains (grown roots (gs ++ (a, c) ∷ [])) c
grown-has roots gs a c = child-grown roots (gs ++ (a, c) ∷ []) a c (Contains-append_right gs ((a, c) ∷ []) (a, c) (Contains-head (a, c) []))

or_or : (a b c : Bool) → (a || (b || c)) ≡ ((a || b) || c)
or_or true b c = refl
or_or false b c = refl

and_true : (b : Bool) → (b && true) ≡ b
and_true true = refl
and_true false = refl

and_false : (b : Bool) → (b && false) ≡ false
and_false true = refl
and_false false = refl

lost-none : (p : KeyName → Bool) (k : KeyName) → lost p [] k ≡ p k
unfolding lost
lost-none p k = refl

lost-one : (p : KeyName → Bool) (g : KeyName × KeyName) (k : KeyName) → lost p (g ∷ []) k ≡ (p k || (key_eq k g.1 && p g.0))
unfolding lost
lost-one p g k = refl

filter-same : {X : Type 0} (p q : X → Bool) (xs : List X) → ((x : X) → Contains xs x → p x ≡ q x) → filter p xs ≡ filter q xs
filter-same p q [] same = refl
filter-same p q (x ∷ xs) same = rw (same x (Contains-head x xs), filter-same p q xs (λ y among. same y (Contains-tail x xs y among))) refl

module _ (p : KeyName → Bool) (roots : List KeyName) where
  -- a grant of another key does not say whether a key is lost
  lost-other : (gs : List (KeyName × KeyName)) (a c k : KeyName) → key_eq k c ≡ false → lost p (gs ++ (a, c) ∷ []) k ≡ lost p gs k
  lost-other gs a c k other = ap (λ (f : KeyName → Bool). f k) (lost-more p gs (a, c)) ∙ (rw other (or_false (lost p gs k)))

  -- a key that was not made is lost only if it was cut off
  lost-unmade : (gs : List (KeyName × KeyName)) → IsGrown roots gs → (k : KeyName) → (Contains (grown roots gs) k → ⊥) → lost p gs k ≡ p k
  unfolding lost
  lost-unmade _ no_grants k new = refl
  lost-unmade _ (granted_next gs a c is has fresh) k new =
      let other : key_eq k c ≡ false =
      false_from_ne_true (key_eq k c)
      (λ same. new (subst (Contains (grown roots (gs ++ (a, c) ∷ []))) (sym (key_eq-true k c same)) (grown-has roots gs a c))) in
      lost-other gs a c k other ∙ lost-unmade gs is k (λ old. new (grown-keeps roots gs a c k old))

  -- a made key is lost if one of its line was cut off
  pub lost-line : (gs : List (KeyName × KeyName)) → IsGrown roots gs → (n : ℕ) → length gs ≤ n → (k : KeyName) → Contains (grown roots gs) k →
      list_any p (ancestry_in n gs k) ≡ lost p gs k
  unfolding lost ancestry_in
  lost-line _ no_grants zero few k made = or_false (p k)
  lost-line _ no_grants (suc n) few k made = or_false (p k)
  lost-line _ (granted_next gs a c is has fresh) zero few k made = absurd (omega (arith, few, length-append gs ((a, c) ∷ [])))
  lost-line _ (granted_next gs a c is has fresh) (suc n) few k made =
      let room : length gs ≤ n = omega (arith, few, length-append gs ((a, c) ∷ [])) in
      elim (grown-more roots gs a c k made) [
        | inl old ↦ let other : key_eq k c ≡ false =
            false_from_ne_true (key_eq k c) (λ same. fresh (subst (Contains (grown roots gs)) (key_eq-true k c same) old)) in
            ap (list_any p) (line-stays roots gs is a c fresh (suc n) k old) ∙ (lost-line gs is (suc n) (omega arith) k old ∙ sym (lost-other gs a c k other))
        | inr same ↦ subst (λ (q : KeyName). list_any p (ancestry_in (suc n) (gs ++ (a, c) ∷ []) q) ≡ lost p (gs ++ (a, c) ∷ []) q) same
            (ap (list_any p) (line-new roots gs is a c fresh n has)
            ∙ (ap (λ (b : Bool). p c || b) (lost-line gs is n room a has)
            ∙ (ap (λ (b : Bool). b || lost p gs a) (sym (lost-unmade gs is c fresh))
            ∙ sym (ap (λ (f : KeyName → Bool). f c) (lost-more p gs (a, c)) ∙ ap (λ (b : Bool). lost p gs c || (b && lost p gs a)) (key_eq-same c)))))
      ]

-- Sets of words.
has_key-push : (ks : List KeyName) (x k : KeyName) → has_key (ks ++ x ∷ []) k ≡ (has_key ks k || key_eq k x)
has_key-push [] x k = or_false (key_eq k x)
has_key-push (y ∷ ks) x k = ap (λ (b : Bool). key_eq k y || b) (has_key-push ks x k) ∙ or_or (key_eq k y) (has_key ks k) (key_eq k x)

module _ {S : Type 0} (old new : IndexSet ℕ S) where
  -- one key more
  pub words-more : (ks : List KeyName) (i : ℕ) (x : KeyName) → i < length ks → x ≡ get_or ks i x → HasWords old (has_key (take i ks)) →
      HasWords new (λ k. has_word old k || key_eq k x) → HasWords new (has_key (take (i + 1) ks))
  words-more ks i x more at so_far added k valid =
      added k valid
      ∙ (ap (λ (b : Bool). b || key_eq k x) (so_far k valid)
      ∙ (sym (has_key-push (take i ks) x k)
      ∙ ap (λ (qs : List KeyName). has_key qs k) (sym (take_more ks i x more ∙ ap (λ (q : KeyName). take i ks ++ q ∷ []) (sym at)))))

  -- the child of a grant whose parent is lost
  pub granted-lost : (o : Option (KeyName × KeyName)) (a c : KeyName) → o ≡ Some (a, c) → has_word old a ≡ true →
      HasWords new (λ k. has_word old k || key_eq k c) → HasWords new (lost (has_word old) (option_to_list o))
  unfolding lost
  granted-lost o a c is yes' added k valid = rw (is, yes') (added k valid ∙ ap (λ (b : Bool). has_word old k || b) (sym (and_true (key_eq k c))))

  -- the grants of one entry more
  pub lost-entry : (p : KeyName → Bool) (J : List Entry) (i : ℕ) (e : Entry) → i < length J → e ≡ get_or J i e → IfSome e.grant (λ g. IsValidKey g.0) →
      HasWords old (lost p (grants (take i J))) → HasWords new (lost (has_word old) (option_to_list e.grant)) → HasWords new (lost p (grants (take (i + 1) J)))
  lost-entry p J i e more at ranges so_far step k valid =
      step k valid ∙ (of e.grant ranges
      ∙ ap (λ (gs : List (KeyName × KeyName)). lost p gs k)
      (grants-more J i e (grants (take i J)) (grants (take i J) ++ option_to_list e.grant) more at refl refl))
    where
      of : (o : Option (KeyName × KeyName)) → IfSome o (λ g. IsValidKey g.0) →
          lost (has_word old) (option_to_list o) k ≡ lost p (grants (take i J) ++ option_to_list o) k
      of None ranges = lost-none (has_word old) k
          ∙ (so_far k valid ∙ ap (λ (gs : List (KeyName × KeyName)). lost p gs k) (sym (append-nil (grants (take i J)))))
      of (Some g) ranges =
          lost-one (has_word old) g k
          ∙ (ap (λ (b : Bool). b || (key_eq k g.1 && has_word old g.0)) (so_far k valid)
          ∙ (ap (λ (b : Bool). lost p (grants (take i J)) k || (key_eq k g.1 && b)) (so_far g.0 ranges)
          ∙ ap (λ (f : KeyName → Bool). f k) (sym (lost-more p (grants (take i J)) g))))

module _ {S : Type 0} (words : IndexSet ℕ S) where
  -- the child of a grant whose parent is not
  pub granted-kept : (o : Option (KeyName × KeyName)) (a c : KeyName) → o ≡ Some (a, c) → has_word words a ≡ false →
      HasWords words (lost (has_word words) (option_to_list o))
  unfolding lost
  granted-kept o a c is no' k valid = rw (is, no') (sym (ap (λ (b : Bool). has_word words k || b) (and_false (key_eq k c)) ∙ or_false (has_word words k)))

  pub granted-nothing : (o : Option (KeyName × KeyName)) → o ≡ None → HasWords words (lost (has_word words) (option_to_list o))
  unfolding lost
  granted-nothing o is k valid = rw is refl

  -- no grants yet
  pub lost-start : (p : KeyName → Bool) (gs : List (KeyName × KeyName)) → gs ≡ [] → HasWords words p → HasWords words (lost p gs)
  unfolding lost
  lost-start p gs is has k valid = rw is (has k valid)

  -- the keys without the lost ones are the forest
  pub forest-is : (T : Setup) → IsSetup T → (J : List Entry) → IsSchedule T J → (cuts ms keys : List KeyName) → ms ≡ made T J → cuts ≡ cut T J →
      HasWords words (lost (has_key cuts) (grants J)) → keys ≡ filter (λ k. not (has_word words k)) ms → keys ≡ forest T J
  forest-is T valid J runs cuts ms keys are same has is =
      is ∙ (ap (filter (λ k. not (has_word words k))) are
      ∙ filter-same (λ k. not (has_word words k)) (λ k. not (descends_from_any J (cut T J) k)) (made T J) (λ k among. ap not (here k among)))
    where
      here : (k : KeyName) → Contains (made T J) k → has_word words k ≡ descends_from_any J (cut T J) k
      here k among =
          has k (made-valid T valid J runs k among)
          ∙ (sym (lost-line (has_key cuts) (root_keys T) (grants J) (all-grown T valid J runs) (length J) (few-grants J) k among)
          ∙ ap (λ (ks : List KeyName). list_any (has_key ks) (ancestry_in (length J) (grants J) k)) same)
