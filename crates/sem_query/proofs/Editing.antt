-- The life of one key among lives in rising key order is changed.
use Rattle.std.proofs.Common.{◌≡◌, ◌≢◌, ℕ, zero, suc, ◌<◌, Bool, true, false, List, [], ◌∷◌, length, get_or, set, refl, sym, ap, ◌∙◌, subst, inl, inr, arith}
use Rattle.std.proofs.lemmas.List.{get_or-set_other, get_or-set_same, get_or_default, length-set}
use Rattle.std.specs.Prelude.{if◌then◌else◌}
use Rattle.std.proofs.lemmas.Bool.{cases_eq, cases_lt, cond-true, cond-false}
use Rattle.sem_key.specs.KeyName.{KeyName, IsValidKey, packed, key_eq}
use Rattle.sem_key.specs.Lists.{change}
use Rattle.sem_key.proofs.KeyTests.{key_eq-from, key_eq-differs}
use Rattle.sem_query.specs.Lives.{KeyLife}
use Rattle.sem_query.specs.Searching.{AreLives, IsLifeAt, IsGapFor}

module _ (test : KeyLife → Bool) (f : KeyLife → KeyLife) where
  -- where none passes, none is changed
  change-none : (ls : List KeyLife) → ((i : ℕ) (d : KeyLife) → i < length ls → test (get_or ls i d) ≡ false) → change test f ls ≡ ls
  change-none [] none = refl
  change-none (l ∷ ls) none =
      ap (λ x. x ∷ change test f ls) (cond-false (test l) (f l) l (none 0 l (omega arith)))
      ∙ ap (λ xs. l ∷ xs) (change-none ls (λ i d within. none (suc i) d (omega (arith, within))))

  -- where one passes, that one is
  change-one : (ls : List KeyLife) (at : ℕ) → at < length ls → ((d : KeyLife) → test (get_or ls at d) ≡ true) →
      ((i : ℕ) (d : KeyLife) → i < length ls → i ≢ at → test (get_or ls i d) ≡ false) → (new : KeyLife) → ((d : KeyLife) → new ≡ f (get_or ls at d)) →
      set ls at new ≡ change test f ls
  change-one [] at within pass others new is = absurd (omega (arith, within))
  change-one (l ∷ ls) zero within pass others new is =
      ap (λ x. x ∷ ls) (is l ∙ sym (cond-true (test l) (f l) l (pass l)))
      ∙ ap (λ xs. (if test l then f l else l) ∷ xs) (sym (change-none ls (λ i d below. others (suc i) d (omega (arith, below)) (omega arith))))
  change-one (l ∷ ls) (suc at) within pass others new is =
      ap (λ x. x ∷ set ls at new) (sym (cond-false (test l) (f l) l (others 0 l (omega arith) (omega arith))))
      ∙ ap (λ xs. (if test l then f l else l) ∷ xs)
      (change-one ls at (omega (arith, within)) pass (λ i d below other. others (suc i) d (omega (arith, below)) (omega (arith, other))) new is)

module _ (ls : List KeyLife) (are : AreLives ls) (k : KeyName) where
  -- the life at the place of the key is the one of that key
  pub changed-at : (at : ℕ) → IsLifeAt ls k at → (f : KeyLife → KeyLife) (old new : KeyLife) → old ≡ get_or ls at old → new ≡ f old →
      set ls at new ≡ change (λ (l : KeyLife). key_eq l.key k) f ls
  changed-at at place f old new there is = change-one (λ (l : KeyLife). key_eq l.key k) f ls at place.in_range
      (λ d. key_eq-from (get_or ls at d).key k (place.key d))
      (λ i d within other. let there = place.key d in key_eq-differs (get_or ls i d).key k (λ same. elim (cases_lt i at) [
        | inl low ↦ let less = are.rising i at d low place.in_range in omega (arith, less, same, ap packed there)
        | inr high ↦ let less = are.rising at i d (omega (arith, high, other)) within in omega (arith, less, same, ap packed there)
      ]))
      new (λ d. is ∙ ap f (there ∙ get_or_default ls at old d place.in_range))

  -- where there is a gap for the key, no life is
  pub changed-gap : (at : ℕ) → IsGapFor ls k at → (f : KeyLife → KeyLife) → ls ≡ change (λ (l : KeyLife). key_eq l.key k) f ls
  changed-gap at gap f = sym (change-none (λ (l : KeyLife). key_eq l.key k) f ls (λ i d within. elim (cases_lt i at) [
    | inl below ↦ let less = gap.before i d (omega arith) below in key_eq-differs (get_or ls i d).key k (λ same. omega (arith, less, same))
    | inr above ↦ let more = gap.after i d above within in key_eq-differs (get_or ls i d).key k (λ same. omega (arith, more, same))
  ]))

  -- a life of the same key in the place of one keeps the order
  pub set-lives : (at : ℕ) → IsLifeAt ls k at → (old new : KeyLife) → old ≡ get_or ls at old → new.key ≡ old.key → AreLives (set ls at new)
  set-lives at place old new there same = record {
    rising = λ i j d lt within.
        let low = key-at i d (omega (arith, lt, within, length-set ls at new)) in
        let high = key-at j d (omega (arith, within, length-set ls at new)) in
        let less = are.rising i j d lt (omega (arith, within, length-set ls at new)) in
        omega (arith, less, ap packed low, ap packed high);
    valid = λ i d within. subst IsValidKey (sym (key-at i d (omega (arith, within, length-set ls at new))))
        (are.valid i d (omega (arith, within, length-set ls at new)));
  }
    where
      key-at : (i : ℕ) (d : KeyLife) → i < length ls → (get_or (set ls at new) i d).key ≡ (get_or ls i d).key
      key-at i d within = elim (cases_eq i at) [
        | inl is ↦ ap (λ n. (get_or (set ls at new) n d).key) is ∙ (ap (λ (l : KeyLife). l.key) (get_or-set_same ls at new d place.in_range)
            ∙ (same ∙ (ap (λ (l : KeyLife). l.key) (there ∙ get_or_default ls at old d place.in_range) ∙ ap (λ n. (get_or ls n d).key) (sym is))))
        | inr other ↦ ap (λ (l : KeyLife). l.key) (get_or-set_other ls at i new d other)
      ]
