-- Lives in rising key order, and keys that are noted one by one.
use Rattle.std.proofs.Common.{◌≡◌, ℕ, suc, ◌+◌, ◌<◌, ◌≤◌, List, [], ◌∷◌, ◌++◌, length, map, take, get_or, refl, sym, ap, ◌∙◌, subst, arith, append_assoc}
use Rattle.std.proofs.Common.{append-nil}
use Rattle.std.specs.List.{All, Contains, flat_map}
use Rattle.std.proofs.lemmas.List.{take_more, take_all, map-append}
use Rattle.std.proofs.lemmas.List.Elements.{All-cons}
use Rattle.std.proofs.lemmas.Grind.{flat_map-append}
use Rattle.sem_key.specs.KeyName.{KeyName, IsValidKey, packed}
use Rattle.sem_key.specs.KeyList.{IsRising, key_set}
use Rattle.sem_key.specs.Lists.{in_turn}
use Rattle.sem_key.proofs.InTurns.{in_turn-append}
use Rattle.sem_key.proofs.Members.{Contains-head, Contains-tail, AllPairs-from_map}
use Rattle.sem_msg.specs.declared.entry.Entry.{Entry}
use Rattle.sem_msg.specs.Setup.{Setup, IsSetup}
use Rattle.sem_machine.specs.Machine.{World, side}
use Rattle.sem_machine.specs.Schedules.{IsSchedule}
use Rattle.sem_machine.specs.Journals.{made}
use Rattle.sem_mark.proofs.SortedKeys.{key_set-rises, key_set-from}
use Rattle.sem_revoke.proofs.Forests.{made-valid}
use Rattle.sem_query.specs.Lives.{KeyLife}
use Rattle.sem_query.specs.Searching.{AreLives}
use Rattle.sem_msg.specs.Lookups.{owner_of}
use Rattle.sem_query.specs.Changes.{seen_at_home}
use Rattle.sem_query.specs.Building.{noted_of, all_noted}
use Rattle.sem_query.specs.MarkedKeys.{marking}

-- what is so of each member is so of all
each-of : {X : Type 0} (P : X → Type 0) (xs : List X) → ((x : X) → Contains xs x → P x) → All P xs
each-of P [] each = λ i d within. absurd (omega (arith, within))
each-of P (x ∷ xs) each = All-cons P x xs (each x (Contains-head x xs)) (each-of P xs (λ y among. each y (Contains-tail x xs y among)))

module _ (T : Setup) (valid : IsSetup T) (J : List Entry) (runs : IsSchedule T J) where
  pub all-valid : All IsValidKey (made T J)
  all-valid = each-of IsValidKey (made T J) (made-valid T valid J runs)

  keys-of : (f : KeyName → KeyLife) → ((q : KeyName) → (f q).key ≡ q) → (ks : List KeyName) → map (λ (l : KeyLife). l.key) (map f ks) ≡ ks
  keys-of f keyed [] = refl
  keys-of f keyed (k ∷ ks) = ap (λ q. q ∷ map (λ (l : KeyLife). l.key) (map f ks)) (keyed k) ∙ ap (λ qs. k ∷ qs) (keys-of f keyed ks)

  all-from-map : (ls : List KeyLife) → All IsValidKey (map (λ (l : KeyLife). l.key) ls) → All (λ (l : KeyLife). IsValidKey l.key) ls
  all-from-map [] all = λ i d within. absurd (omega (arith, within))
  all-from-map (l ∷ ls) all = All-cons (λ (x : KeyLife). IsValidKey x.key) l ls (all 0 l.key (omega arith))
      (all-from-map ls (λ i d within. all (suc i) d (omega (arith, within))))

  -- lives of the made keys stand in rising key order
  pub set-of-lives : (f : KeyName → KeyLife) → ((q : KeyName) → (f q).key ≡ q) → (ls : List KeyLife) → ls ≡ map f (key_set (made T J)) → AreLives ls
  set-of-lives f keyed ls is =
      let keys = keys-of f keyed (key_set (made T J)) in
      let there : map (λ (l : KeyLife). l.key) ls ≡ key_set (made T J) = ap (map (λ (l : KeyLife). l.key)) is ∙ keys in
      record {
        rising = AllPairs-from_map (λ (a b : KeyName). packed a < packed b) (λ (l : KeyLife). l.key) ls (subst IsRising (sym there) (key_set-rises (made T J)));
        valid = all-from-map ls
            (subst (All IsValidKey) (sym there)
            (each-of IsValidKey (key_set (made T J)) (λ q among. made-valid T valid J runs q (key_set-from (made T J) q among))));
      }

-- Keys that are noted one by one.
module _ (T : Setup) (V : World) (n : ℕ) (ks : List KeyName) (ls : List KeyLife) where
  pub noted-none : ls ≡ all_noted T V n [] ls
  unfolding in_turn
  noted-none = refl

  noted-one : (k : KeyName) (xs : List KeyLife) → all_noted T V n (k ∷ []) xs ≡ noted_of k n (seen_at_home k (side V (owner_of T k))) xs
  unfolding in_turn
  noted-one k xs = refl

  pub noted-more : (i : ℕ) (k : KeyName) (old new : List KeyLife) → i < length ks → k ≡ get_or ks i k → old ≡ all_noted T V n (take i ks) ls →
      new ≡ noted_of k n (seen_at_home k (side V (owner_of T k))) old → new ≡ all_noted T V n (take (i + 1) ks) ls
  noted-more i k old new within at so_far is =
      is
      ∙ (ap (noted_of k n (seen_at_home k (side V (owner_of T k)))) so_far
      ∙ sym (ap (λ qs. all_noted T V n qs ls) (take_more ks i k within ∙ ap (λ q. take i ks ++ q ∷ []) (sym at))
      ∙ (in_turn-append (λ q. noted_of q n (seen_at_home q (side V (owner_of T q)))) (take i ks) (k ∷ []) ls
      ∙ noted-one k (all_noted T V n (take i ks) ls))))

  pub noted-all : (i : ℕ) → length ks ≤ i → all_noted T V n (take i ks) ls ≡ all_noted T V n ks ls
  noted-all i all = ap (λ qs. all_noted T V n qs ls) (take_all i ks all)

-- one key more is mapped
pub map-more : {X Y : Type 0} (f : X → Y) (xs : List X) (i : ℕ) (x : X) (old new : List Y) → i < length xs → x ≡ get_or xs i x → old ≡ map f (take i xs) →
    new ≡ old ++ f x ∷ [] → new ≡ map f (take (i + 1) xs)
map-more f xs i x old new within at so_far is =
    is
    ∙ (ap (λ ys. ys ++ f x ∷ []) so_far
    ∙ sym (ap (map f) (take_more xs i x within ∙ ap (λ y. take i xs ++ y ∷ []) (sym at)) ∙ map-append f (take i xs) (x ∷ [])))

-- one key more with its job, if it is marked
pub marked-more : (T : Setup) (V : World) (ks : List KeyName) (i : ℕ) (k : KeyName) (first old new : List (KeyName × ℕ)) → i < length ks → k ≡ get_or ks i k →
    old ≡ first ++ flat_map (marking T V) (take i ks) → new ≡ old ++ marking T V k → new ≡ first ++ flat_map (marking T V) (take (i + 1) ks)
marked-more T V ks i k first old new within at so_far is =
    is
    ∙ (ap (λ xs. xs ++ marking T V k) so_far
    ∙ (append_assoc first (flat_map (marking T V) (take i ks)) (marking T V k)
    ∙ sym (ap (λ xs. first ++ xs) (ap (flat_map (marking T V)) (take_more ks i k within ∙ ap (λ x. take i ks ++ x ∷ []) (sym at))
    ∙ (flat_map-append (marking T V) (take i ks) (k ∷ []) ∙ ap (λ xs. flat_map (marking T V) (take i ks) ++ xs) (append-nil (marking T V k)))))))
