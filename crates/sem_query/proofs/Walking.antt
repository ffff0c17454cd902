-- A walk from roots by child links through unmarked capabilities.
use Rattle.std.proofs.Common.{◌≡◌, ℕ, ◌+◌, ◌<◌, ◌≤◌, Bool, true, false, not, ◌||◌, List, [], ◌∷◌, ◌++◌, length, take, get_or, Option, Some, None, is_none, refl}
use Rattle.std.proofs.Common.{sym, ap, ◌∙◌, subst, inl, inr, arith, append_assoc, append-nil, length-append}
use Rattle.std.specs.Prelude.{nat_eq, if◌then◌else◌}
use Rattle.std.specs.List.{Contains, filter, list_any}
use Rattle.std.specs.Option.{option_map_or}
use Rattle.std.specs.HashSet.{HashSet}
use Rattle.std.proofs.lemmas.Bool.{cases_Bool, cond-true, cond-false, or_left, true≢false, false≢true, not-true, not_from_false}
use Rattle.std.proofs.lemmas.List.{take_more, take_all, take-append-le}
use Rattle.std.proofs.lemmas.List.Elements.{Contains-append_left, Contains-append_right, Contains-append_cases, Contains-push, Contains-push_cases}
use Rattle.sem_key.specs.KeyName.{KeyName, key_eq}
use Rattle.sem_key.specs.Capability.{Capability}
use Rattle.sem_key.specs.CapList.{cap_of}
use Rattle.sem_key.specs.Region.{has_key, Reached}
use Rattle.sem_key.specs.Region.Reached.{at_root, by_link}
use Rattle.sem_key.proofs.KeyTests.{key_eq-true, has_key-from_Contains, Contains-from_has_key}
use Rattle.sem_key.proofs.Members.{found, Contains-nil, Contains-cons_cases, Contains-head}
use Rattle.sem_mark.specs.Walks.{is_unmarked_at, children_at}
use Rattle.sem_mark.proofs.Marks.{has_key-append}
use Rattle.sem_query.specs.Reaching.{IsReachedFrom, AreReached, Lists, has_word, HasWords}

-- How many pass a test.

filter-cons : (p : Capability → Bool) (c : Capability) (cs : List Capability) (t : Bool) → p c ≡ t →
    length (filter p (c ∷ cs)) ≡ (if t then length (filter p cs) + 1 else length (filter p cs))
filter-cons p c cs true is = ap length (cond-true (p c) (c ∷ filter p cs) (filter p cs) is) ∙ omega arith
filter-cons p c cs false is = ap length (cond-false (p c) (c ∷ filter p cs) (filter p cs) is)

module _ (p q : Capability → Bool) (sub : (c : Capability) → q c ≡ true → p c ≡ true) where
  filter-less : (cs : List Capability) → length (filter q cs) ≤ length (filter p cs)
  filter-less [] = omega arith
  filter-less (c ∷ cs) = by (p c) (q c) refl refl (filter-less cs)
    where
      by : (t u : Bool) → p c ≡ t → q c ≡ u → length (filter q cs) ≤ length (filter p cs) → length (filter q (c ∷ cs)) ≤ length (filter p (c ∷ cs))
      by true true pass passes rest = let x = filter-cons p c cs true pass in let y = filter-cons q c cs true passes in omega (arith, rest, x, y)
      by true false pass fails rest = let x = filter-cons p c cs true pass in let y = filter-cons q c cs false fails in omega (arith, rest, x, y)
      by false true fail passes rest = absurd (false≢true (sym fail ∙ sub c passes))
      by false false fail fails rest = let x = filter-cons p c cs false fail in let y = filter-cons q c cs false fails in omega (arith, rest, x, y)

  -- one passes the one test, and not the other
  filter-fewer : (cs : List Capability) (x : Capability) → Contains cs x → p x ≡ true → q x ≡ false → length (filter q cs) + 1 ≤ length (filter p cs)
  filter-fewer [] x among pass fails = absurd (Contains-nil x among)
  filter-fewer (c ∷ cs) x among pass fails = elim (Contains-cons_cases c cs x among) [
    | inl same ↦
        let one = filter-cons p c cs true (ap p same ∙ pass) in
        let other = filter-cons q c cs false (ap q same ∙ fails) in
        let rest = filter-less cs in
        omega (arith, one, other, rest)
    | inr later ↦ by (p c) (q c) refl refl (filter-fewer cs x later pass fails)
  ]
    where
      by : (t u : Bool) → p c ≡ t → q c ≡ u → length (filter q cs) + 1 ≤ length (filter p cs) → length (filter q (c ∷ cs)) + 1 ≤ length (filter p (c ∷ cs))
      by true true is are rest = let a = filter-cons p c cs true is in let b = filter-cons q c cs true are in omega (arith, rest, a, b)
      by true false is are rest = let a = filter-cons p c cs true is in let b = filter-cons q c cs false are in omega (arith, rest, a, b)
      by false true is are rest = absurd (false≢true (sym is ∙ sub c are))
      by false false is are rest = let a = filter-cons p c cs false is in let b = filter-cons q c cs false are in omega (arith, rest, a, b)

-- Keys that are listed.
module _ (caps : List Capability) where
  -- what is open is held
  open-held : (k : KeyName) → is_unmarked_at caps k ≡ true → (c : Capability) × (cap_of caps k ≡ Some c) × (c.mark ≡ None)
  open-held k is = by (cap_of caps k) refl is
    where
      none : (m : Option ℕ) → is_none m ≡ true → m ≡ None
      none None _ = refl
      none (Some j) wrong = absurd cc

      by : (o : Option Capability) → cap_of caps k ≡ o → option_map_or (λ (c : Capability). is_none c.mark) o false ≡ true →
          (c : Capability) × (cap_of caps k ≡ Some c) × (c.mark ≡ None)
      by None held wrong = absurd cc
      by (Some c) held unmarked = (c, held, none c.mark unmarked)

  pub lists-none : (ks : List KeyName) → Lists caps [] ks ks
  lists-none ks = record {
    behind = ([], sym (append-nil ks));
    only = λ k among. inl among;
    all = λ k none open'. absurd (Contains-nil k none);
    room = omega arith;
  }

  -- some keys, and then others
  lists-both : (ps qs old mid new : List KeyName) → Lists caps ps old mid → Lists caps qs mid new → Lists caps (ps ++ qs) old new
  lists-both ps qs old mid new one two = record {
    behind = (one.behind.0 ++ two.behind.0, two.behind.1 ∙ (ap (λ ks. ks ++ two.behind.0) one.behind.1 ∙ append_assoc old one.behind.0 two.behind.0));
    only = λ k among. elim (two.only k among) [
      | inr (there, open') ↦ inr (right k there, open')
      | inl before ↦ elim (one.only k before) [ inl first ↦ inl first | inr (there, open') ↦ inr (Contains-append_left ps qs k there, open') ]
    ];
    all = λ k among open'. elim (Contains-append_cases ps qs k among) [
      | inl first ↦ subst (λ ks. Contains ks k) (sym two.behind.1) (Contains-append_left mid two.behind.0 k (one.all k first open'))
      | inr second ↦ two.all k second open'
    ];
    room = let a = one.room in let b = two.room in omega (arith, a, b);
  }
    where
      right : (k : KeyName) → Contains qs k → Contains (ps ++ qs) k
      right k there = Contains-append_right ps qs k there

  -- one key more
  pub lists-more : (qs : List KeyName) (i : ℕ) (q : KeyName) (old mid new : List KeyName) → i < length qs → q ≡ get_or qs i q → Lists caps (take i qs) old mid →
      Lists caps (q ∷ []) mid new → Lists caps (take (i + 1) qs) old new
  lists-more qs i q old mid new within at so_far one =
      subst (λ xs. Lists caps xs old new) (sym (take_more qs i q within ∙ ap (λ x. take i qs ++ x ∷ []) (sym at)))
      (lists-both (take i qs) (q ∷ []) old mid new so_far one)

  pub lists-all : (qs : List KeyName) (i : ℕ) (old new : List KeyName) → length qs ≤ i → Lists caps (take i qs) old new → Lists caps qs old new
  lists-all qs i old new all = subst (λ xs. Lists caps xs old new) (take_all i qs all)

  only-key : (q k : KeyName) → Contains (q ∷ []) k → q ≡ k
  only-key q k among = elim (Contains-cons_cases q [] k among) [ inl same ↦ same | inr none ↦ absurd (Contains-nil k none) ]

  -- a key that is not open, or is listed
  pub lists-no : (q : KeyName) (ks : List KeyName) → (is_unmarked_at caps q ≡ true → Contains ks q) → Lists caps (q ∷ []) ks ks
  lists-no q ks there = record {
    behind = ([], sym (append-nil ks));
    only = λ k among. inl among;
    all = λ k among open'. (let same = only-key q k among in subst (Contains ks) same (there (subst (λ x. is_unmarked_at caps x ≡ true) (sym same) open')));
    room = omega arith;
  }

  -- one that is open, and not listed
  pub lists-push : (q : KeyName) (ks : List KeyName) → is_unmarked_at caps q ≡ true → has_key ks q ≡ false → Lists caps (q ∷ []) ks (ks ++ q ∷ [])
  lists-push q ks open' absent = record {
    behind = (q ∷ [], refl);
    only = λ k among. elim (Contains-push_cases ks q k among) [
      | inl before ↦ inl before
      | inr same ↦ inr (subst (Contains (q ∷ [])) same (Contains-head q []), subst (λ x. is_unmarked_at caps x ≡ true) same open')
    ];
    all = λ k among is. subst (Contains (ks ++ q ∷ [])) (only-key q k among) (Contains-push ks q);
    room =
        let long = length-append ks (q ∷ []) in
        let fewer = filter-fewer (λ (c : Capability). not (has_key ks c.key)) (λ (c : Capability). not (has_key (ks ++ q ∷ []) c.key)) rest caps c.0 of_c.0
        (not_from_false (has_key ks c.0.key) (ap (has_key ks) key ∙ absent)) (listed_now c.0.key key) in
        omega (arith, long, fewer);
  }
    where
      c : (c : Capability) × (cap_of caps q ≡ Some c) × (c.mark ≡ None)
      c = open-held q open'

      of_c : Contains caps c.0 × (key_eq c.0.key q ≡ true)
      of_c = found (λ (x : Capability). key_eq x.key q) caps c.0 c.1

      key : c.0.key ≡ q
      key = key_eq-true c.0.key q of_c.1

      listed_now : (k : KeyName) → k ≡ q → not (has_key (ks ++ q ∷ []) k) ≡ false
      listed_now k same = ap not (has_key-from_Contains (ks ++ q ∷ []) k (subst (Contains (ks ++ q ∷ [])) (sym same) (Contains-push ks q)))

      rest : (x : Capability) → not (has_key (ks ++ q ∷ []) x.key) ≡ true → not (has_key ks x.key) ≡ true
      rest x off = not_from_false (has_key ks x.key) (elim (cases_Bool (has_key ks x.key)) [
        | inl on ↦ absurd (true≢false (sym (has_key-append ks (q ∷ []) x.key ∙ or_left (has_key ks x.key) (has_key (q ∷ []) x.key) on)
            ∙ not-true (has_key (ks ++ q ∷ []) x.key) off))
        | inr off' ↦ off'
      ])

  -- The walk.

  -- the roots are listed, and the children of the first keys; what is listed is reached
  pub record IsWalk (roots ks : List KeyName) (at : ℕ) : Type 0 where
    pub within : at ≤ length ks
    pub rooted : (k : KeyName) → Contains roots k → is_unmarked_at caps k ≡ true → Contains ks k
    pub only : (k : KeyName) → Contains ks k → IsReachedFrom caps roots k
    pub closed : (p k : KeyName) → Contains (take at ks) p → Contains (children_at caps p) k → is_unmarked_at caps k ≡ true → Contains ks k

  pub walk-start : (roots ks : List KeyName) → Lists caps roots [] ks → IsWalk roots ks 0
  walk-start roots ks listed = record {
    within = omega arith;
    rooted = listed.all;
    only = λ k among. elim (listed.only k among) [
      | inl none ↦ absurd (Contains-nil k none)
      | inr (root, open') ↦ (k, root, let c = open-held k open' in at_root c.0 c.1 c.2)
    ];
    closed = λ p k none child open'. absurd (Contains-nil p none);
  }

  -- a child of what is reached is reached, where it is open
  child-reached : (roots : List KeyName) (p k : KeyName) → IsReachedFrom caps roots p → Contains (children_at caps p) k → is_unmarked_at caps k ≡ true →
      IsReachedFrom caps roots k
  child-reached roots p k (a, root, reached) child open' = by (cap_of caps p) refl child
    where
      by : (o : Option Capability) → cap_of caps p ≡ o → Contains (option_map_or (λ (c : Capability). c.children) o []) k → IsReachedFrom caps roots k
      by None none child' = absurd (Contains-nil k child')
      by (Some c) held child' = let d = open-held k open' in (a, root, by_link p k c d.0 reached held (has_key-from_Contains c.children k child') d.1 d.2)

  pub walk-next : (roots ks new : List KeyName) (at : ℕ) (p : KeyName) → IsWalk roots ks at → at < length ks → p ≡ get_or ks at p →
      Lists caps (children_at caps p) ks new → IsWalk roots new (at + 1)
  walk-next roots ks new at p W below is listed = record {
    within = omega (arith, below, long);
    rooted = λ k root open'. kept k (W.rooted k root open');
    only = λ k among. elim (listed.only k among) [
      | inl before ↦ W.only k before
      | inr (child, open') ↦ child-reached roots p k (W.only p here) child open'
    ];
    closed = λ q k among child open'. elim (Contains-push_cases (take at ks) p q (subst (λ xs. Contains xs q) front among)) [
      | inl before ↦ kept k (W.closed q k before child open')
      | inr same ↦ listed.all k (subst (λ x. Contains (children_at caps x) k) (sym same) child) open'
    ];
  }
    where
      long : length ks ≤ length new
      long = let more = length-append ks listed.behind.0 in omega (arith, more, ap length listed.behind.1)

      kept : (k : KeyName) → Contains ks k → Contains new k
      kept k among = subst (λ xs. Contains xs k) (sym listed.behind.1) (Contains-append_left ks listed.behind.0 k among)

      here : Contains ks p
      here = (at, below, sym is)

      front : take (at + 1) new ≡ take at ks ++ p ∷ []
      front =
          ap (take (at + 1)) listed.behind.1
          ∙ (take-append-le (at + 1) ks listed.behind.0 (omega (arith, below))
          ∙ (take_more ks at p below ∙ ap (λ x. take at ks ++ x ∷ []) (sym is)))

  pub walk-end : (roots ks : List KeyName) (at : ℕ) → IsWalk roots ks at → length ks ≤ at → AreReached caps roots ks
  walk-end roots ks at W all k = (W.only k, λ (a, root, reached). listed a root k reached)
    where
      open-of : (q : KeyName) (c : Capability) → cap_of caps q ≡ Some c → c.mark ≡ None → is_unmarked_at caps q ≡ true
      open-of q c held unmarked = ap (λ o. option_map_or (λ (x : Capability). is_none x.mark) o false) held ∙ ap (λ m. is_none m) unmarked

      listed : (a : KeyName) → Contains roots a → (q : KeyName) → Reached caps a q → Contains ks q
      listed a root _ (at_root c held unmarked) = W.rooted a root (open-of a c held unmarked)
      listed a root _ (by_link p q c d reached held child held' unmarked) =
          W.closed p q (subst (λ xs. Contains xs p) (sym (take_all at ks all)) (listed a root p reached))
          (subst (λ o. Contains (option_map_or (λ (x : Capability). x.children) o []) q) (sym held) (Contains-from_has_key c.children q child))
          (open-of q d held' unmarked)

-- Sets of words.
module _ {S : Type 0} where
  -- of no keys
  pub words-none : (words : HashSet ℕ S) (ks : List KeyName) → words.keys ≡ [] → ks ≡ [] → HasWords words (has_key ks)
  words-none words ks empty none k valid = ap (list_any (nat_eq _)) empty ∙ sym (ap (λ xs. has_key xs k) none)

  -- of one key more
  pub words-push : (old new : HashSet ℕ S) (ks : List KeyName) (q : KeyName) → HasWords old (has_key ks) → HasWords new (λ k. has_word old k || key_eq k q) →
      HasWords new (has_key (ks ++ q ∷ []))
  words-push old new ks q so_far added k valid =
      added k valid
      ∙ (ap (λ b. b || key_eq k q) (so_far k valid)
      ∙ sym (has_key-append ks (q ∷ []) k ∙ ap (λ b. has_key ks k || b) (or-false (key_eq k q))))
    where
      or-false : (b : Bool) → (b || false) ≡ b
      or-false true = refl
      or-false false = refl
