-- Walking the region of a root: what is marked and listed in each turn.
use Rattle.std.proofs.Common.{◌≡◌, ℕ, ◌+◌, ◌<◌, ◌≤◌, Bool, true, false, not, ◌&&◌, ◌||◌, List, [], ◌∷◌, ◌++◌, length, take, get_or, Option, Some, None, is_none}
use Rattle.std.proofs.Common.{refl, sym, ◌∙◌, ap, subst, inl, inr, arith, append_assoc, append-nil, length-append}
use Rattle.std.specs.List.{Contains, flat_map}
use Rattle.std.specs.Option.{option_map, option_map_or}
use Rattle.std.proofs.lemmas.Bool.{cases_Bool, cond-true, cond-false, or_cases, or_left, or_right, false≢true, true≢false, and_parts, and_from, not-true}
use Rattle.std.proofs.lemmas.Bool.{not_from_false, false_from_ne_true, true_from_ne_false}
use Rattle.std.proofs.lemmas.List.{take_all, take_more, take-append-le, get_or-take, length-take-le}
use Rattle.std.proofs.lemmas.Grind.{flat_map-append}
use Rattle.sem_key.specs.KeyName.{KeyName, key_eq}
use Rattle.sem_key.specs.KeyList.{IsRising}
use Rattle.sem_key.specs.Capability.{Capability}
use Rattle.sem_key.specs.CapList.{cap_of, marked, keys_of, link_count}
use Rattle.sem_key.specs.Lists.{in_turn}
use Rattle.sem_key.specs.Region.{has_key, Reached, region}
use Rattle.sem_key.specs.Region.Reached.{at_root, by_link}
use Rattle.sem_key.proofs.Members.{Contains-cons_cases, Contains-nil}
use Rattle.sem_key.proofs.KeyTests.{key_eq-true, key_eq-same, has_key-from_Contains}
use Rattle.sem_key.proofs.Regions.{region-exact}
use Rattle.sem_mark.specs.Walks.{is_unmarked_at, children_at, Walk, reach, IsWalk}
use Rattle.sem_mark.proofs.SortedKeys.{AllPairs-append}
use Rattle.sem_mark.proofs.LinkRooms.{children-few}
use Rattle.sem_mark.proofs.Marks.{has_key-append, mark_if, cap_of-marked, is_open-marked, marked-more, none_marked, children-marked}

none_from : {X : Type 0} (o : Option X) → is_none o ≡ true → o ≡ None
none_from None h = refl
none_from (Some x) h = absurd (false≢true h)

same_tests : (a b : Bool) → (a ≡ true → b ≡ true) → (b ≡ true → a ≡ true) → a ≡ b
same_tests true b to from = sym (to refl)
same_tests false true to from = from refl
same_tests false false to from = refl

-- an open child of what is reached is reached
child_reached : (caps : List Capability) (root p k : KeyName) → Reached caps root p → has_key (children_at caps p) k ≡ true → is_unmarked_at caps k ≡ true →
    Reached caps root k
child_reached caps root p k reached child open' = from (cap_of caps p) refl child
  where
    from : (o : Option Capability) → cap_of caps p ≡ o → has_key (option_map_or (λ (c : Capability). c.children) o []) k ≡ true → Reached caps root k
    from None none child = absurd (false≢true child)
    from (Some c) some child = from_k (cap_of caps k) refl open'
      where
        from_k : (o : Option Capability) → cap_of caps k ≡ o → option_map_or (λ (d : Capability). is_none d.mark) o false ≡ true → Reached caps root k
        from_k None none open' = absurd (false≢true open')
        from_k (Some d) held open' = by_link p k c d reached some child held (none_from d.mark open')

pub children-reach : (j : ℕ) (k p : KeyName) (w : Walk) → children_at (reach j k w).caps p ≡ children_at w.caps p
children-reach j k p w = elim (cases_Bool (is_unmarked_at w.caps k)) [
  | inl e ↦ ap (λ (x : Walk). children_at x.caps p) (cond-true (is_unmarked_at w.caps k) _ w e) ∙ children-marked w.caps k p j
  | inr e ↦ ap (λ (x : Walk). children_at x.caps p) (cond-false (is_unmarked_at w.caps k) _ w e)
]

-- Turns.

pub reach-open : (j : ℕ) (k : KeyName) (w : Walk) → is_unmarked_at w.caps k ≡ true → reach j k w ≡ record { caps = marked w.caps k j; keys = w.keys ++ k ∷ [] }
reach-open j k w e = cond-true (is_unmarked_at w.caps k) _ _ e

pub reach-closed : (j : ℕ) (k : KeyName) (w : Walk) → is_unmarked_at w.caps k ≡ false → reach j k w ≡ w
reach-closed j k w e = cond-false (is_unmarked_at w.caps k) _ _ e

one_key : (k q : KeyName) → has_key (k ∷ []) q ≡ true → q ≡ k
one_key k q has = key_eq-true q k (drop_false (key_eq q k) has)
  where
    drop_false : (t : Bool) → (t || false) ≡ true → t ≡ true
    drop_false true h = refl
    drop_false false h = h

in_front : (ks more : List KeyName) (q : KeyName) → has_key ks q ≡ true → has_key (ks ++ more) q ≡ true
in_front ks more q has = has_key-append ks more q ∙ or_left (has_key ks q) (has_key more q) has

at_end : (ks : List KeyName) (k : KeyName) → has_key (ks ++ k ∷ []) k ≡ true
at_end ks k = has_key-append ks (k ∷ []) k ∙ or_right (has_key ks k) (has_key (k ∷ []) k) (or_left (key_eq k k) false (key_eq-same k))

-- the keys with more at the end
abbrev IsLonger : List KeyName → List KeyName → Type 0
IsLonger ks qs = (more : List KeyName) × (qs ≡ ks ++ more)

longer-has : (ks qs : List KeyName) → IsLonger ks qs → (q : KeyName) → has_key ks q ≡ true → has_key qs q ≡ true
longer-has ks qs (more, is) q has = rw is (in_front ks more q has)

longer-take : (ks qs : List KeyName) → IsLonger ks qs → (n : ℕ) → n ≤ length ks → take n qs ≡ take n ks
longer-take ks qs (more, is) n few = rw is (take-append-le n ks more few)

reach-longer : (j : ℕ) (k : KeyName) (w : Walk) → IsLonger w.keys (reach j k w).keys
reach-longer j k w = elim (cases_Bool (is_unmarked_at w.caps k)) [
  | inl e ↦ (k ∷ [], ap (λ (x : Walk). x.keys) (reach-open j k w e))
  | inr e ↦ ([], ap (λ (x : Walk). x.keys) (reach-closed j k w e) ∙ sym (append-nil w.keys))
]

all-longer : (j : ℕ) (ks : List KeyName) (w : Walk) → IsLonger w.keys (in_turn (reach j) ks w).keys
unfolding in_turn
all-longer j [] w = ([], sym (append-nil w.keys))
all-longer j (k ∷ ks) w =
    let one = reach-longer j k w in
    let rest = all-longer j ks (reach j k w) in
    (one.0 ++ rest.0, rest.1 ∙ (ap (λ qs. qs ++ rest.0) one.1 ∙ append_assoc w.keys one.0 rest.0))

-- no key is lost
pub all-length : (j : ℕ) (ks : List KeyName) (w : Walk) → length w.keys ≤ length (in_turn (reach j) ks w).keys
all-length j ks w = let longer = all-longer j ks w in omega (arith, ap length longer.1, length-append w.keys longer.0)

module _ (caps : List Capability) (root : KeyName) (j : ℕ) where
  -- what is open now was open, and is not listed
  was_open : (w : Walk) (done : ℕ) (k : KeyName) → IsWalk caps root j w done → is_unmarked_at w.caps k ≡ (is_unmarked_at caps k && not (has_key w.keys k))
  was_open w done k walk = ap (λ cs. is_unmarked_at cs k) walk.marked ∙ is_open-marked caps w.keys j k

  -- one more key is reached
  pub IsWalk-reach : (w : Walk) (done : ℕ) (k : KeyName) → (is_unmarked_at caps k ≡ true → Reached caps root k) → done ≤ length w.keys → IsWalk caps root j w done →
      IsWalk caps root j (reach j k w) done
  IsWalk-reach w done k reachable early walk = elim (cases_Bool (is_unmarked_at w.caps k)) [
    | inr e ↦ rw (reach-closed j k w e) walk
    | inl e ↦ rw (reach-open j k w e) (record {
      marked = ap (λ cs. marked cs k j) walk.marked ∙ marked-more caps w.keys j k;
      reached = λ q has. elim (or_cases (has_key w.keys q) (has_key (k ∷ []) q) (sym (has_key-append w.keys (k ∷ []) q) ∙ has)) [
        | inl before ↦ walk.reached q before
        | inr here ↦ subst (Reached caps root) (sym (one_key k q here))
            (reachable ((and_parts (is_unmarked_at caps k) (not (has_key w.keys k)) (sym (was_open w done k walk) ∙ e)).0))
      ];
      spread = AllPairs-append (λ a b. key_eq a b ≡ false) w.keys (k ∷ []) walk.spread (λ i j d lt within. absurd (omega arith))
          (apart (not-true (has_key w.keys k) ((and_parts (is_unmarked_at caps k) (not (has_key w.keys k)) (sym (was_open w done k walk) ∙ e)).1)));
      rooted = λ open'. in_front w.keys (k ∷ []) root (walk.rooted open');
      closed = λ p q listed child open'. in_front w.keys (k ∷ []) q
          (walk.closed p q (rw (longer-take w.keys (w.keys ++ k ∷ []) (k ∷ [], refl) done early) at listed) child open');
    })
  ]
    where
      -- no listed key is one that is not listed
      apart : has_key w.keys k ≡ false → (x y : KeyName) → Contains w.keys x → Contains (k ∷ []) y → key_eq x y ≡ false
      apart absent x y there one =
          false_from_ne_true (key_eq x y)
          (λ same. true≢false (sym (has_key-from_Contains w.keys k (subst (Contains w.keys) (key_eq-true x y same ∙ last y one) there)) ∙ absent))
        where
          last : (y : KeyName) → Contains (k ∷ []) y → y ≡ k
          last y one = elim (Contains-cons_cases k [] y one) [
            | inl same ↦ sym same
            | inr none ↦ absurd (Contains-nil y none)
          ]

  -- and is listed, if it was open
  listed : (w : Walk) (done : ℕ) (k : KeyName) → IsWalk caps root j w done → is_unmarked_at caps k ≡ true → has_key (reach j k w).keys k ≡ true
  listed w done k walk open' = elim (cases_Bool (is_unmarked_at w.caps k)) [
    | inl e ↦ rw (reach-open j k w e) (at_end w.keys k)
    | inr e ↦ rw (reach-closed j k w e)
        (true_from_ne_false (has_key w.keys k)
        (λ absent. true≢false (sym (and_from (is_unmarked_at caps k) (not (has_key w.keys k)) open' (not_from_false (has_key w.keys k) absent))
        ∙ (sym (was_open w done k walk) ∙ e))))
  ]

  -- the walk at its beginning
  pub IsWalk-start : IsWalk caps root j (reach j root (record { caps = caps; keys = [] })) 0
  IsWalk-start = elim (cases_Bool (is_unmarked_at caps root)) [
    | inl e ↦ rw (reach-open j root (record { caps = caps; keys = [] }) e) (record {
      marked = ap (λ cs. marked cs root j) (none_marked caps j) ∙ marked-more caps [] j root;
      reached = λ q has. subst (Reached caps root) (sym (one_key root q has)) (root_reached (cap_of caps root) refl e);
      spread = λ i j d lt within. absurd (omega arith);
      rooted = λ open'. at_end [] root;
      closed = λ p q none child open'. absurd (false≢true none);
    })
    | inr e ↦ rw (reach-closed j root (record { caps = caps; keys = [] }) e) (record {
      marked = none_marked caps j;
      reached = λ q none. absurd (false≢true none);
      spread = λ i j d lt within. absurd (omega arith);
      rooted = λ open'. absurd (true≢false (sym open' ∙ e));
      closed = λ p q none child open'. absurd (false≢true none);
    })
  ]
    where
      root_reached : (o : Option Capability) → cap_of caps root ≡ o → option_map_or (λ (c : Capability). is_none c.mark) o false ≡ true → Reached caps root root
      root_reached None none open' = absurd (false≢true open')
      root_reached (Some c) some open' = at_root c some (none_from c.mark open')

  all-reach : (w : Walk) (done : ℕ) (ks : List KeyName) → ((k : KeyName) → has_key ks k ≡ true → is_unmarked_at caps k ≡ true → Reached caps root k) →
      done ≤ length w.keys → IsWalk caps root j w done → record {
        walk : IsWalk caps root j (in_turn (reach j) ks w) done;
        listed : (k : KeyName) →
            has_key ks k ≡ true → is_unmarked_at caps k ≡ true → has_key (in_turn (reach j) ks w).keys k ≡ true;
      }
  unfolding in_turn
  all-reach w done [] reachable early walk = record { walk = walk; listed = λ k none open'. absurd (false≢true none) }
  all-reach w done (k ∷ ks) reachable early walk =
      let w' = reach j k w in
      let longer = reach-longer j k w in
      let first = IsWalk-reach w done k (reachable k (or_left (key_eq k k) (has_key ks k) (key_eq-same k))) early walk in
      let rest = all-reach w' done ks (λ q has. reachable q (or_right (key_eq q k) (has_key ks q) has))
      (omega (arith, ap length longer.1, length-append w.keys longer.0)) first in
      record {
        walk = rest.walk;
        listed = λ q has open'. elim (or_cases (key_eq q k) (has_key ks q) has) [
          | inl here ↦ let same : q ≡ k = key_eq-true q k here in
              longer-has w'.keys (in_turn (reach j) ks w').keys (all-longer j ks w') q (rw same (listed w done k walk (rw same at open')))
          | inr later ↦ rest.listed q later open'
        ];
      }

  -- a walk leaves the children
  pub children-walk : (w : Walk) (done : ℕ) (p : KeyName) → IsWalk caps root j w done → children_at w.caps p ≡ children_at caps p
  children-walk w done p walk = ap (λ cs. children_at cs p) walk.marked
      ∙ (ap (λ o. option_map_or (λ (c : Capability). c.children) o []) (cap_of-marked caps w.keys j p) ∙ from (cap_of caps p))
    where
      from : (o : Option Capability) → option_map_or (λ (c : Capability). c.children) (option_map (λ (c : Capability). mark_if (has_key w.keys c.key) j c) o) []
          ≡ option_map_or (λ (c : Capability). c.children) o []
      from None = refl
      from (Some c) = keeps (has_key w.keys c.key)
        where
          keeps : (t : Bool) → (mark_if t j c).children ≡ c.children
          keeps true = refl
          keeps false = refl

  -- the children of the first keys, and of one more
  pub links-more : (w : Walk) (done : ℕ) (p : KeyName) → done < length w.keys → get_or w.keys done p ≡ p → IsWalk caps root j w done →
      flat_map (children_at caps) (take (done + 1) (in_turn (reach j) (children_at w.caps p) w).keys) ≡ flat_map (children_at caps) (take done w.keys)
      ++ children_at w.caps p
  links-more w done p within here walk =
      ap (flat_map (children_at caps)) (longer-take w.keys (in_turn (reach j) (children_at w.caps p) w).keys (all-longer j (children_at w.caps p) w) (done + 1)
      (omega arith) ∙ (take_more w.keys done p within ∙ ap (λ x. take done w.keys ++ x ∷ []) here))
      ∙ (flat_map-append (children_at caps) (take done w.keys) (p ∷ [])
      ∙ ap (λ ks. flat_map (children_at caps) (take done w.keys) ++ ks) (append-nil (children_at caps p) ∙ sym (children-walk w done p walk)))

  -- there is room for the children of the next key
  pub link_room-next : (w : Walk) (done room : ℕ) (p : KeyName) → done < length w.keys → get_or w.keys done p ≡ p → IsWalk caps root j w done →
      link_count caps ≤ room → length (flat_map (children_at caps) (take done w.keys)) + length (children_at w.caps p) ≤ room
  link_room-next w done room p within here walk fits =
      let whole = children-few caps (take (done + 1) w.keys) (λ i m d lt in_range. let few : length (take (done + 1) w.keys) ≡ done + 1 =
      length-take-le (done + 1) w.keys (omega arith) in
      rw (get_or-take (done + 1) w.keys i d (omega arith), get_or-take (done + 1) w.keys m d (omega arith)) (walk.spread i m d lt (omega arith))) in
      let parts : flat_map (children_at caps) (take (done + 1) w.keys) ≡ flat_map (children_at caps) (take done w.keys) ++ children_at w.caps p =
      ap (flat_map (children_at caps)) (take_more w.keys done p within ∙ ap (λ x. take done w.keys ++ x ∷ []) here)
      ∙ (flat_map-append (children_at caps) (take done w.keys) (p ∷ [])
      ∙ ap (λ ks. flat_map (children_at caps) (take done w.keys) ++ ks) (append-nil (children_at caps p) ∙ sym (children-walk w done p walk))) in
      omega (arith, whole, fits, ap length parts, length-append (flat_map (children_at caps) (take done w.keys)) (children_at w.caps p))

  -- all children of the next key are reached
  pub IsWalk-next : (w : Walk) (done : ℕ) (p : KeyName) → done < length w.keys → get_or w.keys done p ≡ p → IsWalk caps root j w done →
      IsWalk caps root j (in_turn (reach j) (children_at w.caps p) w) (done + 1)
  IsWalk-next w done p within here walk = record {
    marked = all.walk.marked;
    reached = all.walk.reached;
    spread = all.walk.spread;
    rooted = all.walk.rooted;
    closed = λ q k has child open'. elim (or_cases (has_key (take done w.keys) q) (has_key (p ∷ []) q) (sym (has_key-append (take done w.keys) (p ∷ []) q)
        ∙ (ap (λ ks. has_key ks q) (sym taken) ∙ has))) [
          | inl before ↦ longer-has w.keys w'.keys longer k (walk.closed q k before child open')
          | inr same ↦ all.listed k (rw (same_children, ← one_key p q same) child) open'
        ];
  }
    where
      w' : Walk
      w' = in_turn (reach j) (children_at w.caps p) w

      same_children : children_at w.caps p ≡ children_at caps p
      same_children = ap (λ cs. children_at cs p) walk.marked ∙ (ap (λ o. option_map_or (λ (c : Capability). c.children) o []) (cap_of-marked caps w.keys j p)
          ∙ from (cap_of caps p))
        where
          from : (o : Option Capability) →
              option_map_or (λ (c : Capability). c.children) (option_map (λ (c : Capability). mark_if (has_key w.keys c.key) j c) o) []
              ≡ option_map_or (λ (c : Capability). c.children) o []
          from None = refl
          from (Some c) = keeps (has_key w.keys c.key)
            where
              keeps : (t : Bool) → (mark_if t j c).children ≡ c.children
              keeps true = refl
              keeps false = refl

      longer : IsLonger w.keys w'.keys
      longer = all-longer j (children_at w.caps p) w

      taken : take (done + 1) w'.keys ≡ take done w.keys ++ p ∷ []
      taken = longer-take w.keys w'.keys longer (done + 1) (omega arith) ∙ (take_more w.keys done p within ∙ ap (λ x. take done w.keys ++ x ∷ []) here)

      listed_p : has_key w.keys p ≡ true
      listed_p = has_key-from_Contains w.keys p (done, within, here)

      all : record {
        walk : IsWalk caps root j w' done;
        listed : (k : KeyName) → has_key (children_at w.caps p) k ≡ true → is_unmarked_at caps k ≡ true →
            has_key w'.keys k ≡ true;
      }
      all = all-reach w done (children_at w.caps p) (λ k child open'. child_reached caps root p k (walk.reached p listed_p) (rw same_children at child) open')
          (omega arith) walk

  complete : (w : Walk) (done : ℕ) → length w.keys ≤ done → IsWalk caps root j w done → (k : KeyName) → Reached caps root k → has_key w.keys k ≡ true
  complete w done all walk _ (at_root c held unmarked) = walk.rooted (rw (held, unmarked) refl)
  complete w done all walk _ (by_link p k c d from held_p child held unmarked) =
      let listed_p = complete w done all walk p from in
      walk.closed p k (rw (take_all done w.keys all) listed_p) (rw held_p child) (rw (held, unmarked) refl)

  -- at the end the keys are those of the region
  pub IsWalk-end : (w : Walk) (done : ℕ) → IsRising (keys_of caps) → length w.keys ≤ done → IsWalk caps root j w done → (k : KeyName) →
      has_key w.keys k ≡ has_key (region caps root) k
  IsWalk-end w done rises all walk k =
      let exact = region-exact caps root k rises in
      same_tests (has_key w.keys k) (has_key (region caps root) k) (λ has. exact.1 (walk.reached k has)) (λ has. complete w done all walk k (exact.0 has))
