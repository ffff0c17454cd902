-- What links count: what each change of the capabilities of a side does to a tally.
use Rattle.std.proofs.Common.{◌≡◌, ℕ, ◌+◌, ◌≤◌, ◌&&◌, Bool, true, false, not, List, [], ◌∷◌, get_or}
use Rattle.std.proofs.Common.{Option, Some, None, is_some, is_none, refl, sym, ap, ◌∙◌, inl, inr, arith}
use Rattle.std.specs.Prelude.{if◌then◌else◌}
use Rattle.std.specs.List.{AllPairs, sum_by, filter, flat_map, list_any}
use Rattle.std.proofs.lemmas.Bool.{cases_Bool, cond-true, cond-false, cond_both, false_from_ne_true}
use Rattle.std.proofs.lemmas.Bool.{and_parts}
use Rattle.std.proofs.lemmas.List.Sums.{sum_by-cons, sum_by-append}
use Rattle.sem_key.specs.declared.object.Object.{Object}
use Rattle.sem_key.specs.KeyName.{KeyName, key_eq, key_lt, packed}
use Rattle.sem_key.specs.KeyList.{with_key, without_key, key_set}
use Rattle.sem_key.specs.Lists.{change, in_turn}
use Rattle.sem_key.specs.Capability.{Capability}
use Rattle.sem_key.specs.CapList.{fresh, with_mark, is_marked_by, restored}
use Rattle.sem_key.specs.Region.{has_key, linked_from, all_marked}
use Rattle.sem_key.proofs.KeyTests.{key_eq-true, key_eq-from}
use Rattle.sem_msg.specs.Setup.{Setup}
use Rattle.sem_machine.specs.Sides.{Side, cap_added, linked, unlinked}
use Rattle.sem_machine.proofs.Lengths.{apart-lighter, below-not_above}
use Rattle.sem_machine.proofs.Weighing.{change-once, change-less, weigh-parts, weigh-filter, weigh-none}
use Rattle.sem_safety.specs.Observations.{AreDistinct}
use Rattle.sem_messages.proofs.Tallies.{Tally, of_cap, of_side}

-- no link counts
abbrev pub IsBare : Tally → Type 0
IsBare K = (i : ℕ) (k : KeyName) → K.leads i k ≡ 0

-- Sums over lists of keys that hold each once.
module _ (w : KeyName → ℕ) where
  with_key-heavier : (ks : List KeyName) (k : KeyName) → sum_by w (with_key ks k) ≤ sum_by w ks + w k
  with_key-heavier ks k =
      let joined = sum_by-append w (filter (λ q. key_lt q k) ks) (k ∷ filter (λ q. key_lt k q) ks) in
      let first = sum_by-cons w k (filter (λ q. key_lt k q) ks) in
      let parts = apart-lighter w (λ q. key_lt q k) (λ q. key_lt k q)
      (λ q below. below-not_above (packed q) (packed k) below) ks in
      omega (arith, joined, first, parts)

  set-heavier : (ks found : List KeyName) →
      sum_by w (in_turn (λ k list. with_key list k) ks found) ≤ sum_by w found + sum_by w ks
  unfolding in_turn
  set-heavier [] found = omega arith
  set-heavier (k ∷ ks) found =
      let rest = set-heavier ks (with_key found k) in
      let first = with_key-heavier found k in
      let all = sum_by-cons w k ks in
      omega (arith, rest, first, all)

  pub key_set-lighter : (ks : List KeyName) → sum_by w (key_set ks) ≤ sum_by w ks
  key_set-lighter ks = let all = set-heavier ks [] in omega (arith, all)

module _ (T : Setup) (K : Tally) (i : ℕ) where
  -- Where no link counts, capabilities count nothing.
  pub caps-bare : IsBare K → (cs : List Capability) → sum_by (of_cap T K i) cs ≡ 0
  caps-bare bare cs = weigh-none (of_cap T K i) cs
      (λ c among. cond_both (is_some c.mark) 0 (sum_by (K.leads i) c.children) (λ n. n ≡ 0) (λ _. refl)
      (λ _. weigh-none (K.leads i) c.children (λ k child. bare i k)))

  pub side-bare : IsBare K → (s : Side) (cs : List Capability) →
      of_side T K i (record s { caps = cs }) ≡ of_side T K i s
  side-bare bare s cs = let old = caps-bare bare s.caps in let new = caps-bare bare cs in omega (arith, old, new)

  -- a capability without children
  pub side-fresh : (s : Side) (k : KeyName) (parent : Option KeyName) (sel : ℕ) (object : Object) →
      of_side T K i (cap_added (fresh k parent sel object) s) ≡ of_side T K i s
  side-fresh s k parent sel object =
      let c : Capability = fresh k parent sel object in
      let parts = weigh-parts (of_cap T K i) (λ x. key_lt x.key c.key) s.caps in
      let joined = sum_by-append (of_cap T K i) (filter (λ x. key_lt x.key c.key) s.caps)
      (c ∷ filter (λ x. not (key_lt x.key c.key)) s.caps) in
      let first = sum_by-cons (of_cap T K i) c (filter (λ x. not (key_lt x.key c.key)) s.caps) in
      let none : of_cap T K i c ≡ 0 = refl in
      omega (arith, parts, joined, first, none)

  -- more or fewer children
  children-count : (c : Capability) (ks : List KeyName) (d : ℕ) →
      sum_by (K.leads i) ks ≤ sum_by (K.leads i) c.children + d →
      of_cap T K i (record c { children = ks }) ≤ of_cap T K i c + d
  children-count c ks d more = from (is_some c.mark) refl
    where
      from : (b : Bool) → is_some c.mark ≡ b →
          (if is_some c.mark then 0 else sum_by (K.leads i) ks) ≤ of_cap T K i c + d
      from true marked = let new = cond-true (is_some c.mark) 0 (sum_by (K.leads i) ks) marked in omega (arith, new)
      from false unmarked =
          let new = cond-false (is_some c.mark) 0 (sum_by (K.leads i) ks) unmarked in
          let old = cond-false (is_some c.mark) 0 (sum_by (K.leads i) c.children) unmarked in
          omega (arith, new, old, more)

  pub side-linked : (s : Side) (p k : KeyName) → AreDistinct s.caps →
      of_side T K i (linked p k s) ≤ of_side T K i s + K.leads i k
  side-linked s p k distinct =
      let f : Capability → Capability = λ c. record c { children = with_key c.children k } in
      let pairs : AllPairs (λ (a b : Capability). key_eq a.key p ≡ true → key_eq b.key p ≡ false) s.caps =
      λ m n d lt within here. apart (get_or s.caps m d).key (get_or s.caps n d).key (distinct m n d lt within) here in
      let caps = change-once (of_cap T K i) (λ c. key_eq c.key p) f (K.leads i k) s.caps pairs
      (λ c _. children-count c (with_key c.children k) (K.leads i k) (with_key-heavier (K.leads i) c.children k)) in
      omega (arith, caps)
    where
      apart : (a b : KeyName) → key_eq a b ≡ false → key_eq a p ≡ true → key_eq b p ≡ false
      apart a b differ here =
          false_from_ne_true (key_eq b p)
          (λ there.
          let same : key_eq a b ≡ true =
          key_eq-from a b (key_eq-true a p here ∙ sym (key_eq-true b p there)) in absurd cc)

  -- a link that counts nothing
  pub side-linked_near : (s : Side) (p k : KeyName) → K.leads i k ≡ 0 →
      of_side T K i (linked p k s) ≤ of_side T K i s
  side-linked_near s p k none =
      let caps = change-less (of_cap T K i) (λ c. key_eq c.key p)
      (λ c. record c { children = with_key c.children k }) s.caps
      (λ c. let more = children-count c (with_key c.children k) 0
      (let heavy = with_key-heavier (K.leads i) c.children k in omega (arith, heavy, none)) in
      omega (arith, more)) in
      omega (arith, caps)

  pub side-unlinked : (s : Side) (p k : KeyName) → of_side T K i (unlinked p k s) ≤ of_side T K i s
  side-unlinked s p k =
      let caps = change-less (of_cap T K i) (λ c. key_eq c.key p)
      (λ c. record c { children = without_key c.children k }) s.caps
      (λ c. let less = children-count c (without_key c.children k) 0
      (let l = weigh-filter (K.leads i) (λ q. not (key_eq q k)) c.children in omega (arith, l)) in
      omega (arith, less)) in
      omega (arith, caps)

  pub caps-removed : (j : ℕ) (cs : List Capability) →
      sum_by (of_cap T K i) (filter (λ c. not (is_marked_by j c)) cs) ≤ sum_by (of_cap T K i) cs
  caps-removed j cs = weigh-filter (of_cap T K i) (λ c. not (is_marked_by j c)) cs

  pub caps-restored : (k : KeyName) (cs : List Capability) →
      sum_by (of_cap T K i) (restored cs k) ≤ sum_by (of_cap T K i) cs
  caps-restored k cs =
      change-less (of_cap T K i) (λ c. key_eq c.key k) (λ c. record c { children = []; mark = None }) cs
      (λ c. let none : of_cap T K i (record c { children = []; mark = None }) ≡ 0 = refl in omega (arith, none))

  -- The links of a region pay for what they lead to once it is marked.
  marked-none : (j : ℕ) (c : Capability) → of_cap T K i (with_mark j c) ≡ 0
  marked-none j c = refl

  pub marks-pay : (ks : List KeyName) (j : ℕ) (cs : List Capability) →
      sum_by (of_cap T K i) (all_marked ks j cs) + sum_by (K.leads i) (linked_from cs ks) ≤ sum_by (of_cap T K i) cs
  marks-pay ks j [] = omega arith
  marks-pay ks j (c ∷ cs) =
      let rest = marks-pay ks j cs in
      let t : Capability → Bool = λ x. is_none x.mark && has_key ks x.key in
      let new = sum_by-cons (of_cap T K i) (if has_key ks c.key then with_mark j c else c)
      (change (λ x. list_any (key_eq x.key) ks) (with_mark j) cs) in
      let old = sum_by-cons (of_cap T K i) c cs in
      elim (cases_Bool (t c)) [
        | inl pass ↦
            let both = and_parts (is_none c.mark) (has_key ks c.key) pass in
            let here : of_cap T K i (if has_key ks c.key then with_mark j c else c) ≡ 0 =
            ap (of_cap T K i) (cond-true (has_key ks c.key) (with_mark j c) c both.1) in
            let unmarked : of_cap T K i c ≡ sum_by (K.leads i) c.children =
            cond-false (is_some c.mark) 0 (sum_by (K.leads i) c.children) (not-some c.mark both.0) in
            let list = ap (λ xs. sum_by (K.leads i) (flat_map (λ (x : Capability). x.children) xs))
            (cond-true (t c) (c ∷ filter t cs) (filter t cs) pass) in
            let joined = sum_by-append (K.leads i) c.children
            (flat_map (λ (x : Capability). x.children) (filter t cs)) in
            omega (arith, rest, new, old, here, unmarked, list, joined)
        | inr fail ↦
            let list = ap (λ xs. sum_by (K.leads i) (flat_map (λ (x : Capability). x.children) xs))
            (cond-false (t c) (c ∷ filter t cs) (filter t cs) fail) in
            let here : of_cap T K i (if has_key ks c.key then with_mark j c else c) ≤ of_cap T K i c =
            cond_both (has_key ks c.key) (with_mark j c) c (λ x. of_cap T K i x ≤ of_cap T K i c)
            (λ _. let none = marked-none j c in omega (arith, none)) (λ _. omega arith) in
            omega (arith, rest, new, old, here, list)
      ]
    where
      not-some : (m : Option ℕ) → is_none m ≡ true → is_some m ≡ false
      not-some None h = refl
      not-some (Some n) h = absurd cc
