-- The two claims: a selector of a client that is given to, and the numbers of a client. Where what is claimed at the start is small
-- enough, what is given finds room, and numbers are left.
use Rattle.std.proofs.Common.{◌≡◌, ℕ, zero, suc, ◌+◌, ◌≤◌, ◌<◌, Bool, true, false, List, [], ◌∷◌, drop, filter, length, get_or, Some, slice_get, refl, sym, ap}
use Rattle.std.proofs.Common.{◌∙◌, subst, inl, inr, arith, eq-eqb}
use Rattle.std.specs.Prelude.{◌==◌, if◌then◌else◌}
use Rattle.std.specs.List.{sum_by}
use Rattle.std.proofs.lemmas.Bool.{cases_eq, cond-true}
use Rattle.std.proofs.lemmas.List.Sums.{sum_by-cons}
use Rattle.std.proofs.lemmas.Option.{same_Some}
use Rattle.sem_key.specs.declared.object.Object.{Object}
use Rattle.sem_key.specs.KeyName.{KeyName}
use Rattle.sem_key.specs.Lists.{put}
use Rattle.sem_key.proofs.Puts.{get_or-put_same, get_or-put_other}
use Rattle.sem_key.specs.declared.limits.TheConstants.{NUMBERS}
use Rattle.sem_msg.specs.declared.call.Call.{Call}
use Rattle.sem_msg.specs.declared.state.Ask.{Ask}
use Rattle.sem_msg.specs.declared.state.Ask.TheVariants.{Delegate as DelegateAsk}
use Rattle.sem_msg.specs.declared.state.Slot.{Slot}
use Rattle.sem_msg.specs.declared.state.Slot.TheVariants.{Free, Held, Promised}
use Rattle.sem_msg.specs.Rows.{VpeRow}
use Rattle.sem_msg.specs.Setup.{Setup}
use Rattle.sem_msg.specs.Lookups.{calls_of}
use Rattle.sem_machine.specs.Sides.{Side, row, slot}
use Rattle.sem_machine.specs.Sound.{bit}
use Rattle.sem_machine.specs.Machine.{World, side, next_call}
use Rattle.sem_fs.specs.Service.{GIVEN, any, is_ask}
use Rattle.sem_fs.proofs.Claims.{IsClaim, of_ask}
use Rattle.sem_fs.proofs.ClaimRows.{counts-one, bit-true}
use Rattle.sem_fs.proofs.ClaimWorlds.{claimed, taken-within}

-- 1 where a selector is not free
abbrev pub used : Slot → ℕ
used Free = 0
used (Held q) = 1
used Promised = 1

used-most : (x : Slot) → used x ≤ 1
used-most Free = omega arith
used-most (Held q) = omega arith
used-most Promised = omega arith

unused-free : (x : Slot) → used x + 1 ≤ 1 → x ≡ Free
unused-free Free less = refl
unused-free (Held q) less = absurd (omega (arith, less))
unused-free Promised less = absurd (omega (arith, less))

-- the oldest ask is among what waits
oldest : (f : Ask → ℕ) (xs : List Ask) (a : Ask) → slice_get xs 0 ≡ Some a → f a ≤ sum_by f xs
oldest f [] a none = absurd cc
oldest f (x ∷ xs) a at = fits (f a) (f x) (sum_by f xs) (sum_by f (x ∷ xs)) (sym (ap f (same_Some x a at))) (sum_by-cons f x xs)
  where
    fits : (a b c d : ℕ) → a ≡ b → d ≡ b + c → a ≤ d
    fits a b c d one two = omega (arith, one, two)

-- A selector.
module _ (T : Setup) (w0 d0 : ℕ) (far : GIVEN ≤ d0) where
  abbrev pub at_room : ℕ → Bool
  at_room d = d == d0

  abbrev pub room_used : VpeRow → ℕ
  room_used r = used (get_or r.slots d0 Free)

  put-here : (r : VpeRow) (sel : ℕ) (x : Slot) → sel ≡ d0 → room_used (record r { slots = put Free r.slots sel x }) ≡ used x
  put-here r sel x same = ap used (ap (λ n. get_or (put Free r.slots sel x) n Free) (sym same) ∙ get_or-put_same Free r.slots sel x)

  put-away : (r : VpeRow) (sel : ℕ) (x : Slot) → (sel ≡ d0 → ⊥) → room_used (record r { slots = put Free r.slots sel x }) ≡ room_used r
  put-away r sel x other = ap used (get_or-put_other Free r.slots sel d0 x (λ same. other (sym same)))

  same-less : (a b c : ℕ) → a ≡ b → b ≤ c → a ≤ c
  same-less a b c same less = omega (arith, same, less)

  pub rooms : IsClaim T w0 at_room 0 room_used
  rooms = record {
    empty = refl;
    asks = λ r as'. refl;
    counts = λ r. omega arith;
    counts_ask = λ r c alive next asks. omega arith;
    draws = λ r. omega arith;
    promises = λ r sel near. same-less (room_used (record r { slots = put Free r.slots sel Promised })) (room_used r) (room_used r)
        (put-away r sel Promised (λ same. omega (arith, same, near, far))) (omega arith);
    takes = λ r sel x given. takes' r sel x;
    frees = λ r sel. frees' r sel;
    holds = λ r sel q was. holds' r sel q was;
  }
    where
      here-fits : (a u g b : ℕ) → a ≡ u → u ≤ 1 → b ≡ 1 → a + 0 ≤ g + b
      here-fits a u g b one two three = omega (arith, one, two, three)

      away-fits : (a g b : ℕ) → a ≡ g → a + 0 ≤ g + b
      away-fits a g b one = omega (arith, one)

      takes' : (r : VpeRow) (sel : ℕ) (x : Slot) → room_used (record r { slots = put Free r.slots sel x }) + 0 ≤ room_used r + bit (at_room sel)
      takes' r sel x = elim (cases_eq sel d0) [
        | inl same ↦ here-fits (room_used (record r { slots = put Free r.slots sel x })) (used x) (room_used r) (bit (sel == d0)) (put-here r sel x same)
            (used-most x)
            (bit-true (sel == d0) (eq-eqb sel d0 same))
        | inr other ↦ away-fits (room_used (record r { slots = put Free r.slots sel x })) (room_used r) (bit (sel == d0)) (put-away r sel x other)
      ]

      zero-less : (a b : ℕ) → a ≡ 0 → a ≤ b
      zero-less a b is = omega (arith, is)

      frees' : (r : VpeRow) (sel : ℕ) → room_used (record r { slots = put Free r.slots sel Free }) ≤ room_used r
      frees' r sel = elim (cases_eq sel d0) [
        | inl same ↦ zero-less (room_used (record r { slots = put Free r.slots sel Free })) (room_used r) (put-here r sel Free same)
        | inr other ↦ same-less (room_used (record r { slots = put Free r.slots sel Free })) (room_used r) (room_used r) (put-away r sel Free other)
            (omega arith)
      ]

      ones : (a b : ℕ) → a ≡ 1 → b ≡ 1 → a ≤ b
      ones a b one two = omega (arith, one, two)

      holds' : (r : VpeRow) (sel : ℕ) (q : KeyName) → get_or r.slots sel Free ≡ Promised →
          room_used (record r { slots = put Free r.slots sel (Held q) }) ≤ room_used r
      holds' r sel q was = elim (cases_eq sel d0) [
        | inl same ↦ ones (room_used (record r { slots = put Free r.slots sel (Held q) })) (room_used r) (put-here r sel (Held q) same)
            (ap used (ap (λ n. get_or r.slots n Free) (sym same) ∙ was))
        | inr other ↦ same-less (room_used (record r { slots = put Free r.slots sel (Held q) })) (room_used r) (room_used r) (put-away r sel (Held q) other)
            (omega arith)
      ]

  -- where it is claimed once, it is free when the ask to give to it is the oldest
  pub room-left : (W : World) (i : ℕ) (parent : KeyName) (object : Object) → claimed T w0 at_room 0 room_used rooms W ≤ 1
      → slice_get (row (side W i) w0).asks 0 ≡ Some (DelegateAsk parent object d0) → slot (side W i) w0 d0 ≡ Free
  room-left W i parent object once head =
      let s : Side = side W i in
      let all = taken-within T w0 at_room 0 room_used rooms W i in
      let one : of_ask T w0 at_room 0 room_used (DelegateAsk parent object d0) ≡ 1 = bit-true (d0 == d0) (eq-eqb d0 d0 refl) in
      unused-free (slot s w0 d0)
      (fits (used (slot s w0 d0)) (sum_by (of_ask T w0 at_room 0 room_used) (row s w0).asks) (of_ask T w0 at_room 0 room_used (DelegateAsk parent object d0))
      (claimed T w0 at_room 0 room_used rooms W) all once (oldest (of_ask T w0 at_room 0 room_used) (row s w0).asks (DelegateAsk parent object d0) head) one)
    where
      fits : (a b c d : ℕ) → a + b ≤ d → d ≤ 1 → c ≤ b → c ≡ 1 → a + 1 ≤ 1
      fits a b c d one two three four = omega (arith, one, two, three, four)

-- The numbers.
module _ (T : Setup) (w0 : ℕ) where
  abbrev asks_left : ℕ → ℕ
  asks_left n = length (filter is_ask (drop n (calls_of T w0)))

  abbrev pub numbers_used : VpeRow → ℕ
  numbers_used r = if r.alive then r.next_number + asks_left r.next_call else 0

  fewer-left : (cs : List Call) (n : ℕ) → length (filter is_ask (drop (suc n) cs)) ≤ length (filter is_ask (drop n cs))
  fewer-left [] zero = omega arith
  fewer-left [] (suc n) = omega arith
  fewer-left (x ∷ cs) zero = first (is_ask x) (filter is_ask cs)
    where
      first : (b : Bool) (ys : List Call) → length ys ≤ length (if b then x ∷ ys else ys)
      first true ys = omega arith
      first false ys = omega arith
  fewer-left (x ∷ cs) (suc n) = fewer-left cs n

  next-suc : (n : ℕ) → n + 1 ≡ suc n
  next-suc n = omega arith

  pub numbers : IsClaim T w0 any 1 numbers_used
  numbers = record {
    empty = refl;
    asks = λ r as'. refl;
    counts = λ r. counts' r.alive r.next_number r.next_call;
    counts_ask = λ r c alive next asks. asks' r.alive r.next_number r.next_call c alive next asks;
    draws = λ r. draws' r.alive r.next_number (asks_left r.next_call);
    promises = λ r sel near. omega arith;
    takes = λ r sel x given. more (numbers_used r) (bit true) (bit-true true refl);
    frees = λ r sel. omega arith;
    holds = λ r sel q was. omega arith;
  }
    where
      more : (a b : ℕ) → b ≡ 1 → a + 1 ≤ a + b
      more a b one = omega (arith, one)

      adds : (a b c : ℕ) → b ≤ c → a + b ≤ a + c
      adds a b c less = omega (arith, less)

      counts' : (b : Bool) (x n : ℕ) → (if b then x + asks_left (n + 1) else 0) ≤ (if b then x + asks_left n else 0)
      counts' true x n = adds x (asks_left (n + 1)) (asks_left n) (subst (λ j. asks_left j ≤ asks_left n) (sym (next-suc n)) (fewer-left (calls_of T w0) n))
      counts' false x n = omega arith

      draws' : (b : Bool) (x y : ℕ) → (if b then (x + 1) + y else 0) ≤ (if b then x + y else 0) + 1
      draws' true x y = omega arith
      draws' false x y = omega arith

      asks' : (b : Bool) (x n : ℕ) (c : Call) → b ≡ true → slice_get (calls_of T w0) n ≡ Some c → is_ask c ≡ true
          → (if b then x + asks_left (n + 1) else 0) + 1 ≤ (if b then x + asks_left n else 0)
      asks' true x n c alive next asks = fits x (asks_left (n + 1)) (asks_left (suc n)) (bit (is_ask c)) (asks_left n) (ap asks_left (next-suc n))
          (bit-true (is_ask c) asks) (counts-one is_ask (calls_of T w0) n c next)
        where
          fits : (x a a' b d : ℕ) → a ≡ a' → b ≡ 1 → a' + b ≡ d → (x + a) + 1 ≤ x + d
          fits x a a' b d one two three = omega (arith, one, two, three)
      asks' false x n c dead next asks = absurd cc

  -- where no more are claimed than there are, one is left for what is given
  pub number-left : (W : World) (i : ℕ) (parent : KeyName) (object : Object) (sel : ℕ) → (row (side W i) w0).alive ≡ true
      → claimed T w0 any 1 numbers_used numbers W ≤ NUMBERS → slice_get (row (side W i) w0).asks 0 ≡ Some (DelegateAsk parent object sel)
      → (row (side W i) w0).next_number < NUMBERS
  number-left W i parent object sel alive few head =
      let s : Side = side W i in
      fits (row s w0).next_number (asks_left (row s w0).next_call) (numbers_used (row s w0)) (sum_by (of_ask T w0 any 1 numbers_used) (row s w0).asks)
      (bit true)
      (claimed T w0 any 1 numbers_used numbers W) (taken-within T w0 any 1 numbers_used numbers W i) few
      (oldest (of_ask T w0 any 1 numbers_used) (row s w0).asks (DelegateAsk parent object sel) head) (bit-true true refl)
      (cond-true (row s w0).alive ((row s w0).next_number + asks_left (row s w0).next_call) 0 alive)
    where
      fits : (n l h b c d : ℕ) → h + b ≤ d → d ≤ NUMBERS → c ≤ b → c ≡ 1 → h ≡ n + l → n < NUMBERS
      fits n l h b c d one two three four five = omega (arith, one, two, three, four, five)

  -- and for who asks
  pub number-asked : (W : World) (i : ℕ) (c : Call) → (row (side W i) w0).alive ≡ true → claimed T w0 any 1 numbers_used numbers W ≤ NUMBERS
      → next_call T (side W i) w0 ≡ Some c → is_ask c ≡ true → (row (side W i) w0).next_number < NUMBERS
  number-asked W i c alive few next asks =
      let s : Side = side W i in
      let n : ℕ = (row s w0).next_call in
      fits (row s w0).next_number (asks_left n) (asks_left (suc n)) (bit (is_ask c)) (numbers_used (row s w0))
      (sum_by (of_ask T w0 any 1 numbers_used) (row s w0).asks)
      (claimed T w0 any 1 numbers_used numbers W) (taken-within T w0 any 1 numbers_used numbers W i) few
      (cond-true (row s w0).alive ((row s w0).next_number + asks_left n) 0 alive) (counts-one is_ask (calls_of T w0) n c next) (bit-true (is_ask c) asks)
    where
      fits : (n l l' b h q d : ℕ) → h + q ≤ d → d ≤ NUMBERS → h ≡ n + l → l' + b ≡ l → b ≡ 1 → n < NUMBERS
      fits n l l' b h q d one two three four five = omega (arith, one, two, three, four, five)

-- What is given at all.
module _ (T : Setup) (w0 : ℕ) where
  abbrev pub nothing_used : VpeRow → ℕ
  nothing_used r = 0

  pub gifts : IsClaim T w0 any 0 nothing_used
  gifts = record {
    empty = refl;
    asks = λ r as'. refl;
    counts = λ r. omega arith;
    counts_ask = λ r c alive next asks. omega arith;
    draws = λ r. omega arith;
    promises = λ r sel near. omega arith;
    takes = λ r sel x given. omega arith;
    frees = λ r sel. omega arith;
    holds = λ r sel q was. omega arith;
  }

  -- where nothing is given there is no ask to give
  pub gift-told : (W : World) (i : ℕ) (parent : KeyName) (object : Object) (sel : ℕ) → claimed T w0 any 0 nothing_used gifts W ≤ 0
      → slice_get (row (side W i) w0).asks 0 ≡ Some (DelegateAsk parent object sel) → ⊥
  gift-told W i parent object sel none head =
      clash (sum_by (of_ask T w0 any 0 nothing_used) (row (side W i) w0).asks) (of_ask T w0 any 0 nothing_used (DelegateAsk parent object sel))
      (claimed T w0 any 0 nothing_used gifts W) (taken-within T w0 any 0 nothing_used gifts W i) none
      (oldest (of_ask T w0 any 0 nothing_used) (row (side W i) w0).asks (DelegateAsk parent object sel) head) (bit-true true refl)
    where
      clash : (b c d : ℕ) → 0 + b ≤ d → d ≤ 0 → c ≤ b → c ≡ 1 → ⊥
      clash b c d one two three four = omega (arith, one, two, three, four)
