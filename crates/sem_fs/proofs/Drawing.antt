-- A number of a VPE is drawn once, so by one call.
use Rattle.std.proofs.Common.{◌≡◌, ◌⊎◌, ℕ, ◌+◌, ◌<◌, ◌≤◌, List, [], ◌∷◌, ◌++◌, append_assoc, refl, sym, ap, ◌∙◌, subst, inl, inr, arith}
use Rattle.sem_msg.specs.declared.entry.Entry.{Entry}
use Rattle.sem_msg.specs.Setup.{Setup}
use Rattle.sem_msg.specs.Lookups.{kernel_of}
use Rattle.sem_machine.specs.Sides.{row}
use Rattle.sem_machine.specs.Machine.{World, start}
use Rattle.sem_machine.specs.Schedules.{world_after}
use Rattle.sem_safety.proofs.GoingOn.{run-onward, run-append}
use Rattle.sem_fs.specs.Holding.{home}
use Rattle.sem_fs.specs.Drawings.{IsDrawnBy}

heads : {X : Type 0} (x y : X) (xs ys : List X) → x ∷ xs ≡ y ∷ ys → x ≡ y
heads x y xs ys same = cc same

tails : {X : Type 0} (x y : X) (xs ys : List X) → x ∷ xs ≡ y ∷ ys → xs ≡ ys
tails x y xs ys same = cc same

-- of two elements of a list, both are at one place, or one is behind the other
pub behind : {X : Type 0} (xs bs cs ds : List X) (x y : X) → xs ++ x ∷ bs ≡ cs ++ y ∷ ds → (xs ≡ cs)
    ⊎ (((mid : List X) × (cs ≡ (xs ++ x ∷ []) ++ mid)) ⊎ ((mid : List X) × (xs ≡ (cs ++ y ∷ []) ++ mid)))
behind [] bs [] ds x y same = inl refl
behind [] bs (c ∷ cs) ds x y same = inr (inl (cs, ap (λ z. z ∷ cs) (sym (heads x c bs (cs ++ y ∷ ds) same))))
behind (a ∷ xs) bs [] ds x y same = inr (inr (xs, ap (λ z. z ∷ xs) (heads a y (xs ++ x ∷ bs) ds same)))
behind (a ∷ xs) bs (c ∷ cs) ds x y same =
    let one : a ≡ c = heads a c (xs ++ x ∷ bs) (cs ++ y ∷ ds) same in
    elim (behind xs bs cs ds x y (tails a c (xs ++ x ∷ bs) (cs ++ y ∷ ds) same)) [
      | inl equal ↦ inl (ap (λ z. z ∷ xs) one ∙ ap (λ zs. c ∷ zs) equal)
      | inr (inl (mid, equal)) ↦ inr (inl (mid, ap (λ z. z ∷ cs) (sym one) ∙ ap (λ zs. a ∷ zs) equal))
      | inr (inr (mid, equal)) ↦ inr (inr (mid, ap (λ z. z ∷ xs) one ∙ ap (λ zs. c ∷ zs) equal))
    ]

-- numbers that are drawn stay so
later-more : (T : Setup) (v : ℕ) (before mid : List Entry) → (row (home T (world_after T before) v) v).next_number ≤
    (row (home T (world_after T (before ++ mid)) v) v).next_number
later-more T v before mid =
    let on = (run-onward T mid (world_after T before)).sides (kernel_of T v) in
    subst (λ (W : World). (row (home T (world_after T before) v) v).next_number ≤ (row (home T W v) v).next_number) (sym (run-append T before mid (start T)))
    (on.numbers v)

module _ (T : Setup) (J : List Entry) (v n : ℕ) where
  pub drawn-more : (e : Entry) (m : ℕ) → IsDrawnBy T J v n m → IsDrawnBy T (J ++ e ∷ []) v n m
  drawn-more e m x = record {
    before = x.before;
    later = x.later ++ e ∷ [];
    entry = x.entry;
    among = ap (λ K. K ++ e ∷ []) x.among ∙ append_assoc x.before (x.entry ∷ x.later) (e ∷ []);
    number = x.number;
    call = x.call;
    drawn = x.drawn;
    called = x.called;
  }

  after-drawn : (m m' : ℕ) (x : IsDrawnBy T J v n m) (y : IsDrawnBy T J v n m') (mid : List Entry) → y.before ≡ (x.before ++ x.entry ∷ []) ++ mid → ⊥
  after-drawn m m' x y mid same =
      let more = later-more T v (x.before ++ x.entry ∷ []) mid in
      let here : (row (home T (world_after T ((x.before ++ x.entry ∷ []) ++ mid)) v) v).next_number ≡ n =
      ap (λ K. (row (home T (world_after T K) v) v).next_number) (sym same) ∙ y.number in
      past n (row (home T (world_after T (x.before ++ x.entry ∷ [])) v) v).next_number
      (row (home T (world_after T ((x.before ++ x.entry ∷ []) ++ mid)) v) v).next_number x.drawn more here
    where
      past : (a b c : ℕ) → a < b → b ≤ c → c ≡ a → ⊥
      past a b c one two three = omega (arith, one, two, three)

  pub one-call : (m m' : ℕ) → IsDrawnBy T J v n m → IsDrawnBy T J v n m' → m ≡ m'
  one-call m m' x y = elim (behind x.before x.later y.before y.later x.entry y.entry (sym x.among ∙ y.among)) [
    | inl same ↦ sym x.call ∙ (ap (λ K. (row (home T (world_after T K) v) v).next_call) same ∙ y.call)
    | inr (inl (mid, same)) ↦ absurd (after-drawn m m' x y mid same)
    | inr (inr (mid, same)) ↦ absurd (after-drawn m' m y x mid same)
  ]

-- and a call draws one number.

pub later-calls : (T : Setup) (v : ℕ) (before mid : List Entry) → (row (home T (world_after T before) v) v).next_call ≤
    (row (home T (world_after T (before ++ mid)) v) v).next_call
later-calls T v before mid =
    let on = (run-onward T mid (world_after T before)).sides (kernel_of T v) in
    subst (λ (W : World). (row (home T (world_after T before) v) v).next_call ≤ (row (home T W v) v).next_call) (sym (run-append T before mid (start T)))
    (on.calls v)

module _ (T : Setup) (J : List Entry) (v m : ℕ) where
  after-called : (n n' : ℕ) (x : IsDrawnBy T J v n m) (y : IsDrawnBy T J v n' m) (mid : List Entry) → y.before ≡ (x.before ++ x.entry ∷ []) ++ mid → ⊥
  after-called n n' x y mid same =
      let more = later-calls T v (x.before ++ x.entry ∷ []) mid in
      let here : (row (home T (world_after T ((x.before ++ x.entry ∷ []) ++ mid)) v) v).next_call ≡ m =
      ap (λ K. (row (home T (world_after T K) v) v).next_call) (sym same) ∙ y.call in
      past m (row (home T (world_after T (x.before ++ x.entry ∷ [])) v) v).next_call
      (row (home T (world_after T ((x.before ++ x.entry ∷ []) ++ mid)) v) v).next_call
      x.called more here
    where
      past : (a b c : ℕ) → b ≡ a + 1 → b ≤ c → c ≡ a → ⊥
      past a b c one two three = omega (arith, one, two, three)

  pub one-number : (n n' : ℕ) → IsDrawnBy T J v n m → IsDrawnBy T J v n' m → n ≡ n'
  one-number n n' x y = elim (behind x.before x.later y.before y.later x.entry y.entry (sym x.among ∙ y.among)) [
    | inl same ↦ sym x.number ∙ (ap (λ K. (row (home T (world_after T K) v) v).next_number) same ∙ y.number)
    | inr (inl (mid, same)) ↦ absurd (after-called n n' x y mid same)
    | inr (inr (mid, same)) ↦ absurd (after-called n' n y x mid same)
  ]
