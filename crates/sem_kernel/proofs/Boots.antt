-- How far the making of a kernel's capabilities has come, and what it keeps at the start.
use Rattle.std.proofs.Common.{◌≡◌, ℕ, zero, suc, ◌+◌, ◌<◌, ◌≤◌, true, false, List, [], ◌∷◌, ◌++◌, length, take, get_or, Option, Some, None, refl, sym, ◌∙◌, ap}
use Rattle.std.proofs.Common.{subst, arith}
use Rattle.std.specs.Prelude.{not}
use Rattle.std.specs.List.{All, filter}
use Rattle.std.proofs.lemmas.Bool.{cond-true, cond-false}
use Rattle.std.proofs.lemmas.List.{take_all, take_more}
use Rattle.std.proofs.lemmas.List.Elements.{All-append, All-cons, All-nil, All-contains, All-filter, filter-append}
use Rattle.sem_key.specs.KeyName.{KeyName, key_eq, key_lt}
use Rattle.sem_key.specs.Lists.{in_turn}
use Rattle.sem_key.specs.Capability.{Capability}
use Rattle.sem_key.specs.CapList.{cap_of, fresh, with_cap}
use Rattle.sem_key.proofs.Members.{found}
use Rattle.sem_key.proofs.KeyTests.{key_eq-true}
use Rattle.sem_key.proofs.InTurns.{in_turn-append}
use Rattle.sem_key.proofs.Puts.{get_or-put_same}
use Rattle.sem_msg.specs.declared.setup.Root.{Root}
use Rattle.sem_msg.specs.declared.setup.VpeDecl.{VpeDecl}
use Rattle.sem_msg.specs.Rows.{VpeRow, no_vpe}
use Rattle.sem_msg.specs.Setup.{Setup, IsSetup, IsVpeDecl, root_key}
use Rattle.sem_msg.specs.VpeRows.{new_vpe, root_held}
use Rattle.sem_msg.specs.Lookups.{runs_on}
use Rattle.sem_machine.specs.Sides.{Side, row}
use Rattle.sem_machine.specs.Machine.{start_side, empty_side, root_added, vpe_added, vpe_fresh}
use Rattle.sem_vpe.specs.Starting.{IsStartable}
use Rattle.sem_vpe.proofs.Starts.{startable}

-- one more is done
turn-more : {X S : Type 0} (f : X → S → S) (xs : List X) (n : ℕ) (x : X) (s : S) → n < length xs → x ≡ get_or xs n x →
    in_turn f (take (n + 1) xs) s ≡ f x (in_turn f (take n xs) s)
unfolding in_turn
turn-more f xs n x s more found_x = ap (λ ys. in_turn f ys s) (take_more xs n x more ∙ ap (λ y. take n xs ++ y ∷ []) (sym found_x))
    ∙ in_turn-append f (take n xs) (x ∷ []) s

-- what is so of all capabilities and of one more
with_cap-all : (P : Capability → Type 0) (cs : List Capability) (c : Capability) → All P cs → P c → All P (with_cap cs c)
with_cap-all P cs c all here = All-append P (filter (λ x. key_lt x.key c.key) cs) (c ∷ filter (λ x. not (key_lt x.key c.key)) cs)
    (All-filter (λ x. key_lt x.key c.key) P cs all)
    (All-cons P c (filter (λ x. not (key_lt x.key c.key)) cs) here (All-filter (λ x. not (key_lt x.key c.key)) P cs all))

-- The roots of a VPE.

-- the row of the VPE after roots were added
pub row-after : (d : VpeDecl) (rs : List Root) (s : Side) → row (in_turn (root_added d) rs s) d.vpe ≡ in_turn (root_held d) rs (row s d.vpe)
unfolding in_turn
row-after d [] s = refl
row-after d (r ∷ rs) s = row-after d rs (root_added d r s) ∙ ap (in_turn (root_held d) rs) (get_or-put_same no_vpe s.vpes d.vpe (root_held d r (row s d.vpe)))

-- as many numbers were drawn as roots were added
number-after : (d : VpeDecl) (rs : List Root) (x : VpeRow) → (in_turn (root_held d) rs x).next_number ≡ x.next_number + length rs
unfolding in_turn
number-after d [] x = omega arith
number-after d (r ∷ rs) x = let rest = number-after d rs (root_held d r x) in omega (arith, rest)

-- so many are taken, where there are as many
length-taken : {X : Type 0} (n : ℕ) (xs : List X) → n ≤ length xs → length (take n xs) ≡ n
length-taken zero xs few = refl
length-taken (suc n) [] few = absurd (omega (arith, few))
length-taken (suc n) (x ∷ xs) few = ap suc (length-taken n xs (omega (arith, few)))

-- a key of this VPE below a number, or of a smaller VPE
abbrev IsNumbered : VpeDecl → ℕ → Capability → Type 0
IsNumbered d n c = (c.key.vpe ≤ d.vpe) × (c.key.vpe ≡ d.vpe → c.key.number < n)

-- the first roots of a VPE were added to what was held before
pub record IsAdding (d : VpeDecl) (before now : List Capability) (done : ℕ) : Type 0 where
  pub added : (s : Side) → now ≡ (in_turn (root_added d) (take done d.roots) (vpe_fresh d (record s { caps = before }))).caps
  pub numbered : All (IsNumbered d done) now

-- none yet
pub IsAdding-none : (d : VpeDecl) (before : List Capability) → All (λ (c : Capability). c.key.vpe < d.vpe) before → IsAdding d before before 0
unfolding in_turn
IsAdding-none d before below = record {
  added = λ s. refl;
  numbered = λ k e within. let less = below k e within in (omega (arith, less), λ same. absurd (omega (arith, less, same)));
}

-- the next one is not held
pub next-absent : (d : VpeDecl) (before now : List Capability) (done : ℕ) (r : Root) → IsAdding d before now done → cap_of now (root_key d done r) ≡ None
next-absent d before now done r so_far = from (cap_of now (root_key d done r)) refl
  where
    from : (o : Option Capability) → cap_of now (root_key d done r) ≡ o → cap_of now (root_key d done r) ≡ None
    from None at = at
    from (Some c) at =
        let there = found (λ (x : Capability). key_eq x.key (root_key d done r)) now c at in
        let same : c.key ≡ root_key d done r = key_eq-true c.key (root_key d done r) there.1 in
        let below = (All-contains (IsNumbered d done) now c so_far.numbered there.0).1 (ap (λ (k : KeyName). k.vpe) same) in
        let number : c.key.number ≡ done = ap (λ (k : KeyName). k.number) same in
        absurd (omega (arith, below, number))

-- one more root
pub IsAdding-more : (d : VpeDecl) (before now new : List Capability) (done : ℕ) (r : Root) → IsAdding d before now done → done < length d.roots →
    r ≡ get_or d.roots done r → new ≡ with_cap now (fresh (root_key d done r) None r.sel r.object) → IsAdding d before new (done + 1)
IsAdding-more d before now new done r so_far more at is = record {
  added = λ s.
      let t : Side = in_turn (root_added d) (take done d.roots) (vpe_fresh d (record s { caps = before })) in
      let u : Side = vpe_fresh d (record s { caps = before }) in
      let born : (row u d.vpe).next_number ≡ 0 = ap (λ (x : VpeRow). x.next_number) (get_or-put_same no_vpe s.vpes d.vpe new_vpe) in
      let drawn = number-after d (take done d.roots) (row u d.vpe) in
      let long = length-taken done d.roots (omega (arith, more)) in
      let kept : (row t d.vpe).next_number ≡ (in_turn (root_held d) (take done d.roots) (row u d.vpe)).next_number =
      ap (λ (x : VpeRow). x.next_number) (row-after d (take done d.roots) u) in
      let number : done ≡ (row t d.vpe).next_number = omega (arith, born, drawn, long, kept) in
      is
      ∙ ap (λ cs. with_cap cs (fresh (root_key d done r) None r.sel r.object)) (so_far.added s)
      ∙ ap (λ n. with_cap t.caps (fresh (root_key d n r) None r.sel r.object)) number
      ∙ sym (ap (λ (x : Side). x.caps) (turn-more (root_added d) d.roots done r u more at));
  numbered =
      subst (All (IsNumbered d (done + 1))) (sym is)
      (with_cap-all (IsNumbered d (done + 1)) now (fresh (root_key d done r) None r.sel r.object)
      (λ k e within. let old = so_far.numbered k e within in (old.0, λ same. let below = old.1 same in omega (arith, below)))
      (omega arith, λ same. omega arith));
}

-- The VPEs of a kernel.

-- which default is given makes no difference within the list
any-default : {X : Type 0} (xs : List X) (n : ℕ) (x y : X) → n < length xs → get_or xs n x ≡ get_or xs n y
any-default [] n x y within = absurd (omega (arith, within))
any-default (z ∷ zs) zero x y within = refl
any-default (z ∷ zs) (suc n) x y within = any-default zs n x y (omega (arith, within))

-- the VPEs of kernel i among the first of the setup were added, and what is held is of none of the others
pub record IsStarting (T : Setup) (i : ℕ) (now : List Capability) (done : ℕ) : Type 0 where
  pub added : now ≡ (in_turn vpe_added (filter (runs_on T i) (take done T.vpes)) (empty_side T)).caps
  pub before : (k : ℕ) (d : VpeDecl) → done ≤ k → k < length T.vpes → d ≡ get_or T.vpes k d → All (λ (c : Capability). c.key.vpe < d.vpe) now

-- a declared VPE can be started
pub startable-at : (T : Setup) (n : ℕ) (d : VpeDecl) → IsSetup T → n < length T.vpes → d ≡ get_or T.vpes n d → IsStartable d
startable-at T n d valid within at = startable T d (subst (IsVpeDecl T) (sym at) (valid.vpes n d within))

-- none yet
pub IsStarting-none : (T : Setup) (i : ℕ) → IsStarting T i [] 0
unfolding in_turn
IsStarting-none T i = record { added = refl; before = λ k d past within at. All-nil (λ (c : Capability). c.key.vpe < d.vpe) }

-- those of the kernel among the first and one more
filter-more : (T : Setup) (i n : ℕ) (d : VpeDecl) (ds : List VpeDecl) → n < length T.vpes → d ≡ get_or T.vpes n d → filter (runs_on T i) (d ∷ []) ≡ ds →
    filter (runs_on T i) (take (n + 1) T.vpes) ≡ filter (runs_on T i) (take n T.vpes) ++ ds
filter-more T i n d ds more at is =
    ap (filter (runs_on T i)) (take_more T.vpes n d more ∙ ap (λ y. take n T.vpes ++ y ∷ []) (sym at))
    ∙ (filter-append (runs_on T i) (take n T.vpes) (d ∷ []) ∙ ap (λ ys. filter (runs_on T i) (take n T.vpes) ++ ys) is)

-- one more VPE of the kernel
pub IsStarting-more : (T : Setup) (i : ℕ) (now new : List Capability) (n : ℕ) (d : VpeDecl) → IsSetup T → IsStarting T i now n → n < length T.vpes →
    d ≡ get_or T.vpes n d → runs_on T i d ≡ true → ((s : Side) → new ≡ (vpe_added d (record s { caps = now })).caps) →
    All (λ (c : Capability). c.key.vpe ≤ d.vpe) new → IsStarting T i new (n + 1)
unfolding in_turn
IsStarting-more T i now new n d valid so_far more at runs is upto = record {
  added =
      let t : Side = in_turn vpe_added (filter (runs_on T i) (take n T.vpes)) (empty_side T) in
      let one : filter (runs_on T i) (d ∷ []) ≡ d ∷ [] = cond-true (runs_on T i d) (d ∷ []) [] runs in
      is t
      ∙ ap (λ cs. (vpe_added d (record t { caps = cs })).caps) so_far.added
      ∙ sym (ap (λ ds. (in_turn vpe_added ds (empty_side T)).caps) (filter-more T i n d (d ∷ []) more at one)
      ∙ ap (λ (x : Side). x.caps) (in_turn-append vpe_added (filter (runs_on T i) (take n T.vpes)) (d ∷ []) (empty_side T)));
  before = λ k e past within there j c held.
      let low = upto j c held in
      let rises : (get_or T.vpes n e).vpe < (get_or T.vpes k e).vpe = valid.vpes_rise n k e (omega (arith, past)) within in
      let first : (get_or T.vpes n e).vpe ≡ d.vpe = ap (λ (x : VpeDecl). x.vpe) (any-default T.vpes n e d more ∙ sym at) in
      let later : e.vpe ≡ (get_or T.vpes k e).vpe = ap (λ (x : VpeDecl). x.vpe) there in
      omega (arith, low, rises, first, later);
}

-- a VPE of another kernel
pub IsStarting-skip : (T : Setup) (i : ℕ) (now : List Capability) (n : ℕ) (d : VpeDecl) → IsStarting T i now n → n < length T.vpes → d ≡ get_or T.vpes n d →
    runs_on T i d ≡ false → IsStarting T i now (n + 1)
unfolding in_turn
IsStarting-skip T i now n d so_far more at runs = record {
  added =
      let none : filter (runs_on T i) (d ∷ []) ≡ [] = cond-false (runs_on T i d) (d ∷ []) [] runs in
      so_far.added
      ∙ sym (ap (λ ds. (in_turn vpe_added ds (empty_side T)).caps) (filter-more T i n d [] more at none)
      ∙ ap (λ (x : Side). x.caps) (in_turn-append vpe_added (filter (runs_on T i) (take n T.vpes)) [] (empty_side T)));
  before = λ k e past within there. so_far.before k e (omega (arith, past)) within there;
}

-- all VPEs
pub IsStarting-all : (T : Setup) (i : ℕ) (now : List Capability) (n : ℕ) → IsStarting T i now n → length T.vpes ≤ n → now ≡ (start_side T i).caps
unfolding start_side
IsStarting-all T i now n so_far all = so_far.added ∙ ap (λ ds. (in_turn vpe_added (filter (runs_on T i) ds) (empty_side T)).caps) (take_all n T.vpes all)
