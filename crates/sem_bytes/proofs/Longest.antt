-- Runs of addresses, where from some address on none was written.
use Rattle.std.proofs.Common.{◌≡◌, ℕ, zero, suc, ◌+◌, ◌≤◌, List, [], ◌∷◌, Option, None, true, false, refl, inl, inr, ◌∙◌, ap, arith}
use Rattle.std.specs.List.{All, filter}
use Rattle.std.specs.Prelude.{map, nat_lt, nat_le}
use Rattle.std.proofs.lemmas.Bool.{cases_Bool, cond-false, and_left, and_right, le-ltb}
use Rattle.std.proofs.lemmas.List.Elements.{All-head, All-tail}
use Rattle.sem_access.specs.declared.access.Access.{Access}
use Rattle.sem_access.specs.LastWrites.{is_write_before, greatest, last_write_in}
use Rattle.sem_access.specs.Runs.{joined, runs_from}

-- none was written from an address on
abbrev pub IsBlankFrom : (ℕ → Option ℕ) → ℕ → Type 0
IsBlankFrom last a = (b : ℕ) → a ≤ b → last b ≡ None

blank-runs : (last : ℕ → Option ℕ) (a n : ℕ) → IsBlankFrom last a → runs_from last a n ≡ []
unfolding runs_from
blank-runs last a zero blank = refl
blank-runs last a (suc n) blank =
    ap (λ o. joined a o (runs_from last (a + 1) n)) (blank a (omega arith))
    ∙ blank-runs last (a + 1) n (λ b le. blank b (omega (arith, le)))

-- the runs end there
pub runs-end : (last : ℕ → Option ℕ) (m a k : ℕ) → IsBlankFrom last (a + m) → runs_from last a (m + k) ≡ runs_from last a m
unfolding runs_from
runs-end last zero a k blank =
    let none : 0 + k ≡ k = omega arith in
    ap (runs_from last a) none ∙ blank-runs last a k (λ b le. blank b (omega (arith, le)))
runs-end last (suc m) a k blank =
    let next : suc m + k ≡ suc (m + k) = omega arith in
    ap (runs_from last a) next ∙ ap (joined a (last a)) (runs-end last m (a + 1) k (λ b le. blank b (omega (arith, le))))

-- an access that is no write from an address on
abbrev pub WritesBelow : ℕ → Access → Type 0
WritesBelow m x = x.write ≡ true → x.base + x.len ≤ m

-- accesses that write below an address tell of none from there on
pub blank-behind : (xs : List Access) (n m : ℕ) → All (WritesBelow m) xs → IsBlankFrom (last_write_in xs n) m
blank-behind xs n m below b le = ap (λ (ys : List Access). greatest (map (λ x. x.entry) ys)) (none xs below)
  where
    apart : (y : Access) → WritesBelow m y → is_write_before n b y ≡ false
    apart y below = elim (cases_Bool y.write) [
      | inl writes ↦ and_right (nat_lt y.entry n) _
          (and_right y.write _ (and_right (nat_le y.base b) _ (le-ltb b (y.base + y.len) (let ends = below writes in omega (arith, ends, le)))))
      | inr reads ↦ and_right (nat_lt y.entry n) _ (and_left y.write _ reads)
    ]

    none : (ys : List Access) → All (WritesBelow m) ys → filter (is_write_before n b) ys ≡ []
    none [] all = refl
    none (y ∷ ys) all =
        cond-false (is_write_before n b y) (y ∷ filter (is_write_before n b) ys) (filter (is_write_before n b) ys) (apart y (All-head (WritesBelow m) y ys all))
        ∙ none ys (All-tail (WritesBelow m) y ys all)
