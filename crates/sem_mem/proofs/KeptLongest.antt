-- Runs that are kept are the longest ranges of addresses with one and the same last write.
use Rattle.std.proofs.Common.{◌≡◌, ℕ, zero, suc, ◌+◌, ◌-◌, ◌≤◌, ◌<◌, List, [], ◌∷◌, Option, Some, None, refl, sym, ◌∙◌, ap, subst, inl, inr, arith, ◌⊎◌}
use Rattle.std.specs.Prelude.{◌≢◌, ◌==◌, ◌&&◌}
use Rattle.std.proofs.lemmas.Bool.{cases_lt, cond-true, cond-false, and_from, and_parts, eq-eqb, eqb-true, false_from_ne_true}
use Rattle.sem_key.specs.declared.limits.TheConstants.{ADDRESSES}
use Rattle.sem_access.specs.declared.run.Run.{Run}
use Rattle.sem_access.specs.Runs.{run_of, joined, runs_from, all_runs, IsApart, AreRunsBehind, AreRuns, entry_at}
use Rattle.sem_mem.proofs.KeptRuns.{has-address, below-range, behind-range, first-run, first-apart, more-runs, no-runs, run-before, entry-here, entry-later}

-- no run has an address below them
none-below : (b : ℕ) (e : Option ℕ) (rs : List Run) (a : ℕ) → AreRunsBehind b e rs → a < b → entry_at rs a ≡ None
none-below b e [] a are below = refl
none-below b e (r ∷ rs) a are below =
    let is = first-run b e r rs are in
    let apart = first-apart b e r rs are in
    entry-later r rs a (below-range r.base r.len a (omega (arith, apart.0, below)))
    ∙ none-below (r.base + r.len) (Some r.entry) rs a (more-runs b e r rs are) (omega (arith, apart.0, below, is.0))

-- a run that cannot be joined to what is before it
joined-apart : (a entry : ℕ) (r : Run) (rs : List Run) → IsApart (a + 1) (Some entry) r → joined a (Some entry) (r ∷ rs) ≡ run_of a 1 entry ∷ r ∷ rs
joined-apart a entry r rs apart = cond-false ((r.base == a + 1) && (r.entry == entry)) (run_of a (r.len + 1) entry ∷ rs) (run_of a 1 entry ∷ r ∷ rs)
    (false_from_ne_true ((r.base == a + 1) && (r.entry == entry)) (λ both.
    let parts = and_parts (r.base == a + 1) (r.entry == entry) both in
    apart.1 (sym (eqb-true r.base (a + 1) parts.0)) (ap Some (sym (eqb-true r.entry entry parts.1)))))

-- and one that is the rest of the same run
joined-rest : (a entry : ℕ) (r : Run) (rs : List Run) → r.base ≡ a + 1 → r.entry ≡ entry → joined a (Some entry) (r ∷ rs) ≡ run_of a (r.len + 1) entry ∷ rs
joined-rest a entry r rs base same = cond-true ((r.base == a + 1) && (r.entry == entry)) (run_of a (r.len + 1) entry ∷ rs) (run_of a 1 entry ∷ r ∷ rs)
    (and_from (r.base == a + 1) (r.entry == entry) (eq-eqb r.base (a + 1) base) (eq-eqb r.entry entry same))

-- the same numbers make the same run
same-run : (r : Run) (base len : ℕ) → base ≡ r.base → len ≡ r.len → run_of base len r.entry ≡ r
same-run r base len from size = ap (λ x. run_of x len r.entry) from ∙ ap (λ x. run_of r.base x r.entry) size

not-some : (n : ℕ) → None ≢ Some n
not-some n same = absurd (cc)

-- The runs from an address on.
module _ (last : ℕ → Option ℕ) where
  -- these runs tell the last writes from an address on
  abbrev Tells : ℕ → List Run → Type 0
  Tells a rs = (x : ℕ) → a ≤ x → last x ≡ entry_at rs x

  tells-later : (a : ℕ) (rs : List Run) → Tells a rs → Tells (a + 1) rs
  tells-later a rs tells x le = tells x (omega (arith, le))

  -- a run that begins at the address, and what is behind its first address
  abbrev Goes : ℕ → ℕ → Type 0
  Goes n a = (e : Option ℕ) (rs : List Run) → AreRunsBehind a e rs → Tells a rs → a + n ≡ ADDRESSES → runs_from last a n ≡ rs

  one-address : (n a : ℕ) (e : Option ℕ) (r : Run) (rs : List Run) → Goes n (a + 1) → AreRunsBehind a e (r ∷ rs) → Tells a (r ∷ rs) → a + suc n ≡ ADDRESSES →
      r.base ≡ a → r.len ≡ 1 → joined a (Some r.entry) (runs_from last (a + 1) n) ≡ r ∷ rs
  one-address n a e r rs goes are tells size base one =
      let end : r.base + r.len ≡ a + 1 = omega (arith, base, one) in
      let rest : AreRunsBehind (a + 1) (Some r.entry) rs = subst (λ m. AreRunsBehind m (Some r.entry) rs) end (more-runs a e r rs are) in
      let told : Tells (a + 1) rs = λ x le. tells x (omega (arith, le)) ∙ entry-later r rs x (behind-range r.base r.len x (omega (arith, le, end))) in
      ap (joined a (Some r.entry)) (goes (Some r.entry) rs rest told (omega (arith, size)))
      ∙ (behind rs rest ∙ ap (λ q. q ∷ rs) (same-run r a 1 (sym base) (sym one)))
    where
      behind : (qs : List Run) → AreRunsBehind (a + 1) (Some r.entry) qs → joined a (Some r.entry) qs ≡ run_of a 1 r.entry ∷ qs
      behind [] more = refl
      behind (q ∷ qs) more = joined-apart a r.entry q qs (first-apart (a + 1) (Some r.entry) q qs more)

  more-addresses : (n a : ℕ) (e : Option ℕ) (r : Run) (rs : List Run) → Goes n (a + 1) → AreRunsBehind a e (r ∷ rs) → Tells a (r ∷ rs) → a + suc n ≡ ADDRESSES →
      r.base ≡ a → 2 ≤ r.len → joined a (Some r.entry) (runs_from last (a + 1) n) ≡ r ∷ rs
  more-addresses n a e r rs goes are tells size base two =
      let is = first-run a e r rs are in
      let q : Run = run_of (a + 1) (r.len - 1) r.entry in
      let end : r.base + r.len ≡ a + 1 + (r.len - 1) = omega (arith, base, two) in
      let rest : AreRunsBehind (a + 1) None (q ∷ rs) = run-before (a + 1) None q rs (omega (arith, two), omega (arith, end, is.1)) (
        omega arith,
        λ touch. not-some r.entry,
      ) (subst (λ m. AreRunsBehind m (Some r.entry) rs) end (more-runs a e r rs are)) in
      let told : Tells (a + 1) (q ∷ rs) = λ x le. tells x (omega (arith, le)) ∙ same-tells x le base two in
      ap (joined a (Some r.entry)) (goes None (q ∷ rs) rest told (omega (arith, size)))
      ∙ (joined-rest a r.entry q rs refl refl ∙ ap (λ p. p ∷ rs) (same-run r a (r.len - 1 + 1) (sym base) (omega (arith, two))))
    where
      same-tells : (x : ℕ) → a + 1 ≤ x → r.base ≡ a → 2 ≤ r.len → entry_at (r ∷ rs) x ≡ entry_at (run_of (a + 1) (r.len - 1) r.entry ∷ rs) x
      same-tells x le base two = elim (cases_lt x (r.base + r.len)) [
        | inl inside ↦
            entry-here r rs x (has-address r.base r.len x (omega (arith, base, le)) inside)
            ∙ sym (entry-here (run_of (a + 1) (r.len - 1) r.entry) rs x (has-address (a + 1) (r.len - 1) x le (omega (arith, base, inside, two))))
        | inr behind ↦
            entry-later r rs x (behind-range r.base r.len x behind)
            ∙ sym (entry-later (run_of (a + 1) (r.len - 1) r.entry) rs x (behind-range (a + 1) (r.len - 1) x (omega (arith, base, behind, two))))
      ]

  runs-are : (n a : ℕ) (e : Option ℕ) (rs : List Run) → AreRunsBehind a e rs → Tells a rs → a + n ≡ ADDRESSES → runs_from last a n ≡ rs
  unfolding runs_from
  runs-are zero a e [] are tells size = refl
  runs-are zero a e (r ∷ rs) are tells size =
      let is = first-run a e r rs are in
      let apart = first-apart a e r rs are in
      absurd (omega (arith, is.0, is.1, apart.0, size))
  runs-are (suc n) a e [] are tells size =
      ap (λ o. joined a o (runs_from last (a + 1) n)) (tells a (omega arith))
      ∙ runs-are n (a + 1) None [] (no-runs (a + 1) None) (tells-later a [] tells) (omega (arith, size))
  runs-are (suc n) a e (r ∷ rs) are tells size =
      let is = first-run a e r rs are in
      let apart = first-apart a e r rs are in
      elim (cases_lt a r.base) [
        | inl before ↦
            let none : entry_at (r ∷ rs) a ≡ None = entry-later r rs a (below-range r.base r.len a before)
            ∙ none-below (r.base + r.len) (Some r.entry) rs a (more-runs a e r rs are) (omega (arith, before, is.0)) in
            ap (λ o. joined a o (runs_from last (a + 1) n)) (tells a (omega arith) ∙ none)
            ∙ runs-are n (a + 1) None (r ∷ rs) (run-before (a + 1) None r rs is (omega (arith, before), λ touch. not-some r.entry) (more-runs a e r rs are))
            (tells-later a (r ∷ rs) tells) (omega (arith, size))
        | inr from ↦
            let base : r.base ≡ a = omega (arith, apart.0, from) in
            let some : entry_at (r ∷ rs) a ≡ Some r.entry = entry-here r rs a (has-address r.base r.len a (omega (arith, base)) (omega (arith, base, is.0))) in
            ap (λ o. joined a o (runs_from last (a + 1) n)) (tells a (omega arith) ∙ some)
            ∙ long (cases_lt 1 r.len) base (runs-are n (a + 1))
      ]
    where
      long : (1 < r.len) ⊎ (r.len ≤ 1) → r.base ≡ a → Goes n (a + 1) → joined a (Some r.entry) (runs_from last (a + 1) n) ≡ r ∷ rs
      long (inl more) base goes = more-addresses n a e r rs goes are tells size base (omega (arith, more))
      long (inr one) base goes = one-address n a e r rs goes are tells size base (let is = first-run a e r rs are in omega (arith, one, is.0))

  -- runs that tell the last write of each address
  pub kept-runs : (rs : List Run) → AreRuns rs → ((a : ℕ) → entry_at rs a ≡ last a) → rs ≡ all_runs last
  unfolding all_runs
  kept-runs rs are tells = sym (runs-are ADDRESSES 0 None rs are (λ x le. sym (tells x)) (omega arith))
