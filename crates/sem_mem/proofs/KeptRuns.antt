-- Runs that rise: what is behind an address, and the last writes that they tell.
use Rattle.std.proofs.Common.{◌≡◌, ℕ, ◌+◌, ◌≤◌, ◌<◌, Bool, true, false, cond, List, [], ◌∷◌, ◌++◌, Option, Some, None, refl, sym, ◌∙◌, ap, inl, inr, arith}
use Rattle.std.specs.List.{All, find}
use Rattle.std.specs.Option.{option_map}
use Rattle.std.specs.Prelude.{nat_lt, nat_le}
use Rattle.std.proofs.lemmas.Bool.{cases_Bool, cond-true, cond-false, and_parts, and_left, and_right, and_from, ltb-true, leb-true, lt-ltb, le-ltb, le-leb}
use Rattle.std.proofs.lemmas.Bool.{lt-leb}
use Rattle.std.proofs.lemmas.List.Elements.{All-cons, All-nil}
use Rattle.sem_access.specs.declared.run.Run.{Run}
use Rattle.sem_access.specs.LastWrites.{has_address}
use Rattle.sem_access.specs.Runs.{IsValidRun, IsApart, AreRunsBehind, AreRuns, entry_at}

-- Whether a range has an address.

pub has-address : (base len a : ℕ) → base ≤ a → a < base + len → has_address base len a ≡ true
has-address base len a from below = and_from (nat_le base a) (nat_lt a (base + len)) (le-leb base a from) (lt-ltb a (base + len) below)

pub address-in : (base len a : ℕ) → has_address base len a ≡ true → (base ≤ a) × (a < base + len)
address-in base len a has = let parts = and_parts (nat_le base a) (nat_lt a (base + len)) has in (leb-true base a parts.0, ltb-true a (base + len) parts.1)

pub below-range : (base len a : ℕ) → a < base → has_address base len a ≡ false
below-range base len a below = and_left (nat_le base a) (nat_lt a (base + len)) (lt-leb base a below)

pub behind-range : (base len a : ℕ) → base + len ≤ a → has_address base len a ≡ false
behind-range base len a behind = and_right (nat_le base a) (nat_lt a (base + len)) (le-ltb a (base + len) behind)

-- Runs one by one.

pub first-run : (b : ℕ) (e : Option ℕ) (r : Run) (rs : List Run) → AreRunsBehind b e (r ∷ rs) → IsValidRun r
unfolding AreRunsBehind
first-run b e r rs are = are.0

pub first-apart : (b : ℕ) (e : Option ℕ) (r : Run) (rs : List Run) → AreRunsBehind b e (r ∷ rs) → IsApart b e r
unfolding AreRunsBehind
first-apart b e r rs are = are.1

pub more-runs : (b : ℕ) (e : Option ℕ) (r : Run) (rs : List Run) → AreRunsBehind b e (r ∷ rs) → AreRunsBehind (r.base + r.len) (Some r.entry) rs
unfolding AreRunsBehind
more-runs b e r rs are = are.2

pub no-runs : (b : ℕ) (e : Option ℕ) → AreRunsBehind b e []
unfolding AreRunsBehind
no-runs b e = tt

pub run-before : (b : ℕ) (e : Option ℕ) (r : Run) (rs : List Run) → IsValidRun r → IsApart b e r → AreRunsBehind (r.base + r.len) (Some r.entry) rs →
    AreRunsBehind b e (r ∷ rs)
unfolding AreRunsBehind
run-before b e r rs is apart rest = (is, apart, rest)

each-run-behind : (b : ℕ) (e : Option ℕ) (rs : List Run) → AreRunsBehind b e rs → All IsValidRun rs
each-run-behind b e [] are = All-nil IsValidRun
each-run-behind b e (r ∷ rs) are =
    All-cons IsValidRun r rs (first-run b e r rs are) (each-run-behind (r.base + r.len) (Some r.entry) rs (more-runs b e r rs are))

pub each-run : (rs : List Run) → AreRuns rs → All IsValidRun rs
each-run rs are = each-run-behind 0 None rs are

-- The last writes that runs tell.

mapped : {X Y : Type 0} (f : X → Y) (b : Bool) (x : X) (o : Option X) → option_map f (cond b (Some x) o) ≡ cond b (Some (f x)) (option_map f o)
mapped f true x o = refl
mapped f false x o = refl

-- the first run that has the address tells it
pub entry_at-cons : (r : Run) (rs : List Run) (a : ℕ) → entry_at (r ∷ rs) a ≡ cond (has_address r.base r.len a) (Some r.entry) (entry_at rs a)
entry_at-cons r rs a = mapped (λ (q : Run). q.entry) (has_address r.base r.len a) r (find (λ q. has_address q.base q.len a) rs)

pub entry-here : (r : Run) (rs : List Run) (a : ℕ) → has_address r.base r.len a ≡ true → entry_at (r ∷ rs) a ≡ Some r.entry
entry-here r rs a has = entry_at-cons r rs a ∙ cond-true (has_address r.base r.len a) (Some r.entry) (entry_at rs a) has

pub entry-later : (r : Run) (rs : List Run) (a : ℕ) → has_address r.base r.len a ≡ false → entry_at (r ∷ rs) a ≡ entry_at rs a
entry-later r rs a lacks = entry_at-cons r rs a ∙ cond-false (has_address r.base r.len a) (Some r.entry) (entry_at rs a) lacks

-- runs of which the first does not tell the address
pub entry-behind : (rs qs : List Run) (a : ℕ) → entry_at rs a ≡ None → entry_at (rs ++ qs) a ≡ entry_at qs a
entry-behind [] qs a none = refl
entry-behind (r ∷ rs) qs a none = elim (cases_Bool (has_address r.base r.len a)) [
  | inl has ↦ let some : None ≡ Some r.entry = sym none ∙ entry-here r rs a has in absurd (cc)
  | inr lacks ↦ entry-later r (rs ++ qs) a lacks ∙ entry-behind rs qs a (sym (entry-later r rs a lacks) ∙ none)
]

-- and of which the last does not
pub entry-before : (rs qs : List Run) (a : ℕ) → entry_at qs a ≡ None → entry_at (rs ++ qs) a ≡ entry_at rs a
entry-before [] qs a none = none
entry-before (r ∷ rs) qs a none = entry_at-cons r (rs ++ qs) a ∙ (ap (cond (has_address r.base r.len a) (Some r.entry)) (entry-before rs qs a none)
    ∙ sym (entry_at-cons r rs a))

-- runs behind an address begin behind it
pub begins-behind : (b : ℕ) (e : Option ℕ) (rs : List Run) (r : Run) (more : List Run) → AreRunsBehind b e (rs ++ r ∷ more) → b ≤ r.base
begins-behind b e [] r more are = (first-apart b e r more are).0
begins-behind b e (q ∷ rs) r more are =
    let apart = first-apart b e q (rs ++ r ∷ more) are in
    let rest = begins-behind (q.base + q.len) (Some q.entry) rs r more (more-runs b e q (rs ++ r ∷ more) are) in
    omega (arith, apart.0, rest)

-- what comes before a run has none of its addresses, and none behind them
pub none-before : (b : ℕ) (e : Option ℕ) (rs : List Run) (r : Run) (more : List Run) (a : ℕ) → AreRunsBehind b e (rs ++ r ∷ more) → r.base ≤ a →
    entry_at rs a ≡ None
none-before b e [] r more a are from = refl
none-before b e (q ∷ rs) r more a are from =
    let rest = more-runs b e q (rs ++ r ∷ more) are in
    let ends = begins-behind (q.base + q.len) (Some q.entry) rs r more rest in
    entry-later q rs a (behind-range q.base q.len a (omega (arith, ends, from))) ∙ none-before (q.base + q.len) (Some q.entry) rs r more a rest from
