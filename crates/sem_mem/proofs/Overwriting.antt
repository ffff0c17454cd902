-- Runs that an entry overwrites: they are runs again, and tell the entry in its range and what they told elsewhere.
use Rattle.std.proofs.Common.{◌≡◌, ℕ, ◌+◌, ◌-◌, ◌≤◌, ◌<◌, true, false, cond, List, [], ◌∷◌, ◌++◌, Option, Some, None, refl, sym, ◌∙◌, ap, subst, inl, inr}
use Rattle.std.proofs.Common.{arith, ◌⊎◌}
use Rattle.std.specs.List.{filter_map, cons_option}
use Rattle.std.specs.Prelude.{◌≢◌, nat_lt, min, max}
use Rattle.std.proofs.lemmas.Bool.{cases_Bool, cases_lt, cond-true, cond-false, lt-ltb, le-ltb}
use Rattle.std.proofs.lemmas.Option.{same_Some}
use Rattle.std.proofs.lemmas.List.Elements.{All-cons, All-head, All-tail, All-append, All-weaker}
use Rattle.sem_key.specs.declared.limits.TheConstants.{ADDRESSES}
use Rattle.sem_access.specs.declared.run.Run.{Run}
use Rattle.sem_access.specs.LastWrites.{has_address}
use Rattle.sem_access.specs.Runs.{run_of, AreRunsBehind, AreRuns, IsNewer, entry_at}
use Rattle.sem_mem.specs.Writing.{lower_part, upper_part, overwritten}
use Rattle.sem_mem.proofs.KeptRuns.{has-address, address-in, below-range, behind-range, first-run, first-apart, more-runs, no-runs, run-before, entry-here}
use Rattle.sem_mem.proofs.KeptRuns.{entry-later, entry-behind, entry-before}

-- The parts of a run.

lower-some : (end : ℕ) (r : Run) → r.base < end → lower_part end r ≡ Some (run_of r.base (min (r.base + r.len) end - r.base) r.entry)
lower-some end r below = cond-true (nat_lt r.base end) _ _ (lt-ltb r.base end below)

lower-none : (end : ℕ) (r : Run) → end ≤ r.base → lower_part end r ≡ None
lower-none end r from = cond-false (nat_lt r.base end) _ _ (le-ltb r.base end from)

upper-some : (from : ℕ) (r : Run) → from < r.base + r.len → upper_part from r ≡ Some (run_of (max r.base from) (r.base + r.len - max r.base from) r.entry)
upper-some from r reaches = cond-true (nat_lt from (r.base + r.len)) _ _ (lt-ltb from (r.base + r.len) reaches)

upper-none : (from : ℕ) (r : Run) → r.base + r.len ≤ from → upper_part from r ≡ None
upper-none from r ends = cond-false (nat_lt from (r.base + r.len)) _ _ (le-ltb from (r.base + r.len) ends)

-- Parts, one run more.

pub lower-cons_some : (end : ℕ) (r : Run) (rs : List Run) → r.base < end →
    filter_map (lower_part end) (r ∷ rs) ≡ run_of r.base (min (r.base + r.len) end - r.base) r.entry ∷ filter_map (lower_part end) rs
lower-cons_some end r rs below = ap (λ o. cons_option o (filter_map (lower_part end) rs)) (lower-some end r below)

pub lower-cons_none : (end : ℕ) (r : Run) (rs : List Run) → end ≤ r.base → filter_map (lower_part end) (r ∷ rs) ≡ filter_map (lower_part end) rs
lower-cons_none end r rs from = ap (λ o. cons_option o (filter_map (lower_part end) rs)) (lower-none end r from)

pub upper-cons_some : (from : ℕ) (r : Run) (rs : List Run) → from < r.base + r.len →
    filter_map (upper_part from) (r ∷ rs) ≡ run_of (max r.base from) (r.base + r.len - max r.base from) r.entry ∷ filter_map (upper_part from) rs
upper-cons_some from r rs reaches = ap (λ o. cons_option o (filter_map (upper_part from) rs)) (upper-some from r reaches)

pub upper-cons_none : (from : ℕ) (r : Run) (rs : List Run) → r.base + r.len ≤ from → filter_map (upper_part from) (r ∷ rs) ≡ filter_map (upper_part from) rs
upper-cons_none from r rs ends = ap (λ o. cons_option o (filter_map (upper_part from) rs)) (upper-none from r ends)

-- What the parts tell.

lower-tells : (end : ℕ) (rs : List Run) (a : ℕ) → a < end → entry_at (filter_map (lower_part end) rs) a ≡ entry_at rs a
lower-tells end [] a below = refl
lower-tells end (r ∷ rs) a below =
    let rest = lower-tells end rs a below in
    elim (cases_lt r.base end) [
      | inl begins ↦
          let part : Run = run_of r.base (min (r.base + r.len) end - r.base) r.entry in
          let tail : List Run = filter_map (lower_part end) rs in
          ap (λ qs. entry_at qs a) (lower-cons_some end r rs begins)
          ∙ elim (cases_Bool (has_address r.base r.len a)) [
            | inl has ↦
                let inside = address-in r.base r.len a has in
                entry-here part tail a (has-address r.base (min (r.base + r.len) end - r.base) a inside.0 (omega (arith, inside.1, below, begins)))
                ∙ sym (entry-here r rs a has)
            | inr lacks ↦
                entry-later part tail a (apart (cases_lt a r.base) lacks begins) ∙ (rest ∙ sym (entry-later r rs a lacks))
          ]
      | inr from ↦ ap (λ qs. entry_at qs a) (lower-cons_none end r rs from)
          ∙ (rest ∙ sym (entry-later r rs a (below-range r.base r.len a (omega (arith, from, below)))))
    ]
  where
    apart : (a < r.base) ⊎ (r.base ≤ a) → has_address r.base r.len a ≡ false → r.base < end → has_address r.base (min (r.base + r.len) end - r.base) a ≡ false
    apart (inl before) lacks begins = below-range r.base (min (r.base + r.len) end - r.base) a before
    apart (inr behind) lacks begins = elim (cases_lt a (r.base + r.len)) [
      | inl inside ↦ let both : true ≡ false = sym (has-address r.base r.len a behind inside) ∙ lacks in absurd (cc)
      | inr past ↦ behind-range r.base (min (r.base + r.len) end - r.base) a (omega (arith, past, begins))
    ]

lower-silent : (end : ℕ) (rs : List Run) (a : ℕ) → end ≤ a → entry_at (filter_map (lower_part end) rs) a ≡ None
lower-silent end [] a from = refl
lower-silent end (r ∷ rs) a from = elim (cases_lt r.base end) [
  | inl begins ↦
      ap (λ qs. entry_at qs a) (lower-cons_some end r rs begins)
      ∙ (entry-later (run_of r.base (min (r.base + r.len) end - r.base) r.entry) (filter_map (lower_part end) rs) a
      (behind-range r.base (min (r.base + r.len) end - r.base) a (omega (arith, from, begins)))
      ∙ lower-silent end rs a from)
  | inr late ↦ ap (λ qs. entry_at qs a) (lower-cons_none end r rs late) ∙ lower-silent end rs a from
]

upper-silent : (from : ℕ) (rs : List Run) (a : ℕ) → a < from → entry_at (filter_map (upper_part from) rs) a ≡ None
upper-silent from [] a below = refl
upper-silent from (r ∷ rs) a below = elim (cases_lt from (r.base + r.len)) [
  | inl reaches ↦
      ap (λ qs. entry_at qs a) (upper-cons_some from r rs reaches)
      ∙ (entry-later (run_of (max r.base from) (r.base + r.len - max r.base from) r.entry) (filter_map (upper_part from) rs) a
      (below-range (max r.base from) (r.base + r.len - max r.base from) a (omega (arith, below)))
      ∙ upper-silent from rs a below)
  | inr ends ↦ ap (λ qs. entry_at qs a) (upper-cons_none from r rs ends) ∙ upper-silent from rs a below
]

upper-tells : (from : ℕ) (rs : List Run) (a : ℕ) → from ≤ a → entry_at (filter_map (upper_part from) rs) a ≡ entry_at rs a
upper-tells from [] a behind = refl
upper-tells from (r ∷ rs) a behind =
    let rest = upper-tells from rs a behind in
    elim (cases_lt from (r.base + r.len)) [
      | inl reaches ↦
          let part : Run = run_of (max r.base from) (r.base + r.len - max r.base from) r.entry in
          let tail : List Run = filter_map (upper_part from) rs in
          ap (λ qs. entry_at qs a) (upper-cons_some from r rs reaches)
          ∙ elim (cases_Bool (has_address r.base r.len a)) [
            | inl has ↦
                let inside = address-in r.base r.len a has in
                entry-here part tail a (has-address (max r.base from) (r.base + r.len - max r.base from) a (omega (arith, inside.0, behind))
                (omega (arith, inside.1, inside.0, behind)))
                ∙ sym (entry-here r rs a has)
            | inr lacks ↦
                entry-later part tail a (apart (cases_lt a r.base) lacks reaches) ∙ (rest ∙ sym (entry-later r rs a lacks))
          ]
      | inr ends ↦ ap (λ qs. entry_at qs a) (upper-cons_none from r rs ends)
          ∙ (rest ∙ sym (entry-later r rs a (behind-range r.base r.len a (omega (arith, ends, behind)))))
    ]
  where
    apart : (a < r.base) ⊎ (r.base ≤ a) → has_address r.base r.len a ≡ false → from < r.base + r.len →
        has_address (max r.base from) (r.base + r.len - max r.base from) a ≡ false
    apart (inl before) lacks reaches = below-range (max r.base from) (r.base + r.len - max r.base from) a (omega (arith, before))
    apart (inr late) lacks reaches = elim (cases_lt a (r.base + r.len)) [
      | inl inside ↦ let both : true ≡ false = sym (has-address r.base r.len a late inside) ∙ lacks in absurd (cc)
      | inr past ↦ behind-range (max r.base from) (r.base + r.len - max r.base from) a (omega (arith, past, reaches))
    ]

-- what all of them tell
pub overwritten-tells : (rs : List Run) (base len entry a : ℕ) →
    entry_at (overwritten rs base len entry) a ≡ cond (has_address base len a) (Some entry) (entry_at rs a)
overwritten-tells rs base len entry a =
    let lower : List Run = filter_map (lower_part base) rs in
    let upper : List Run = filter_map (upper_part (base + len)) rs in
    let part : Run = run_of base len entry in
    elim (cases_lt a base) [
      | inl below ↦
          let silent : entry_at (part ∷ upper) a ≡ None = entry-later part upper a (below-range base len a below)
          ∙ upper-silent (base + len) rs a (omega (arith, below)) in
          entry-before lower (part ∷ upper) a silent
          ∙ (lower-tells base rs a below ∙ sym (cond-false (has_address base len a) (Some entry) (entry_at rs a) (below-range base len a below)))
      | inr from ↦
          entry-behind lower (part ∷ upper) a (lower-silent base rs a from)
          ∙ elim (cases_lt a (base + len)) [
            | inl inside ↦
                let has : has_address base len a ≡ true = has-address base len a from inside in
                entry-here part upper a has ∙ sym (cond-true (has_address base len a) (Some entry) (entry_at rs a) has)
            | inr behind ↦
                let lacks : has_address base len a ≡ false = behind-range base len a behind in
                entry-later part upper a lacks
                ∙ (upper-tells (base + len) rs a behind ∙ sym (cond-false (has_address base len a) (Some entry) (entry_at rs a) lacks))
          ]
    ]

-- The parts are runs.

-- an entry differs from an older one
older-differs : (m n : ℕ) → m < n → Some m ≢ Some n
older-differs m n lt same = let equal : m ≡ n = same_Some m n same in omega (arith, lt, equal)

newer-differs : (m n : ℕ) → m < n → Some n ≢ Some m
newer-differs m n lt same = let equal : n ≡ m = same_Some n m same in omega (arith, lt, equal)

-- below the runs behind an address there is no part of them
no-lower : (end b : ℕ) (e : Option ℕ) (rs : List Run) → AreRunsBehind b e rs → end ≤ b → filter_map (lower_part end) rs ≡ []
no-lower end b e [] are late = refl
no-lower end b e (r ∷ rs) are late =
    let apart = first-apart b e r rs are in
    lower-cons_none end r rs (omega (arith, apart.0, late))
    ∙ no-lower end (r.base + r.len) (Some r.entry) rs (more-runs b e r rs are) (omega (arith, apart.0, late))

-- and all of them lies behind what comes before
pub whole-run : (r : Run) (n m : ℕ) → n ≡ r.base → m ≡ r.len → run_of n m r.entry ≡ r
whole-run r n m base len = ap (λ x. run_of x m r.entry) base ∙ ap (λ x. run_of r.base x r.entry) len

all-upper : (from b : ℕ) (e : Option ℕ) (rs : List Run) → AreRunsBehind b e rs → from ≤ b → filter_map (upper_part from) rs ≡ rs
all-upper from b e [] are early = refl
all-upper from b e (r ∷ rs) are early =
    let is = first-run b e r rs are in
    let apart = first-apart b e r rs are in
    let base : max r.base from ≡ r.base = omega (arith, apart.0, early) in
    let len : r.base + r.len - max r.base from ≡ r.len = omega (arith, apart.0, early) in
    upper-cons_some from r rs (omega (arith, is.0, apart.0, early))
    ∙ (ap (λ q. q ∷ filter_map (upper_part from) rs) (whole-run r (max r.base from) (r.base + r.len - max r.base from) base len)
    ∙ ap (λ qs. r ∷ qs) (all-upper from (r.base + r.len) (Some r.entry) rs (more-runs b e r rs are) (omega (arith, apart.0, early))))

-- the parts behind a range that a newer entry wrote
upper-runs : (from entry b : ℕ) (e : Option ℕ) (rs : List Run) → AreRunsBehind b e rs → IsNewer rs entry →
    AreRunsBehind from (Some entry) (filter_map (upper_part from) rs)
upper-runs from entry b e [] are newer = no-runs from (Some entry)
upper-runs from entry b e (r ∷ rs) are newer =
    let is = first-run b e r rs are in
    let rest = more-runs b e r rs are in
    let old : r.entry < entry = All-head (λ (q : Run). q.entry < entry) r rs newer in
    elim (cases_lt from (r.base + r.len)) [
      | inl reaches ↦
          let base : ℕ = max r.base from in
          let end : base + (r.base + r.len - base) ≡ r.base + r.len = omega (arith, reaches, is.0) in
          subst (AreRunsBehind from (Some entry)) (sym (upper-cons_some from r rs reaches))
          (run-before from (Some entry) (run_of base (r.base + r.len - base) r.entry) (filter_map (upper_part from) rs)
          (omega (arith, reaches, is.0), omega (arith, end, is.1))
          (omega arith, λ touch. newer-differs r.entry entry old)
          (subst (λ n. AreRunsBehind n (Some r.entry) (filter_map (upper_part from) rs)) (sym end)
          (subst (AreRunsBehind (r.base + r.len) (Some r.entry)) (sym (all-upper from (r.base + r.len) (Some r.entry) rs rest (omega (arith, reaches))))
          rest)))
      | inr ends ↦
          subst (AreRunsBehind from (Some entry)) (sym (upper-cons_none from r rs ends))
          (upper-runs from entry (r.base + r.len) (Some r.entry) rs rest (All-tail (λ (q : Run). q.entry < entry) r rs newer))
    ]

-- the parts below the range, the range, and what is behind it
module _ (base len entry : ℕ) (some : 1 ≤ len) (fits : base + len ≤ ADDRESSES) (behind : List Run) (rest : AreRunsBehind (base + len) (Some entry) behind) where
  abbrev part : Run
  part = run_of base len entry

  from-part : (b : ℕ) (e : Option ℕ) → b ≤ base → e ≢ Some entry → AreRunsBehind b e (part ∷ behind)
  from-part b e le differs = run-before b e part behind (some, fits) (le, λ touch. differs) rest

  lower-runs : (b : ℕ) (e : Option ℕ) (rs : List Run) → b ≤ base → e ≢ Some entry → AreRunsBehind b e rs → IsNewer rs entry →
      AreRunsBehind b e (filter_map (lower_part base) rs ++ part ∷ behind)
  lower-runs b e [] le differs are newer = from-part b e le differs
  lower-runs b e (r ∷ rs) le differs are newer =
      let is = first-run b e r rs are in
      let apart = first-apart b e r rs are in
      let more = more-runs b e r rs are in
      let old : r.entry < entry = All-head (λ (q : Run). q.entry < entry) r rs newer in
      elim (cases_lt r.base base) [
        | inl begins ↦
            let size : ℕ = min (r.base + r.len) base - r.base in
            let low : Run = run_of r.base size r.entry in
            subst (λ qs. AreRunsBehind b e (qs ++ part ∷ behind)) (sym (lower-cons_some base r rs begins))
            (run-before b e low (filter_map (lower_part base) rs ++ part ∷ behind)
            (omega (arith, begins, is.0), omega (arith, begins, is.1))
            apart
            (elim (cases_lt base (r.base + r.len)) [
              | inl over ↦
                  let end : r.base + size ≡ base = omega (arith, over, begins) in
                  subst (λ n. AreRunsBehind n (Some r.entry) (filter_map (lower_part base) rs ++ part ∷ behind)) (sym end)
                  (subst (λ qs. AreRunsBehind base (Some r.entry) (qs ++ part ∷ behind))
                  (sym (no-lower base (r.base + r.len) (Some r.entry) rs more (omega (arith, over))))
                  (from-part base (Some r.entry) (omega arith) (older-differs r.entry entry old)))
              | inr whole ↦
                  let end : r.base + size ≡ r.base + r.len = omega (arith, whole, begins) in
                  subst (λ n. AreRunsBehind n (Some r.entry) (filter_map (lower_part base) rs ++ part ∷ behind)) (sym end)
                  (lower-runs (r.base + r.len) (Some r.entry) rs whole (older-differs r.entry entry old) more
                  (All-tail (λ (q : Run). q.entry < entry) r rs newer))
            ]))
        | inr late ↦
            let none : filter_map (lower_part base) (r ∷ rs) ≡ [] = lower-cons_none base r rs late
            ∙ no-lower base (r.base + r.len) (Some r.entry) rs more (omega (arith, late)) in
            subst (λ qs. AreRunsBehind b e (qs ++ part ∷ behind)) (sym none) (from-part b e le differs)
      ]

pub overwritten-runs : (rs : List Run) (base len entry : ℕ) → 1 ≤ len → base + len ≤ ADDRESSES → AreRuns rs → IsNewer rs entry →
    AreRuns (overwritten rs base len entry)
overwritten-runs rs base len entry some fits are newer =
    lower-runs base len entry some fits (filter_map (upper_part (base + len)) rs) (upper-runs (base + len) entry 0 None rs are newer)
    0 None rs (omega arith) (λ same. absurd (cc)) are newer

-- The entry is the newest.

lower-old : (end entry : ℕ) (rs : List Run) → IsNewer rs entry → IsNewer (filter_map (lower_part end) rs) entry
lower-old end entry [] newer = newer
lower-old end entry (r ∷ rs) newer =
    let old = All-head (λ (q : Run). q.entry < entry) r rs newer in
    let rest = lower-old end entry rs (All-tail (λ (q : Run). q.entry < entry) r rs newer) in
    elim (cases_lt r.base end) [
      | inl begins ↦ subst (λ qs. IsNewer qs entry) (sym (lower-cons_some end r rs begins))
          (All-cons (λ (q : Run). q.entry < entry) _ (filter_map (lower_part end) rs) old rest)
      | inr late ↦ subst (λ qs. IsNewer qs entry) (sym (lower-cons_none end r rs late)) rest
    ]

upper-old : (from entry : ℕ) (rs : List Run) → IsNewer rs entry → IsNewer (filter_map (upper_part from) rs) entry
upper-old from entry [] newer = newer
upper-old from entry (r ∷ rs) newer =
    let old = All-head (λ (q : Run). q.entry < entry) r rs newer in
    let rest = upper-old from entry rs (All-tail (λ (q : Run). q.entry < entry) r rs newer) in
    elim (cases_lt from (r.base + r.len)) [
      | inl reaches ↦ subst (λ qs. IsNewer qs entry) (sym (upper-cons_some from r rs reaches))
          (All-cons (λ (q : Run). q.entry < entry) _ (filter_map (upper_part from) rs) old rest)
      | inr ends ↦ subst (λ qs. IsNewer qs entry) (sym (upper-cons_none from r rs ends)) rest
    ]

pub overwritten-newest : (rs : List Run) (base len entry : ℕ) → IsNewer rs entry → IsNewer (overwritten rs base len entry) (entry + 1)
overwritten-newest rs base len entry newer =
    let P : Run → Type 0 = λ (q : Run). q.entry < entry + 1 in
    let weaker : (q : Run) → q.entry < entry → q.entry < entry + 1 = λ q lt. omega (arith, lt) in
    All-append P (filter_map (lower_part base) rs) (run_of base len entry ∷ filter_map (upper_part (base + len)) rs)
    (All-weaker (λ (q : Run). q.entry < entry) P weaker (filter_map (lower_part base) rs) (lower-old base entry rs newer))
    (All-cons P (run_of base len entry) (filter_map (upper_part (base + len)) rs) (omega arith)
    (All-weaker (λ (q : Run). q.entry < entry) P weaker (filter_map (upper_part (base + len)) rs) (upper-old (base + len) entry rs newer)))
