-- Entries with their numbers.
use Rattle.std.proofs.Common.{◌≡◌, ℕ, zero, suc, ◌+◌, ◌<◌, List, [], ◌∷◌, ◌++◌, length, take, map, get_or, refl, ap, arith, add-one}
use Rattle.std.proofs.lemmas.List.{map-append, take_more}
use Rattle.std.specs.List.{range_with_len}
use Rattle.sem_msg.specs.declared.entry.Entry.{Entry}
use Rattle.sem_chart.specs.declared.rows.NumberedEntry.{NumberedEntry}

-- one number more
range_with_len-suc : (a n : ℕ) → range_with_len a (suc n) ≡ range_with_len a n ++ (a + n) ∷ []
range_with_len-suc a zero =
    let same : a + 0 ≡ a = omega arith in
    rw same refl
range_with_len-suc a (suc n) =
    let same : (a + 1) + n ≡ a + suc n = omega arith in
    ap (λ ns. a ∷ ns) (rw same at (range_with_len-suc (a + 1) n))

-- one row more
pub rows_more : (from i n : ℕ) (e : Entry) (es : List Entry) (old new : List NumberedEntry) →
    (map (λ (r : NumberedEntry). r.number) old ≡ range_with_len from i) × (map (λ (r : NumberedEntry). r.entry) old ≡ take i es) → i < length es →
    e ≡ get_or es i e → n ≡ from + i → new ≡ old ++ record { number = n; entry = e } ∷ [] →
    (map (λ (r : NumberedEntry). r.number) new ≡ range_with_len from (i + 1)) × (map (λ (r : NumberedEntry). r.entry) new ≡ take (i + 1) es)
rows_more from i n e es old new so_far more found at pushed =
    let row : NumberedEntry = record { number = n; entry = e } in (
      rw (pushed, map-append (λ (r : NumberedEntry). r.number) old (row ∷ []), so_far.0, add-one, range_with_len-suc from i, at) refl,
      rw (pushed, map-append (λ (r : NumberedEntry). r.entry) old (row ∷ []), so_far.1, take_more es i e more, ← found) refl,
    )
