-- Pairs of numbers.
use Rattle.std.specs.Prelude.{ℕ, ◌==◌, ◌&&◌, Bool}
use Rattle.std.specs.Ordering.{ordering_then, nat_cmp}
use Rattle.std.specs.declared.cmp.Ordering.{Ordering}
use Rattle.sem_msg.specs.declared.setup.Offer.{Offer}

-- whether two pairs are equal
abbrev pub is_same_pair : ℕ × ℕ → ℕ × ℕ → Bool
is_same_pair p q = (p.0 == q.0) && (p.1 == q.1)

-- the first numbers decide; if they are equal, the second
abbrev pub compare_pairs : ℕ × ℕ → ℕ × ℕ → Ordering
compare_pairs p q = ordering_then (nat_cmp p.0 q.0) (nat_cmp p.1 q.1)

-- the first pairs decide; if they are equal, the numbers after them
abbrev pub compare_entries : (ℕ × ℕ) × ℕ → (ℕ × ℕ) × ℕ → Ordering
compare_entries a b = ordering_then (compare_pairs a.0 b.0) (nat_cmp a.1 b.1)

-- the offer under a name and an index
abbrev pub offer_with : (ℕ × ℕ) × ℕ → Offer
offer_with e = record { name = e.0.0; index = e.0.1; sel = e.1 }
