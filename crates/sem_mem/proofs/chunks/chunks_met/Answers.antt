use Rattle.std.proofs.Common.{◌≡◌, ℕ, ◌+◌, ◌-◌, ◌≤◌, drop, length, arith}
use Rattle.std.specs.List.{prefix_len}
use Rattle.std.specs.List.Sorted.{IsPartitionPoint}
use Rattle.std.specs.Prelude.{nat_lt, true, false}
use Rattle.std.proofs.lemmas.List.{take_rest, length-drop}
use Rattle.std.proofs.lemmas.List.Sorted.{IsPartitionedBy-ltb}
use Rattle.sem_mem.proofs.Chunking.{begins-rise, begins-within, met-by-beginnings}
use Rattle.sem_mem.proofs.Meeting.{walked}
use Rattle.sem_mem.proofs.chunks.chunks_met.Goals as goal

-- the last chunk that begins before the beginning, and from there on the first that begins behind the end
pub returns : goal.returns
returns c cs are same =
    let bs = c.args.beginnings.now in
    let i = c.count_begun-begun.result in
    let k = c.count_before.result in
    let first : IsPartitionPoint (λ b. nat_lt b c.args.base ≡ true) (λ b. nat_lt b c.args.base ≡ false) bs i =
    c.count_begun-begun.ensures.parted (begins-within cs are bs same)
    (IsPartitionedBy-ltb (λ (b : ℕ). b) bs c.args.base (begins-rise cs are bs same 0)) in
    let front : k ≡ prefix_len (λ b. nat_lt b c.args.end) (drop i bs) = rw (take_rest bs i) at c.count_before.ensures.front in
    let short : k ≤ length (drop i bs) = rw (take_rest bs i) at c.count_before.ensures.within in
    let second : IsPartitionPoint (λ b. nat_lt b c.args.end ≡ true) (λ b. nat_lt b c.args.end ≡ false) (drop i bs) k =
    walked (λ b. nat_lt b c.args.end) (drop i bs) k front (IsPartitionedBy-ltb (λ (b : ℕ). b) (drop i bs) c.args.end (begins-rise cs are bs same i)) in
    let size : length (drop i bs) ≡ length bs - i = length-drop i bs in
    let bound = c.count_begun-begun.ensures.within in
    let low : c.saturating_sub-from.result ≤ i - 1 = omega (arith, c.saturating_sub-from.ensures) in
    let high : i + k ≤ c.max.result = omega (arith, c.max.ensures) in
    let few : c.max.result ≤ length bs = omega (arith, c.max.ensures, c.min.ensures, bound, short, size) in
    met-by-beginnings cs are bs same c.args.base c.args.end i k bound short first second c.saturating_sub-from.result c.max.result low high few
