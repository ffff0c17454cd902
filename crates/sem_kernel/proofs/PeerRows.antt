-- The fetches and flushes of a kernel, by the masks of the kernels that they name.
use Rattle.std.proofs.Common.{◌≡◌, ℕ, ◌<◌, ◌≤◌, ◌&&◌, Bool, true, false, cond, not, List, length, map, get_or, is_some, slice_get, refl, sym, ◌∙◌, ap, subst}
use Rattle.std.proofs.Common.{arith}
use Rattle.std.specs.Prelude.{◌==◌, nat_lt, nat_le}
use Rattle.std.specs.List.{range_with_len}
use Rattle.sem_msg.specs.declared.event.Act.TheVariants.{Fetch, Flush}
use Rattle.sem_msg.specs.Setup.{Setup, IsSetup}
use Rattle.sem_msg.specs.Fabric.{FabricValue, link_in}
use Rattle.sem_msg.specs.Masks.{has_bit, IsMaskOf}
use Rattle.sem_msg.proofs.Masks.{kernels_in, kept-same}
use Rattle.sem_machine.specs.Sides.{outbox}
use Rattle.sem_machine.specs.Machine.{event}
use Rattle.sem_kernel.specs.KernelValue.{KernelValue}
use Rattle.sem_kernel.specs.Worlds.{world_of, AreKernelsOf, IsKernelOf, can_do}
use Rattle.sem_kernel.specs.Listing.{enabled_among, others_in}
use Rattle.sem_kernel.proofs.Happened.{enabled-here}
use Rattle.sem_kernel.proofs.Listings.{peers-kept}
use Rattle.sem_kernel.proofs.Passing.{fetch-bit, flush-bit, fetch-past, flush-past}

-- a mask with no bit for kernel i
pub others-start : (mask i rest : ℕ) → IsMaskOf (λ j. cond (j == i) false (has_bit mask j)) rest → kernels_in rest ≡ others_in mask i
unfolding kernels_in
others-start mask i rest is = kept-same (λ j. not (j == i) && has_bit mask j) (has_bit rest) 32 0 (λ j low high. is j (omega arith)
    ∙ other (j == i) (has_bit mask j))
  where
    other : (own bit : Bool) → cond own false bit ≡ (not own && bit)
    other true bit = refl
    other false bit = refl

module _ (T : Setup) (ks : List KernelValue) (f : FabricValue) (are : AreKernelsOf T ks f) (i : ℕ) (few : i < T.kernels) (k : KernelValue) (at : k
    ≡ get_or ks i k) (valid : IsSetup T) where
  is : IsKernelOf T i k
  is = subst (IsKernelOf T i) (sym at) (are.each i k few)

  kernels-few : T.kernels ≤ 32
  kernels-few = let most = valid.membership.few_kernels in let same = valid.same_kernels in omega (arith, most, same)

  same : f.kernels ≡ k.setup.kernels
  same = are.fabric.kernels ∙ ap (λ (S : Setup). S.kernels) (sym is.setup)

  past : (j : ℕ) → T.kernels ≤ j → k.setup.kernels ≤ j
  past j high = let own = ap (λ (S : Setup). S.kernels) is.setup in omega (arith, high, own)

  pub fetches-kept : is_some k.side.inbox ≡ false → (coming : ℕ) →
      IsMaskOf (λ from. nat_lt from f.kernels && nat_lt 0 (length (link_in f.links from i))) coming →
      map (λ j. event i (Fetch j)) (others_in coming i) ≡ enabled_among T (world_of ks f) (map (λ j. event i (Fetch j)) (range_with_len 0 T.kernels))
  fetches-kept none coming comes =
      let own : IsMaskOf (λ from. nat_lt from f.kernels && nat_lt 0 (length (link_in f.links from k.id))) coming =
      subst (λ n. IsMaskOf (λ from. nat_lt from f.kernels && nat_lt 0 (length (link_in f.links from n))) coming) (sym is.id) comes in
      peers-kept T (world_of ks f) (λ j. event i (Fetch j)) coming i kernels-few
      (λ j lt. subst (λ n. (not (j == n) && has_bit coming j) ≡ can_do k f (Fetch j)) is.id (fetch-bit k f same j lt none coming own)
      ∙ enabled-here T ks f are i few k at (Fetch j))
      (λ j high. sym (enabled-here T ks f are i few k at (Fetch j)) ∙ fetch-past k f j (past j high))

  pub flushes-kept : (mask filled full : ℕ) → IsMaskOf (λ to. has_bit filled to && not (has_bit full to)) mask →
      IsMaskOf (λ to. nat_lt to k.setup.kernels && is_some (slice_get (outbox k.side to) 0)) filled →
      IsMaskOf (λ to. nat_le f.window (length (link_in f.links i to))) full →
      map (λ j. event i (Flush j)) (others_in mask i) ≡ enabled_among T (world_of ks f) (map (λ j. event i (Flush j)) (range_with_len 0 T.kernels))
  flushes-kept mask filled full both waits fills =
      let own : IsMaskOf (λ to. nat_le f.window (length (link_in f.links k.id to))) full =
      subst (λ n. IsMaskOf (λ to. nat_le f.window (length (link_in f.links n to))) full) (sym is.id) fills in
      peers-kept T (world_of ks f) (λ j. event i (Flush j)) mask i kernels-few
      (λ j lt. subst (λ n. (not (j == n) && has_bit mask j) ≡ can_do k f (Flush j)) is.id (flush-bit k f same j lt mask filled full both waits own)
      ∙ enabled-here T ks f are i few k at (Flush j))
      (λ j high. sym (enabled-here T ks f are i few k at (Flush j)) ∙ flush-past k f j (past j high))
