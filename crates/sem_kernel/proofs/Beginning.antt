-- The kernels and the fabric of the world at the start.
use Rattle.std.proofs.Common.{◌≡◌, ℕ, ◌+◌, List, [], ◌∷◌, ◌++◌, map, refl, sym, ◌∙◌, ap, subst, arith}
use Rattle.std.specs.List.{range_with_len}
use Rattle.std.proofs.lemmas.Simd.{map-map}
use Rattle.std.proofs.lemmas.List.FromFn.{length-map-range_with_len, get_or-map-range_with_len, map-range_with_len_more}
use Rattle.sem_msg.specs.Setup.{Setup, IsSetup}
use Rattle.sem_msg.specs.Fabric.{FabricValue}
use Rattle.sem_fabric.specs.Fabrics.{new_fabric}
use Rattle.sem_machine.specs.Machine.{start, start_side}
use Rattle.sem_sound.proofs.Starting.{start-sound}
use Rattle.sem_kernel.specs.KernelValue.{KernelValue}
use Rattle.sem_kernel.specs.Worlds.{world_of, IsKernelOf, AreKernelsOf, WorldValue, booted}

-- one more of them
pub booted-more : (T : Setup) (n : ℕ) (ks : List KernelValue) (k : KernelValue) → ks ≡ map (booted T) (range_with_len 0 n) → k ≡ booted T n →
    ks ++ k ∷ [] ≡ map (booted T) (range_with_len 0 (n + 1))
booted-more T n ks k before is =
    ap (λ xs. xs ++ k ∷ []) before
    ∙ (ap (λ x. map (booted T) (range_with_len 0 n) ++ x ∷ []) is
    ∙ sym (map-range_with_len_more (booted T) 0 n n (omega arith)))

-- they stand together
pub booted-together : (T : Setup) → IsSetup T → AreKernelsOf T (map (booted T) (range_with_len 0 T.kernels)) (new_fabric T)
booted-together T valid = record {
  many = length-map-range_with_len (booted T) 0 T.kernels;
  each = λ i d lt. subst (IsKernelOf T i) (sym (get_or-map-range_with_len (booted T) 0 T.kernels i i d lt (omega arith)))
      (record { setup = refl; id = refl; sound = start-sound T valid i lt });
  fabric = record { kernels = refl; window = refl; kills = refl };
}

-- and are the world at the start
pub booted-world : (T : Setup) → world_of (map (booted T) (range_with_len 0 T.kernels)) (new_fabric T) ≡ start T
unfolding start
booted-world T =
    let sides : map (λ (k : KernelValue). k.side) (map (booted T) (range_with_len 0 T.kernels)) ≡ map (start_side T) (range_with_len 0 T.kernels) =
    map-map (λ (k : KernelValue). k.side) (booted T) (range_with_len 0 T.kernels) in
    λ j. record { sides = sides j; links = (new_fabric T).links; replies = 0 }

-- so are kernels that are those, with a copy of the setup
module _ (T : Setup) (S : Setup) (copied : S ≡ T) (ks : List KernelValue) (all : ks ≡ map (booted T) (range_with_len 0 T.kernels)) (f : FabricValue) (new : f
    ≡ new_fabric T) where
  pub boots-together : IsSetup T → AreKernelsOf S ks f
  boots-together valid =
      subst (λ X. AreKernelsOf X ks f) (sym copied)
      (subst (λ xs. AreKernelsOf T xs f) (sym all) (subst (AreKernelsOf T (map (booted T) (range_with_len 0 T.kernels))) (sym new) (booted-together T valid)))

  pub boots-world : ◌≡◌ {A = WorldValue} (record { setup = S; world = world_of ks f }) (record { setup = T; world = start T })
  boots-world =
      let world : world_of ks f ≡ start T = ap (λ xs. world_of xs f) all ∙ (ap (world_of (map (booted T) (range_with_len 0 T.kernels))) new ∙ booted-world T) in
      λ j. record { setup = copied j; world = world j }
