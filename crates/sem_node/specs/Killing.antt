-- What the private functions say of the entry of a kill, which a kernel makes before it steps.
use Rattle.std.specs.Prelude.{◌≡◌, ◌<◌, ℕ, Bool, true, [], ◌∷◌, ◌++◌, None, MatchBool}
use Rattle.sem_machine.specs.Prelude.{Kill, FabricValue, local_entry}
use Rattle.sem_kernel.specs.KernelValue.{KernelValue}
use Rattle.sem_turn.specs.Passes.{has_place, IsWhole, Follows}

-- the kernel has a place in the fabric, which is whole
pub record CanPut (k : KernelValue) (f : FabricValue) (v : ℕ) : Type 0 where
  pub few : k.id < k.setup.kernels
  pub whole : IsWhole k.setup f
  pub place : has_place f k.id ≡ true

-- the kill was entered, if it was due, and the fabric is whole again
pub record HasPut (due : Bool) (k : KernelValue) (f : FabricValue) (v : ℕ) (g : FabricValue) : Type 0 where
  pub journal : MatchBool due (g.journal ≡ f.journal ++ local_entry k.setup k.id k.side (Kill v) None ∷ []) (g.journal
      ≡ f.journal)
  pub follows : Follows k.id f g
  pub whole : IsWhole k.setup g
