-- What the private functions say of a step of a kernel that has the fabric.
use Rattle.std.specs.Prelude.{◌≡◌, ◌≢◌, ◌⊎◌, ℕ, Bool, Some, None, MatchBool}
use Rattle.sem_machine.specs.Prelude.{Act, Entry, FabricValue}
use Rattle.sem_fabric.specs.Fabrics.{placed}
use Rattle.sem_kernel.specs.KernelValue.{KernelValue}
use Rattle.sem_kernel.specs.Worlds.{CanAct, HasDone}
use Rattle.sem_turn.specs.Passes.{has_place, IsWhole}

-- the fabric as it was, or with a place for the kernel
abbrev pub MayGetPlace : ℕ → FabricValue → FabricValue → Type 0
MayGetPlace k f g = (g ≡ placed k f) ⊎ (g ≡ f)

-- the kernel is ready for an act that is enabled as far as it can tell, whether it has a place in
-- the fabric or not, and the fabric is whole
pub record IsReadyToTry (k : KernelValue) (f : FabricValue) (act : Act) : Type 0 where
  pub able : CanAct k f act
  pub ready : k.ready ≡ Some act
  pub whole : IsWhole k.setup f

-- In a turn, kernel k did the act, its entry has no reply, and the fabric is whole again.
pub record HasActed (k : KernelValue) (f : FabricValue) (act : Act) (l : KernelValue) (g : FabricValue) : Type 0 where
  pub entry : Entry
  pub done : HasDone k f act l g entry
  pub silent : entry.reply ≡ None
  pub whole : IsWhole k.setup g

-- Or it did nothing. It may have got a place.
pub record HasRested (k : KernelValue) (f : FabricValue) (l : KernelValue) (g : FabricValue) : Type 0 where
  pub kernel : l ≡ record k { ready = l.ready }
  pub whole : IsWhole k.setup g
  pub journal : g.journal ≡ f.journal
  pub others : (j : ℕ) → j ≢ k.id → has_place g j ≡ has_place f j

abbrev pub HasTried : Bool → KernelValue → FabricValue → Act → KernelValue → FabricValue → Type 0
HasTried done k f act l g = MatchBool done (HasActed k f act l g) (HasRested k f l g)
