-- What a client holds after a schedule: what it asked for, at the selectors that its calls name
-- ("The file service" in docs/proof.md).
use Rattle.std.specs.Prelude.{◌≡◌, ℕ, ◌<◌, true, false, ◌⊎◌, List, [], take, Contains, Option, Some, None}
use Rattle.sem_machine.specs.Prelude.{KeyName, Call, Entry, Parked, ObtainWait, ObtainReady, ObtainCancelled}
use Rattle.sem_machine.specs.Prelude.{DelegateWait, DelegateReady, RevokeWait, Ready, Free, Held, Setup, kernel_of}
use Rattle.sem_machine.specs.Prelude.{Side, row, slot, parked, World, side, world_after, grants, root_keys, cut_from}
use Rattle.sem_msg.specs.Lookups.{calls_of}
use Rattle.sem_machine.specs.Sound.{kept}
use Rattle.sem_files.specs.Compiled.{SESSION}
use Rattle.sem_fs.specs.Service.{GIVEN, holds}

-- the side of the kernel of a VPE, and the calls that the VPE has made
abbrev pub home : Setup → World → ℕ → Side
home T W v = side W (kernel_of T v)

abbrev pub calls_so_far : Setup → World → ℕ → List Call
calls_so_far T W v = take (row (home T W v) v).next_call (calls_of T v)

-- the key was granted below a root of the server
pub record IsGiven (T : Setup) (J : List Entry) (k : KeyName) : Type 0 where
  pub parent : KeyName
  pub root : Contains (root_keys T) parent
  pub granted : Contains (grants J) (parent, k)

-- the selector holds what was asked for, and it was not cut off
pub record Holds (T : Setup) (J : List Entry) (v sel : ℕ) : Type 0 where
  pub key : KeyName
  pub at : slot (home T (world_after T J) v) v sel ≡ Held key
  pub given : IsGiven T J key
  pub uncut : Contains (cut_from [] J) key → ⊥

-- the selector is free, or what it holds was cut off
pub record IsLeft (T : Setup) (J : List Entry) (v sel : ℕ) : Type 0 where
  pub key : KeyName
  pub at : slot (home T (world_after T J) v) v sel ≡ Held key
  pub given : IsGiven T J key
  pub cut_off : Contains (cut_from [] J) key

abbrev pub Lacks : Setup → List Entry → ℕ → ℕ → Type 0
Lacks T J v sel = (slot (home T (world_after T J) v) v sel ≡ Free) ⊎ IsLeft T J v sel

-- the parked call waits for a capability that comes to the selector
abbrev pub Awaits : Setup → World → ℕ → ℕ → Type 0
Awaits T W v sel = (number : ℕ) × (kept (parked (home T W v) v) ≡ Some (number, sel))

-- the parked call offers that key
abbrev pub Offers : Option Parked → KeyName → Type 0
Offers None p = ⊥
Offers (Some (ObtainWait number sel)) p = ⊥
Offers (Some (ObtainReady key parent object sel)) p = ⊥
Offers (Some ObtainCancelled) p = ⊥
Offers (Some (DelegateWait parent)) p = parent ≡ p
Offers (Some (DelegateReady parent key)) p = parent ≡ p
Offers (Some (RevokeWait j)) p = ⊥
Offers (Some (Ready code)) p = ⊥

-- the client holds the key at a selector for an extent
pub record IsHeldExtent (T : Setup) (W : World) (v : ℕ) (k : KeyName) : Type 0 where
  pub selector : ℕ
  pub beyond : SESSION < selector
  pub near : selector < GIVEN
  pub held : holds (calls_so_far T W v) selector ≡ true
  pub at : slot (home T W v) v selector ≡ Held k

pub record IsHolding (T : Setup) (J : List Entry) (v : ℕ) : Type 0 where
  pub held :
      (sel : ℕ) → sel < GIVEN → holds (calls_so_far T (world_after T J) v) sel ≡ true
      → Holds T J v sel ⊎ Awaits T (world_after T J) v sel
  pub free :
      (sel : ℕ) → sel < GIVEN → holds (calls_so_far T (world_after T J) v) sel ≡ false
      → Lacks T J v sel
  pub awaited :
      (number sel : ℕ) → kept (parked (home T (world_after T J) v) v) ≡ Some (number, sel)
      → (sel < GIVEN) × (holds (calls_so_far T (world_after T J) v) sel ≡ true)
  pub offered :
      (p : KeyName) → Offers (parked (home T (world_after T J) v) v) p
      → IsHeldExtent T (world_after T J) v p
