-- What a schedule of a file service never runs out of: room and numbers for what is asked and
-- given, and objects of the right kind ("The file service" in docs/proof.md).
use Rattle.std.specs.Prelude.{◌≡◌, ℕ, ◌<◌, Bool, [], false, true, List, Contains, Option, Some, None, slice_get}
use Rattle.sem_machine.specs.Prelude.{KeyName, Capability, Object, Call, Read as ReadCall, Write as WriteCall, Entry}
use Rattle.sem_machine.specs.Prelude.{DelegateAsk, Free, Held, VpeDecl, Setup, decl, row, slot, cap, endpoint, World}
use Rattle.sem_machine.specs.Prelude.{world_after, root_keys, cut_from, MemKind}
use Rattle.sem_key.specs.declared.limits.TheConstants.{NUMBERS}
use Rattle.sem_msg.specs.declared.code.Code.{Code}
use Rattle.sem_msg.specs.Uses.{memory_tests}
use Rattle.sem_machine.specs.Calls.{session_service, stays_at_home}
use Rattle.sem_machine.specs.Machine.{next_call}
use Rattle.sem_machine.specs.Steps.{first_code}
use Rattle.sem_files.specs.Compiled.{SERVER, SESSION, service_key}
use Rattle.sem_fs.specs.Service.{GIVEN, IsExtent, is_ask}
use Rattle.sem_fs.specs.Holding.{home, IsGiven}

-- a client that is given something has room for it, and a number left
pub record ClientHasRoom (T : Setup) (W : World) (u : ℕ) (parent : KeyName) (object : Object) (sel : ℕ)
    : Type 0 where
  pub room : slot (home T W u) u sel ≡ Free
  pub number : (row (home T W u) u).next_number < NUMBERS

-- everything given, and everything asked for, finds room and a number
pub record HasRooms (T : Setup) (J : List Entry) : Type 0 where
  pub given :
      (u : ℕ) (d : VpeDecl) (parent : KeyName) (object : Object) (sel : ℕ) → decl T u ≡ Some d
      → slice_get (row (home T (world_after T J) u) u).asks 0 ≡ Some (DelegateAsk parent object sel)
      → ClientHasRoom T (world_after T J) u parent object sel
  pub numbers :
      (v : ℕ) (d : VpeDecl) (c : Call) → decl T v ≡ Some d
      → next_call T (home T (world_after T J) v) v ≡ Some c → is_ask c ≡ true
      → (row (home T (world_after T J) v) v).next_number < NUMBERS

-- no test holds
abbrev pub PassesTests : List (Bool × Code) → Type 0
PassesTests tests = ◌≡◌ {A = Option Code} (first_code tests) None

-- objects are of the right kind
pub record HasObjects (T : Setup) (J : List Entry) : Type 0 where
  -- a session is one with the server, and an extent may be bound and given
  pub sessions :
      (v : ℕ) (k : KeyName) (c : Capability)
      → slot (home T (world_after T J) v) v SESSION ≡ Held k → IsGiven T J k
      → cap (home T (world_after T J) v) k ≡ Some c → session_service c.object ≡ Some service_key
  pub extents :
      (v sel : ℕ) (k : KeyName) (c : Capability) → SESSION < sel → sel < GIVEN
      → slot (home T (world_after T J) v) v sel ≡ Held k → IsGiven T J k
      → cap (home T (world_after T J) v) k ≡ Some c → stays_at_home c.object ≡ false
  -- every accessed extent is bound, and big enough
  pub reads :
      (v ep off len : ℕ) → next_call T (home T (world_after T J) v) v ≡ Some (ReadCall ep off len)
      → PassesTests (memory_tests 1 off len (endpoint (home T (world_after T J) v) v ep))
  pub writes :
      (v ep off len : ℕ) → next_call T (home T (world_after T J) v) v ≡ Some (WriteCall ep off len)
      → PassesTests (memory_tests 2 off len (endpoint (home T (world_after T J) v) v ep))

-- both
pub record IsSupplied (T : Setup) (J : List Entry) : Type 0 where
  pub rooms : HasRooms T J
  pub objects : HasObjects T J

-- the server has the service and its extents, at their selectors
pub record IsServing (T : Setup) (J : List Entry) : Type 0 where
  pub extent :
      (sel : ℕ) → IsExtent T sel
      → (k : KeyName) × (slot (home T (world_after T J) SERVER) SERVER sel ≡ Held k)
      × Contains (root_keys T) k × (k.kind ≡ MemKind)
  pub uncut : (k : KeyName) → Contains (root_keys T) k → Contains (cut_from [] J) k → ⊥
