-- The world of kernels and their fabric, and what an act does to the fabric.
use Rattle.std.specs.Prelude.{◌≡◌, ◌≢◌, ℕ, ◌<◌, nat_lt, Bool, true, false, ◌&&◌, List, ◌∷◌, [], ◌++◌, length}
use Rattle.std.specs.Prelude.{map, drop, slice_get, slice_index_or, Option, None, Some, is_some}
use Rattle.std.specs.Option.{option_map_or}
use Rattle.sem_machine.specs.Prelude.{Message, Act, Calls, Fetch, Handle, Upcall, Resume, Flush, Kill, Event, Entry}
use Rattle.sem_machine.specs.Prelude.{replies, Setup, IsSetup, FabricValue, Side, outbox, IsSound, World, start_side}
use Rattle.sem_machine.specs.Prelude.{after, is_locally_enabled, local_step, local_entry}
use Rattle.sem_msg.specs.Fabric.{link_in, relinked}
use Rattle.sem_kernel.specs.KernelValue.{KernelValue, is_timely, IsInput}

-- the sides of the kernels, the links of the fabric, and the number of replies in its journal
abbrev pub world_of : List KernelValue → FabricValue → World
world_of ks f =
    record {
      sides = map (λ k. k.side) ks;
      links = f.links;
      replies = length (replies f.journal);
    }

-- it is kernel i of the setup, and its stores are sound
pub record IsKernelOf (T : Setup) (i : ℕ) (k : KernelValue) : Type 0 where
  pub setup : k.setup ≡ T
  pub id : k.id ≡ i
  pub sound : IsSound T i k.side

-- the fabric is one of the setup
pub record IsFabricOf (T : Setup) (f : FabricValue) : Type 0 where
  pub kernels : f.kernels ≡ T.kernels
  pub window : f.window ≡ T.window
  pub kills : f.kills ≡ T.kills

-- they are all kernels of the setup, each at the place of its number, with the fabric between them
pub record AreKernelsOf (T : Setup) (ks : List KernelValue) (f : FabricValue) : Type 0 where
  pub many : length ks ≡ T.kernels
  pub each : (i : ℕ) (d : KernelValue) → i < T.kernels → IsKernelOf T i (slice_index_or ks i d)
  pub fabric : IsFabricOf T f

-- One kernel and the fabric.

-- whether the links allow an act of kernel i: a fetch finds a message, a flush finds a link with
-- room
abbrev pub is_passable : FabricValue → ℕ → Act → Bool
is_passable f i (Calls v) = true
is_passable f i (Resume v) = true
is_passable f i (Upcall v) = true
is_passable f i Handle = true
is_passable f i (Fetch j) = is_some (slice_get (link_in f.links j i) 0)
is_passable f i (Flush j) = nat_lt (length (link_in f.links i j)) f.window
is_passable f i (Kill v) = true

-- the message that an act of kernel i takes out of a link
abbrev pub taken : FabricValue → ℕ → Act → Option Message
taken f i (Fetch j) = slice_get (link_in f.links j i) 0
taken f i act = None

-- the fabric after the message of an act of kernel i has moved: out of a link for a fetch, into one
-- for a flush
abbrev pub fabric_moved : ℕ → Side → Act → FabricValue → FabricValue
fabric_moved i s (Fetch j) f = relinked j i (drop 1 (link_in f.links j i)) f
fabric_moved i s (Flush j) f =
    option_map_or (λ m. relinked i j (link_in f.links i j ++ m ∷ []) f) (slice_get (outbox s j) 0) f
fabric_moved i s act f = f

-- an act that names no other kernel, or one below n
abbrev pub NamesPeer : ℕ → ℕ → Act → Type 0
NamesPeer n i (Fetch j) = (j < n) × (j ≢ i)
NamesPeer n i (Flush j) = (j < n) × (j ≢ i)
NamesPeer n i act = Unit {0}

-- whether the kernel can do the act with that fabric, as far as its side, the replies and the links
-- tell
abbrev pub can_do : KernelValue → FabricValue → Act → Bool
can_do k f act = (is_locally_enabled k.setup k.id k.side act && is_timely k.setup (length (replies f.journal)) act)
    && is_passable f k.id act

-- the act is enabled as far as the side of the kernel tells, and both are of one setup
pub record CanAct (k : KernelValue) (f : FabricValue) (act : Act) : Type 0 where
  pub setup : IsSetup k.setup
  pub few : k.id < k.setup.kernels
  pub sound : IsSound k.setup k.id k.side
  pub fabric : IsFabricOf k.setup f
  pub enabled : is_locally_enabled k.setup k.id k.side act ≡ true

-- the kernel can do the act with that fabric: the links allow it too
pub record CanDo (k : KernelValue) (f : FabricValue) (act : Act) : Type 0 where
  pub able : CanAct k f act
  pub passes : is_passable f k.id act ≡ true

-- the kernel can try the act with that fabric: it has its room and a place in the journal
pub record CanTry (k : KernelValue) (f : FabricValue) (act : Act) : Type 0 where
  pub able : CanAct k f act
  pub ready : k.ready ≡ Some act
  pub place : slice_index_or f.places k.id false ≡ true

-- kernel k did the act with the fabric f, and they became l and g: the entry of the act is in the
-- journal, where the other kernels keep their places
pub record HasDone (k : KernelValue) (f : FabricValue) (act : Act) (l : KernelValue) (g : FabricValue)
    (e : Entry) : Type 0 where
  pub input : IsInput act (taken f k.id act)
  pub entry : e ≡ local_entry k.setup k.id k.side act (taken f k.id act)
  pub kernel : l ≡ record k { side = (local_step k.setup k.id k.side act (taken f k.id act)).side; ready = None }
  pub sound : IsSound k.setup k.id l.side
  pub links : g.links ≡ (fabric_moved k.id k.side act f).links
  pub journal : g.journal ≡ f.journal ++ e ∷ []
  pub fabric : IsFabricOf k.setup g
  pub others : (j : ℕ) → j ≢ k.id → slice_index_or g.places j false ≡ slice_index_or f.places j false

-- the act was done so, and whether its entry has a reply was told
pub record HasReplied (k : KernelValue) (f : FabricValue) (act : Act) (l : KernelValue) (g : FabricValue)
    (replied : Bool) : Type 0 where
  pub entry : Entry
  pub done : HasDone k f act l g entry
  pub told : replied ≡ is_some entry.reply

-- kernel k and the fabric f did nothing: apart from the ready act, l and g are as they were
pub record HasNotDone (k : KernelValue) (f : FabricValue) (l : KernelValue) (g : FabricValue) : Type 0 where
  pub kernel : l ≡ record k { ready = l.ready }
  pub fabric : g ≡ f

-- The world with its setup.

pub record WorldValue : Type 0 where
  pub setup : Setup
  pub world : World

-- the same after an event
abbrev pub stepped_value : WorldValue → Event → WorldValue
stepped_value w e = record { setup = w.setup; world = after w.setup w.world e }

-- kernel i at the start
abbrev pub booted : Setup → ℕ → KernelValue
booted T i = record { setup = T; id = i; side = start_side T i; ready = None }
