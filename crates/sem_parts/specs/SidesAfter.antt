-- Kernels and a fabric that stand at a schedule, and what one step of a kernel leaves.
use Rattle.std.specs.Prelude.{◌≡◌, ◌≢◌, ℕ, ◌<◌, Bool, List, [], ◌∷◌, ◌++◌, length, slice_index_or}
use Rattle.sem_machine.specs.Prelude.{Message, Entry, Setup, part, replies, FabricValue, Side, World}
use Rattle.sem_msg.specs.Fabric.{FabricAgrees, IsSquare}
use Rattle.sem_machine.specs.Sides.{no_side}
use Rattle.sem_parts.specs.Parts.{RunsTo}

-- Kernel i made the entry e, and is at the side t. The fabric g has that one entry more than f, and
-- agrees with its journal. The part of the kernel runs to t, and the parts of the others are as
-- they were.
pub record HasEntered (T : Setup) (i : ℕ) (e : Entry) (t : Side) (f g : FabricValue) : Type 0 where
  pub fabric : FabricAgrees T g
  pub journal : g.journal ≡ f.journal ++ e ∷ []
  pub own : RunsTo T i (part g.journal i) t
  pub others : (k : ℕ) → k ≢ i → part g.journal k ≡ part f.journal k

-- the fabric of the setup with that journal, those links and places
abbrev pub fabric_with : Setup → List Entry → List (List (List Message)) → List Bool → FabricValue
fabric_with T J links places = record {
  kernels = T.kernels;
  window = T.window;
  kills = T.kills;
  journal = J;
  links = links;
  places = places;
}

-- the world of these sides and the fabric
abbrev pub world_with : List Side → FabricValue → World
world_with sides f = record { sides = sides; links = f.links; replies = length (replies f.journal) }

-- the sides are those of all kernels of the setup, in order; the part of each runs to its side, and
-- the fabric agrees with its journal
pub record AreSidesAfter (T : Setup) (sides : List Side) (f : FabricValue) : Type 0 where
  pub count : length sides ≡ T.kernels
  pub square : IsSquare T.kernels f.links
  pub fabric : FabricAgrees T f
  pub runs : (i : ℕ) → i < T.kernels → RunsTo T i (part f.journal i) (slice_index_or sides i no_side)
