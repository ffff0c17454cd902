-- What the private functions answer of an act: what came to its kernel's entries.
use Rattle.std.specs.Prelude.{◌≡◌, Bool, true, false, List, [], ◌∷◌, ◌++◌, Option, Some, None, is_some}
use Rattle.sem_machine.specs.Prelude.{Act, Entry}
use Rattle.sem_node.specs.declared.cell.Progress.{Progress}
use Rattle.sem_node.specs.declared.cell.Progress.TheVariants.{Nothing, Done, Replied}
use Rattle.sem_node.specs.declared.linking.Linked.{Linked}

-- one more entry came, of that act; it has a reply, or has none
pub record HasOneMore (act : Act) (replied : Bool) (old new : List Entry) : Type 0 where
  pub entry : Entry
  pub came : new ≡ old ++ entry ∷ []
  pub tells : entry.event.act ≡ act
  pub reply : is_some entry.reply ≡ replied

-- what an act that the kernel does alone says
abbrev pub TellsProgress : Act → List Entry → List Entry → Progress → Type 0
TellsProgress act old new Nothing = new ≡ old
TellsProgress act old new Done = HasOneMore act false old new
TellsProgress act old new (Replied count) = HasOneMore act true old new

-- whether a fetch or a flush was done, by its answer
abbrev pub has_moved : Option Linked → Bool
has_moved None = false
has_moved (Some linked) = linked.done
