-- Which keys are lost: those that were cut off, and those made from a lost key.
use Rattle.std.specs.Prelude.{Bool, ◌&&◌, ◌||◌, List, fold}
use Rattle.sem_machine.specs.Prelude.{KeyName, key_eq}

-- if the parent of a grant is lost, so is the child
abbrev pub lose : (KeyName → Bool) → KeyName × KeyName → KeyName → Bool
lose is_lost g k = is_lost k || (key_eq k g.1 && is_lost g.0)

-- the keys that are lost after these grants, one after another
unfoldable pub lost : (KeyName → Bool) → List (KeyName × KeyName) → KeyName → Bool
lost is_cut gs = fold lose is_cut gs
