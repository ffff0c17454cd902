-- The stage of a key, as a world tells it.
use Rattle.std.specs.Prelude.{Bool, false, Option, if◌then◌else◌}
use Rattle.std.specs.Option.{option_map_or}
use Rattle.sem_machine.specs.Prelude.{KeyName, Capability, Setup, owner_of, is_ready_with, Side, cap, parked, World}
use Rattle.sem_machine.specs.Prelude.{side}
use Rattle.sem_query.specs.Whereabouts.{is_coming}
use Rattle.sem_story.specs.declared.stages.Stage.{Stage}
use Rattle.sem_story.specs.declared.stages.Stage.TheVariants.{Nowhere, OnItsWay, Arrived, Held}

-- the stage of a held key
abbrev pub held_stage : Capability → Stage
held_stage c = Held c.selector c.mark

-- the stage of a key that is not held: by whether a call is ready to install it, and whether
-- something will bring it
abbrev pub unheld_stage : Bool → Bool → Stage
unheld_stage ready coming = if ready then Arrived else if coming then OnItsWay else Nowhere

abbrev pub stage_of : Option Capability → Bool → Bool → Stage
stage_of held ready coming = option_map_or held_stage held (unheld_stage ready coming)

-- whether a call of the key's VPE is ready to install it
abbrev pub is_ready : KeyName → Side → Bool
is_ready k s = is_ready_with k (parked s k.vpe)

-- the stage of the key in a world: the kernel of its VPE tells it, unless the key is on its way
-- there
abbrev pub stage_in : Setup → World → KeyName → Stage
stage_in T W k =
    stage_of (cap (side W (owner_of T k)) k) (is_ready k (side W (owner_of T k))) (is_coming k W)

-- what that kernel tells
abbrev pub seen_by : KeyName → Side → Stage
seen_by k s = stage_of (cap s k) (is_ready k s) false
