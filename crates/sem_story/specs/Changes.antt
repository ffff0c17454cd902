-- What an entry does to a key, by the key's stage before. These words serve private functions.
use Rattle.std.specs.Prelude.{ℕ, Bool, true, false, ◌==◌, ◌&&◌, ◌||◌, if◌then◌else◌}
use Rattle.std.specs.Option.{option_map_or}
use Rattle.sem_machine.specs.Prelude.{KeyName, key_eq, Act, Handle, Resume, Detail, Carried, Entry, Message}
use Rattle.sem_machine.specs.Prelude.{RevokeReq, Setup, owner_of}
use Rattle.sem_machine.specs.Journals.{ends}
use Rattle.sem_query.specs.Whereabouts.{brings}
use Rattle.sem_query.specs.Changes.{may_revoke, grants_key}
use Rattle.sem_story.specs.declared.stages.Stage.{Stage}
use Rattle.sem_story.specs.declared.stages.Stage.TheVariants.{Nowhere, OnItsWay, Arrived, Held}

-- whether the entry handles the message that brings the key
abbrev pub is_brought_by : KeyName → Act → Detail → Bool
is_brought_by k Handle (Carried from m) = brings k m
is_brought_by k act detail = false

-- whether a message asks to revoke the key
abbrev pub asks_for : KeyName → Message → Bool
asks_for k (RevokeReq key job) = key_eq key k
asks_for k m = false

abbrev pub is_asked_by : KeyName → Act → Detail → Bool
is_asked_by k Handle (Carried from m) = asks_for k m
is_asked_by k act detail = false

-- whether the entry begins to revoke at the key
abbrev pub begins_at : KeyName → Entry → Bool
begins_at k e =
    option_map_or (λ root. key_eq root k) e.cut false
    || (is_asked_by k e.event.act e.detail || ends k.vpe e.event.act e.detail)

abbrev pub resumes : ℕ → Act → Bool
resumes v (Resume u) = u == v
resumes v act = false

-- whether the entry lets a call that is ready to install the key do so, or cancels it, or ends it
abbrev pub leaves_by : Setup → KeyName → Entry → Bool
leaves_by T k e =
    (owner_of T k == e.event.kernel)
    && (resumes k.vpe e.event.act || (may_revoke e && begins_at k e))

-- the stage of a key that its kernel tells nothing of after the entry: by whether the entry grants
-- it, and whether it ends what brings it
abbrev pub unseen_stage : Bool → Bool → Bool → Stage → Stage
unseen_stage true brought leaves before = OnItsWay
unseen_stage false brought leaves OnItsWay = if brought then Nowhere else OnItsWay
unseen_stage false brought leaves Arrived = if brought || leaves then Nowhere else OnItsWay
unseen_stage false brought leaves Nowhere = Nowhere
unseen_stage false brought leaves (Held selector mark) = Nowhere

abbrev pub seen_stage : Stage → Stage → Stage
seen_stage unseen Nowhere = unseen
seen_stage unseen OnItsWay = OnItsWay
seen_stage unseen Arrived = Arrived
seen_stage unseen (Held selector mark) = Held selector mark

-- the stage of the key after the entry
abbrev pub stage_after : Setup → KeyName → Entry → Stage → Stage → Stage
stage_after T k e before seen =
    seen_stage (unseen_stage (grants_key k e) (is_brought_by k e.event.act e.detail) (leaves_by T k e) before) seen
