-- How the lives of all keys grow, entry by entry. These words serve private functions.
use Rattle.std.specs.Prelude.{◌≡◌, ℕ, ◌+◌, ◌==◌, nat_lt, ◌&&◌, false, List, [], ◌∷◌, ◌++◌, filter, Contains, Option}
use Rattle.std.specs.Prelude.{Some, None, unwrap_or, is_none, if◌then◌else◌}
use Rattle.std.specs.Option.{option_map_or, option_and_then, option_to_list}
use Rattle.sem_key.specs.declared.limits.TheConstants.{VPES}
use Rattle.sem_machine.specs.Prelude.{KeyName, key_eq, in_turn, Act, Handle, Resume, Detail, Carried, Entry}
use Rattle.sem_machine.specs.Prelude.{Message, ObtainOk, Ack, RevokeReq, RevokeDone, Parked, ObtainReady, Setup}
use Rattle.sem_machine.specs.Prelude.{owner_of, is_ready_with, Side, cap, parked, World, side, after, IsSchedule}
use Rattle.sem_machine.specs.Prelude.{world_after}
use Rattle.sem_key.specs.Lists.{change}
use Rattle.sem_grants.specs.Ending.{ended_by}
use Rattle.sem_query.specs.declared.holder.Holder.{Holder}
use Rattle.sem_query.specs.declared.holder.Holder.TheVariants.{Way}
use Rattle.sem_query.specs.Whereabouts.{held_as, whereabouts}
use Rattle.sem_query.specs.Changes.{may_revoke, grants_key, MayChange, seen_at_home}
use Rattle.sem_query.specs.Lives.{KeyLife, noted, life_granted, life, told_holder}

-- Lives.

-- the life of a key that is held from the start at that selector, or of one that is yet to be
-- granted; the latter says that the key is nowhere
abbrev pub begun_life : KeyName → Option ℕ → KeyLife
begun_life k sel = record {
  key = k;
  sel = unwrap_or sel 0;
  granted = None;
  held = None;
  marked = [];
  gone = if is_none sel then Some 0 else None;
}

-- the life of a key so far, also of one that is yet to be granted
abbrev pub life_so_far : Setup → List Entry → KeyName → KeyLife
life_so_far T J k = unwrap_or (life T J k) (begun_life k None)

-- entry n is noted in a life with all earlier entries noted, by where the key is after it
abbrev pub noted_now : ℕ → Holder → KeyLife → KeyLife
noted_now n later l = noted n (told_holder (n + 1) l) later l

-- the same in the life of the key among these
abbrev pub noted_of : KeyName → ℕ → Holder → List KeyLife → List KeyLife
noted_of k n later ls = change (λ l. key_eq l.key k) (noted_now n later) ls

-- the life of the key among these begins with entry n
abbrev pub granted_of : KeyName → ℕ → List KeyLife → List KeyLife
granted_of k n ls = change (λ l. key_eq l.key k) (λ l. life_granted l.key n) ls

-- entry n is noted in the lives of these keys in turn, by where their owners see them
abbrev pub all_noted : Setup → World → ℕ → List KeyName → List KeyLife → List KeyLife
all_noted T V n ks ls = in_turn (λ k. noted_of k n (seen_at_home k (side V (owner_of T k)))) ks ls

-- where a just granted key is: held, or on its way
abbrev pub seen_granted : KeyName → Side → Holder
seen_granted k s = option_map_or held_as (cap s k) Way

-- the key that entry n grants, if it grants one, gets its life
abbrev pub grant_noted : Setup → World → ℕ → Option (KeyName × KeyName) → List KeyLife → List KeyLife
grant_noted T V n None ls = ls
grant_noted T V n (Some g) ls =
    noted_of g.1 n (seen_granted g.1 (side V (owner_of T g.1))) (granted_of g.1 n ls)

-- the lives after entry n, which may move these keys besides the one that it grants
abbrev pub followed : Setup → World → ℕ → Entry → List KeyName → List KeyLife → List KeyLife
followed T V n e moved ls = grant_noted T V n e.grant (all_noted T V n moved ls)

-- Keys that an entry may move.

-- the key that a message brings
abbrev pub brought_in : Message → Option KeyName
brought_in (ObtainOk parent key object) = Some key
brought_in (Ack key accepted) = if accepted then Some key else None
brought_in m = None

-- the message that the entry handles
abbrev pub handled_message : Act → Detail → Option Message
handled_message Handle (Carried from m) = Some m
handled_message act detail = None

-- the key that this message brings
abbrev pub brought_by : Act → Detail → Option KeyName
brought_by act detail = option_and_then brought_in (handled_message act detail)

-- the key that a waiting call is ready to install
abbrev pub ready_key : Option Parked → Option KeyName
ready_key (Some (ObtainReady key parent object sel)) = Some key
ready_key p = None

-- the key that a call of the VPE, one of kernel i, is ready to install
abbrev pub ready_of : Setup → ℕ → Side → ℕ → List KeyName
ready_of T i s v =
    if nat_lt v VPES
    then filter (λ k. (k.vpe == v) && (owner_of T k == i)) (option_to_list (ready_key (parked s v)))
    else []

-- the key, if a call is ready to install it at kernel i
abbrev pub ready_among : Setup → ℕ → Side → Option KeyName → List KeyName
ready_among T i s o =
    filter (λ k. is_ready_with k (parked s k.vpe) && (owner_of T k == i)) (option_to_list o)

-- the VPE whose call goes on
abbrev pub resumed_vpe : Act → Option ℕ
resumed_vpe (Resume v) = Some v
resumed_vpe act = None

-- the key that a message asks to revoke
abbrev pub requested_in : Message → Option KeyName
requested_in (RevokeReq key job) = Some key
requested_in m = None

-- the key that another kernel asks to revoke
abbrev pub requested : Act → Detail → Option KeyName
requested act detail = option_and_then requested_in (handled_message act detail)

-- the job that a token comes back to
abbrev pub returned_in : Message → Option ℕ
returned_in (RevokeDone job) = Some job
returned_in m = None

abbrev pub returned : Act → Detail → Option ℕ
returned act detail = option_and_then returned_in (handled_message act detail)

-- the keys that the call of a VPE, if there is one, is ready to install
abbrev pub ready_by : Setup → ℕ → Side → Option ℕ → List KeyName
ready_by T i s o = option_map_or (ready_of T i s) o []

-- the keys that a revoking entry may move at kernel i: these, which it reaches, and those of ready
-- calls that are cancelled or end
abbrev pub revoked_by : Setup → ℕ → Side → Entry → List KeyName → List KeyName
revoked_by T i s e reached =
    ready_among T i s e.cut
    ++ ready_among T i s (requested e.event.act e.detail)
    ++ ready_by T i s (ended_by e.event.act e.detail)
    ++ reached

-- the keys that the entry may move at kernel i, which has that side before it
abbrev pub moved_at : Setup → ℕ → Side → Entry → List KeyName → List KeyName
moved_at T i s e reached =
    ready_by T i s (resumed_vpe e.event.act) ++ (if may_revoke e then revoked_by T i s e reached else [])

-- the keys that the entry may move in the world before it, except the one that it grants and the
-- marked ones
abbrev pub moved_by : Setup → World → Entry → List KeyName → List KeyName
moved_by T W e reached =
    option_to_list (brought_by e.event.act e.detail)
    ++ moved_at T e.event.kernel (side W e.event.kernel) e reached

-- the entry may move these keys; all others stay where they are, except the one that it grants
pub record AreMoved (T : Setup) (W : World) (e : Entry) (ks : List KeyName) : Type 0 where
  pub may : (k : KeyName) → Contains ks k → MayChange T W e k
  pub others : (k : KeyName) → grants_key k e ≡ false → (Contains ks k → ⊥)
      → whereabouts T W k ≡ whereabouts T (after T W e.event) k

-- Entries of a schedule.

-- the entry is the next one of a schedule, and W is the world after the entries before it
pub record IsNextEntry (T : Setup) (W : World) (e : Entry) : Type 0 where
  pub before : List Entry
  pub world : W ≡ world_after T before
  pub runs : IsSchedule T (before ++ e ∷ [])

-- the lives after entry n come from noting it in the lives of the keys that it may move
abbrev pub IsFollowed : Setup → World → ℕ → Entry → List KeyLife → List KeyLife → Type 0
IsFollowed T W n e old new =
    (ks : List KeyName) × AreMoved T W e ks × (new ≡ followed T (after T W e.event) n e ks old)
