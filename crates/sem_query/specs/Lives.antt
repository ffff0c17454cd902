-- The life of a key, as a journal tells it: the entries at which it was granted, became held,
-- changed its mark, and stopped being live.
use Rattle.std.specs.Prelude.{ℕ, zero, suc, ◌+◌, nat_lt, Bool, true, false, not, ◌&&◌, ◌||◌, List, [], ◌∷◌, ◌++◌, map}
use Rattle.std.specs.Prelude.{filter, count_by, filter_map, find, fold, Option, Some, None, is_some, if◌then◌else◌}
use Rattle.std.specs.Option.{option_map, option_map_or}
use Rattle.sem_machine.specs.Prelude.{KeyName, key_eq, has_key, Entry, Setup, World, start, after, root_keys, made}
use Rattle.sem_key.specs.KeyName.{key_lt}
use Rattle.sem_key.specs.KeyList.{key_set}
use Rattle.sem_query.specs.declared.holder.Holder.{Holder}
use Rattle.sem_query.specs.declared.holder.Holder.TheVariants.{Marked, Unmarked, Way, No}
use Rattle.sem_query.specs.Whereabouts.{whereabouts}
use Rattle.sem_query.specs.Changes.{grants_key}

pub record KeyLife : Type 0 where
  pub key : KeyName
  -- the selector that held it, if one did
  pub sel : ℕ
  -- the entry that granted it; none for a root or service
  pub granted : Option ℕ
  -- the entry that made it held; a root or service is held from the start
  pub held : Option ℕ
  -- the entries that change its mark; it is held before and after them
  pub marked : List ℕ
  -- the entry that made it no longer live
  pub gone : Option ℕ

-- What an answer tells.

abbrev pub is_live : Holder → Bool
is_live (Marked sel) = true
is_live (Unmarked sel) = true
is_live Way = true
is_live No = false

abbrev pub is_held : Holder → Bool
is_held (Marked sel) = true
is_held (Unmarked sel) = true
is_held Way = false
is_held No = false

-- the selector that holds the key, or this one if none does
abbrev pub selector_or : ℕ → Holder → ℕ
selector_or other (Marked sel) = sel
selector_or other (Unmarked sel) = sel
selector_or other Way = other
selector_or other No = other

-- One entry.

abbrev pub becomes_held : Holder → Holder → Bool
becomes_held before later = not (is_held before) && is_held later

abbrev pub changes_mark : Holder → Holder → Bool
changes_mark (Marked a) (Unmarked b) = true
changes_mark (Unmarked a) (Marked b) = true
changes_mark before later = false

abbrev pub stops_being_live : Holder → Holder → Bool
stops_being_live before later = is_live before && not (is_live later)

-- what entry n adds to a life, by where the key is before and after it
abbrev pub noted : ℕ → Holder → Holder → KeyLife → KeyLife
noted n before later l = record l {
  sel = selector_or l.sel later;
  held = if becomes_held before later then Some n else l.held;
  marked = if changes_mark before later then l.marked ++ n ∷ [] else l.marked;
  gone = if stops_being_live before later then Some n else l.gone;
}

-- The life along a journal.

-- a key that entry n grants, before its place is told
abbrev pub life_granted : KeyName → ℕ → KeyLife
life_granted k n =
    record { key = k; sel = 0; granted = Some n; held = None; marked = []; gone = None }

-- a root or service at the start
abbrev pub life_of_root : KeyName → Holder → KeyLife
life_of_root k there = record {
  key = k;
  sel = selector_or 0 there;
  granted = None;
  held = None;
  marked = [];
  gone = None;
}

abbrev pub first_life : Setup → KeyName → Option KeyLife
first_life T k =
    if has_key (root_keys T) k then Some (life_of_root k (whereabouts T (start T) k)) else None

-- a life begins where entry n grants the key
abbrev pub begun : KeyName → ℕ → Entry → Option KeyLife → Option KeyLife
begun k n e o = if grants_key k e then Some (life_granted k n) else o

-- how far a journal was followed: the world, how many entries, and the life so far
pub record Watched : Type 0 where
  pub world : World
  pub entries : ℕ
  pub life : Option KeyLife

abbrev pub watched_first : Setup → KeyName → Watched
watched_first T k = record { world = start T; entries = 0; life = first_life T k }

abbrev pub watched_next : Setup → KeyName → Watched → Entry → Watched
watched_next T k x e =
    let W : World = after T x.world e.event in
    record {
      world = W;
      entries = x.entries + 1;
      life = option_map
          (noted x.entries (whereabouts T x.world k) (whereabouts T W k))
          (begun k x.entries e x.life);
    }

-- the life of a key that was made, along a journal
abbrev pub life : Setup → List Entry → KeyName → Option KeyLife
life T J k = (fold (watched_next T k) (watched_first T k) J).life

-- the lives of all made keys, in rising key order
abbrev pub lives : Setup → List Entry → List KeyLife
lives T J = filter_map (λ k. life T J k) (key_set (made T J))

-- Reading.

-- whether the number is there and below n
abbrev pub is_below : ℕ → Option ℕ → Bool
is_below n o = option_map_or (λ m. nat_lt m n) o false

-- whether the key, if it was ever granted, is not yet granted by n
abbrev pub is_ungranted : ℕ → Option ℕ → Bool
is_ungranted n o = option_map_or (λ m. not (nat_lt m n)) o false

abbrev pub is_odd : ℕ → Bool
is_odd zero = false
is_odd (suc n) = not (is_odd n)

-- where a held key is
abbrev pub held_at : Bool → ℕ → Holder
held_at marked sel = if marked then Marked sel else Unmarked sel

-- where the key is after the first n entries, as its life tells
abbrev pub told_holder : ℕ → KeyLife → Holder
told_holder n l =
    if is_ungranted n l.granted || is_below n l.gone
    then No
    else if is_some l.granted && not (is_below n l.held)
    then Way
    else held_at (is_odd (count_by (λ m. nat_lt m n) l.marked)) l.sel

-- the same, of any key and some lives
abbrev pub told_of : List KeyLife → KeyName → ℕ → Holder
told_of ls k n = option_map_or (told_holder n) (find (λ l. key_eq l.key k) ls) No

-- One entry more.

-- the lives with one more, at its place in rising key order
abbrev pub with_life : List KeyLife → KeyLife → List KeyLife
with_life ls l = filter (λ x. key_lt x.key l.key) ls ++ l ∷ filter (λ x. key_lt l.key x.key) ls

-- the lives once entry n has granted its key, if it grants one
abbrev pub with_granted : ℕ → Entry → List KeyLife → List KeyLife
with_granted n e ls = option_map_or (λ g. with_life ls (life_granted g.1 n)) e.grant ls

-- a life after entry n, which leads from the world W to the world V
abbrev pub noted_in : Setup → ℕ → World → World → KeyLife → KeyLife
noted_in T n W V l = noted n (whereabouts T W l.key) (whereabouts T V l.key) l

-- the lives after entry n
abbrev pub lives_next : Setup → ℕ → World → World → Entry → List KeyLife → List KeyLife
lives_next T n W V e ls = map (noted_in T n W V) (with_granted n e ls)
