-- Where a key is: held, with its selector and whether a job has marked it; on its way; or nowhere.
use Rattle.std.specs.Prelude.{◌≡◌, ℕ, nat_lt, Bool, true, false, ◌||◌, List, length, take, Option, Some, None}
use Rattle.std.specs.Prelude.{if◌then◌else◌}
use Rattle.std.specs.List.{list_any}
use Rattle.std.specs.Option.{option_map_or}
use Rattle.sem_machine.specs.Prelude.{KeyName, key_eq, Capability, Message, ObtainOk, Ack, Entry, Setup, owner_of}
use Rattle.sem_machine.specs.Prelude.{is_ready_with, Side, cap, World, side, world_after, HoldsCap, IsLive}
use Rattle.sem_machine.specs.Living.{IsOnItsWay}
use Rattle.sem_query.specs.declared.holder.Holder.{Holder}
use Rattle.sem_query.specs.declared.holder.Holder.TheVariants.{Marked, Unmarked, Way, No}

-- The answer as a relation.

-- where the key is in a world
pub data IsThere (W : World) (k : KeyName) : Holder → Type 0 where
  is_held_marked : (i j : ℕ) (c : Capability) → HoldsCap W i k c → c.mark ≡ Some j
      → IsThere W k (Marked c.selector)
  is_held_unmarked : (i : ℕ) (c : Capability) → HoldsCap W i k c → c.mark ≡ None
      → IsThere W k (Unmarked c.selector)
  is_on_its_way : IsOnItsWay W k → IsThere W k Way
  is_nowhere : ¬ IsLive W k → IsThere W k No

-- The answer as a function.

-- whether the key will be held by this message
abbrev pub brings : KeyName → Message → Bool
brings k (ObtainOk parent key object) = key_eq key k
brings k (Ack key true) = key_eq key k
brings k m = false

-- whether a call of the side is ready to install the key, or a message there brings it
abbrev pub is_coming_to : KeyName → Side → Bool
is_coming_to k s =
    list_any (is_ready_with k) s.parks
    || (option_map_or (λ m. brings k m.1) s.inbox false || list_any (list_any (brings k)) s.outs)

-- whether something in the world will make the key held
abbrev pub is_coming : KeyName → World → Bool
is_coming k W =
    list_any (is_coming_to k) W.sides || list_any (list_any (list_any (brings k))) W.links

-- a key that is held with that mark at that selector
abbrev pub held_with : Option ℕ → ℕ → Holder
held_with None sel = Unmarked sel
held_with (Some job) sel = Marked sel

abbrev pub held_as : Capability → Holder
held_as c = held_with c.mark c.selector

-- a key that is not held
abbrev pub unheld : Bool → Holder
unheld coming = if coming then Way else No

-- where the key is; only its owner holds a key
abbrev pub whereabouts : Setup → World → KeyName → Holder
whereabouts T W k =
    option_map_or held_as (cap (side W (owner_of T k)) k) (unheld (is_coming k W))

-- where the key is after a journal
abbrev pub whereabouts_after : Setup → List Entry → KeyName → Holder
whereabouts_after T J k = whereabouts T (world_after T J) k

-- where the key is after the first n entries; nowhere if there are fewer
abbrev pub holder : Setup → List Entry → KeyName → ℕ → Holder
holder T J k n = if nat_lt (length J) n then No else whereabouts_after T (take n J) k

-- What an entry may do to a key, by whether it grants the key, and where the key is before and
-- after.
pub data Passes : Bool → Holder → Holder → Type 0 where
  -- it is granted, and was nowhere
  born_on_its_way : Passes true No Way
  born_held : (sel : ℕ) → Passes true No (Unmarked sel)
  -- a key that was never granted, or is gone, stays nowhere
  stays_nowhere : Passes false No No
  -- one that is on its way stays so, comes to be held, or is lost
  stays_on_its_way : Passes false Way Way
  arrives : (sel : ℕ) → Passes false Way (Unmarked sel)
  is_lost : Passes false Way No
  -- one that is held stays at its selector, or is gone
  stays_unmarked : (sel : ℕ) → Passes false (Unmarked sel) (Unmarked sel)
  stays_marked : (sel : ℕ) → Passes false (Marked sel) (Marked sel)
  gets_marked : (sel : ℕ) → Passes false (Unmarked sel) (Marked sel)
  loses_mark : (sel : ℕ) → Passes false (Marked sel) (Unmarked sel)
  is_swept : (sel : ℕ) → Passes false (Marked sel) No
  is_removed : (sel : ℕ) → Passes false (Unmarked sel) No
