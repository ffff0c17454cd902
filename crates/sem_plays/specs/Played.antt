-- A play: events run from the start of a trace, and what comes of them.
use Rattle.std.specs.Prelude.{ℕ, ◌==◌, Bool, true, false, not, ◌&&◌, List, [], ◌∷◌, length, map, filter, flat_map}
use Rattle.std.specs.Prelude.{is_none}
use Rattle.std.specs.List.{list_all, enumerate_from}
use Rattle.std.specs.Option.{option_map_or}
use Rattle.sem_machine.specs.Prelude.{KeyName, Capability, Event, Entry, Slot, Free, Held, Promised, Setup, VpeRow}
use Rattle.sem_machine.specs.Prelude.{Side, cap, has_key, World, start, after, entry_of, is_enabled, enabled, made}
use Rattle.sem_machine.specs.Prelude.{cut, forest, grants}
use Rattle.sem_machine.specs.Journals.{children_in}

-- how far a play has come: its entries, the last first; whether each event was enabled in its turn;
-- the world
pub record Scene : Type 0 where
  pub entries : List Entry
  pub all_enabled : Bool
  pub world : World

abbrev pub turn : Setup → Event → Scene → Scene
turn T e x = record {
  entries = entry_of T x.world e ∷ x.entries;
  all_enabled = x.all_enabled && is_enabled T x.world e;
  world = after T x.world e;
}

unfoldable pub acted : Setup → List Event → Scene → Scene
acted T [] x = x
acted T (e ∷ es) x = acted T es (turn T e x)

abbrev pub opened : Setup → Scene
opened T = record { entries = []; all_enabled = true; world = start T }

unfoldable pub backwards : {X : Type 0} → List X → List X → List X
backwards [] ys = ys
backwards (x ∷ xs) ys = backwards xs (x ∷ ys)

abbrev pub held_by : Side → List Capability
held_by s = s.caps

-- all held capabilities, kernel by kernel
abbrev pub all_held : World → List Capability
all_held W = flat_map held_by W.sides

-- whether two lists have the same keys
abbrev pub same_keys : List KeyName → List KeyName → Bool
same_keys xs ys = (length xs == length ys) && (list_all (has_key ys) xs && list_all (has_key xs) ys)

-- whether each child link of the kernel's capabilities leads to a key that some kernel holds
abbrev pub links_lead : List KeyName → Side → Bool
links_lead held s = list_all (λ c. list_all (has_key held) c.children) s.caps

-- the held keys that were granted below a parent
abbrev pub held_children : List (KeyName × KeyName) → List KeyName → KeyName → List KeyName
held_children gs held p = filter (has_key held) (children_in gs p)

-- whether each capability links exactly the held keys that were granted below it
abbrev pub links_agree : List (KeyName × KeyName) → List KeyName → Side → Bool
links_agree gs held s = list_all (λ c. same_keys c.children (held_children gs held c.key)) s.caps

-- whether no capability is marked, no job open and no delegation pending
abbrev pub is_settled : Side → Bool
is_settled s = list_all (λ c. is_none c.mark) s.caps && ((length s.jobs == 0) && (length s.pendings == 0))

-- whether a selector holds that capability
abbrev pub is_held_as : Side → ℕ → ℕ → KeyName → Bool
is_held_as s v sel k = option_map_or (λ c. (c.selector == sel) && (c.key.vpe == v)) (cap s k) false

-- a selector agrees if it holds a capability that stands there; a selector stays promised only for
-- a dead VPE
abbrev pub slot_agrees : Side → Bool → ℕ → ℕ × Slot → Bool
slot_agrees s alive v (sel, Free) = true
slot_agrees s alive v (sel, Held k) = is_held_as s v sel k
slot_agrees s alive v (sel, Promised) = not alive

abbrev pub row_agrees : Side → ℕ × VpeRow → Bool
row_agrees s (v, r) = list_all (slot_agrees s r.alive v) (enumerate_from 0 r.slots)

-- whether all selectors agree
abbrev pub slots_agree : Side → Bool
slots_agree s = list_all (row_agrees s) (enumerate_from 0 s.vpes)

pub record Played : Type 0 where
  pub entries : List Entry
  -- whether each event was enabled in its turn
  pub all_enabled : Bool
  -- the events that are enabled after the last entry
  pub left : List Event
  -- how many keys were made, and how many were cut
  pub made : ℕ
  pub cut : ℕ
  -- the held keys with their selectors, kernel by kernel
  pub held : List (KeyName × ℕ)
  -- whether the held keys are those of the forest
  pub is_forest : Bool
  -- whether each held capability links exactly the held keys that were granted below it
  pub is_linked : Bool
  -- whether nothing is left over: no mark, job or pending delegation, and all links and selectors
  -- lead to held capabilities
  pub is_clean : Bool

abbrev pub told : Setup → Scene → Played
told T x =
    let J : List Entry = backwards x.entries [] in
    let held : List Capability = all_held x.world in
    let keys : List KeyName = map (λ c. c.key) held in
    record {
      entries = J;
      all_enabled = x.all_enabled;
      left = enabled T x.world;
      made = length (made T J);
      cut = length (cut T J);
      held = map (λ c. (c.key, c.selector)) held;
      is_forest = same_keys keys (forest T J);
      is_linked = list_all (links_agree (grants J) keys) x.world.sides;
      is_clean = list_all (λ s. is_settled s && (links_lead keys s && slots_agree s)) x.world.sides;
    }

abbrev pub played : Setup → List Event → Played
played T es = told T (acted T es (opened T))

-- the events that are enabled after these
abbrev pub enabled_after : Setup → List Event → List Event
enabled_after T es = enabled T (acted T es (opened T)).world
