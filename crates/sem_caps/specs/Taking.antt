-- What the private functions of this crate say of capabilities that are taken out of a store.
use Rattle.std.specs.Prelude.{◌≡◌, ℕ, ◌+◌, ◌≤◌, ◌++◌, Bool, List, length, map, filter, not}
use Rattle.std.specs.Prelude.{vec_len, vec_capacity}
use Rattle.std.specs.Global.{Vec}
use Rattle.slab.specs.Slab.{Slab}
use Rattle.sem_key.specs.declared.object.Cap.{Cap}
use Rattle.sem_key.specs.Prelude.{KeyName}
use Rattle.sem_key.specs.Capability.{Capability, capability_of}
use Rattle.sem_key.specs.CapList.{is_marked_by, marked_by, not_marked_by, link_count}
use Rattle.sem_caps.specs.CapStore.{Spot, key_and_selector}
use Rattle.sem_caps.specs.Stored.{capabilities_in, row_at, rows_of, IsPlaced}

-- the keys and the selectors of what was taken out
abbrev pub Removed : Type 0
Removed = Vec (KeyName × ℕ)

-- the capabilities that the spots lead to
abbrev pub led_to : Slab Cap → Vec Spot → List Capability
led_to s p = capabilities_in (rows_of s p.items)

-- The list p leads to what lies in the slab s, with n links to children, and g has room for all
-- that job j has marked.
pub record CanTakeOut (j : ℕ) (s : Slab Cap) (p : Vec Spot) (g : Removed) (n : ℕ) : Type 0 where
  pub placed : IsPlaced s p.items
  pub counted : n ≡ link_count (led_to s p)
  pub room : vec_len g + length (marked_by j (led_to s p)) ≤ vec_capacity g

-- the job has not marked it
abbrev pub is_left : ℕ → Cap → Bool
is_left j c = not (is_marked_by j (capability_of c))

-- All that job j has marked is out of the slab s, now t, and out of the list p, now q. Its keys and
-- selectors are appended to g, now h, and n links are left.
pub record HasTakenOut
    (j : ℕ) (s t : Slab Cap) (p q : Vec Spot) (g h : Removed) (n : ℕ) : Type 0 where
  pub gone : h.items ≡ g.items ++ map key_and_selector (marked_by j (led_to s p))
  pub spots : q.items ≡ filter (λ spot. is_left j (row_at s spot)) p.items
  pub rows : rows_of t q.items ≡ filter (is_left j) (rows_of s p.items)
  pub placed : IsPlaced t q.items
  pub links : n ≡ link_count (not_marked_by j (led_to s p))
  pub slab_capacity : t.capacity ≡ s.capacity
  pub spots_capacity : vec_capacity q ≡ vec_capacity p
  pub gone_capacity : vec_capacity h ≡ vec_capacity g
