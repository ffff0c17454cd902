-- A key followed along a journal, from entry to entry.
use Rattle.std.specs.Prelude.{◌≡◌, ℕ, ◌==◌, Bool, false, ◌&&◌, ◌||◌, List, take, Option, is_some}
use Rattle.std.specs.Option.{option_map_or}
use Rattle.sem_machine.specs.Prelude.{KeyName, key_eq, Entry, Setup, owner_of, is_ready_with, Side, cap, parked}
use Rattle.sem_machine.specs.Prelude.{World, side, world_after}
use Rattle.sem_grants.specs.Ending.{ended_by}
use Rattle.sem_query.specs.declared.sighting.Sighting.{Sighting}
use Rattle.sem_query.specs.Whereabouts.{whereabouts_after}
use Rattle.sem_query.specs.Changes.{may_revoke}
use Rattle.sem_query.specs.Building.{brought_by, requested, resumed_vpe}

-- the sighting tells where the key is after the first `count` of the entries so far
abbrev pub IsSeen : Setup → List Entry → Sighting → Type 0
IsSeen T J s = s.there ≡ whereabouts_after T (take s.count J) s.key

-- the option is that key, or that VPE
abbrev pub is_that_key : KeyName → Option KeyName → Bool
is_that_key k o = option_map_or (λ q. key_eq q k) o false

abbrev pub is_that_vpe : ℕ → Option ℕ → Bool
is_that_vpe v o = option_map_or (λ w. w == v) o false

-- whether the entry begins to revoke at the key
abbrev pub is_root : KeyName → Entry → Bool
is_root k e =
    is_that_key k e.cut
    || (is_that_key k (requested e.event.act e.detail)
    || is_that_vpe k.vpe (ended_by e.event.act e.detail))

-- whether the entry may move a key of its kernel, which has that side before it
abbrev pub moves_at_home : KeyName → Side → Entry → Bool
moves_at_home k s e =
    (is_that_vpe k.vpe (resumed_vpe e.event.act) && is_ready_with k (parked s k.vpe))
    || (may_revoke e
    && ((is_root k e && is_ready_with k (parked s k.vpe)) || is_some (cap s k)))

-- whether the entry may move the key, in the world before it and other than by granting it
abbrev pub may_move : Setup → World → Entry → KeyName → Bool
may_move T W e k =
    is_that_key k (brought_by e.event.act e.detail)
    || ((owner_of T k == e.event.kernel) && moves_at_home k (side W e.event.kernel) e)

-- the sighting also tells whether the next entry may move the key
pub record IsReadied (T : Setup) (J : List Entry) (e : Entry) (s : Sighting) : Type 0 where
  pub seen : IsSeen T J s
  pub moves : s.is_moving ≡ may_move T (world_after T J) e s.key
