-- Which entries can change where a key is, and for which keys.
use Rattle.std.specs.Prelude.{◌≡◌, ℕ, Bool, true, false, Some, IsSome}
use Rattle.std.specs.Option.{option_map_or}
use Rattle.sem_machine.specs.Prelude.{KeyName, key_eq, Call, Revoke, Clear, Exit, Message, RevokeReq, RevokeDone, Act}
use Rattle.sem_machine.specs.Prelude.{Calls, Handle, Kill, Resume, Detail, Called, Carried, Entry, Setup, owner_of}
use Rattle.sem_machine.specs.Prelude.{is_ready_with, Side, cap, parked, World, side}
use Rattle.sem_machine.specs.Journals.{ends}
use Rattle.sem_query.specs.declared.holder.Holder.{Holder}
use Rattle.sem_query.specs.Whereabouts.{brings, held_as, unheld}

-- the calls and the messages of revocation, and the ends of VPEs
abbrev pub revokes_call : Call → Bool
revokes_call (Revoke src) = true
revokes_call (Clear src) = true
revokes_call Exit = true
revokes_call call = false

abbrev pub revokes_message : Message → Bool
revokes_message (RevokeReq key job) = true
revokes_message (RevokeDone job) = true
revokes_message m = false

abbrev pub revokes_by : Act → Detail → Bool
revokes_by (Calls v) (Called index call) = revokes_call call
revokes_by Handle (Carried peer m) = revokes_message m
revokes_by (Kill v) detail = true
revokes_by act detail = false

-- whether the entry may mark keys, or take them away
abbrev pub may_revoke : Entry → Bool
may_revoke e = revokes_by e.event.act e.detail

abbrev pub grants_key : KeyName → Entry → Bool
grants_key k e = option_map_or (λ g. key_eq g.1 k) e.grant false

-- a call of the key's VPE is ready to install the key
abbrev pub IsReadyFor : KeyName → Side → Type 0
IsReadyFor k s = is_ready_with k (parked s k.vpe) ≡ true

-- Where the entry begins to revoke: at the key of a revoke or a clear, at a key that another kernel
-- asks for, or at the keys of a VPE that ends.
pub data IsRootOf (e : Entry) (a : KeyName) : Type 0 where
  of_cut : e.cut ≡ Some a → IsRootOf e a
  of_request : (from j : ℕ) → e.event.act ≡ Handle → e.detail ≡ Carried from (RevokeReq a j)
      → IsRootOf e a
  of_end : ends a.vpe e.event.act e.detail ≡ true → IsRootOf e a

-- How an entry can change where the key is. W is the world before the entry.
pub data MayChange (T : Setup) (W : World) (e : Entry) (k : KeyName) : Type 0 where
  -- it grants the key
  by_grant : grants_key k e ≡ true → MayChange T W e k
  -- it handles a message that brings the key
  by_message : (from : ℕ) (m : Message) → e.event.act ≡ Handle → e.detail ≡ Carried from m
      → brings k m ≡ true → MayChange T W e k
  -- a call of the key's VPE that is ready to install the key goes on
  by_resume : owner_of T k ≡ e.event.kernel → e.event.act ≡ Resume k.vpe
      → IsReadyFor k (side W e.event.kernel) → MayChange T W e k
  -- there was such a call: a request for the key cancels it, or its VPE ends
  by_end : owner_of T k ≡ e.event.kernel → may_revoke e ≡ true → IsRootOf e k
      → IsReadyFor k (side W e.event.kernel) → MayChange T W e k
  -- it revokes at a kernel that holds the key
  by_revoking : owner_of T k ≡ e.event.kernel → may_revoke e ≡ true
      → IsSome (cap (side W e.event.kernel) k) → MayChange T W e k

-- The place of a key that the entry may have moved and does not grant, as the side of its owner
-- tells it: held there, or on its way to a call that is ready to install it, or nowhere.
abbrev pub seen_at_home : KeyName → Side → Holder
seen_at_home k s = option_map_or held_as (cap s k) (unheld (is_ready_with k (parked s k.vpe)))
