-- What a sound side gives to the asks of a VPE and to the end of a waiting call.
use Rattle.std.proofs.Common.{◌≡◌, ℕ, ◌<◌, true, false, List, Option, Some, None, refl, sym, ◌∙◌, ap, subst, drop, get_or, slice_get}
use Rattle.std.specs.Prelude.{IfSome}
use Rattle.std.specs.List.{Contains}
use Rattle.std.specs.Option.{option_map, option_map_or, option_and_then}
use Rattle.std.proofs.lemmas.Option.{slice_get_within, get_or_from_slice_get}
use Rattle.sem_key.specs.declared.key.Kind.{Kind}
use Rattle.sem_key.specs.KeyName.{KeyName, key_eq}
use Rattle.sem_key.specs.PlaceName.{PlaceName}
use Rattle.sem_key.specs.Capability.{Capability}
use Rattle.sem_key.proofs.Members.{found}
use Rattle.sem_key.proofs.Puts.{get_or-put_same}
use Rattle.sem_msg.specs.declared.message.Target.{Target}
use Rattle.sem_msg.specs.declared.message.Target.TheVariants.{Sel as SelTarget, Serv as ServTarget, Offer as OfferTarget}
use Rattle.sem_msg.specs.declared.state.Ask.{Ask}
use Rattle.sem_msg.specs.declared.state.Slot.TheVariants.{Free}
use Rattle.sem_msg.specs.declared.state.Parked.{Parked}
use Rattle.sem_msg.specs.declared.state.Parked.TheVariants.{ObtainWait, ObtainReady, ObtainCancelled, DelegateWait, DelegateReady, RevokeWait, Ready}
use Rattle.sem_msg.specs.declared.state.Pending.{Pending}
use Rattle.sem_msg.specs.Rows.{VpeRow, no_vpe}
use Rattle.sem_msg.specs.VpeRows
use Rattle.sem_msg.specs.Setup.{Setup, IsSetup}
use Rattle.sem_msg.specs.Lookups.{kernel_of, place_owner, pe_of, offered}
use Rattle.sem_caps.specs.CapStore.{held_key}
use Rattle.sem_machine.specs.Sides.{Side, no_side, row, slot, cap, cap_in, own, parked, pending, ask_taken}
use Rattle.sem_machine.specs.Steps.{Step, unshown}
use Rattle.sem_machine.specs.Upcalls.{source, ask_decided, upcall_row}
use Rattle.sem_machine.specs.Resumes.{can_resume}
use Rattle.sem_machine.specs.Sound.{IsSound, IsSoundAsk, IsPlaceNamed}
use Rattle.sem_obtain.specs.Asking.{IsGivable, CanEnd}
use Rattle.sem_delegate.specs.Delegating.{CanGrant, CanHold, HasCode}
use Rattle.sem_sound.proofs.Named.{declared-below}
use Rattle.sem_sound.proofs.Changing.{taken-sound}
use Rattle.sem_sound.proofs.Holding.{cap-among}
use Rattle.sem_sound.proofs.Calling.{own-among}
use Rattle.sem_kernel.specs.declared.stores.Stores.{Stores}
use Rattle.sem_kernel.specs.KernelStores.{side_of}
use Rattle.sem_kernel.specs.Rooms.{resumed_parent}
use Rattle.sem_kernel.specs.Ending.{ends_obtain, ends_delegate}
use Rattle.sem_kernel.proofs.Meets.{owner-below, next-absent, ready-absent, pending-absent}

-- the row of an upcall, where an ask waits
pub upcall-is : (T : Setup) (i v : ℕ) (s : Side) (a : Ask) (rows : List VpeRow) (x : Step) → slice_get (row s v).asks 0 ≡ Some a →
    rows ≡ VpeRows.ask_taken v s.vpes → x ≡ ask_decided T i v a (record s { vpes = rows }) → x ≡ upcall_row T i s v
unfolding upcall_row
upcall-is T i v s a rows x front taken is =
    is
    ∙ (ap (λ (r : List VpeRow). ask_decided T i v a (record s { vpes = r })) taken
    ∙ sym (ap (λ (o : Option Ask). option_map_or (λ b. ask_decided T i v b (ask_taken v s)) o (unshown s)) front))

-- an ask that is taken leaves the selectors
taken-slot : (s : Side) (v sel : ℕ) → slot (ask_taken v s) v sel ≡ slot s v sel
taken-slot s v sel = ap (λ (r : VpeRow). get_or r.slots sel Free) (get_or-put_same no_vpe s.vpes v (record (row s v) { asks = drop 1 (row s v).asks }))

module _ (T : Setup) (valid : IsSetup T) (i : ℕ) (few : i < T.kernels) where
  pub place-below : (place : PlaceName) → IsPlaceNamed T place → place_owner T place < T.kernels
  place-below place named = declared-below T valid place.pe place.vpe named.1

  module _ (x : Stores) (is : IsSound T i (side_of x)) where
    abbrev s : Side
    s = side_of x

    -- the oldest ask is sound
    pub front-sound : (v : ℕ) (a : Ask) → slice_get (row s v).asks 0 ≡ Some a → IsSoundAsk T a
    front-sound v a at = (is.rows v).asks a (0, slice_get_within (row s v).asks 0 a at, get_or_from_slice_get (row s v).asks 0 a a at)

    -- what is asked for is held
    source-among : (v : ℕ) (target : Target) (c : Capability) → source T s v target ≡ Some c → Contains s.caps c × (cap s c.key ≡ Some c)
    source-among v (SelTarget w sel) c at = let there = own-among T valid i few s is v sel c at in (there.0, there.2)
    source-among v (ServTarget service) c at = let there = cap-among T valid i few None None None None s is service c at in (there.0, ap (cap s) there.1 ∙ at)
    source-among v (OfferTarget service index) c at = from (offered T service index) at
      where
        from : (o : Option ℕ) → option_and_then (own s v) o ≡ Some c → Contains s.caps c × (cap s c.key ≡ Some c)
        from None none = absurd cc
        from (Some sel) some = let there = own-among T valid i few s is v sel c some in (there.0, there.2)

    -- what is asked for is the same where the ask is taken
    source-taken : (v : ℕ) (target : Target) → source T (record no_side { caps = x.caps.caps; vpes = VpeRows.ask_taken v x.vpes.rows }) v target
        ≡ source T s v target
    source-taken v (SelTarget w sel) = ap (cap_in s) (taken-slot s v sel)
    source-taken v (ServTarget service) = refl
    source-taken v (OfferTarget service index) = from (offered T service index)
      where
        from : (o : Option ℕ) → option_and_then (own (record no_side { caps = x.caps.caps; vpes = VpeRows.ask_taken v x.vpes.rows }) v) o
            ≡ option_and_then (own s v) o
        from None = refl
        from (Some sel) = ap (cap_in s) (taken-slot s v sel)

    -- there is room for a child of it
    pub source-givable : (v : ℕ) (target : Target) (rows : List VpeRow) → rows ≡ VpeRows.ask_taken v x.vpes.rows →
        x.caps.child_room ≡ held_key x.caps.caps (option_map (λ c. c.key) (source T s v target)) →
        IfSome (source T (record no_side { caps = x.caps.caps; vpes = rows }) v target) (IsGivable x.caps)
    source-givable v target rows taken room =
        subst (λ (r : List VpeRow). IfSome (source T (record no_side { caps = x.caps.caps; vpes = r }) v target) (IsGivable x.caps)) (sym taken)
        (subst (λ (o : Option Capability). IfSome o (IsGivable x.caps)) (sym (source-taken v target)) (from (source T s v target) refl room))
      where
        from : (o : Option Capability) → source T s v target ≡ o → x.caps.child_room ≡ held_key x.caps.caps (option_map (λ c. c.key) o) →
            IfSome o (IsGivable x.caps)
        from None at room = tt
        from (Some c) at room =
            let there = source-among v target c at in
            let sound = is.caps c there.0 in
            record { child_room = room ∙ rw there.1 refl; object = sound.object.0; kind = sound.kind }

    -- no capability has the number that the VPE draws next, also where an ask of it is taken
    pub next-taken : (v : ℕ) → kernel_of T v ≡ i → (rows : List VpeRow) → rows ≡ VpeRows.ask_taken v x.vpes.rows → (kind : Kind) →
        cap s (record { pe = pe_of T v; vpe = v; kind = kind; number = (VpeRows.row rows v).next_number }) ≡ None
    next-taken v local rows taken kind =
        subst (λ (r : List VpeRow). cap s (record { pe = pe_of T v; vpe = v; kind = kind; number = (VpeRows.row r v).next_number }) ≡ None) (sym taken)
        (next-absent T valid i few (ask_taken v s) (taken-sound T valid i few None None None None s is v local) v kind)

    -- a call that ends can end
    pub can-end : (v : ℕ) (p : Option Parked) → parked s v ≡ p → ends_obtain p ≡ true → CanEnd x.caps v p
    can-end v None at none = absurd cc
    can-end v (Some (ObtainWait number sel)) at none = absurd cc
    can-end v (Some (ObtainReady key parent object sel)) at ends = ready-absent T valid i few s is v key parent object sel at
    can-end v (Some ObtainCancelled) at ends = tt
    can-end v (Some (DelegateWait parent)) at none = absurd cc
    can-end v (Some (DelegateReady parent key)) at none = absurd cc
    can-end v (Some (RevokeWait j)) at none = absurd cc
    can-end v (Some (Ready code)) at none = absurd cc

    pub can-grant : (v : ℕ) (p : Option Parked) → parked s v ≡ p → ends_delegate p ≡ true → x.caps.child_room ≡ held_key x.caps.caps (resumed_parent p) →
        CanGrant T x.caps p
    can-grant v None at none room = absurd cc
    can-grant v (Some (ObtainWait number sel)) at none room = absurd cc
    can-grant v (Some (ObtainReady key parent object sel)) at none room = absurd cc
    can-grant v (Some ObtainCancelled) at none room = absurd cc
    can-grant v (Some (DelegateWait parent)) at none room = absurd cc
    can-grant v (Some (DelegateReady parent key)) at ends room = (room, owner-below T valid i few key (is.calls v (DelegateReady parent key) at).1.2.0)
    can-grant v (Some (RevokeWait j)) at none room = absurd cc
    can-grant v (Some (Ready code)) at none room = absurd cc

-- a call that can go on and is neither has its code
pub has-code : (p : Option Parked) → can_resume p ≡ true → ends_obtain p ≡ false → ends_delegate p ≡ false → HasCode p
has-code None can obtains delegates = absurd cc
has-code (Some (ObtainWait number sel)) can obtains delegates = absurd cc
has-code (Some (ObtainReady key parent object sel)) can obtains delegates = absurd cc
has-code (Some ObtainCancelled) can obtains delegates = absurd cc
has-code (Some (DelegateWait parent)) can obtains delegates = absurd cc
has-code (Some (DelegateReady parent key)) can obtains delegates = absurd cc
has-code (Some (RevokeWait j)) can obtains delegates = absurd cc
has-code (Some (Ready code)) can obtains delegates = tt

module _ (T : Setup) (valid : IsSetup T) (i : ℕ) (few : i < T.kernels) (x : Stores) (is : IsSound T i (side_of x)) where
  -- a pending delegation can be held
  pub can-hold : (k : KeyName) → CanHold T x.caps k (pending (side_of x) k)
  can-hold k = from (pending (side_of x) k) refl
    where
      from : (o : Option Pending) → pending (side_of x) k ≡ o → CanHold T x.caps k o
      from None at = tt
      from (Some p) at =
          let there = found (λ (q : Pending). key_eq q.key k) (side_of x).pendings p at in
          (pending-absent T valid i few (side_of x) is k p at, owner-below T valid i few p.parent (is.pendings p there.0).parent.0)
