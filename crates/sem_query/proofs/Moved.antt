-- The keys that an entry may move, as they are listed.
use Rattle.std.proofs.Common.{◌≡◌, ◌⊎◌, ℕ, ◌<◌, true, false, List, [], ◌++◌, Option, Some, None, IsSome, refl, sym, ap, ◌∙◌, subst, inl, inr, eq-eqb}
use Rattle.std.specs.Prelude.{◌==◌, nat_lt, ◌&&◌, if◌then◌else◌}
use Rattle.sem_key.specs.declared.limits.TheConstants.{VPES}
use Rattle.std.specs.List.{Contains, filter}
use Rattle.std.specs.Option.{option_to_list}
use Rattle.std.proofs.lemmas.Bool.{cases_Bool, cond-true, cond-false, and_from, and_parts, eqb-true, lt-ltb}
use Rattle.std.proofs.lemmas.Option.{same_Some}
use Rattle.std.proofs.lemmas.List.Elements.{Contains-append_left, Contains-append_right, Contains-append_cases}
use Rattle.sem_key.specs.KeyName.{KeyName}
use Rattle.sem_key.proofs.KeyTests.{key_eq-true, key_eq-from}
use Rattle.sem_key.proofs.Members.{Contains-nil, Contains-filter, Contains-from_filter}
use Rattle.sem_msg.specs.declared.message.Message.{Message}
use Rattle.sem_msg.specs.declared.message.Message.TheVariants.{ObtainOk, Ack}
use Rattle.sem_msg.specs.declared.event.Act.{Act}
use Rattle.sem_msg.specs.declared.event.Act.TheVariants.{Handle, Resume}
use Rattle.sem_msg.specs.declared.entry.Detail.{Detail}
use Rattle.sem_msg.specs.declared.entry.Detail.TheVariants.{Carried}
use Rattle.sem_msg.specs.declared.entry.Entry.{Entry}
use Rattle.sem_msg.specs.declared.state.Parked.{Parked}
use Rattle.sem_msg.specs.declared.state.Parked.TheVariants.{ObtainReady}
use Rattle.sem_msg.specs.Setup.{Setup}
use Rattle.sem_msg.specs.Lookups.{owner_of}
use Rattle.sem_msg.specs.ParkedStates.{is_ready_with}
use Rattle.sem_machine.specs.Sides.{Side, cap, parked}
use Rattle.sem_machine.specs.Machine.{World, side}
use Rattle.sem_grants.specs.Ending.{ended_by}
use Rattle.sem_query.specs.Whereabouts.{brings}
use Rattle.sem_query.specs.Changes.{may_revoke, grants_key, IsRootOf, MayChange}
use Rattle.sem_query.specs.Changes.IsRootOf.{of_cut, of_request, of_end}
use Rattle.sem_query.specs.Changes.MayChange.{by_grant, by_message, by_resume, by_end, by_revoking}
use Rattle.sem_query.proofs.Rooting.{in-option, from-option, ends-by, by-ends, from-requested}
use Rattle.sem_query.specs.Building.{brought_in, brought_by, ready_key, ready_of, ready_among, ready_by, resumed_vpe, requested, revoked_by, moved_by}

-- Messages that bring a key.

brought : (k : KeyName) (m : Message) → brings k m ≡ true → brought_in m ≡ Some k
brought k (ObtainOk parent key object) is = ap Some (key_eq-true key k is)
brought k (Ack key true) is = ap Some (key_eq-true key k is)
brought k (Ack key false) is = absurd cc
brought k m is = absurd cc

brings-it : (k : KeyName) (m : Message) → brought_in m ≡ Some k → brings k m ≡ true
brings-it k (ObtainOk parent key object) is = key_eq-from key k (same_Some key k is)
brings-it k (Ack key true) is = key_eq-from key k (same_Some key k is)
brings-it k (Ack key false) is = absurd cc
brings-it k m is = absurd cc

-- Calls that are ready.

ready-is : (k : KeyName) (p : Option Parked) → is_ready_with k p ≡ true → ready_key p ≡ Some k
ready-is k (Some (ObtainReady key parent object sel)) is = ap Some (key_eq-true key k is)
ready-is k p is = absurd cc

is-ready : (k : KeyName) (p : Option Parked) → ready_key p ≡ Some k → is_ready_with k p ≡ true
is-ready k (Some (ObtainReady key parent object sel)) is = key_eq-from key k (same_Some key k is)
is-ready k p is = absurd cc

-- the last keys are reached at the kernel of the entry
module _ (T : Setup) (W : World) (e : Entry) (low : (i v : ℕ) (p : Parked) → parked (side W i) v ≡ Some p → v < VPES) (reached : List KeyName) where
  abbrev i : ℕ
  i = e.event.kernel

  abbrev s : Side
  s = side W i

  module _ (k : KeyName) where
    abbrev chosen : ℕ → List KeyName
    chosen v = filter (λ q. (q.vpe == v) && (owner_of T q == i)) (option_to_list (ready_key (parked s v)))

    ready-low : is_ready_with k (parked s k.vpe) ≡ true → nat_lt k.vpe VPES ≡ true
    ready-low ready = by (parked s k.vpe) refl ready
      where
        by : (p : Option Parked) → parked s k.vpe ≡ p → is_ready_with k p ≡ true → nat_lt k.vpe VPES ≡ true
        by None none is = absurd cc
        by (Some x) some is = lt-ltb k.vpe VPES (low i k.vpe x some)

    -- of the call of its VPE
    ready-in : owner_of T k ≡ i → is_ready_with k (parked s k.vpe) ≡ true → Contains (ready_of T i s k.vpe) k
    ready-in home ready = subst (λ ks. Contains ks k) (sym (cond-true (nat_lt k.vpe VPES) (chosen k.vpe) [] (ready-low ready)))
        (Contains-filter (λ q. (q.vpe == k.vpe) && (owner_of T q == i)) (option_to_list (ready_key (parked s k.vpe))) k
        (in-option (ready_key (parked s k.vpe)) k (ready-is k (parked s k.vpe) ready))
        (and_from (k.vpe == k.vpe) (owner_of T k == i) (eq-eqb k.vpe k.vpe refl) (eq-eqb (owner_of T k) i home)))

    from-chosen : (v : ℕ) → Contains (chosen v) k → (k.vpe ≡ v) × (owner_of T k ≡ i) × (is_ready_with k (parked s k.vpe) ≡ true)
    from-chosen v among =
        let is = Contains-from_filter (λ q. (q.vpe == v) && (owner_of T q == i)) (option_to_list (ready_key (parked s v))) k among in
        let tests = and_parts (k.vpe == v) (owner_of T k == i) is.1 in
        let vpe : k.vpe ≡ v = eqb-true k.vpe v tests.0 in (
          vpe,
          eqb-true (owner_of T k) i tests.1,
          ap (λ u. is_ready_with k (parked s u)) vpe
              ∙ is-ready k (parked s v) (from-option (ready_key (parked s v)) k is.0),
        )

    from-ready : (v : ℕ) → Contains (ready_of T i s v) k → (k.vpe ≡ v) × (owner_of T k ≡ i) × (is_ready_with k (parked s k.vpe) ≡ true)
    from-ready v among = elim (cases_Bool (nat_lt v VPES)) [
      | inl below ↦ from-chosen v (subst (λ ks. Contains ks k) (cond-true (nat_lt v VPES) (chosen v) [] below) among)
      | inr past ↦ absurd (Contains-nil k (subst (λ ks. Contains ks k) (cond-false (nat_lt v VPES) (chosen v) [] past) among))
    ]

    in-by : (o : Option ℕ) → o ≡ Some k.vpe → owner_of T k ≡ i → is_ready_with k (parked s k.vpe) ≡ true → Contains (ready_by T i s o) k
    in-by o some home ready = subst (λ p. Contains (ready_by T i s p) k) (sym some) (ready-in home ready)

    from-by : (o : Option ℕ) → Contains (ready_by T i s o) k → (o ≡ Some k.vpe) × (owner_of T k ≡ i) × (is_ready_with k (parked s k.vpe) ≡ true)
    from-by None among = absurd (Contains-nil k among)
    from-by (Some v) among = let is = from-ready v among in (ap Some (sym is.0), is.1, is.2)

    in-among : (o : Option KeyName) → o ≡ Some k → owner_of T k ≡ i → is_ready_with k (parked s k.vpe) ≡ true → Contains (ready_among T i s o) k
    in-among o some home ready = Contains-filter (λ q. is_ready_with q (parked s q.vpe) && (owner_of T q == i)) (option_to_list o) k
        (in-option o k some)
        (and_from (is_ready_with k (parked s k.vpe)) (owner_of T k == i) ready (eq-eqb (owner_of T k) i home))

    from-among : (o : Option KeyName) → Contains (ready_among T i s o) k → (o ≡ Some k) × (owner_of T k ≡ i) × (is_ready_with k (parked s k.vpe) ≡ true)
    from-among o among =
        let is = Contains-from_filter (λ q. is_ready_with q (parked s q.vpe) && (owner_of T q == i)) (option_to_list o) k among in
        let tests = and_parts (is_ready_with k (parked s k.vpe)) (owner_of T k == i) is.1 in
        (from-option o k is.0, eqb-true (owner_of T k) i tests.1, tests.0)

    -- Parts of the list.

    abbrev brought_keys : List KeyName
    brought_keys = option_to_list (brought_by e.event.act e.detail)

    abbrev going_on : List KeyName
    going_on = ready_by T i s (resumed_vpe e.event.act)

    abbrev revoked : List KeyName
    revoked = if may_revoke e then revoked_by T i s e reached else []

    first : Contains brought_keys k → Contains (moved_by T W e reached) k
    first among = Contains-append_left brought_keys (going_on ++ revoked) k among

    second : Contains going_on k → Contains (moved_by T W e reached) k
    second among = Contains-append_right brought_keys (going_on ++ revoked) k (Contains-append_left going_on revoked k among)

    pub third : may_revoke e ≡ true → Contains (revoked_by T i s e reached) k → Contains (moved_by T W e reached) k
    third loud among =
        Contains-append_right brought_keys (going_on ++ revoked) k
        (Contains-append_right going_on revoked k (subst (λ ks. Contains ks k) (sym (cond-true (may_revoke e) (revoked_by T i s e reached) [] loud)) among))

    abbrev at_cut : List KeyName
    at_cut = ready_among T i s e.cut

    abbrev at_request : List KeyName
    at_request = ready_among T i s (requested e.event.act e.detail)

    abbrev at_end : List KeyName
    at_end = ready_by T i s (ended_by e.event.act e.detail)

    revoked-one : Contains at_cut k → Contains (revoked_by T i s e reached) k
    revoked-one among =
        Contains-append_left (at_cut ++ at_request ++ at_end) reached k
        (Contains-append_left (at_cut ++ at_request) at_end k (Contains-append_left at_cut at_request k among))

    revoked-two : Contains at_request k → Contains (revoked_by T i s e reached) k
    revoked-two among =
        Contains-append_left (at_cut ++ at_request ++ at_end) reached k
        (Contains-append_left (at_cut ++ at_request) at_end k (Contains-append_right at_cut at_request k among))

    revoked-three : Contains at_end k → Contains (revoked_by T i s e reached) k
    revoked-three among = Contains-append_left (at_cut ++ at_request ++ at_end) reached k (Contains-append_right (at_cut ++ at_request) at_end k among)

    pub revoked-four : Contains reached k → Contains (revoked_by T i s e reached) k
    revoked-four among = Contains-append_right (at_cut ++ at_request ++ at_end) reached k among

    -- what may change is listed, unless it is held and not reached
    pub lists : MayChange T W e k →
        (grants_key k e ≡ true) ⊎ (Contains (moved_by T W e reached) k ⊎ ((owner_of T k ≡ i) × (may_revoke e ≡ true) × IsSome (cap s k)))
    lists (by_grant granted) = inl granted
    lists (by_message from m act detail bringing) =
        inr (inl (first (in-option (brought_by e.event.act e.detail) k (ap (λ a. brought_by a e.detail) act
        ∙ (ap (brought_by Handle) detail ∙ brought k m bringing)))))
    lists (by_resume home act ready) = inr (inl (second (in-by (resumed_vpe e.event.act) (ap resumed_vpe act) home ready)))
    lists (by_end home loud root ready) = inr (inl (third loud (from-root root)))
      where
        from-root : IsRootOf e k → Contains (revoked_by T i s e reached) k
        from-root (of_cut cuts) = revoked-one (in-among e.cut cuts home ready)
        from-root (of_request from j act detail) = revoked-two (in-among (requested e.event.act e.detail) (ap (λ a. requested a e.detail) act
            ∙ ap (requested Handle) detail) home ready)
        from-root (of_end over) = revoked-three (in-by (ended_by e.event.act e.detail) (ends-by k.vpe e.event.act e.detail over) home ready)
    lists (by_revoking home loud held) = inr (inr (home, loud, held))

    from-brought : (a : Act) (d : Detail) → e.event.act ≡ a → e.detail ≡ d → brought_by a d ≡ Some k → MayChange T W e k
    from-brought Handle d act detail is = by d detail is
      where
        by : (d : Detail) → e.detail ≡ d → brought_by Handle d ≡ Some k → MayChange T W e k
        by (Carried from m) detail is = by_message from m act detail (brings-it k m is)
        by d detail is = absurd cc
    from-brought a d act detail is = absurd cc

    from-resumed : (a : Act) → e.event.act ≡ a → resumed_vpe a ≡ Some k.vpe → owner_of T k ≡ i → is_ready_with k (parked s k.vpe) ≡ true → MayChange T W e k
    from-resumed (Resume v) act is home ready = by_resume home (act ∙ ap Resume (same_Some v k.vpe is)) ready
    from-resumed a act is home ready = absurd cc

    from-revoked : may_revoke e ≡ true → (Contains reached k → (owner_of T k ≡ i) × IsSome (cap s k)) → Contains (revoked_by T i s e reached) k →
        MayChange T W e k
    from-revoked loud held among = elim (Contains-append_cases (at_cut ++ at_request ++ at_end) reached k among) [
      | inr here ↦ let is = held here in by_revoking is.0 loud is.1
      | inl ready ↦ elim (Contains-append_cases (at_cut ++ at_request) at_end k ready) [
        | inr over ↦ let is = from-by (ended_by e.event.act e.detail) over in by_end is.1 loud (of_end (by-ends k.vpe e.event.act e.detail is.0)) is.2
        | inl root ↦ elim (Contains-append_cases at_cut at_request k root) [
          | inl cuts ↦ let is = from-among e.cut cuts in by_end is.1 loud (of_cut is.0) is.2
          | inr asks ↦ let is = from-among (requested e.event.act e.detail) asks in
              by_end is.1 loud (from-requested e k e.event.act e.detail refl refl is.0) is.2
        ]
      ]
    ]

    -- what is listed may change, where what is reached is held by its owner
    pub listed : (may_revoke e ≡ true → Contains reached k → (owner_of T k ≡ i) × IsSome (cap s k)) → Contains (moved_by T W e reached) k → MayChange T W e k
    listed held among = elim (Contains-append_cases brought_keys (going_on ++ revoked) k among) [
      | inl brings' ↦ from-brought e.event.act e.detail refl refl (from-option (brought_by e.event.act e.detail) k brings')
      | inr here ↦ elim (Contains-append_cases going_on revoked k here) [
        | inl goes ↦ let is = from-by (resumed_vpe e.event.act) goes in from-resumed e.event.act refl is.0 is.1 is.2
        | inr loud ↦ elim (cases_Bool (may_revoke e)) [
          | inl is ↦ from-revoked is (held is) (subst (λ ks. Contains ks k) (cond-true (may_revoke e) (revoked_by T i s e reached) [] is) loud)
          | inr not ↦ absurd (Contains-nil k (subst (λ ks. Contains ks k) (cond-false (may_revoke e) (revoked_by T i s e reached) [] not) loud))
        ]
      ]
    ]
