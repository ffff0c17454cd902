-- A key that is followed along a journal.
use Rattle.std.proofs.Common.{◌≡◌, ◌⊎◌, ℕ, ◌<◌, ◌≤◌, zero-le, Bool, true, false, List, [], ◌∷◌, ◌++◌, length, take, Option, Some, None, IsSome, refl, sym, ap}
use Rattle.std.proofs.Common.{◌∙◌, subst, inl, inr, arith, eq-eqb}
use Rattle.std.specs.Prelude.{◌==◌, ◌&&◌, ◌||◌, is_some}
use Rattle.std.specs.Option.{option_map, option_map_or}
use Rattle.std.proofs.lemmas.Bool.{and_from, and_parts, eqb-true, true≢false}
use Rattle.std.proofs.lemmas.Option.{same_Some}
use Rattle.std.proofs.lemmas.List.{take_all, take-append-le, length-append}
use Rattle.sem_key.specs.KeyName.{KeyName, key_eq}
use Rattle.sem_key.specs.Capability.{Capability}
use Rattle.sem_key.proofs.KeyTests.{key_eq-true, key_eq-from}
use Rattle.sem_key.proofs.Members.{found}
use Rattle.sem_msg.specs.declared.call.Call.TheVariants.{Exit}
use Rattle.sem_msg.specs.declared.message.Message.{Message}
use Rattle.sem_msg.specs.declared.message.Message.TheVariants.{ObtainOk, Ack, RevokeReq}
use Rattle.sem_msg.specs.declared.event.Act.{Act}
use Rattle.sem_msg.specs.declared.event.Act.TheVariants.{Call as Calls, Handle, Kill, Resume}
use Rattle.sem_msg.specs.declared.entry.Detail.{Detail}
use Rattle.sem_msg.specs.declared.entry.Detail.TheVariants.{Called, Carried}
use Rattle.sem_msg.specs.declared.entry.Entry.{Entry}
use Rattle.sem_msg.specs.Setup.{Setup, IsSetup}
use Rattle.sem_msg.specs.Lookups.{owner_of, kernel_of}
use Rattle.sem_msg.specs.ParkedStates.{is_ready_with}
use Rattle.sem_machine.specs.Sides.{Side, cap, parked}
use Rattle.sem_machine.specs.Machine.{World, side, start}
use Rattle.sem_machine.specs.Schedules.{IsSchedule, world_after}
use Rattle.sem_machine.specs.Journals.{ends}
use Rattle.sem_machine.specs.Living.{IsLive}
use Rattle.sem_grants.specs.Ending.{ended_by}
use Rattle.sem_safety.proofs.CarryingWorlds.{used-made}
use Rattle.sem_safety.proofs.FirstCaps.{root-held}
use Rattle.sem_revoke.proofs.Readying.{schedule-homes}
use Rattle.sem_query.specs.declared.holder.Holder.{Holder}
use Rattle.sem_query.specs.declared.holder.Holder.TheVariants.{Unmarked, Way, No}
use Rattle.sem_query.specs.declared.sighting.Sighting.{Sighting}
use Rattle.sem_query.specs.Whereabouts.{brings, held_as, held_with, unheld, is_coming, whereabouts, whereabouts_after, Passes}
use Rattle.sem_query.specs.Changes.{may_revoke, grants_key, seen_at_home, IsRootOf, MayChange}
use Rattle.sem_query.specs.Changes.IsRootOf.{of_cut, of_request, of_end}
use Rattle.sem_query.specs.Changes.MayChange.{by_grant, by_message, by_resume, by_end, by_revoking}
use Rattle.sem_query.specs.Building.{brought_in, brought_by, requested, resumed_vpe, seen_granted}
use Rattle.sem_query.specs.Sightings.{is_that_key, is_that_vpe, is_root, moves_at_home, may_move, IsReadied}
use Rattle.sem_query.proofs.AtHome.{at-home}
use Rattle.sem_query.proofs.Changing.{changes}
use Rattle.sem_query.proofs.Passing.{passes}
use Rattle.sem_query.proofs.Telling.{nobody, first-made, start-unmarked, dead-nowhere}
use Rattle.sem_query.proofs.There.{some-of, there}

-- The start.

none-taken : (n : ℕ) → take {A = Entry} n [] ≡ []
none-taken n = take_all n [] zero-le

module _ (T : Setup) (valid : IsSetup T) (k : KeyName) where
  abbrev at_owner : Option Capability
  at_owner = cap (side (start T) (owner_of T k)) k

  -- what is live at the start is held by its owner
  live-held : IsLive (start T) k → (c : Capability) × (at_owner ≡ Some c)
  live-held live =
      let i : ℕ = kernel_of T k.vpe in
      let c = some-of (cap (side (start T) i) k) (root-held T valid k (first-made T valid k (used-made T [] (nobody T valid k) k (inl live)))) in
      let home : owner_of T k ≡ i = schedule-homes T valid [] (nobody T valid k) i k c.0 c.1 in
      (c.0, ap (λ j. cap (side (start T) j) k) home ∙ c.1)

  pub start-held : (c : Capability) → at_owner ≡ Some c → whereabouts T (start T) k ≡ Unmarked c.selector
  start-held c is =
      ap (λ o. option_map_or held_as o (unheld (is_coming k (start T)))) is
      ∙ ap (λ m. held_with m c.selector)
      (start-unmarked T (owner_of T k) c (found (λ (x : Capability). key_eq x.key k) (side (start T) (owner_of T k)).caps c is).0)

  pub start-unheld : at_owner ≡ None → whereabouts T (start T) k ≡ No
  start-unheld none = dead-nowhere T valid k (start T) (whereabouts T (start T) k) (there T valid [] (nobody T valid k) k) dead
    where
      dead : IsLive (start T) k → ⊥
      dead live = let held = live-held live in let clash : None ≡ Some held.0 = sym none ∙ held.1 in absurd cc

  -- by the selector at which its owner holds it
  pub start-seen : (n : ℕ) (h : Holder) (o : Option ℕ) → o ≡ option_map (λ (c : Capability). c.selector) at_owner → h ≡ option_map_or Unmarked o No →
      h ≡ whereabouts_after T (take n []) k
  start-seen n h o sel is = by at_owner refl
    where
      first : whereabouts T (start T) k ≡ whereabouts_after T (take n []) k
      first = ap (λ J. whereabouts_after T J k) (sym (none-taken n))

      by : (p : Option Capability) → at_owner ≡ p → h ≡ whereabouts_after T (take n []) k
      by (Some c) some = is ∙ (ap (λ q. option_map_or Unmarked q No) (sel ∙ ap (option_map (λ (c : Capability). c.selector)) some)
          ∙ (sym (start-held c some) ∙ first))
      by None none = is ∙ (ap (λ q. option_map_or Unmarked q No) (sel ∙ ap (option_map (λ (c : Capability). c.selector)) none)
          ∙ (sym (start-unheld none) ∙ first))

-- Whether the entry may move the key.

or-left : (a b : Bool) → a ≡ true → (a || b) ≡ true
or-left true b is = refl
or-left false b is = absurd cc

or-right : (a b : Bool) → b ≡ true → (a || b) ≡ true
or-right true b is = refl
or-right false b is = is

or-cases : (a b : Bool) → (a || b) ≡ true → (a ≡ true) ⊎ (b ≡ true)
or-cases true b is = inl refl
or-cases false b is = inr is

is_key-from : (k : KeyName) (o : Option KeyName) → o ≡ Some k → is_that_key k o ≡ true
is_key-from k (Some q) is = key_eq-from q k (same_Some q k is)
is_key-from k None is = absurd cc

is_key-true : (k : KeyName) (o : Option KeyName) → is_that_key k o ≡ true → o ≡ Some k
is_key-true k (Some q) is = ap Some (key_eq-true q k is)
is_key-true k None is = absurd cc

is_vpe-from : (v : ℕ) (o : Option ℕ) → o ≡ Some v → is_that_vpe v o ≡ true
is_vpe-from v (Some w) is = eq-eqb w v (same_Some w v is)
is_vpe-from v None is = absurd cc

is_vpe-true : (v : ℕ) (o : Option ℕ) → is_that_vpe v o ≡ true → o ≡ Some v
is_vpe-true v (Some w) is = ap Some (eqb-true w v is)
is_vpe-true v None is = absurd cc

brought : (k : KeyName) (m : Message) → brings k m ≡ true → brought_in m ≡ Some k
brought k (ObtainOk parent key object) is = ap Some (key_eq-true key k is)
brought k (Ack key true) is = ap Some (key_eq-true key k is)
brought k (Ack key false) is = absurd cc
brought k m is = absurd cc

brings-it : (k : KeyName) (m : Message) → brought_in m ≡ Some k → brings k m ≡ true
brings-it k (ObtainOk parent key object) is = key_eq-from key k (same_Some key k is)
brings-it k (Ack key true) is = key_eq-from key k (same_Some key k is)
brings-it k (Ack key false) is = absurd cc
brings-it k m is = absurd cc

ends-by : (v : ℕ) (a : Act) (d : Detail) → ends v a d ≡ true → ended_by a d ≡ Some v
ends-by v (Kill w) d is = ap Some (eqb-true w v is)
ends-by v (Calls w) (Called index Exit) is = ap Some (eqb-true w v is)
ends-by v a d is = absurd cc

by-ends : (v : ℕ) (a : Act) (d : Detail) → ended_by a d ≡ Some v → ends v a d ≡ true
by-ends v (Kill w) d is = eq-eqb w v (same_Some w v is)
by-ends v (Calls w) (Called index Exit) is = eq-eqb w v (same_Some w v is)
by-ends v a d is = absurd cc

is-some : (o : Option Capability) → IsSome o → is_some o ≡ true
is-some (Some c) some = refl
is-some None some = absurd cc

some-is : (o : Option Capability) → is_some o ≡ true → IsSome o
some-is (Some c) is = refl
some-is None is = absurd cc

module _ (T : Setup) (W : World) (e : Entry) (k : KeyName) where
  abbrev i : ℕ
  i = e.event.kernel

  abbrev s : Side
  s = side W i

  abbrev ready : Bool
  ready = is_ready_with k (parked s k.vpe)

  abbrev going_on : Bool
  going_on = is_that_vpe k.vpe (resumed_vpe e.event.act) && ready

  abbrev revoked : Bool
  revoked = (is_root k e && ready) || is_some (cap s k)

  abbrev brought_it : Bool
  brought_it = is_that_key k (brought_by e.event.act e.detail)

  at-home-moves : owner_of T k ≡ i → moves_at_home k s e ≡ true → may_move T W e k ≡ true
  at-home-moves home is =
      or-right brought_it ((owner_of T k == i) && moves_at_home k s e) (and_from (owner_of T k == i) (moves_at_home k s e) (eq-eqb (owner_of T k) i home) is)

  rooted : IsRootOf e k → is_root k e ≡ true
  rooted (of_cut cuts) = or-left (is_that_key k e.cut) _ (is_key-from k e.cut cuts)
  rooted (of_request from j act detail) =
      or-right (is_that_key k e.cut) _
      (or-left (is_that_key k (requested e.event.act e.detail)) _ (is_key-from k (requested e.event.act e.detail) (ap (λ a. requested a e.detail) act
      ∙ ap (requested Handle) detail)))
  rooted (of_end over) =
      or-right (is_that_key k e.cut) _
      (or-right (is_that_key k (requested e.event.act e.detail)) _ (is_vpe-from k.vpe (ended_by e.event.act e.detail) (ends-by k.vpe e.event.act e.detail over)))

  -- a cause by which it may change, but for a grant, is seen
  pub moves : MayChange T W e k → (grants_key k e ≡ true) ⊎ (may_move T W e k ≡ true)
  moves (by_grant granted) = inl granted
  moves (by_message from m act detail bringing) =
      inr (or-left brought_it _ (is_key-from k (brought_by e.event.act e.detail) (ap (λ a. brought_by a e.detail) act
      ∙ (ap (brought_by Handle) detail ∙ brought k m bringing))))
  moves (by_resume home act is) =
      inr (at-home-moves home
      (or-left going_on _ (and_from (is_that_vpe k.vpe (resumed_vpe e.event.act)) ready (is_vpe-from k.vpe (resumed_vpe e.event.act) (ap resumed_vpe act)) is)))
  moves (by_end home loud root is) =
      inr (at-home-moves home
      (or-right going_on _ (and_from (may_revoke e) revoked loud (or-left (is_root k e && ready) _ (and_from (is_root k e) ready (rooted root) is)))))
  moves (by_revoking home loud held) =
      inr (at-home-moves home (or-right going_on _ (and_from (may_revoke e) revoked loud (or-right (is_root k e && ready) _ (is-some (cap s k) held)))))

  from-brought : (a : Act) (d : Detail) → e.event.act ≡ a → e.detail ≡ d → brought_by a d ≡ Some k → MayChange T W e k
  from-brought Handle (Carried from m) act detail is = by_message from m act detail (brings-it k m is)
  from-brought a d act detail is = absurd cc

  from-resumed : (a : Act) → e.event.act ≡ a → resumed_vpe a ≡ Some k.vpe → owner_of T k ≡ i → ready ≡ true → MayChange T W e k
  from-resumed (Resume v) act is home is_ready = by_resume home (act ∙ ap Resume (same_Some v k.vpe is)) is_ready
  from-resumed a act is home is_ready = absurd cc

  from-requested : (a : Act) (d : Detail) → e.event.act ≡ a → e.detail ≡ d → requested a d ≡ Some k → IsRootOf e k
  from-requested Handle (Carried from (RevokeReq key j)) act detail is = of_request from j act (detail
      ∙ ap (λ q. Carried from (RevokeReq q j)) (same_Some key k is))
  from-requested a d act detail is = absurd cc

  from-root : is_root k e ≡ true → IsRootOf e k
  from-root is = elim (or-cases (is_that_key k e.cut) _ is) [
    | inl cuts ↦ of_cut (is_key-true k e.cut cuts)
    | inr more ↦ elim (or-cases (is_that_key k (requested e.event.act e.detail)) _ more) [
      | inl request ↦ from-requested e.event.act e.detail refl refl (is_key-true k (requested e.event.act e.detail) request)
      | inr over ↦ of_end (by-ends k.vpe e.event.act e.detail (is_vpe-true k.vpe (ended_by e.event.act e.detail) over))
    ]
  ]

  -- and what is seen is such a cause
  pub moving : may_move T W e k ≡ true → MayChange T W e k
  moving is = elim (or-cases brought_it _ is) [
    | inl message ↦ from-brought e.event.act e.detail refl refl (is_key-true k (brought_by e.event.act e.detail) message)
    | inr here ↦
        let parts = and_parts (owner_of T k == i) (moves_at_home k s e) here in
        let home : owner_of T k ≡ i = eqb-true (owner_of T k) i parts.0 in
        elim (or-cases going_on _ parts.1) [
          | inl goes ↦
              let both = and_parts (is_that_vpe k.vpe (resumed_vpe e.event.act)) ready goes in
              from-resumed e.event.act refl (is_vpe-true k.vpe (resumed_vpe e.event.act) both.0) home both.1
          | inr revokes ↦
              let loud = and_parts (may_revoke e) revoked revokes in
              elim (or-cases (is_root k e && ready) _ loud.1) [
                | inl root ↦ let both = and_parts (is_root k e) ready root in by_end home loud.0 (from-root both.0) both.1
                | inr held ↦ by_revoking home loud.0 (some-is (cap s k) held)
              ]
        ]
  ]

-- One entry more.

module _ (T : Setup) (valid : IsSetup T) (past : List Entry) (e : Entry) (runs : IsSchedule T (past ++ e ∷ [])) (x : Sighting)
    (readied : IsReadied T past e x) where
  abbrev V : World
  V = world_after T (past ++ e ∷ [])

  abbrev key : KeyName
  key = x.key

  abbrev IsNext : Holder → Type 0
  IsNext h = h ≡ whereabouts_after T (take x.count (past ++ e ∷ [])) key

  -- it was asked for after fewer entries
  pub past-seen : x.count ≤ length past → IsNext x.there
  past-seen few = readied.seen ∙ ap (λ J. whereabouts_after T J key) (sym (take-append-le x.count past (e ∷ []) few))

  module _ (more : length past < x.count) where
    all-past : take x.count past ≡ past
    all-past = take_all x.count past (omega (arith, more))

    all-next : take x.count (past ++ e ∷ []) ≡ past ++ e ∷ []
    all-next = let len = length-append past (e ∷ []) in take_all x.count (past ++ e ∷ []) (omega (arith, more, len))

    now : (h : Holder) → h ≡ whereabouts T V key → IsNext h
    now h is = is ∙ ap (λ J. whereabouts_after T J key) (sym all-next)

    -- a granted key is held, or on its way
    sees : (o : Option Capability) (coming : Bool) (a : Holder) → Passes true a (option_map_or held_as o (unheld coming)) →
        option_map_or held_as o Way ≡ option_map_or held_as o (unheld coming)
    sees (Some c) coming a is = refl
    sees None true a is = refl
    sees None false a is = absurd (no a is)
      where
        no : (a : Holder) → Passes true a No → ⊥
        no a h = elim h [ ]

    pub granted-seen : grants_key key e ≡ true → IsNext (seen_granted key (side V (owner_of T key)))
    granted-seen granted =
        now _ (sees (cap (side V (owner_of T key)) key) (is_coming key V) (whereabouts T (world_after T past) key)
        (subst (λ g. Passes g (whereabouts T (world_after T past) key) (whereabouts T V key)) granted
        (passes T valid (past ++ e ∷ []) runs past [] e refl key)))

    module _ (not_granted : grants_key key e ≡ false) where
      pub moved-seen : x.is_moving ≡ true → IsNext (seen_at_home key (side V (owner_of T key)))
      moved-seen is = now _
          (sym (at-home T valid (past ++ e ∷ []) runs past [] e refl key not_granted (moving T (world_after T past) e key (sym readied.moves ∙ is))))

      pub unmoved-seen : x.is_moving ≡ false → IsNext x.there
      unmoved-seen is = now x.there (readied.seen ∙ (ap (λ J. whereabouts_after T J key) all-past ∙ stays))
        where
          stays : whereabouts T (world_after T past) key ≡ whereabouts T V key
          stays = elim (changes T valid (past ++ e ∷ []) runs past [] e refl key) [
            | inl same ↦ same
            | inr may ↦ elim (moves T (world_after T past) e key may) [
              | inl granted ↦ absurd (true≢false (sym granted ∙ not_granted))
              | inr moved ↦ absurd (true≢false (sym moved ∙ (sym readied.moves ∙ is)))
            ]
          ]
