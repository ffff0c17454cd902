-- The tests of each event pass: of calls, upcalls, parked calls that go on, and messages.
use Rattle.std.proofs.Common.{◌≡◌, ◌⊎◌, ℕ, ◌<◌, ◌++◌, Bool, true, false, not, List, [], ◌∷◌, drop, get_or, slice_get, nat_le, Option, Some, None, is_some}
use Rattle.std.proofs.Common.{is_none, refl, sym, ap, ◌∙◌, subst, inl, inr, arith, eq-eqb}
use Rattle.std.specs.Prelude.{◌==◌, ◌&&◌, ◌||◌}
use Rattle.std.specs.List.{Contains, list_any}
use Rattle.std.specs.Option.{option_and_then}
use Rattle.std.proofs.lemmas.Bool.{cases_Bool, cases_eq, eqb-true, false_from_ne_true, leb-true, cond-true}
use Rattle.std.proofs.lemmas.Option.{same_Some}
use Rattle.std.proofs.lemmas.List.Elements.{Contains-append_left}
use Rattle.sem_key.specs.declared.key.Kind.{Kind}
use Rattle.sem_key.specs.declared.key.Kind.TheVariants.{Mem as MemKind, Serv as ServKind, Sess as SessKind}
use Rattle.sem_key.specs.declared.limits.TheConstants.{NUMBERS}
use Rattle.sem_key.specs.declared.object.Object.{Object}
use Rattle.sem_key.specs.declared.object.Object.TheVariants.{Mem, Recv, Send, Serv, Sess}
use Rattle.sem_key.specs.ObjectRanges.{object_kind}
use Rattle.sem_key.specs.KeyName.{KeyName, key_eq}
use Rattle.sem_key.specs.Capability.{Capability}
use Rattle.sem_key.proofs.KeyTests.{key_eq-true}
use Rattle.sem_key.proofs.Members.{found, Contains-head}
use Rattle.sem_key.proofs.Puts.{get_or-put_same, get_or-put_other}
use Rattle.sem_msg.specs.declared.call.Call.{Call}
use Rattle.sem_msg.specs.declared.code.Code.{Code}
use Rattle.sem_msg.specs.declared.event.Act.{Act}
use Rattle.sem_msg.specs.declared.event.Act.TheVariants.{Call as Calls, Fetch, Handle, Upcall, Resume, Flush, Kill}
use Rattle.sem_msg.specs.declared.entry.Entry.{Entry}
use Rattle.sem_msg.specs.declared.message.Message.{Message}
use Rattle.sem_msg.specs.declared.message.Message.TheVariants.{ObtainReq, ObtainOk, ObtainNo, DelegateReq, DelegatePrepared, DelegateNo, Ack, Orphan, RevokeReq}
use Rattle.sem_msg.specs.declared.message.Message.TheVariants.{RevokeDone, Unlink}
use Rattle.sem_msg.specs.declared.message.Target.{Target}
use Rattle.sem_msg.specs.declared.message.Target.TheVariants.{Sel as SelTarget, Serv as ServTarget, Offer as OfferTarget}
use Rattle.sem_msg.specs.declared.setup.VpeDecl.{VpeDecl}
use Rattle.sem_msg.specs.declared.state.Ask.{Ask}
use Rattle.sem_msg.specs.declared.state.Ask.TheVariants.{Obtain as ObtainAsk, Delegate as DelegateAsk}
use Rattle.sem_msg.specs.declared.state.Parked.{Parked}
use Rattle.sem_msg.specs.declared.state.Parked.TheVariants.{ObtainWait, ObtainReady, ObtainCancelled, DelegateWait, DelegateReady, RevokeWait, Ready}
use Rattle.sem_msg.specs.declared.state.Slot.TheVariants.{Free, Held}
use Rattle.sem_msg.specs.ParkedStates.{is_ready_with}
use Rattle.sem_msg.specs.Rows.{VpeRow, no_vpe}
use Rattle.sem_msg.specs.Setup.{Setup}
use Rattle.sem_msg.specs.VpeRows.{is_taken}
use Rattle.sem_msg.specs.Lookups.{decl, kernel_of, offered}
use Rattle.sem_machine.specs.Sides.{Side, row, slot, own, cap, cap_in, parked, is_alive, is_marked, call_counted, ask_taken, with_inbox, outbox}
use Rattle.sem_machine.specs.Asks.{target_vpe, asker, is_unawaited, waits_for, is_delegate_wait}
use Rattle.sem_machine.specs.Calls.{destination_tests, object_passes, stays_at_home}
use Rattle.sem_machine.specs.Upcalls.{source, source_tests, may_not_give, parent_tests}
use Rattle.sem_machine.specs.Handles.{is_stray, is_here, is_place_declared, is_target_declared, is_key_declared, is_object_declared}
use Rattle.sem_machine.specs.Machine.{World, side, link, next_call, is_enabled, is_locally_enabled}
use Rattle.sem_machine.specs.Schedules.{IsSchedule, world_after}
use Rattle.sem_machine.specs.Journals.{root_keys}
use Rattle.sem_machine.specs.Living.{HoldsCap, IsLive, InFlight, fetched_from}
use Rattle.sem_machine.proofs.FirstCodes.{Passed}
use Rattle.sem_sound.proofs.Named.{kernel-decl}
use Rattle.sem_sound.proofs.Refusing.{awaited-waits}
use Rattle.sem_sound.proofs.Scheduling.{schedule-sound}
use Rattle.sem_revoke.proofs.Parents.{all-parented}
use Rattle.sem_revoke.proofs.Dooming.{request-doomed}
use Rattle.sem_revoke.proofs.AddressedWorlds.{vpe-local}
use Rattle.sem_revoke.proofs.Revoking.{enabled-parts}
use Rattle.sem_revoke.proofs.Readying.{enabled-low}
use Rattle.sem_revoke.proofs.Serving.{enabled-call}
use Rattle.sem_files.specs.Compiled.{SERVER, service_key}
use Rattle.sem_fs.specs.Service.{IsService}
use Rattle.sem_fs.specs.Serving.{MayBeAskedFor, IsServedAsk, IsServedCall, IsServedWorld}
use Rattle.sem_fs.specs.Holding.{home, IsGiven, Offers}
use Rattle.sem_fs.specs.Supplies.{IsSupplied, IsServing}
use Rattle.sem_fs.specs.Going.{AllHold}
use Rattle.sem_fs.proofs.Sparing.{lives, sound, server-rests, doomed-waits}
use Rattle.sem_fs.proofs.Promised.{awaits-promised}
use Rattle.sem_fs.proofs.Owned.{same_Held}
use Rattle.sem_fs.proofs.Unending.{no-kill}
use Rattle.sem_fs.proofs.Roots.{root-there}
use Rattle.sem_fs.proofs.Passing.{clean, call-passes}
use Rattle.sem_fs.proofs.ServedRows.{IsGrantable, IsReceived}
use Rattle.sem_fs.proofs.ServedSteps.{IsOffered, CallPasses, AskPasses, ActPasses, ask-among}

-- memory may be given
pub memory-given : (o : Object) → object_kind o ≡ MemKind → stays_at_home o ≡ false
memory-given (Mem base len rights) is = refl
memory-given (Recv slots) is = refl
memory-given (Send gate label credits) is = refl
memory-given (Serv name) is = let no' : ◌≡◌ {A = Kind} ServKind MemKind = is in absurd cc
memory-given (Sess service ident) is = let no' : ◌≡◌ {A = Kind} SessKind MemKind = is in absurd cc

-- what a parked call offers is held and not marked
pub offered-clean : (T : Setup) (S : IsService T) (J : List Entry) (runs : IsSchedule T J) (X : IsSupplied T J) (H : AllHold T J) (v : ℕ) (d : VpeDecl)
    → decl T v ≡ Some d → (p : KeyName) → Offers (parked (home T (world_after T J) v) v) p → (c : Capability) × (cap (home T (world_after T J) v) p ≡ Some c)
    × (c.mark ≡ None)
offered-clean T S J runs X H v d at p offers = elim (cases_eq v SERVER) [
  | inl same ↦ absurd (subst (λ o. Offers o p) (ap (λ w. parked (home T (world_after T J) w) w) same ∙ server-rests T S J runs) offers)
  | inr client ↦
      let h = H v d at client in
      let x = h.offered p offers in
      elim (h.held x.selector x.near x.held) [
        | inr (number, waits) ↦ absurd (awaits-promised T (kernel_of T v) (home T (world_after T J) v) (sound T S J runs v d at) v x.selector number waits p
            x.at)
        | inl y ↦ clean T S J runs X v d at h x.selector p x.at (subst (IsGiven T J) (same_Held y.key p (sym y.at ∙ x.at)) y.given)
            (not-revoking (parked (home T (world_after T J) v) v) offers)
      ]
]
  where
    not-revoking : (o : Option Parked) → Offers o p → ((n : ℕ) × (o ≡ Some (RevokeWait n))) ⊎ ((code : ℕ) × (o ≡ Some (Ready code))) → ⊥
    not-revoking o is (inl (n, same)) = subst (λ x. Offers x p) same is
    not-revoking o is (inr (code, same)) = subst (λ x. Offers x p) same is

module _ (T : Setup) (S : IsService T) (J : List Entry) (runs : IsSchedule T J) (X : IsSupplied T J) (served : IsServedWorld T (world_after T J))
    (H : AllHold T J)
    (G : IsServing T J) where
  abbrev W : World
  W = world_after T J

  -- VPEs of a kernel of the setup are declared
  decl-of : (v i : ℕ) → i < T.kernels → kernel_of T v ≡ i → (d : VpeDecl) × (decl T v ≡ Some d)
  decl-of v i less here = let d = kernel-decl T S.setup v (omega (arith, less, here)) in (d.0, d.1)

  module _ (i : ℕ) (less : i < T.kernels) where
    abbrev s : Side
    s = side W i

    -- Upcalls of u.
    module _ (u : ℕ) (local : kernel_of T u ≡ i) where
      abbrev t : Side
      t = ask_taken u s

      same-slot : (w sel : ℕ) → slot t w sel ≡ slot s w sel
      same-slot w sel = elim (cases_eq w u) [
        | inl same ↦ ap (λ n. slot t n sel) same
            ∙ (ap (λ (r : VpeRow). get_or r.slots sel Free) (get_or-put_same no_vpe s.vpes u (record (row s u) { asks = drop 1 (row s u).asks }))
            ∙ ap (λ n. slot s n sel) (sym same))
        | inr other ↦ ap (λ (r : VpeRow). get_or r.slots sel Free)
            (get_or-put_other no_vpe s.vpes u w (record (row s u) { asks = drop 1 (row s u).asks }) other)
      ]

      same-number : (row t u).next_number ≡ (row s u).next_number
      same-number = ap (λ (r : VpeRow). r.next_number) (get_or-put_same no_vpe s.vpes u (record (row s u) { asks = drop 1 (row s u).asks }))

      -- what is asked of the server
      source-passes : (target : Target) → u ≡ SERVER → MayBeAskedFor T target → Passed (source_tests target (source T t u target))
          × ((p : Capability) → source T t u target ≡ Some p → Contains (root_keys T) p.key × IsOffered target p.key)
      source-passes (SelTarget vpe sel) at is = absurd is
      source-passes (ServTarget service) at is =
          let r = root-there T S J runs service_key S.service_is_root (G.uncut service_key S.service_is_root) in
          let held : cap t service ≡ Some r.0 = ap (cap s) is ∙ (ap (λ j. cap (side W j) service_key) (sym local ∙ ap (kernel_of T) at) ∙ r.1) in (
            (ap is_none held, (ap is_marked held ∙ ap is_some r.2, (ap (object_passes (may_not_give (ServTarget service))) held, tt))),
            λ p there. (
              subst (λ (c : Capability). Contains (root_keys T) c.key) (same_Some r.0 p (sym held ∙ there))
                  (subst (Contains (root_keys T)) (sym (key-of r.0 r.1)) S.service_is_root),
              tt,
            ),
          )
        where
          key-of : (c : Capability) → HoldsCap W (kernel_of T SERVER) service_key c → c.key ≡ service_key
          key-of c held = key_eq-true c.key service_key (found (λ (x : Capability). key_eq x.key service_key) (side W (kernel_of T SERVER)).caps c held).1
      source-passes (OfferTarget service index) at (is, (sel, offers, extent)) =
          let x = G.extent sel extent in
          let k : KeyName = x.0 in
          let r = root-there T S J runs k x.2 (G.uncut k x.2) in
          let there : slot t u sel ≡ Held k =
          same-slot u sel ∙ (ap (λ j. slot (side W j) u sel) (sym local ∙ ap (kernel_of T) at) ∙ (ap (λ n. slot (home T W SERVER) n sel) at ∙ x.1)) in
          let held-k : cap s k ≡ Some r.0 = ap (λ j. cap (side W j) k) (sym local ∙ ap (kernel_of T) at) ∙ r.1 in
          let key : r.0.key ≡ k = key_eq-true r.0.key k (found (λ (c : Capability). key_eq c.key k) (side W (kernel_of T SERVER)).caps r.0 r.1).1 in
          let held : source T t u (OfferTarget service index) ≡ Some r.0 = ap (λ q. option_and_then (own t u) (offered T q index)) is
          ∙ (ap (option_and_then (own t u)) offers ∙ (ap (cap_in t) there ∙ held-k)) in
          let sound-server = sound T S J runs SERVER S.server S.declared in
          let among = (found (λ (c : Capability). key_eq c.key k) (side W (kernel_of T SERVER)).caps r.0 r.1).0 in
          let kind : object_kind r.0.object ≡ MemKind = sym (sound-server.caps r.0 among).kind ∙ (ap (λ (q : KeyName). q.kind) key ∙ x.3) in (
            (
              ap is_none held,
              (
                ap is_marked held
                    ∙ ap is_some r.2,
                (ap (object_passes (may_not_give (OfferTarget service index))) held ∙ memory-given r.0.object kind, tt),
              ),
            ),
            λ p from. (
              subst (λ (c : Capability). Contains (root_keys T) c.key) (same_Some r.0 p (sym held ∙ from)) (subst (Contains (root_keys T)) (sym key) x.2),
              ap
                  (λ (c : Capability). c.key.kind) (sym (same_Some r.0 p (sym held ∙ from))) ∙ (ap (λ (q : KeyName). q.kind) key ∙ x.3),
            ),
          )

      -- what is given to a client
      room-passes : (parent : KeyName) (object : Object) (sel : ℕ) → slice_get (row s u).asks 0 ≡ Some (DelegateAsk parent object sel)
          → Passed (destination_tests t u sel)
      room-passes parent object sel head =
          let r = X.rooms.given u (decl-of u i less local).0 parent object sel (decl-of u i less local).1 (ap (λ j. slice_get (row (side W j) u).asks 0) local
          ∙ head)
          in (
            ap is_taken (same-slot u sel ∙ (ap (λ j. slot (side W j) u sel) (sym local) ∙ r.room)),
            (
              false_from_ne_true (nat_le NUMBERS (row t u).next_number) (λ is.
                  let le = leb-true NUMBERS (row t u).next_number is in
                  let same = same-number in
                  let more = r.number in
                  let here : (row (home T W u) u).next_number ≡ (row s u).next_number = ap (λ j. (row (side W j) u).next_number) local in
                  omega (arith, le, same, more, here)),
              tt,
            ),
          )

      -- the parent that a waiting call of this kernel offers
      parent-passes : (parent : KeyName) → kernel_of T parent.vpe ≡ i → Offers (parked s parent.vpe) parent → Passed (parent_tests (cap s parent))
      parent-passes parent here offers =
          let v : ℕ = parent.vpe in
          let d = decl-of v i less here in
          let mine : Offers (parked (home T W v) v) parent = subst (λ j. Offers (parked (side W j) v) parent) (sym here) offers in
          let c = offered-clean T S J runs X H v d.0 d.1 parent mine in
          let held : cap s parent ≡ Some c.0 = ap (λ j. cap (side W j) parent) (sym here) ∙ c.1 in
          (ap is_none held, (ap is_marked held ∙ ap is_some c.2, tt))

      pub upcall-passes : ActPasses T i s (Upcall u)
      upcall-passes = λ a head. (
        ap (λ ds. list_any (λ (x : ℕ × ℕ). (x.0 == u) && (x.1 == asker a)) ds) S.no_denies,
        λ awaited. by_ask a head awaited
            ((served.sides i).asks u a (ask-among T u a s head)),
      )
        where
          waits : (a : Ask) → is_unawaited T i t a ≡ false → kernel_of T (asker a) ≡ i → waits_for a (parked s (asker a)) ≡ true
          waits a awaited here = awaited-waits T i t a awaited here

          both : (xs ys : List (Bool × Code)) → Passed xs → Passed ys → Passed (xs ++ ys)
          both [] ys one two = two
          both (x ∷ xs) ys one two = (one.0, both xs ys one.1 two)

          offering : (parent : KeyName) (o : Option Parked) → is_delegate_wait parent o ≡ true → Offers o parent
          offering parent (Some (DelegateWait k)) is = key_eq-true k parent is
          offering parent None is = absurd cc
          offering parent (Some (ObtainWait number sel)) is = absurd cc
          offering parent (Some (ObtainReady key p object sel)) is = absurd cc
          offering parent (Some ObtainCancelled) is = absurd cc
          offering parent (Some (DelegateReady p key)) is = absurd cc
          offering parent (Some (RevokeWait j)) is = absurd cc
          offering parent (Some (Ready code)) is = absurd cc

          by_ask : (a : Ask) → slice_get (row s u).asks 0 ≡ Some a → is_unawaited T i t a ≡ false → IsServedAsk T u a → AskPasses T i t u a
          by_ask (ObtainAsk place target) head awaited so = source-passes target so.0 so.1
          by_ask (DelegateAsk parent object sel) head awaited so = (
            λ here.
                let near : kernel_of T parent.vpe ≡ i = eqb-true (kernel_of T parent.vpe) i here in
                both (parent_tests (cap t parent)) (destination_tests t u sel)
                (parent-passes parent near (offering parent (parked s parent.vpe) (waits (DelegateAsk parent object sel) awaited near)))
                (room-passes parent object sel head),
            λ away. room-passes parent object sel head,
          )

    -- A parked call that goes on.
    pub resume-passes : (u : ℕ) → kernel_of T u ≡ i → ActPasses T i s (Resume u)
    resume-passes u local = by_call (parked s u) refl
      where
        by_call : (o : Option Parked) → parked s u ≡ o → IsGrantable T s o
        by_call (Some (DelegateReady parent key)) at =
            let d = decl-of u i less local in
            let mine : Offers (parked (home T W u) u) parent = subst (λ o. Offers o parent) (sym (ap (λ j. parked (side W j) u) local ∙ at)) refl in
            let c = offered-clean T S J runs X H u d.0 d.1 parent mine in
            (c.0, ap (λ j. cap (side W j) parent) (sym local) ∙ c.1, c.2)
        by_call None at = tt
        by_call (Some (ObtainWait number sel)) at = tt
        by_call (Some (ObtainReady key parent object sel)) at = tt
        by_call (Some ObtainCancelled) at = tt
        by_call (Some (DelegateWait parent)) at = tt
        by_call (Some (RevokeWait j)) at = tt
        by_call (Some (Ready code)) at = tt

    -- Messages.
    right-of : (a b : Bool) → (a || b) ≡ false → (a ≡ false) × (b ≡ false)
    right-of true b is = absurd cc
    right-of false b is = (refl, is)

    not-not : (b : Bool) → not b ≡ false → b ≡ true
    not-not true is = refl
    not-not false is = absurd cc

    alive-here : (w : ℕ) → is_here T i w ≡ true → is_alive s w ≡ true
    alive-here w is =
        let here : kernel_of T w ≡ i = eqb-true (kernel_of T w) i is in
        let d = decl-of w i less here in
        ap (λ j. is_alive (side W j) w) (sym here) ∙ lives T S J runs w d.0 d.1

    -- a key that a call is ready to install is asked to be revoked by nobody
    not-ready : (from : ℕ) (key : KeyName) (j : ℕ) → s.inbox ≡ Some (from, RevokeReq key j) → is_ready_with key (parked s key.vpe) ≡ false
    not-ready from key j inbox = by_call (parked s key.vpe) refl
      where
        flies : InFlight W (RevokeReq key j)
        flies = (
          from,
          i,
          Contains-append_left (fetched_from from (side W i).inbox ++ link W from i) (outbox (side W from) i) (RevokeReq key j)
              (Contains-append_left (fetched_from from (side W i).inbox) (link W from i) (RevokeReq key j)
              (subst (λ o. Contains (fetched_from from o) (RevokeReq key j)) (sym inbox) (front from))),
        )
          where
            front : (from : ℕ) → Contains (fetched_from from (Some (from, RevokeReq key j))) (RevokeReq key j)
            front from = subst (λ ms. Contains ms (RevokeReq key j)) (sym (cond-true (from == from) (RevokeReq key j ∷ []) [] (eq-eqb from from refl)))
                (Contains-head (RevokeReq key j) [])

        by_call : (o : Option Parked) → parked s key.vpe ≡ o → is_ready_with key (parked s key.vpe) ≡ false
        by_call (Some (ObtainReady k parent object sel)) at = elim (cases_Bool (key_eq k key)) [
          | inr other ↦ ap (is_ready_with key) at ∙ other
          | inl same ↦
              let one : k ≡ key = key_eq-true k key same in
              let at' : parked s key.vpe ≡ Some (ObtainReady key parent object sel) = at ∙ ap (λ q. Some (ObtainReady q parent object sel)) one in
              let here : kernel_of T key.vpe ≡ i = (((schedule-sound T S.setup J runs).sides i less).calls key.vpe (ObtainReady key parent object sel) at').0 in
              let d = decl-of key.vpe i less here in
              let root : Contains (root_keys T) parent = subst (IsServedCall T) at' ((served.sides i).calls key.vpe) in
              let granted = (all-parented T S.setup J runs).calls i key.vpe key parent object sel at' in
              let live : IsLive W key = inr (inr (inr (record { kernel = i; vpe = key.vpe; selector = sel; parent = parent; object = object; ready = at' }))) in
              let waits = doomed-waits T S J runs parent key d.0 root granted d.1 live (request-doomed T S.setup J runs key j flies) in
              let mine : parked (home T W key.vpe) key.vpe ≡ Some (ObtainReady key parent object sel) = ap (λ n. parked (side W n) key.vpe) here ∙ at' in
              elim waits [
                | inl (n, is) ↦ (let no' : ◌≡◌ {A = Option Parked} (Some (ObtainReady key parent object sel)) (Some (RevokeWait n)) = sym mine ∙ is in
                    absurd cc)
                | inr (code, is) ↦ (let no' : ◌≡◌ {A = Option Parked} (Some (ObtainReady key parent object sel)) (Some (Ready code)) = sym mine ∙ is in
                    absurd cc)
              ]
        ]
        by_call None at = ap (is_ready_with key) at
        by_call (Some (ObtainWait number sel)) at = ap (is_ready_with key) at
        by_call (Some ObtainCancelled) at = ap (is_ready_with key) at
        by_call (Some (DelegateWait parent)) at = ap (is_ready_with key) at
        by_call (Some (DelegateReady parent key')) at = ap (is_ready_with key) at
        by_call (Some (RevokeWait n)) at = ap (is_ready_with key) at
        by_call (Some (Ready code)) at = ap (is_ready_with key) at

    pub handle-passes : ActPasses T i s Handle
    handle-passes from m inbox right = by_message m inbox right
      where
        by_message : (m : Message) → s.inbox ≡ Some (from, m) → is_stray T i (with_inbox None s) m ≡ false → IsReceived T (with_inbox None s) m
        by_message (ObtainReq place target) inbox right =
            let one = (right-of (not (is_place_declared T place))
            (not (is_target_declared T target) || (not (is_here T i (target_vpe target)) || is_here T i place.vpe)) right).1 in
            let two = (right-of (not (is_target_declared T target)) (not (is_here T i (target_vpe target)) || is_here T i place.vpe) one).1 in
            alive-here (target_vpe target)
            (not-not (is_here T i (target_vpe target)) (right-of (not (is_here T i (target_vpe target))) (is_here T i place.vpe) two).0)
        by_message (DelegateReq parent object vpe sel) inbox right =
            let one = (right-of (not (is_key_declared T parent)) (not (is_object_declared T object) || (not (is_here T i vpe) || is_here T i parent.vpe))
            right).1 in
            let two = (right-of (not (is_object_declared T object)) (not (is_here T i vpe) || is_here T i parent.vpe) one).1 in
            alive-here vpe (not-not (is_here T i vpe) (right-of (not (is_here T i vpe)) (is_here T i parent.vpe) two).0)
        by_message (RevokeReq key j) inbox right = not-ready from key j inbox
        by_message (ObtainOk parent key object) inbox right = tt
        by_message (ObtainNo place code) inbox right = tt
        by_message (DelegatePrepared parent key) inbox right = tt
        by_message (DelegateNo parent code) inbox right = tt
        by_message (Ack key accepted) inbox right = tt
        by_message (Orphan parent key) inbox right = tt
        by_message (RevokeDone j) inbox right = tt
        by_message (Unlink parent key) inbox right = tt

  -- Any event that is enabled.
  module _ (e : Entry) (enabled : is_enabled T W e.event ≡ true) where
    abbrev k : ℕ
    k = e.event.kernel

    low-k : k < T.kernels
    low-k = enabled-low T W e.event enabled

    locally : is_locally_enabled T k (side W k) e.event.act ≡ true
    locally = (enabled-parts T W k e.event.act enabled).0

    calls-pass : (v : ℕ) → e.event.act ≡ Calls v → ActPasses T k (side W k) (Calls v)
    calls-pass v act c next =
        let here = enabled-call T k (side W k) v (subst (λ a. is_locally_enabled T k (side W k) a ≡ true) act locally) in
        let d = decl-of v k low-k here.0 in
        let client : v ≡ SERVER → ⊥ =
        λ same. (let none : ◌≡◌ {A = Option Call} None (Some c) = sym (ap (λ cs. slice_get cs (row (side W k) SERVER).next_call) S.rests)
        ∙ (ap (next_call T (side W k)) (sym same) ∙ next) in absurd cc) in
        let next' : next_call T (home T W v) v ≡ Some c = ap (λ j. next_call T (side W j) v) here.0 ∙ next in
        let passed = call-passes T S J runs X v d.0 d.1 (H v d.0 d.1 client) (ap (λ j. parked (side W j) v) here.0 ∙ here.2) client c next' in
        subst (λ j. CallPasses T j (call_counted v (side W j)) v c) here.0 passed

    pub act-passes : ActPasses T k (side W k) e.event.act
    act-passes = by_act e.event.act refl
      where
        never : (u : ℕ) → is_locally_enabled T k (side W k) (Kill u) ≡ true → ⊥
        never u = no-kill T S k (side W k) u

        by_act : (a : Act) → e.event.act ≡ a → ActPasses T k (side W k) a
        by_act (Calls v) act = calls-pass v act
        by_act (Upcall u) act = upcall-passes k low-k u (vpe-local T k (side W k) e.event.act locally u (inr (inl act)))
        by_act (Resume u) act = resume-passes k low-k u (vpe-local T k (side W k) e.event.act locally u (inr (inr (inl act))))
        by_act Handle act = handle-passes k low-k
        by_act (Fetch j) act = tt
        by_act (Flush j) act = tt
        by_act (Kill u) act = never u (subst (λ a. is_locally_enabled T k (side W k) a ≡ true) act locally)
