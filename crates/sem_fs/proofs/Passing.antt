-- The tests of each event pass, where clients hold what they asked for, the server has what it serves, and nothing runs out.
use Rattle.std.proofs.Common.{◌≡◌, ℕ, ◌+◌, ◌<◌, Bool, true, false, not, List, [], ◌∷◌, get_or, nat_le, Option, Some, None, is_some, is_none, refl, sym, ap, ◌∙◌}
use Rattle.std.proofs.Common.{subst, inl, inr, arith}
use Rattle.std.specs.Prelude.{◌==◌, ◌&&◌}
use Rattle.std.specs.Option.{option_map_or, IsSome}
use Rattle.std.proofs.lemmas.Bool.{cases_Bool, cases_eq, true≢false, eqb-true, ne_eqb, false_from_ne_true, leb-true}
use Rattle.sem_key.specs.declared.key.Kind.TheVariants.{Sess as SessKind}
use Rattle.sem_key.specs.declared.limits.TheConstants.{NUMBERS}
use Rattle.sem_key.specs.declared.object.Object.{Object}
use Rattle.sem_key.specs.declared.object.Object.TheVariants.{Mem, Recv, Send, Serv, Sess}
use Rattle.sem_key.specs.KeyName.{KeyName}
use Rattle.sem_key.specs.Capability.{Capability}
use Rattle.sem_key.proofs.Members.{list_any-some, not_found}
use Rattle.sem_key.proofs.Puts.{get_or-put_same, get_or-put_other}
use Rattle.sem_msg.specs.declared.call.Call.{Call}
use Rattle.sem_msg.specs.declared.call.Call.TheVariants.{Derive, Gate, Obtain, Delegate, OpenSession, AskOffer, Revoke, Bind, Read as ReadCall}
use Rattle.sem_msg.specs.declared.call.Call.TheVariants.{Write as WriteCall, Send as SendCall, Credit, Exit, Clear}
use Rattle.sem_msg.specs.declared.code.Code.{Code}
use Rattle.sem_msg.specs.declared.entry.Entry.{Entry}
use Rattle.sem_msg.specs.declared.setup.Service.{Service}
use Rattle.sem_msg.specs.declared.setup.VpeDecl.{VpeDecl}
use Rattle.sem_msg.specs.declared.state.Parked.{Parked}
use Rattle.sem_msg.specs.declared.state.Parked.TheVariants.{RevokeWait, Ready}
use Rattle.sem_msg.specs.declared.state.Slot.TheVariants.{Free, Held}
use Rattle.sem_msg.specs.Rows.{VpeRow, no_vpe}
use Rattle.sem_msg.specs.Setup.{Setup}
use Rattle.sem_msg.specs.VpeRows.{is_taken}
use Rattle.sem_msg.specs.Lookups.{decl, kernel_of, is_declared, service_named}
use Rattle.sem_msg.specs.Uses.{memory_tests}
use Rattle.sem_machine.specs.Sides.{Side, row, slot, own, cap, parked, endpoint, is_alive, is_marked, call_counted}
use Rattle.sem_machine.specs.Sound.{IsSound, kept}
use Rattle.sem_machine.specs.Steps.{first_code}
use Rattle.sem_machine.specs.Calls.{is_local_dead, destination_tests, offer_tests, session_service, is_service_dead, object_passes, is_of, stays_at_home}
use Rattle.sem_machine.specs.Machine.{World, side, next_call}
use Rattle.sem_machine.specs.Schedules.{IsSchedule, world_after}
use Rattle.sem_machine.proofs.FirstCodes.{Passed}
use Rattle.sem_files.specs.Compiled.{SERVER, SESSION, service_key}
use Rattle.sem_fs.specs.Service.{GIVEN, IsService, MayComeNext, holds}
use Rattle.sem_fs.specs.Holding.{home, calls_so_far, IsGiven, IsHolding}
use Rattle.sem_fs.specs.Supplies.{IsSupplied}
use Rattle.sem_fs.proofs.Sparing.{lives, low, sound, cut-waits, unmarked, Revokes}
use Rattle.sem_fs.proofs.Owned.{slot-cap, held-own}
use Rattle.sem_fs.proofs.Lifting.{counted-own}
use Rattle.sem_fs.proofs.ServedSteps.{CallPasses}

-- no test holds
none-passed : (tests : List (Bool × Code)) → ◌≡◌ {A = Option Code} (first_code tests) None → Passed tests
none-passed [] none = tt
none-passed ((true, code) ∷ tests) none = absurd cc
none-passed ((false, code) ∷ tests) none = (refl, none-passed tests none)

counted-alive : (s : Side) (u w : ℕ) → is_alive (call_counted u s) w ≡ is_alive s w
counted-alive s u w = elim (cases_eq w u) [
  | inl same ↦ ap (λ n. is_alive (call_counted u s) n) same
      ∙ (ap (λ (r : VpeRow). r.alive) (get_or-put_same no_vpe s.vpes u (record (row s u) { next_call = (row s u).next_call + 1 })) ∙ ap (is_alive s) (sym same))
  | inr other ↦ ap (λ (r : VpeRow). r.alive) (get_or-put_other no_vpe s.vpes u w (record (row s u) { next_call = (row s u).next_call + 1 }) other)
]

pub counted-slot : (s : Side) (u sel : ℕ) → slot (call_counted u s) u sel ≡ slot s u sel
counted-slot s u sel = ap (λ (r : VpeRow). get_or r.slots sel Free) (get_or-put_same no_vpe s.vpes u (record (row s u) { next_call = (row s u).next_call + 1 }))

pub counted-number : (s : Side) (u : ℕ) → (row (call_counted u s) u).next_number ≡ (row s u).next_number
counted-number s u = ap (λ (r : VpeRow). r.next_number) (get_or-put_same no_vpe s.vpes u (record (row s u) { next_call = (row s u).next_call + 1 }))

-- a session is of its kind
session-kind : (o : Object) (k : KeyName) → session_service o ≡ Some k → is_of SessKind o ≡ true
session-kind (Sess service ident) k is = refl
session-kind (Mem base len rights) k is = absurd cc
session-kind (Recv slots) k is = absurd cc
session-kind (Send gate label credits) k is = absurd cc
session-kind (Serv name) k is = absurd cc

module _ (T : Setup) (S : IsService T) (J : List Entry) (runs : IsSchedule T J) (X : IsSupplied T J) where
  abbrev W : World
  W = world_after T J

  module _ (v : ℕ) (d : VpeDecl) (at : decl T v ≡ Some d) (H : IsHolding T J v) where
    abbrev s : Side
    s = home T W v

    abbrev i : ℕ
    i = kernel_of T v

    is-sound : IsSound T i s
    is-sound = sound T S J runs v d at

    -- what it holds is not marked, while it waits for no revoke
    pub clean : (sel : ℕ) (k : KeyName) → slot s v sel ≡ Held k → IsGiven T J k → (Revokes T S J runs (parked s v) → ⊥) → (c : Capability) × (cap s k ≡ Some c)
        × (c.mark ≡ None)
    clean sel k is given free =
        let c = slot-cap T S.setup i (low T S J runs v d at) s is-sound v sel k is in
        let own' : k.vpe ≡ v = (is-sound.held v sel k is).0 in (
          c.0,
          c.1,
          unmarked T S J runs given.parent k d given.root given.granted (ap (decl T) own' ∙ at)
              (λ r. free (subst (λ w. Revokes T S J runs (parked (home T W w) w)) own' r)) i c.0 c.1,
        )

    -- what is declared is not dead
    not-dead : (t : Side) (w : ℕ) (d' : VpeDecl) → ((x : ℕ) → is_alive t x ≡ is_alive s x) → decl T w ≡ Some d' → is_local_dead T i t w ≡ false
    not-dead t w d' same at' = elim (cases_Bool (kernel_of T w == i)) [
      | inr far ↦ ap (λ b. b && not (is_alive t w)) far
      | inl near ↦
          let here : kernel_of T w ≡ i = eqb-true (kernel_of T w) i near in
          let alive : is_alive t w ≡ true = same w ∙ (ap (λ j. is_alive (side W j) w) (sym here) ∙ lives T S J runs w d' at') in
          ap (λ b. (kernel_of T w == i) && not b) alive ∙ both (kernel_of T w == i)
    ]
      where
        both : (b : Bool) → (b && false) ≡ false
        both true = refl
        both false = refl

    declared-at : (w : ℕ) → is_declared T w ≡ true → (d' : VpeDecl) × (decl T w ≡ Some d')
    declared-at w is = from (decl T w) refl
      where
        from : (o : Option VpeDecl) → decl T w ≡ o → (d' : VpeDecl) × (decl T w ≡ Some d')
        from (Some d') some = (d', some)
        from None none =
            let x = list_any-some (λ (y : VpeDecl). y.vpe == w) T.vpes is in
            absurd (true≢false (sym x.2 ∙ not_found (λ (y : VpeDecl). y.vpe == w) T.vpes x.0 none x.1))

    module _ (idle : parked s v ≡ None) where
      no-revoke : Revokes T S J runs (parked s v) → ⊥
      no-revoke (inl (n, is)) = let no' : ◌≡◌ {A = Option Parked} None (Some (RevokeWait n)) = sym idle ∙ is in absurd cc
      no-revoke (inr (code, is)) = let no' : ◌≡◌ {A = Option Parked} None (Some (Ready code)) = sym idle ∙ is in absurd cc

      -- a selector at which it holds nothing is free
      free-at : (sel : ℕ) → sel < GIVEN → holds (calls_so_far T W v) sel ≡ false → slot s v sel ≡ Free
      free-at sel near none = elim (H.free sel near none) [
        | inl free ↦ free
        | inr x ↦
            let own' : x.key.vpe ≡ v = (is-sound.held v sel x.key x.at).0 in
            let c = slot-cap T S.setup i (low T S J runs v d at) s is-sound v sel x.key x.at in
            let waits = (cut-waits T S J runs x.given.parent x.key d x.given.root x.given.granted (ap (decl T) own' ∙ at) (inl (i, subst IsSome (sym c.1) refl))
            x.cut_off).0 in
            absurd (no-revoke (subst (λ w. Revokes T S J runs (parked (home T W w) w)) own' waits))
      ]

      -- and where it holds something, that is there and unmarked
      pub record Has (sel : ℕ) : Type 0 where
        pub key : KeyName
        pub at_slot : slot s v sel ≡ Held key
        pub given : IsGiven T J key
        pub capability : Capability
        pub held : cap s key ≡ Some capability
        pub unmarked : capability.mark ≡ None

      has : (sel : ℕ) → sel < GIVEN → holds (calls_so_far T W v) sel ≡ true → Has sel
      has sel near is = elim (H.held sel near is) [
        | inl x ↦ (let c = clean sel x.key x.at x.given no-revoke in
            record { key = x.key; at_slot = x.at; given = x.given; capability = c.0; held = c.1; unmarked = c.2 })
        | inr (number, waits) ↦ (let no' : ◌≡◌ {A = Option (ℕ × ℕ)} None (Some (number, sel)) = sym (ap kept idle) ∙ waits in absurd cc)
      ]

      abbrev t : Side
      t = call_counted v s

      own-at : (sel : ℕ) (h : Has sel) → own t v sel ≡ Some h.capability
      own-at sel h = counted-own s v sel ∙ held-own T S.setup i (low T S J runs v d at) s is-sound v sel h.key h.capability h.at_slot h.held

      own-passed : (sel : ℕ) (h : Has sel) → (is_none (own t v sel) ≡ false) × (is_marked (own t v sel) ≡ false)
      own-passed sel h = (ap is_none (own-at sel h), ap is_marked (own-at sel h) ∙ ap is_some h.unmarked)

      room-passed : (dst : ℕ) → dst < GIVEN → holds (calls_so_far T W v) dst ≡ false → (row s v).next_number < NUMBERS → Passed (destination_tests t v dst)
      room-passed dst near none less = (
        ap is_taken (counted-slot s v dst ∙ free-at dst near none),
        (
          false_from_ne_true (nat_le NUMBERS (row t v).next_number) (λ is. let le = leb-true NUMBERS (row t v).next_number is in
              let same = counted-number s v in
              omega (arith, le, same, less)),
          tt,
        ),
      )

      alive-so : (w : ℕ) (d' : VpeDecl) → decl T w ≡ Some d' → is_local_dead T i t w ≡ false
      alive-so w d' at' = not-dead t w d' (counted-alive s v) at'

      -- The tests of its next call pass.
      pub call-passes : (v ≡ SERVER → ⊥) → (c : Call) → next_call T s v ≡ Some c → CallPasses T i t v c
      call-passes client c next = by_call c next (S.calls v (row s v).next_call c next)
        where
          server-other : (SERVER == v) ≡ false
          server-other = ne_eqb SERVER v (λ same. client (sym same))

          session-alive : (h : Has SESSION) → object_passes (is_service_dead T i t) (own t v SESSION) ≡ false
          session-alive h =
              let serves = X.objects.sessions v h.key h.capability h.at_slot h.given h.held in
              ap (object_passes (is_service_dead T i t)) (own-at SESSION h)
              ∙ (ap (λ o. option_map_or (λ (k : KeyName). is_local_dead T i t k.vpe) o false) serves ∙ alive-so SERVER S.server S.declared)

          bindable : (sel : ℕ) → SESSION < sel → sel < GIVEN → (h : Has sel) → object_passes stays_at_home (own t v sel) ≡ false
          bindable sel beyond near h = ap (object_passes stays_at_home) (own-at sel h)
              ∙ X.objects.extents v sel h.key h.capability beyond near h.at_slot h.given h.held

          by_call : (c : Call) → next_call T s v ≡ Some c → MayComeNext T v (calls_so_far T W v) c → CallPasses T i t v c
          by_call (OpenSession dst name) next (session, named, none) =
              let named' : service_named T name ≡ Some (record { name = 0; key = service_key }) = ap (service_named T) named ∙ S.served in (
                (
                  ap is_none named',
                  (
                    ap (λ o. option_map_or (λ (x : Service). x.key.vpe == v) o false) named' ∙ server-other,
                    (
                      ap (λ o. option_map_or (λ (x : Service). is_local_dead T i t x.key.vpe) o false) named' ∙ alive-so SERVER S.server S.declared,
                      room-passed dst (omega (arith, session)) none (X.rooms.numbers v d (OpenSession dst name) at next refl),
                    ),
                  ),
                ),
                (record { name = 0; key = service_key }, named', refl),
              )
          by_call (AskOffer dst session index) next (at-session, opened, beyond, near, none, (sel, offers, extent)) =
              let h : Has SESSION = has SESSION (omega arith) opened in
              let here : (n : ℕ) → n ≡ session → own t v n ≡ own t v session = λ n same. ap (own t v) same in
              let back = sym at-session in
              let tests : Passed (offer_tests T i t v dst SESSION) = (
                (own-passed SESSION h).0,
                (
                  (own-passed SESSION h).1,
                  (
                    ap (λ o. not (object_passes (is_of SessKind) o)) (own-at SESSION h)
                        ∙ ap not (session-kind h.capability.object service_key (X.objects.sessions v h.key h.capability h.at_slot h.given h.held)),
                    (session-alive h, room-passed dst near none (X.rooms.numbers v d (AskOffer dst session index) at next refl)),
                  ),
                ),
              ) in (
                subst (λ n. Passed (offer_tests T i t v dst n)) back tests,
                (refl, (sel, offers, extent)),
                (h.capability, ap (own t v) at-session ∙ own-at SESSION h, X.objects.sessions v h.key h.capability h.at_slot h.given h.held),
              )
          by_call (Delegate src w dst) next ((beyond, near, is), declared, other, away, far) =
              let h : Has src = has src near is in
              let d' = declared-at w declared in (
                (ne_eqb w v other, (ap not declared, ((own-passed src h).0, ((own-passed src h).1, (bindable src beyond near h, (alive-so w d'.0 d'.1, tt)))))),
                far,
                (h.capability, own-at src h),
              )
          by_call (Revoke src) next (beyond, near, is) = let h : Has src = has src near is in (h.capability, own-at src h)
          by_call (Bind ep src) next (at-ep, (beyond, near, is)) = let h : Has src = has src near is in
              (((own-passed src h).0, ((own-passed src h).1, (bindable src beyond near h, tt))), (h.capability, own-at src h))
          by_call (ReadCall ep off len) next so = none-passed (memory_tests 1 off len (endpoint t v ep)) (X.objects.reads v ep off len next)
          by_call (WriteCall ep off len) next so = none-passed (memory_tests 2 off len (endpoint t v ep)) (X.objects.writes v ep off len next)
          by_call (Derive src dst off len rights) next so = absurd so
          by_call (Gate src dst label credits) next so = absurd so
          by_call (Obtain dst w src) next so = absurd so
          by_call (SendCall ep len) next so = absurd so
          by_call (Credit ep) next so = absurd so
          by_call Exit next so = absurd so
          by_call (Clear src) next so = absurd so
