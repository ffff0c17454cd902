-- What a client holds, and waits for, after one entry more.
use Rattle.std.proofs.Common.{◌≡◌, ◌⊎◌, ℕ, ◌+◌, ◌<◌, ◌++◌, Bool, true, false, List, [], ◌∷◌, map, take, slice_get, Option, Some, None, option_to_list, is_some}
use Rattle.std.proofs.Common.{refl, sym, ap, ◌∙◌, subst, inl, inr, arith, eq-eqb}
use Rattle.std.specs.Prelude.{◌==◌, if◌then◌else◌}
use Rattle.std.specs.List.{Contains}
use Rattle.std.specs.Option.{option_map_or, IsSome}
use Rattle.std.proofs.lemmas.Bool.{cases_eq, true≢false, cond-true, cond-false, ne_eqb}
use Rattle.std.proofs.lemmas.Option.{same_Some}
use Rattle.std.proofs.lemmas.List.Elements.{Contains-append_left, Contains-append_right, Contains-append_cases}
use Rattle.sem_key.specs.declared.object.Object.{Object}
use Rattle.sem_key.specs.KeyName.{KeyName, key_eq}
use Rattle.sem_key.specs.Capability.{Capability}
use Rattle.sem_key.proofs.Members.{Contains-head, Contains-from_map, found}
use Rattle.sem_key.proofs.KeyTests.{key_eq-true}
use Rattle.sem_msg.specs.declared.call.Call.{Call}
use Rattle.sem_msg.specs.declared.call.Call.TheVariants.{Derive, Gate, Obtain, Delegate, OpenSession, AskOffer, Revoke, Bind, Read as ReadCall}
use Rattle.sem_msg.specs.declared.call.Call.TheVariants.{Write as WriteCall, Send as SendCall, Credit, Exit, Clear}
use Rattle.sem_msg.specs.declared.entry.Detail.TheVariants.{Called, Nothing}
use Rattle.sem_msg.specs.declared.entry.Entry.{Entry}
use Rattle.sem_msg.specs.declared.event.Act.{Act}
use Rattle.sem_msg.specs.declared.event.Act.TheVariants.{Call as Calls, Fetch, Handle, Upcall, Resume, Flush, Kill}
use Rattle.sem_msg.specs.declared.setup.VpeDecl.{VpeDecl}
use Rattle.sem_msg.specs.declared.state.Parked.{Parked}
use Rattle.sem_msg.specs.declared.state.Parked.TheVariants.{ObtainWait, ObtainReady, RevokeWait, Ready}
use Rattle.sem_msg.specs.declared.state.Slot.TheVariants.{Free, Held}
use Rattle.sem_msg.specs.Setup.{Setup}
use Rattle.sem_msg.specs.Lookups.{decl, calls_of, kernel_of}
use Rattle.sem_machine.specs.Sides.{Side, row, slot, cap, parked, is_alive, call_counted}
use Rattle.sem_machine.specs.Sound.{IsSound, kept}
use Rattle.sem_machine.specs.Steps.{Step}
use Rattle.sem_machine.specs.Calls.{call_row}
use Rattle.sem_machine.specs.Journals.{grants, root_keys, cut_off, cut_from}
use Rattle.sem_machine.specs.Machine.{World, side, detail_of, next_call, local_step, input_of, is_enabled, is_locally_enabled, entry_of}
use Rattle.sem_machine.specs.Schedules.{IsSchedule, world_after}
use Rattle.sem_machine.specs.Living.{HoldsCap, IsLive}
use Rattle.sem_safety.specs.History.{History, no_history, history, cut_at}
use Rattle.sem_safety.proofs.CarryingWorlds.{stepped, used-made}
use Rattle.sem_safety.proofs.Noted.{history-cut}
use Rattle.sem_revoke.proofs.Parents.{parent-held}
use Rattle.sem_revoke.proofs.AddressedWorlds.{vpe-local}
use Rattle.sem_revoke.proofs.Lasting.{held-lasts, call-step}
use Rattle.sem_revoke.proofs.Readying.{enabled-low}
use Rattle.sem_revoke.proofs.Revoking.{enabled-parts, more-grants}
use Rattle.sem_revoke.proofs.Serving.{tells, fold-push, enabled-call, enabled-resume}
use Rattle.sem_sound.proofs.Scheduling.{schedule-sound}
use Rattle.sem_files.specs.Compiled.{SERVER, SESSION}
use Rattle.sem_fs.specs.Service.{GIVEN, IsService, MayComeNext, holds, holds_after}
use Rattle.sem_fs.specs.Serving.{IsServedWorld}
use Rattle.sem_fs.specs.Holding.{home, calls_so_far, IsGiven, Holds, Lacks, Awaits, Offers, IsHeldExtent, IsHolding}
use Rattle.sem_fs.proofs.Unending.{entered}
use Rattle.sem_fs.proofs.Sparing.{lives, low, sound as sound-home, cut-waits, doomed-cut, root-spared, Revokes}
use Rattle.sem_fs.proofs.Cutting.{IsCutBy, Cuts, next-cut}
use Rattle.sem_fs.proofs.Lifting.{side-here, side-other, counted-own, counted-call}
use Rattle.sem_fs.proofs.Owned.{slot-cap, one-slot, own-held, same_Held, revoke-cuts, called}
use Rattle.sem_fs.proofs.Slots.{AsksAt, step-slotted}
use Rattle.sem_fs.proofs.Staying.{step-staying}
use Rattle.sem_fs.proofs.Courses.{HasCome, Turn, turn_same, turn_woken, turn_obtained, turn_prepared, turn_got, turn_over, Course, step-course}
use Rattle.sem_fs.proofs.OwnCalls.{ParksAs, own-goes}
use Rattle.sem_fs.proofs.ServedSteps.{ActPasses, CallPasses}
use Rattle.sem_fs.proofs.Promised.{comes-new, awaits-promised, holds-more, take-more}

module _ (T : Setup) (S : IsService T) (J : List Entry) (e : Entry) (runs' : IsSchedule T (J ++ e ∷ [])) (served : IsServedWorld T (world_after T J))
    (passes : ActPasses T e.event.kernel (side (world_after T J) e.event.kernel) e.event.act) where
  abbrev W : World
  W = world_after T J

  abbrev J' : List Entry
  J' = J ++ e ∷ []

  abbrev W' : World
  W' = world_after T J'

  abbrev i : ℕ
  i = e.event.kernel

  abbrev here : Side
  here = side W i

  pub runs : IsSchedule T J
  runs = (entered T J [] e runs').0

  pub enabled : is_enabled T W e.event ≡ true
  enabled = (entered T J [] e runs').1

  pub made-so : e ≡ entry_of T W e.event
  made-so = (entered T J [] e runs').2

  pub locally : is_locally_enabled T i here e.event.act ≡ true
  locally = (enabled-parts T W i e.event.act enabled).0

  pub few : i < T.kernels
  few = enabled-low T W e.event enabled

  pub sound-here : IsSound T i here
  sound-here = (schedule-sound T S.setup J runs).sides i few

  pub order : (u : ℕ) (c : Call) → e.event.act ≡ Calls u → next_call T here u ≡ Some c → (before : List Call) × MayComeNext T u before c
  order u c act there = (take (row here u).next_call (calls_of T u), S.calls u (row here u).next_call c there)

  pub living : (u : ℕ) → e.event.act ≡ Kill u → ⊥
  living u act = subst (ActPasses T i here) act passes

  pub owns : (u : ℕ) (key parent : KeyName) (object : Object) (q : ℕ) → parked here u ≡ Some (ObtainReady key parent object q) → key.vpe ≡ u
  owns u key parent object q at = (sound-here.calls u (ObtainReady key parent object q) at).1.0

  pub grants-more : (g : KeyName × KeyName) → Contains (grants J) g → Contains (grants J') g
  grants-more g among = subst (λ gs. Contains gs g) (sym (more-grants J e e.grant refl)) (Contains-append_left (grants J) (option_to_list e.grant) g among)

  pub given-more : (k : KeyName) → IsGiven T J k → IsGiven T J' k
  given-more k is = record { parent = is.parent; root = is.root; granted = grants-more (is.parent, k) is.granted }

  cut-parts : (k : KeyName) → Contains (cut_from [] J) k ⊎ Contains (cut_at (history J).grants e) k → Contains (cut_from [] J') k
  cut-parts k which =
      let hist = fold-push J no_history e in
      subst (λ ks. Contains ks k) (history-cut J') (subst (λ (h : History). Contains h.cut k) (sym hist) (elim which [
        | inl old ↦ Contains-append_left (history J).cut (cut_at (history J).grants e) k (subst (λ ks. Contains ks k) (sym (history-cut J)) old)
        | inr now ↦ Contains-append_right (history J).cut (cut_at (history J).grants e) k now
      ]))

  -- no call cuts off a root
  root-uncalled : (p : KeyName) → Contains (root_keys T) p → IsCutBy T W e p → ⊥
  root-uncalled p root x = by_call x.call x.next x.revokes
    where
      by_call : (c : Call) → next_call T here x.vpe ≡ Some c → Cuts (call_counted x.vpe here) x.vpe c p → ⊥
      by_call (Revoke src) next (c, held, same) =
          let own' = own-held T S.setup i few here sound-here x.vpe src c (sym (counted-own here x.vpe src) ∙ held) in
          let server : x.vpe ≡ SERVER = sym own'.2 ∙ (ap (λ (q : KeyName). q.vpe) same ∙ S.roots p root) in
          let none : next_call T here SERVER ≡ None = ap (λ cs. slice_get cs (row here SERVER).next_call) S.rests in
          let no' : None ≡ Some (Revoke src) = sym none ∙ (ap (next_call T here) (sym server) ∙ next) in
          absurd cc
      by_call (Derive src dst off len rights) next is = is
      by_call (Gate src dst label credits) next is = is
      by_call (Obtain dst w src) next is = is
      by_call (Delegate src w dst) next is = is
      by_call (OpenSession dst name) next is = is
      by_call (AskOffer dst session index) next is = is
      by_call (Bind ep src) next is = is
      by_call (ReadCall ep off len) next is = is
      by_call (WriteCall ep off len) next is = is
      by_call (SendCall ep len) next is = is
      by_call (Credit ep) next is = is
      by_call Exit next is = is
      by_call (Clear src) next is = is

  pub root-uncut-next : (p : KeyName) → Contains (root_keys T) p → (Contains (cut_from [] J) p → ⊥) → Contains (cut_from [] J') p → ⊥
  root-uncut-next p root was cut = elim (next-cut T S J e made-so p cut) [ inl old ↦ was old | inr x ↦ root-uncalled p root x ]

  root-uncut : (p k : KeyName) → Contains (root_keys T) p → Contains (grants J) (p, k) → IsLive W k → Contains (cut_from [] J') p → ⊥
  root-uncut p k root granted live = root-uncut-next p root (root-spared T S J runs p k root granted live)

  module _ (v : ℕ) (d : VpeDecl) (at : decl T v ≡ Some d) where
    abbrev s : Side
    s = home T W v

    abbrev s' : Side
    s' = home T W' v

    pub sound : IsSound T (kernel_of T v) s
    sound = sound-home T S J runs v d at

    pub sound' : IsSound T (kernel_of T v) s'
    sound' = sound-home T S J' runs' v d at

    pub near-kernel : kernel_of T v < T.kernels
    near-kernel = low T S J runs v d at

    -- what is at a selector is live
    live-at : (sel : ℕ) (k : KeyName) → slot s v sel ≡ Held k → IsLive W k
    live-at sel k is = let c = slot-cap T S.setup (kernel_of T v) near-kernel s sound v sel k is in inl (kernel_of T v, subst IsSome (sym c.1) refl)

    pub whose : (sel : ℕ) (k : KeyName) → slot s v sel ≡ Held k → k.vpe ≡ v
    whose sel k is = (sound.held v sel k is).0

    -- what is newly cut off is cut off by a call of v
    cut-here : (sel : ℕ) (k : KeyName) → slot s v sel ≡ Held k → Contains (cut_from [] J') k → Contains (cut_from [] J) k
        ⊎ ((e.event.act ≡ Calls v) × (next_call T s v ≡ Some (Revoke sel)))
    cut-here sel k is cut = elim (next-cut T S J e made-so k cut) [
      | inl old ↦ inl old
      | inr x ↦ by_call x x.call x.next x.revokes
    ]
      where
        by_call : (x : IsCutBy T W e k) (c : Call) → next_call T here x.vpe ≡ Some c → Cuts (call_counted x.vpe here) x.vpe c k → Contains (cut_from [] J) k
            ⊎ ((e.event.act ≡ Calls v) × (next_call T s v ≡ Some (Revoke sel)))
        by_call x (Revoke src) next (c, held, same) =
            let own' = own-held T S.setup i few here sound-here x.vpe src c (sym (counted-own here x.vpe src) ∙ held) in
            let me : x.vpe ≡ v = sym own'.2 ∙ (ap (λ (q : KeyName). q.vpe) same ∙ whose sel k is) in
            let local : kernel_of T v ≡ i = ap (kernel_of T) (sym me) ∙ vpe-local T i here e.event.act locally x.vpe (inl x.act) in
            let there : slot s v src ≡ Held k = ap (λ j. slot (side W j) v src) local ∙ (ap (λ w. slot here w src) (sym me) ∙ (own'.0 ∙ ap Held same)) in
            let one : src ≡ sel = one-slot T S.setup (kernel_of T v) near-kernel s sound v src sel k there is in
            inr (x.act ∙ ap Calls me, ap (λ j. next_call T (side W j) v) local ∙ (ap (next_call T here) (sym me) ∙ (next ∙ ap (λ n. Some (Revoke n)) one)))
        by_call x (Derive src dst off len rights) next is = absurd is
        by_call x (Gate src dst label credits) next is = absurd is
        by_call x (Obtain dst w src) next is = absurd is
        by_call x (Delegate src w dst) next is = absurd is
        by_call x (OpenSession dst name) next is = absurd is
        by_call x (AskOffer dst session index) next is = absurd is
        by_call x (Bind ep src) next is = absurd is
        by_call x (ReadCall ep off len) next is = absurd is
        by_call x (WriteCall ep off len) next is = absurd is
        by_call x (SendCall ep len) next is = absurd is
        by_call x (Credit ep) next is = absurd is
        by_call x Exit next is = absurd is
        by_call x (Clear src) next is = absurd is

    -- An event of another kernel.
    module _ (away : kernel_of T v ≡ i → ⊥) (H : IsHolding T J v) where
      same-side : s' ≡ s
      same-side = side-other T J e (kernel_of T v) away

      other-act : e.event.act ≡ Calls v → ⊥
      other-act act = away (vpe-local T i here e.event.act locally v (inl act))

      holds-away : (sel : ℕ) → Holds T J v sel → Holds T J' v sel
      holds-away sel x = record {
        key = x.key;
        at = ap (λ t. slot t v sel) same-side ∙ x.at;
        given = given-more x.key x.given;
        uncut = λ cut. elim (cut-here sel x.key x.at cut) [ inl old ↦ x.uncut old | inr (act, next) ↦ other-act act ];
      }

      same-calls : calls_so_far T W' v ≡ calls_so_far T W v
      same-calls = ap (λ t. take (row t v).next_call (calls_of T v)) same-side

      same-parked : parked s' v ≡ parked s v
      same-parked = ap (λ t. parked t v) same-side

      pub holding-away : IsHolding T J' v
      holding-away = record {
        held = λ sel near is. elim (H.held sel near (ap (λ cs. holds cs sel) (sym same-calls) ∙ is)) [
          | inl x ↦ inl (holds-away sel x)
          | inr (number, x) ↦ inr (number, ap kept same-parked ∙ x)
        ];
        free = λ sel near is. elim (H.free sel near (ap (λ cs. holds cs sel) (sym same-calls) ∙ is)) [
          | inl x ↦ inl (ap (λ t. slot t v sel) same-side ∙ x)
          | inr x ↦ inr (record {
            key = x.key;
            at = ap (λ t. slot t v sel) same-side ∙ x.at;
            given = given-more x.key x.given;
            cut_off =
                cut-parts x.key (inl x.cut_off);
          })
        ];
        awaited = λ number sel is. let x = H.awaited number sel (ap kept (sym same-parked) ∙ is) in (x.0, ap (λ cs. holds cs sel) same-calls ∙ x.1);
        offered = λ p is.
            let x = H.offered p (subst (λ o. Offers o p) same-parked is) in
            record {
              selector = x.selector;
              beyond = x.beyond;
              near = x.near;
              held = ap (λ cs. holds cs x.selector) same-calls ∙ x.held;
              at =
                  ap (λ t. slot t v x.selector) same-side ∙ x.at;
            };
      }

    -- An event of its own kernel.
    module _ (local : kernel_of T v ≡ i) where
      pub new-side : s' ≡ (stepped T W e.event).side
      new-side = side-here T J e (kernel_of T v) local

      pub old-side : s ≡ here
      old-side = ap (side W) local

      abbrev Unasked : ℕ → Type 0
      Unasked sel = (c : Call) → e.event.act ≡ Calls v → next_call T s v ≡ Some c → AsksAt c sel → ⊥

      abbrev Unwaited : ℕ → Type 0
      Unwaited sel = (number : ℕ) → kept (parked s v) ≡ Some (number, sel) → ⊥

      pub slotted : (sel : ℕ) → sel < GIVEN → Unwaited sel → Unasked sel → (slot s' v sel ≡ slot s v sel) ⊎ (slot s' v sel ≡ Free)
      slotted sel near free apart =
          let x = step-slotted v sel near (slot here v sel) T i here e.event.act (input_of W i e.event.act) (served.sides i) owns
          (λ number is. free number (ap (λ t. kept (parked t v)) old-side ∙ is))
          (λ u c act there. (
            order u c act there,
            λ same asks. apart c (act ∙ ap Calls same)
                (ap (λ t. next_call T t v) old-side ∙ (ap (next_call T here) (sym same) ∙ there)) asks,
          )) living (inl refl) in
          elim x [
            | inl same ↦ inl (ap (λ t. slot t v sel) new-side ∙ (same ∙ ap (λ t. slot t v sel) (sym old-side)))
            | inr none ↦ inr (ap (λ t. slot t v sel) new-side ∙ none)
          ]

      -- what is held still stays at its selector
      pub stays-there : (sel : ℕ) → sel < GIVEN → (k : KeyName) → slot s v sel ≡ Held k → (d' : Capability) → HoldsCap W' (kernel_of T v) k d' → Unasked sel
          → slot s' v sel ≡ Held k
      stays-there sel near k is d' held' apart =
          elim (slotted sel near (λ number waits. awaits-promised T (kernel_of T v) s sound v sel number waits k is) apart) [
            | inl same ↦ same ∙ is
            | inr free ↦
                let there = found (λ (x : Capability). key_eq x.key k) s'.caps d' held' in
                let key : d'.key ≡ k = key_eq-true d'.key k there.1 in
                let now : slot s' v d'.selector ≡ Held k = ap (λ w. slot s' w d'.selector) (sym (ap (λ (q : KeyName). q.vpe) key ∙ whose sel k is))
                ∙ (sound'.at_selector d' there.0 ∙ ap Held key) in
                let old-cap : cap here k ≡ Some c.0 = ap (λ t. cap t k) (sym old-side) ∙ c.1 in
                let old-there = found (λ (x : Capability). key_eq x.key k) here.caps c.0 old-cap in
                let C = comes-new T i here sound-here v k c.0 old-cap old-there.0 (key_eq-true c.0.key k old-there.1) in
                elim (step-staying T here v k ⊥ C i e.event.act (input_of W i e.event.act) order living d'.selector (ap (λ t. slot t v d'.selector) (sym new-side)
                ∙ now)) [
                  | inr none ↦ absurd none
                  | inl before ↦
                      let one : d'.selector ≡ sel = one-slot T S.setup (kernel_of T v) near-kernel s sound v d'.selector sel k
                      (ap (λ t. slot t v d'.selector) old-side ∙ before) is in
                      ap (slot s' v) (sym one) ∙ now
                ]
          ]
        where
          c : (x : Capability) × (cap s k ≡ Some x)
          c = slot-cap T S.setup (kernel_of T v) near-kernel s sound v sel k is

      -- what is held and not cut off stays at its selector
      stays-held : (sel : ℕ) → sel < GIVEN → (k : KeyName) → slot s v sel ≡ Held k → IsGiven T J k → (Contains (cut_from [] J') k → ⊥) → Unasked sel
          → slot s' v sel ≡ Held k
      stays-held sel near k is given uncut apart =
          let c = slot-cap T S.setup (kernel_of T v) near-kernel s sound v sel k is in
          elim (held-lasts T S.setup J' runs' J (e ∷ []) (kernel_of T v) k c.0 refl c.1) [
            | inr doomed ↦ absurd
                (uncut (doomed-cut T S J' runs' given.parent k given.root (grants-more (given.parent, k) given.granted)
                (root-uncut given.parent k given.root given.granted (live-at sel k is)) doomed))
            | inl (d', held') ↦ stays-there sel near k is d' held' apart
          ]

      -- What is not changed by the event at a selector.

      holds-on : (sel : ℕ) → sel < GIVEN → Unasked sel → ((c : Call) → e.event.act ≡ Calls v → next_call T s v ≡ Some c → c ≡ Revoke sel → ⊥) → Holds T J v sel
          → Holds T J' v sel
      holds-on sel near apart unrevoked x = record {
        key = x.key;
        at = stays-held sel near x.key x.at x.given uncut' apart;
        given = given-more x.key x.given;
        uncut = uncut';
      }
        where
          uncut' : Contains (cut_from [] J') x.key → ⊥
          uncut' cut = elim (cut-here sel x.key x.at cut) [ inl old ↦ x.uncut old | inr (act, next) ↦ unrevoked (Revoke sel) act next refl ]

      lacks-on : (sel : ℕ) → sel < GIVEN → Unwaited sel → Unasked sel → Lacks T J v sel → Lacks T J' v sel
      lacks-on sel near free apart (inl none) = elim (slotted sel near free apart) [ inl same ↦ inl (same ∙ none) | inr none' ↦ inl none' ]
      lacks-on sel near free apart (inr x) = elim (slotted sel near free apart) [
        | inl same ↦ inr (record { key = x.key; at = same ∙ x.at; given = given-more x.key x.given; cut_off = cut-parts x.key (inl x.cut_off) })
        | inr none' ↦ inl none'
      ]

      module _ (client : v ≡ SERVER → ⊥) (H : IsHolding T J v) where
        -- what came is given
        come-given : (number sel : ℕ) → HasCome T s' v number sel → (Revokes T S J' runs' (parked s' v) → parked s' v ≡ Some (Ready 0)) → Holds T J' v sel
        come-given number sel x ready =
            record {
              key = x.key;
              at = x.at;
              given = given;
              uncut = λ cut. let w =
                  cut-waits T S J' runs' given.parent x.key d given.root given.granted decl-at live cut in uncut' w.0 w.1;
            }
          where
            own' : x.key.vpe ≡ v
            own' = (sound'.held v sel x.key x.at).0

            decl-at : decl T x.key.vpe ≡ Some d
            decl-at = ap (decl T) own' ∙ at

            live : IsLive W' x.key
            live = inl (kernel_of T v, subst IsSome (sym x.held) refl)

            given : IsGiven T J' x.key
            given = elim (Contains-append_cases (root_keys T) (map (λ (g : KeyName × KeyName). g.1) (grants J')) x.key (used-made T J' runs' x.key (inl live))) [
              | inl root ↦ absurd (client (sym own' ∙ S.roots x.key root))
              | inr child ↦
                  let g = Contains-from_map (λ (g : KeyName × KeyName). g.1) (grants J') x.key child in
                  let among : Contains (grants J') (g.0.0, x.key) = subst (λ k. Contains (grants J') (g.0.0, k)) g.2 g.1 in
                  let same : x.parent ≡ g.0.0 = same_Some x.parent g.0.0
                  (sym x.below ∙ parent-held T S.setup J' runs' (kernel_of T v) g.0.0 x.key x.capability x.held among) in
                  record { parent = x.parent; root = x.root; granted = subst (λ q. Contains (grants J') (q, x.key)) (sym same) among }
            ]

            uncut' : Revokes T S J' runs' (parked (home T W' x.key.vpe) x.key.vpe) → (parked (home T W' x.key.vpe) x.key.vpe ≡ Some (Ready 0) → ⊥) → ⊥
            uncut' r no' = no' (ap (λ w. parked (home T W' w) w) own' ∙ ready (subst (λ w. Revokes T S J' runs' (parked (home T W' w) w)) own' r))

        -- An event in which v does not call.
        module _ (silent : e.event.act ≡ Calls v → ⊥) where
          no-ask : (sel : ℕ) → Unasked sel
          no-ask sel c act next asks = silent act

          no-revoke : (sel : ℕ) (c : Call) → e.event.act ≡ Calls v → next_call T s v ≡ Some c → c ≡ Revoke sel → ⊥
          no-revoke sel c act next same = silent act

          pub course : Course T s s' v
          course = subst (λ t. Course T t s' v) (sym old-side)
              (subst (λ t. Course T here t v) (sym new-side) (step-course T i v local here sound-here (served.sides i) e.event.act (input_of W i e.event.act)
              (ap (λ t. is_alive t v) (sym old-side) ∙ lives T S J runs v d at) passes
              (λ u act. (enabled-resume T i here u (subst (λ a. is_locally_enabled T i here a ≡ true) act locally)).1) order silent))

          pub kept-calls : calls_so_far T W' v ≡ calls_so_far T W v
          kept-calls = ap (λ n. take n (calls_of T v)) course.calls

          no-some : (n a : ℕ) → ◌≡◌ {A = Option (ℕ × ℕ)} None (Some (n, a)) → ⊥
          no-some n a same = absurd cc

          waits-same : {n m a b : ℕ} → ◌≡◌ {A = Option (ℕ × ℕ)} (Some (n, a)) (Some (m, b)) → a ≡ b
          waits-same {n} {m} {a} {b} same = ap (λ (x : ℕ × ℕ). x.1) (same_Some (n, a) (m, b) same)

          -- what it waited for comes, or is waited for
          awaits-on : (sel : ℕ) → Awaits T W v sel → Turn T s s' v → Holds T J' v sel ⊎ Awaits T W' v sel
          awaits-on sel (number, is) (turn_same same) = inr (number, ap kept same ∙ is)
          awaits-on sel (number, is) (turn_woken j was now) = absurd (no-some number sel (sym (ap kept was) ∙ is))
          awaits-on sel (number, is) (turn_obtained number' sel' key parent object numbered was now) =
              let one : sel' ≡ sel = waits-same (sym (ap kept was) ∙ is) in
              inr (key.number, ap kept now ∙ ap (λ n. Some (key.number, n)) one)
          awaits-on sel (number, is) (turn_prepared parent key was now) = absurd (no-some number sel (sym (ap kept was) ∙ is))
          awaits-on sel (number, is) (turn_got number' sel' was now has) =
              let one : sel' ≡ sel = waits-same (sym was ∙ is) in
              inl (come-given number' sel (subst (HasCome T s' v number') one has) (λ r. elim now [
                | inl ready ↦ ready
                | inr none ↦ elim r [
                  | inl (n, w) ↦ (let no' : None ≡ Some (RevokeWait n) = sym none ∙ w in absurd cc)
                  | inr (code, w) ↦
                      (let no' : None ≡ Some (Ready code) = sym none ∙ w in absurd cc)
                ]
              ]))
          awaits-on sel (number, is) (turn_over was busy now) = absurd (no-some number sel (sym was ∙ is))

          awaited-on : (number sel : ℕ) → kept (parked s' v) ≡ Some (number, sel) → Turn T s s' v → (number' : ℕ) × (kept (parked s v) ≡ Some (number', sel))
          awaited-on number sel is (turn_same same) = (number, ap kept (sym same) ∙ is)
          awaited-on number sel is (turn_woken j was now) = absurd (no-some number sel (sym (ap kept now) ∙ is))
          awaited-on number sel is (turn_obtained number' sel' key parent object numbered was now) =
              let one : sel' ≡ sel = waits-same (sym (ap kept now) ∙ is) in
              (number', ap kept was ∙ ap (λ n. Some (number', n)) one)
          awaited-on number sel is (turn_prepared parent key was now) = absurd (no-some number sel (sym (ap kept now) ∙ is))
          awaited-on number sel is (turn_got number' sel' was now has) = elim now [
            | inl ready ↦ absurd (no-some number sel (sym (ap kept ready) ∙ is))
            | inr none ↦ absurd (no-some number sel (sym (ap kept none) ∙ is))
          ]
          awaited-on number sel is (turn_over was busy now) = elim now [
            | inl ready ↦ absurd (no-some number sel (sym (ap kept ready) ∙ is))
            | inr none ↦ absurd (no-some number sel (sym (ap kept none) ∙ is))
          ]

          offers-on : (p : KeyName) → Offers (parked s' v) p → Turn T s s' v → Offers (parked s v) p
          offers-on p is (turn_same same) = subst (λ o. Offers o p) same is
          offers-on p is (turn_woken j was now) = absurd (subst (λ o. Offers o p) now is)
          offers-on p is (turn_obtained number' sel' key parent object numbered was now) = absurd (subst (λ o. Offers o p) now is)
          offers-on p is (turn_prepared parent key was now) = subst (λ o. Offers o p) (sym was) (subst (λ o. Offers o p) now is)
          offers-on p is (turn_got number' sel' was now has) =
              elim now [ inl ready ↦ absurd (subst (λ o. Offers o p) ready is) | inr none ↦ absurd (subst (λ o. Offers o p) none is) ]
          offers-on p is (turn_over was busy now) =
              elim now [ inl ready ↦ absurd (subst (λ o. Offers o p) ready is) | inr none ↦ absurd (subst (λ o. Offers o p) none is) ]

          -- an extent that is offered stays
          extent-on : (p : KeyName) → IsHeldExtent T W v p → IsHeldExtent T W' v p
          unfolding holds-on
          extent-on p x = elim (H.held x.selector x.near x.held) [
            | inr (number, waits) ↦ absurd (awaits-promised T (kernel_of T v) s sound v x.selector number waits p x.at)
            | inl h ↦
                let same : h.key ≡ p = held-same h.key p (sym h.at ∙ x.at) in
                let on = holds-on x.selector x.near (no-ask x.selector) (no-revoke x.selector) h in
                record {
                  selector = x.selector;
                  beyond = x.beyond;
                  near = x.near;
                  held = ap (λ cs. holds cs x.selector) kept-calls ∙ x.held;
                  at =
                      stays-held x.selector x.near p x.at (subst (IsGiven T J) same h.given) (subst (λ k. Contains (cut_from [] J') k → ⊥) same on.uncut)
                      (no-ask x.selector);
                }
          ]
            where
              held-same : (a b : KeyName) → Held a ≡ Held b → a ≡ b
              held-same a b same = cc same

          pub holding-on : IsHolding T J' v
          holding-on = record {
            held = λ sel near is. elim (H.held sel near (ap (λ cs. holds cs sel) (sym kept-calls) ∙ is)) [
              | inl x ↦ inl (holds-on sel near (no-ask sel) (no-revoke sel) x)
              | inr x ↦ awaits-on sel x course.turn
            ];
            free = λ sel near is.
                let was = ap (λ cs. holds cs sel) (sym kept-calls) ∙ is in
                lacks-on sel near (λ number waits. true≢false (sym (H.awaited number sel waits).1 ∙ was)) (no-ask sel) (H.free sel near was);
            awaited = λ number sel is.
                let w = awaited-on number sel is course.turn in
                let x = H.awaited w.0 sel w.1 in
                (x.0, ap (λ cs. holds cs sel) kept-calls ∙ x.1);
            offered = λ p is. extent-on p (H.offered p (offers-on p is course.turn));
          }

        -- A call of v, whose tests pass.
        module _ (act : e.event.act ≡ Calls v) (c : Call) (next : next_call T s v ≡ Some c) where
          pub next-here : next_call T here v ≡ Some c
          next-here = ap (λ t. next_call T t v) (sym old-side) ∙ next

          call-here : (kernel_of T v ≡ i) × (is_alive here v ≡ true) × (parked here v ≡ None)
          call-here = enabled-call T i here v (subst (λ a. is_locally_enabled T i here a ≡ true) act locally)

          pub idle : parked s v ≡ None
          idle = ap (λ t. parked t v) old-side ∙ call-here.2

          pub passed : CallPasses T i (call_counted v here) v c
          passed = (subst (ActPasses T i here) act passes) c next-here

          pub stepped-so : s' ≡ (call_row T i (call_counted v here) v c).side
          stepped-so = new-side
              ∙ (ap (λ a. (local_step T i here a (input_of W i a)).side) act ∙ ap (λ (x : Step). x.side) (call-step T i here v None c next-here))

          pub goes : ((row s' v).next_call ≡ (row (call_counted v here) v).next_call) × ParksAs (call_counted v here) v c (parked s' v)
          goes = subst (λ t. ((row t v).next_call ≡ (row (call_counted v here) v).next_call) × ParksAs (call_counted v here) v c (parked t v)) (sym stepped-so)
              (own-goes T i v here sound-here call-here.2 c passed)

          pub more-calls : calls_so_far T W' v ≡ calls_so_far T W v ++ c ∷ []
          more-calls =
              ap (λ n. take n (calls_of T v)) (goes.0 ∙ (counted-call here v ∙ ap (λ t. (row t v).next_call + 1) (sym old-side)))
              ∙ take-more (calls_of T v) (row s v).next_call c next

          pub holds-now : (sel : ℕ) → holds (calls_so_far T W' v) sel ≡ holds_after sel (holds (calls_so_far T W v) sel) c
          holds-now sel = ap (λ cs. holds cs sel) more-calls ∙ holds-more (calls_so_far T W v) c sel

          pub in-order : MayComeNext T v (calls_so_far T W v) c
          in-order = S.calls v (row s v).next_call c next

          no-wait : (sel : ℕ) → Unwaited sel
          no-wait sel number is = let no' : ◌≡◌ {A = Option (ℕ × ℕ)} None (Some (number, sel)) = sym (ap kept idle) ∙ is in absurd cc

          the-call : (c' : Call) → next_call T s v ≡ Some c' → c' ≡ c
          the-call c' there = same_Some c' c (sym there ∙ next)

          -- at a selector that the call is not about
          held-on : (sel : ℕ) → sel < GIVEN → (AsksAt c sel → ⊥) → (c ≡ Revoke sel → ⊥) → holds (calls_so_far T W v) sel ≡ true → Holds T J' v sel
          held-on sel near apart unrevoked is = elim (H.held sel near is) [
            | inl x ↦ holds-on sel near (λ c' a there asks. apart (subst (λ z. AsksAt z sel) (the-call c' there) asks))
                (λ c' a there same. unrevoked (sym (the-call c' there) ∙ same)) x
            | inr (number, waits) ↦ absurd (no-wait sel number waits)
          ]

          free-on : (sel : ℕ) → sel < GIVEN → (AsksAt c sel → ⊥) → holds (calls_so_far T W v) sel ≡ false → Lacks T J' v sel
          free-on sel near apart is = lacks-on sel near (no-wait sel) (λ c' a there asks. apart (subst (λ z. AsksAt z sel) (the-call c' there) asks))
              (H.free sel near is)

          not-parked : {n sel : ℕ} → ◌≡◌ {A = Option Parked} (parked s' v) None → kept (parked s' v) ≡ Some (n, sel) → ⊥
          not-parked {n} {sel} none is = let no' : ◌≡◌ {A = Option (ℕ × ℕ)} None (Some (n, sel)) = sym (ap kept none) ∙ is in absurd cc

          -- a call that changes nothing that is held
          plain-on : ((sel : ℕ) (b : Bool) → holds_after sel b c ≡ b) → ((sel : ℕ) → AsksAt c sel → ⊥) → ((sel : ℕ) → c ≡ Revoke sel → ⊥)
              → ((number sel : ℕ) → kept (parked s' v) ≡ Some (number, sel) → ⊥) → ((p : KeyName) → Offers (parked s' v) p → IsHeldExtent T W' v p) →
              IsHolding T J' v
          plain-on same apart unrevoked waits offers = record {
            held = λ sel near is. inl (held-on sel near (apart sel) (unrevoked sel) (sym (same sel (holds (calls_so_far T W v) sel))
                ∙ (sym (holds-now sel) ∙ is)));
            free = λ sel near is. free-on sel near (apart sel) (sym (same sel (holds (calls_so_far T W v) sel)) ∙ (sym (holds-now sel) ∙ is));
            awaited = λ number sel is. absurd (waits number sel is);
            offered = offers;
          }

          -- a call that asks
          ask-on : (dst : ℕ) → dst < GIVEN → ((sel : ℕ) (b : Bool) → holds_after sel b c ≡ (if dst == sel then true else b)) →
              ((sel : ℕ) → AsksAt c sel → dst ≡ sel)
              → ((sel : ℕ) → c ≡ Revoke sel → ⊥) → (number : ℕ) → parked s' v ≡ Some (ObtainWait number dst) → IsHolding T J' v
          ask-on dst near' after' asks unrevoked number parks = record {
            held = λ sel near is. elim (cases_eq dst sel) [
              | inl same ↦ inr (number, ap kept parks ∙ ap (λ m. Some (number, m)) same)
              | inr other ↦ inl (held-on sel near (λ at'. other (asks sel at')) (unrevoked sel)
                  (sym (cond-false (dst == sel) true (holds (calls_so_far T W v) sel) (ne_eqb dst sel other))
                  ∙ (sym (after' sel (holds (calls_so_far T W v) sel)) ∙ (sym (holds-now sel) ∙ is))))
            ];
            free = λ sel near is. elim (cases_eq dst sel) [
              | inl same ↦ absurd (true≢false (sym (cond-true (dst == sel) true (holds (calls_so_far T W v) sel) (eq-eqb dst sel same))
                  ∙ (sym (after' sel (holds (calls_so_far T W v) sel)) ∙ (sym (holds-now sel) ∙ is))))
              | inr other ↦ free-on sel near (λ at'. other (asks sel at'))
                  (sym (cond-false (dst == sel) true (holds (calls_so_far T W v) sel) (ne_eqb dst sel other))
                  ∙ (sym (after' sel (holds (calls_so_far T W v) sel)) ∙ (sym (holds-now sel) ∙ is)))
            ];
            awaited = λ number' sel is.
                let same : dst ≡ sel = ap (λ (x : ℕ × ℕ). x.1) (same_Some (number, dst) (number', sel) (sym (ap kept parks) ∙ is)) in (
                  subst (λ m. m < GIVEN) same near',
                  holds-now sel
                      ∙ (after' sel (holds (calls_so_far T W v) sel) ∙ cond-true (dst == sel) true (holds (calls_so_far T W v) sel) (eq-eqb dst sel same)),
                );
            offered = λ p is. absurd (subst (λ o. Offers o p) parks is);
          }

        abbrev held-key : {a b : KeyName} → Held a ≡ Held b → a ≡ b
        held-key {a} {b} same = same_Held a b same

        -- A revoke.
        module _ (act : e.event.act ≡ Calls v) (src : ℕ) (next : next_call T s v ≡ Some (Revoke src)) where
          pub revoked-key : (k : KeyName) → slot s v src ≡ Held k → Contains (cut_at (history J).grants e) k
          revoked-key k is =
              let held = passed act (Revoke src) next in
              let own' = own-held T S.setup i few here sound-here v src held.0 (sym (counted-own here v src) ∙ held.1) in
              let same : held.0.key ≡ k = held-key (sym own'.0 ∙ (ap (λ t. slot t v src) (sym old-side) ∙ is)) in
              let cut : ◌≡◌ {A = Option KeyName} e.cut (Some k) =
              (tells T W e made-so).cut
              ∙ (ap (λ a. (local_step T i here a (input_of W i a)).outcome.cut) act
              ∙ (ap (λ (x : Step). x.outcome.cut) (call-step T i here v None (Revoke src) (next-here act (Revoke src) next))
              ∙ (revoke-cuts T i (call_counted v here) v src held.0 held.1 ∙ ap Some same))) in
              let told : e.detail ≡ Called (row here v).next_call (Revoke src) =
              (tells T W e made-so).detail
              ∙ (ap (λ a. detail_of T here a (input_of W i a) (stepped T W e.event).outcome) act
              ∙ ap (λ o. option_map_or (λ call. Called (row here v).next_call call) o Nothing) (next-here act (Revoke src) next)) in
              subst (λ ks. Contains ks k) (sym (ap (λ o. option_map_or (cut_off (history J).grants e.detail) o []) cut
              ∙ ap (λ x. cut_off (history J).grants x k) told))
              (Contains-head k [])

          pub opened : (SESSION < src) × (src < GIVEN) × (holds (calls_so_far T W v) src ≡ true)
          opened = in-order act (Revoke src) next

          left-at : Lacks T J' v src
          left-at = elim (H.held src opened.1 opened.2) [
            | inr (number, waits) ↦ absurd (no-wait act (Revoke src) next src number waits)
            | inl x ↦ elim (slotted src opened.1 (no-wait act (Revoke src) next src)
                (λ c' a there asks. subst (λ z. AsksAt z src) (the-call act (Revoke src) next c' there) asks)) [
                  | inr free ↦ inl free
                  | inl same ↦ inr (record {
                    key = x.key;
                    at = same ∙ x.at;
                    given = given-more x.key x.given;
                    cut_off = cut-parts x.key (inr (revoked-key x.key x.at));
                  })
                ]
          ]

          revoke-src : (sel : ℕ) → Revoke src ≡ Revoke sel → src ≡ sel
          revoke-src sel same = ap source_of same
            where
              source_of : Call → ℕ
              source_of (Revoke n) = n
              source_of c = 0

          revoke-waits : (o : Option Parked) → ((j : ℕ) × (o ≡ Some (RevokeWait j))) ⊎ (o ≡ Some (Ready 0)) → (kept o ≡ None) × ((p : KeyName) → Offers o p → ⊥)
          revoke-waits o (inl (j, is)) = (ap kept is, λ p offers. subst (λ x. Offers x p) is offers)
          revoke-waits o (inr is) = (ap kept is, λ p offers. subst (λ x. Offers x p) is offers)

          pub revoke-on : IsHolding T J' v
          revoke-on =
              let parks = revoke-waits (parked s' v) (goes act (Revoke src) next).1 in
              record {
                held = λ sel near is. elim (cases_eq src sel) [
                  | inl same ↦ absurd (true≢false
                      (sym is ∙ (holds-now act (Revoke src) next sel ∙ cond-true (src == sel) false (holds (calls_so_far T W v) sel) (eq-eqb src sel same))))
                  | inr other ↦ inl (held-on act (Revoke src) next sel near (λ none. none) (λ same. other (revoke-src sel same))
                      (sym (cond-false (src == sel) false (holds (calls_so_far T W v) sel) (ne_eqb src sel other))
                      ∙ (sym (holds-now act (Revoke src) next sel) ∙ is)))
                ];
                free = λ sel near is. elim (cases_eq src sel) [
                  | inl same ↦ subst (Lacks T J' v) same left-at
                  | inr other ↦ free-on act (Revoke src) next sel near (λ none. none)
                      (sym (cond-false (src == sel) false (holds (calls_so_far T W v) sel) (ne_eqb src sel other))
                      ∙ (sym (holds-now act (Revoke src) next sel) ∙ is))
                ];
                awaited = λ number sel is. let no' : ◌≡◌ {A = Option (ℕ × ℕ)} None (Some (number, sel)) = sym parks.0 ∙ is in absurd cc;
                offered = λ p is. absurd (parks.1 p is);
              }

        -- A delegate.
        module _ (act : e.event.act ≡ Calls v) (src w dst : ℕ) (next : next_call T s v ≡ Some (Delegate src w dst)) where
          abbrev the : Call
          the = Delegate src w dst

          gives : (SESSION < src) × (src < GIVEN) × (holds (calls_so_far T W v) src ≡ true)
          gives = (in-order act the next).0

          extent-given : (p : KeyName) → Offers (parked s' v) p → IsHeldExtent T W' v p
          extent-given p is =
              let went = (goes act the next).1 in
              let c0 = went.0 in
              let own' = own-held T S.setup i few here sound-here v src c0 (sym (counted-own here v src) ∙ went.1) in
              let same : c0.key ≡ p = subst (λ o. Offers o p) went.2 is in
              let here-at : slot s v src ≡ Held p = ap (λ t. slot t v src) old-side ∙ (own'.0 ∙ ap Held same) in
              elim (H.held src gives.1 gives.2) [
                | inr (number, waits) ↦ absurd (no-wait act the next src number waits)
                | inl x ↦
                    let key : x.key ≡ p = held-key (sym x.at ∙ here-at) in
                    let uncut : Contains (cut_from [] J') p → ⊥ = λ cut. elim (cut-here src p here-at cut) [
                      | inl old ↦ x.uncut (subst (Contains (cut_from [] J)) (sym key) old)
                      | inr (a, there) ↦ (let no' : ◌≡◌ {A = Option Call} (Some the) (Some (Revoke src)) = sym next ∙ there in absurd cc)
                    ] in
                    record {
                      selector = src;
                      beyond = gives.0;
                      near = gives.1;
                      held = holds-now act the next src ∙ gives.2;
                      at = stays-held src gives.1 p here-at (subst (IsGiven T J) key x.given) uncut
                          (λ c' a there asks. subst (λ z. AsksAt z src) (the-call act the next c' there) asks);
                    }
              ]

          pub delegate-on : IsHolding T J' v
          delegate-on =
              plain-on act the next (λ sel b. refl) (λ sel none. none) (λ sel same. let no' : ◌≡◌ {A = Call} the (Revoke sel) = same in absurd cc)
              (λ number sel is. let no' : ◌≡◌ {A = Option (ℕ × ℕ)} None (Some (number, sel)) = sym (ap kept (goes act the next).1.2) ∙ is in
              absurd cc) extent-given

        -- Any call of v.
        calling : (act : e.event.act ≡ Calls v) (c : Call) → next_call T s v ≡ Some c → IsHolding T J' v
        calling act (OpenSession dst name) next = ask-on act (OpenSession dst name) next dst
            (let o = in-order act (OpenSession dst name) next in let zero' = o.0 in omega (arith, zero')) (λ sel b. refl) (λ sel same. same)
            (λ sel same. let no' : ◌≡◌ {A = Call} (OpenSession dst name) (Revoke sel) = same in absurd cc) (goes act (OpenSession dst name) next).1.0
            (goes act (OpenSession dst name) next).1.1
        calling act (AskOffer dst session index) next = ask-on act (AskOffer dst session index) next dst (in-order act (AskOffer dst session index) next).3
            (λ sel b. refl) (λ sel same. same) (λ sel same. let no' : ◌≡◌ {A = Call} (AskOffer dst session index) (Revoke sel) = same in absurd cc)
            (goes act (AskOffer dst session index) next).1.0 (goes act (AskOffer dst session index) next).1.1
        calling act (Delegate src w dst) next = delegate-on act src w dst next
        calling act (Revoke src) next = revoke-on act src next
        calling act (Bind ep src) next = plain-on act (Bind ep src) next (λ sel b. refl) (λ sel none. none)
            (λ sel same. let no' : ◌≡◌ {A = Call} (Bind ep src) (Revoke sel) = same in absurd cc)
            (λ number sel is. not-parked act (Bind ep src) next (goes act (Bind ep src) next).1 is)
            (λ p is. absurd (subst (λ o. Offers o p) (goes act (Bind ep src) next).1 is))
        calling act (ReadCall ep off len) next = plain-on act (ReadCall ep off len) next (λ sel b. refl) (λ sel none. none)
            (λ sel same. let no' : ◌≡◌ {A = Call} (ReadCall ep off len) (Revoke sel) = same in absurd cc)
            (λ number sel is. not-parked act (ReadCall ep off len) next (goes act (ReadCall ep off len) next).1 is)
            (λ p is. absurd (subst (λ o. Offers o p) (goes act (ReadCall ep off len) next).1 is))
        calling act (WriteCall ep off len) next = plain-on act (WriteCall ep off len) next (λ sel b. refl) (λ sel none. none)
            (λ sel same. let no' : ◌≡◌ {A = Call} (WriteCall ep off len) (Revoke sel) = same in absurd cc)
            (λ number sel is. not-parked act (WriteCall ep off len) next (goes act (WriteCall ep off len) next).1 is)
            (λ p is. absurd (subst (λ o. Offers o p) (goes act (WriteCall ep off len) next).1 is))
        calling act (Derive src dst off len rights) next = absurd (in-order act (Derive src dst off len rights) next)
        calling act (Gate src dst label credits) next = absurd (in-order act (Gate src dst label credits) next)
        calling act (Obtain dst w src) next = absurd (in-order act (Obtain dst w src) next)
        calling act (SendCall ep len) next = absurd (in-order act (SendCall ep len) next)
        calling act (Credit ep) next = absurd (in-order act (Credit ep) next)
        calling act Exit next = absurd (in-order act Exit next)
        calling act (Clear src) next = absurd (in-order act (Clear src) next)

        calling-any : e.event.act ≡ Calls v → IsHolding T J' v
        calling-any act = from (next_call T s v) refl
          where
            from : (o : Option Call) → next_call T s v ≡ o → IsHolding T J' v
            from (Some c) there = calling act c there
            from None none =
                let some = called T i here v (subst (λ a. is_locally_enabled T i here a ≡ true) act locally) in
                let no' : false ≡ true = sym (ap is_some (ap (λ t. next_call T t v) (sym old-side) ∙ none)) ∙ some in
                absurd cc

        by-act : (a : Act) → e.event.act ≡ a → IsHolding T J' v
        by-act (Calls u) act = elim (cases_eq u v) [
          | inl same ↦ calling-any (act ∙ ap Calls same)
          | inr other ↦ holding-on (λ act'. other (caller (sym act ∙ act')))
        ]
          where
            caller : {w : ℕ} → ◌≡◌ {A = Act} (Calls u) (Calls w) → u ≡ w
            caller same = cc same
        by-act (Fetch j) act = holding-on (λ act'. let no' : ◌≡◌ {A = Act} (Fetch j) (Calls v) = sym act ∙ act' in absurd cc)
        by-act Handle act = holding-on (λ act'. let no' : ◌≡◌ {A = Act} Handle (Calls v) = sym act ∙ act' in absurd cc)
        by-act (Upcall u) act = holding-on (λ act'. let no' : ◌≡◌ {A = Act} (Upcall u) (Calls v) = sym act ∙ act' in absurd cc)
        by-act (Resume u) act = holding-on (λ act'. let no' : ◌≡◌ {A = Act} (Resume u) (Calls v) = sym act ∙ act' in absurd cc)
        by-act (Flush j) act = holding-on (λ act'. let no' : ◌≡◌ {A = Act} (Flush j) (Calls v) = sym act ∙ act' in absurd cc)
        by-act (Kill u) act = absurd (living u act)

    -- One entry more.
    pub holding-next : (v ≡ SERVER → ⊥) → IsHolding T J v → IsHolding T J' v
    holding-next client H = elim (cases_eq (kernel_of T v) i) [
      | inl local ↦ by-act local client H e.event.act refl
      | inr away ↦ holding-away away H
    ]
