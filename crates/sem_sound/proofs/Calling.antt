-- Calls keep a side sound.
use Rattle.std.proofs.Common.{◌≡◌, ℕ, ◌+◌, ◌<◌, ◌≤◌, Bool, true, false, List, [], get_or, Option, Some, None, refl, sym, ap, subst, ◌∙◌, inl, arith}
use Rattle.std.specs.Prelude.{◌==◌}
use Rattle.std.specs.List.{Contains}
use Rattle.std.specs.Option.{option_and_then}
use Rattle.std.proofs.lemmas.Bool.{cond_both, eqb-true, eqb-false, leb-false, not-false}
use Rattle.std.proofs.lemmas.Option.{same_Some}
use Rattle.sem_key.specs.declared.key.Kind.{Kind}
use Rattle.sem_key.specs.declared.key.Kind.TheVariants.{Mem as MemKind, Recv as RecvKind}
use Rattle.sem_key.specs.declared.object.Object.{Object}
use Rattle.sem_key.specs.declared.object.Object.TheVariants.{Mem, Recv, Send, Serv, Sess}
use Rattle.sem_key.specs.KeyName.{KeyName}
use Rattle.sem_key.specs.declared.limits.TheConstants.{NUMBERS}
use Rattle.sem_key.specs.PlaceName.{PlaceName, IsValidPlace}
use Rattle.sem_key.specs.ObjectRanges.{object_kind}
use Rattle.sem_key.specs.Capability.{Capability}
use Rattle.sem_msg.specs.declared.call.Call.{Call}
use Rattle.sem_msg.specs.declared.call.Call.TheVariants.{Derive, Gate, Obtain, Delegate, OpenSession, AskOffer, Revoke, Bind, Read, Write, Send as SendCall}
use Rattle.sem_msg.specs.declared.call.Call.TheVariants.{Credit, Exit, Clear}
use Rattle.sem_msg.specs.declared.message.Target.{Target}
use Rattle.sem_msg.specs.declared.message.Target.TheVariants.{Sel as SelTarget, Serv as ServTarget, Offer as OfferTarget}
use Rattle.sem_msg.specs.declared.message.Message.TheVariants.{ObtainReq, DelegateReq}
use Rattle.sem_msg.specs.declared.setup.Service.{Service}
use Rattle.sem_msg.specs.declared.state.Ask.TheVariants.{Obtain as ObtainAsk, Delegate as DelegateAsk}
use Rattle.sem_msg.specs.declared.state.Slot.{Slot}
use Rattle.sem_msg.specs.declared.state.Slot.TheVariants.{Free, Held, Promised}
use Rattle.sem_msg.specs.declared.state.Parked.{Parked}
use Rattle.sem_msg.specs.declared.state.Parked.TheVariants.{ObtainWait, DelegateWait, RevokeWait}
use Rattle.sem_msg.specs.Rows.{VpeRow, Endpoint, no_vpe}
use Rattle.sem_msg.specs.Message.{IsValidTarget, IsServiceKey, IsDelegable}
use Rattle.sem_msg.specs.Calls.{IsSelector, IsValidCall}
use Rattle.sem_msg.specs.Versions.{most_vpes}
use Rattle.sem_msg.specs.Setup.{Setup, IsSetup}
use Rattle.sem_msg.specs.Lookups.{pe_of, kernel_of, is_declared, is_declared_at, service_named}
use Rattle.sem_msg.specs.VpeRows.{is_taken}
use Rattle.sem_msg.specs.declared.code.Code.TheVariants.{Ok as OkCode, NoCap, NoService, BadKind}
use Rattle.sem_machine.specs.Sound.{IsNamed, IsLocalName, IsSoundObject, IsTargetNamed, IsSoundCall, kept, IsSoundEndpoint, IsSound, ids_owed, ids_paid, one_if}
use Rattle.sem_machine.specs.Sides.{Side, row, slot, cap, cap_in, own, endpoint, parked, drawn, promised, parked_as, asked, linked, installed, with_endpoint}
use Rattle.sem_machine.specs.Sides.{send}
use Rattle.sem_machine.specs.Steps.{Step, answer, unshown}
use Rattle.sem_machine.specs.Asks.{target_vpe}
use Rattle.sem_msg.specs.Uses.{memory_tests, send_tests, credit_tests, rung, credited, ring_changed}
use Rattle.sem_machine.specs.Calls.{object_passes, is_of, stays_at_home, is_wider, next_key, next_place, with_held, destination_tests, derive_tests, narrowed}
use Rattle.sem_machine.specs.Calls.{gate_tests, ask_made, obtain_tests, open_tests, session_service, offer_tests, delegate_tests, offer_made, bind_tests}
use Rattle.sem_machine.specs.Calls.{own_tests, call_row}
use Rattle.sem_key.proofs.Puts.{get_or-put_same}
use Rattle.sem_key.proofs.Members.{found}
use Rattle.sem_machine.proofs.Folds.{option-keeps}
use Rattle.sem_machine.proofs.FirstCodes.{Passed, unless-keeps, unless-passed, unmarked-own}
use Rattle.sem_sound.proofs.Named.{declared-kernel, declared-below, own-declared}
use Rattle.sem_sound.proofs.Changing.{drawn-sound, promised-sound, parked-taking, asked-sound, endpoint-sound, local-place}
use Rattle.sem_sound.proofs.Holding.{cap-among, linked-sound, installed-sound, send-sound}
use Rattle.sem_sound.proofs.Parking.{NoMoreBut, one-most, parked-but, unparked-but}
use Rattle.sem_machine.specs.Revokes.{revoke_begun, clear_begun}
use Rattle.sem_machine.specs.Ends.{ended}
use Rattle.sem_sound.proofs.Jobbing.{waits-not}
use Rattle.sem_sound.proofs.Revoking.{begun-sound, cleared-sound, reparked-sound}
use Rattle.sem_sound.proofs.Refusing.{ended-sound}
use Rattle.sem_sound.proofs.Objects.{delegable, recv-kind, narrowed-sound, declared-vpe, service-named}

pub free-slot : (x : Slot) → is_taken x ≡ false → x ≡ Free
free-slot Free free = refl
free-slot (Held k) free = absurd cc
free-slot Promised free = absurd cc

-- a change of a row that leaves its selectors, or its parked call
pub drawn-slot : (s : Side) (v sel : ℕ) → slot (drawn v s) v sel ≡ slot s v sel
drawn-slot s v sel =
    ap (λ (r : VpeRow). get_or r.slots sel Free) (get_or-put_same no_vpe s.vpes v (record (row s v) { next_number = (row s v).next_number + 1 }))

drawn-parked : (s : Side) (v : ℕ) → parked (drawn v s) v ≡ parked s v
drawn-parked s v = refl

promised-parked : (s : Side) (v sel : ℕ) → parked (promised v sel s) v ≡ parked s v
promised-parked s v sel = refl

-- a step that answers the call of v or parks it, and parks no other
abbrev pub Answered : ℕ → Side → Step → Type 0
Answered v s x = NoMoreBut v s x.side × (one_if x.outcome.reply + one_if (parked x.side v) ≤ 1)

module _ (T : Setup) (valid : IsSetup T) (i : ℕ) (few : i < T.kernels) where
  -- The key that a VPE draws next.
  pub next_key-local : (s : Side) (v : ℕ) → kernel_of T v ≡ i → (row s v).next_number < NUMBERS → (kind : Kind) → IsLocalName T i (next_key T s v kind)
  next_key-local s v local below kind =
      let at = own-declared T valid v (subst (λ k. k < T.kernels) (sym local) few) in
      let vpe = local-place T valid i few v local in
      (((at.1, omega (arith, vpe), omega (arith, below)), at.0), sym (declared-kernel T (pe_of T v) v at.0) ∙ local)

  -- A child is made of a capability.
  pub child-sound : (s : Side) → IsSound T i s → (v : ℕ) → kernel_of T v ≡ i → (row s v).next_number < NUMBERS → (dst : ℕ) → IsSelector dst →
      slot s v dst ≡ Free → (object : Object) → IsSoundObject T object → (parent : KeyName) → IsNamed T parent → (kind : Kind) → kind ≡ object_kind object →
      IsSound T i (installed (next_key T s v kind) (Some parent) dst object (linked parent (next_key T s v kind) (drawn v s)))
  child-sound s is v local below dst selector free object sound parent named kind same =
      let k : KeyName = next_key T s v kind in
      let key = next_key-local s v local below kind in
      let draws = drawn-sound T valid i few None None None s v local is below in
      let links = linked-sound T valid i few (Some (v, (row s v).next_number)) None None None (drawn v s) draws parent k key.0 in
      installed-sound T valid i few None None None (linked parent k (drawn v s)) k (Some parent) dst object links (inl (refl, drawn-slot s v dst ∙ free))
      (record {
        own = key;
        kind = same;
        object = sound;
        selector = selector;
        parent = λ p at. subst (IsNamed T) (same_Some parent p at) named;
        children = λ q none. absurd (let no' = none.1 in omega (arith, no'));
        children_rise = λ a b d lt within. absurd (omega (arith, lt, within));
      })

  module _ (s : Side) (is : IsSound T i s) where
    -- what stands at an own selector
    pub own-among : (v sel : ℕ) (c : Capability) → own s v sel ≡ Some c → Contains s.caps c × (c.key.vpe ≡ v) × (cap s c.key ≡ Some c)
    own-among v sel c held = from (slot s v sel) refl held
      where
        from : (x : Slot) → slot s v sel ≡ x → cap_in s x ≡ Some c → Contains s.caps c × (c.key.vpe ≡ v) × (cap s c.key ≡ Some c)
        from Free at none = absurd cc
        from Promised at none = absurd cc
        from (Held k) at some =
            let there = cap-among T valid i few None None None None s is k c some in
            (there.0, ap (λ (q : KeyName). q.vpe) there.1 ∙ (is.held v sel k at).0, ap (cap s) there.1 ∙ some)

    module _ (v : ℕ) (local : kernel_of T v ≡ i) (idle : parked s v ≡ None) where
      abbrev Keeps : Step → Type 0
      Keeps x = IsSound T i x.side × Answered v s x

      -- the call is answered
      replied-now : Answered v s (answer OkCode s)
      replied-now = (((λ w other. omega arith), (λ fit. fit)), let none = ap (λ (o : Option Parked). one_if o) idle in omega (arith, none))

      -- the call is parked
      parked-now : (p : Parked) → Answered v s (unshown (parked_as v p s))
      parked-now p = (parked-but s v (Some p), let most = one-most (parked (parked_as v p s) v) in omega (arith, most))

      -- the destination is free and a number is left
      abbrev Ready : ℕ → Type 0
      Ready dst = (slot s v dst ≡ Free) × ((row s v).next_number < NUMBERS)

      destination : (dst : ℕ) → Passed (destination_tests s v dst) → Ready dst
      destination dst passed = (free-slot (slot s v dst) passed.0, leb-false NUMBERS (row s v).next_number passed.1.0)

      held-step : (o : Option Capability) (f : Capability → Step) → ((c : Capability) → o ≡ Some c → Keeps (f c)) → Keeps (with_held o f s)
      held-step o f each = option-keeps Keeps f o (answer NoCap s) each (is, replied-now)

      passes : (test : Object → Bool) (o : Option Capability) (c : Capability) → o ≡ Some c → (b : Bool) → object_passes test o ≡ b → test c.object ≡ b
      passes test o c held b at = sym (ap (object_passes test) held) ∙ at

      -- The three asking calls.
      ask_made-sound : (dst : ℕ) (target : Target) → IsSelector dst → Ready dst → IsValidTarget target → IsTargetNamed T target →
          kernel_of T (target_vpe target) < T.kernels → Keeps (ask_made T i v dst target s)
      ask_made-sound dst target selector ready target_valid target_named kernel =
          let n : ℕ = (row s v).next_number in
          let place : PlaceName = next_place T s v in
          let w : ℕ = target_vpe target in
          let promising : Side = promised v dst (drawn v s) in
          let waiting : Side = parked_as v (ObtainWait place.number dst) promising in
          let at = own-declared T valid v (subst (λ k. k < T.kernels) (sym local) few) in
          let vpe = local-place T valid i few v local in
          let below = ready.1 in
          let draws = drawn-sound T valid i few None None None s v local is ready.1 in
          let promises = promised-sound T valid i few (Some (v, n)) None None (drawn v s) v local dst draws (drawn-slot s v dst ∙ ready.0) in
          let unparked' : parked promising v ≡ None = promised-parked (drawn v s) v dst ∙ (drawn-parked s v ∙ idle) in
          let waits : IsSound T i waiting = parked-taking T valid i few None None promising v local (Some (ObtainWait n dst))
          (λ q same. subst (IsSoundCall T i v) (same_Some (ObtainWait n dst) q same) selector) n dst promises
          (waits-not T i (Some (v, n)) (Some (v, dst)) None None promising promises v (λ j wait. absurd (clash j (sym unparked' ∙ wait))))
          (ap kept unparked') refl in
          let place_valid : IsValidPlace place = (at.1, omega (arith, vpe), omega (arith, below)) in
          cond_both (kernel_of T w == i) (asked w (ObtainAsk place target) waiting) (send (kernel_of T w) (ObtainReq place target) waiting) (λ t. IsSound T i t
          × Answered v s (unshown t))
          (λ here. (
            asked-sound T valid i few None None None None waiting waits w (eqb-true (kernel_of T w) i here) (ObtainAsk place target)
                ((place_valid, at.0), target_valid, target_named),
            parked-now (ObtainWait place.number dst),
          ))
          (λ remote. (
            send-sound T valid i few None None None None waiting waits (kernel_of T w) (ObtainReq place target) (
              (place_valid, target_valid),
              kernel,
              eqb-false (kernel_of T w) i remote,
            ),
            parked-now (ObtainWait place.number dst),
          ))
        where
          clash : (j : ℕ) → None ≡ Some (RevokeWait j) → ⊥
          clash j none = cc

      offer_made-sound : (w dst : ℕ) (p : Capability) (src : ℕ) → own s v src ≡ Some p → stays_at_home p.object ≡ false → IsSelector dst →
          is_declared T w ≡ true → Keeps (offer_made T i v w dst p s)
      offer_made-sound w dst p src held away selector declared =
          let there = own-among v src p held in
          let sound = is.caps p there.0 in
          let waiting : Side = parked_as v (DelegateWait p.key) s in
          let other = declared-vpe T valid w declared in
          let waits : IsSound T i waiting = reparked-sound T valid i few s is v local None idle (λ j none. absurd cc) (Some (DelegateWait p.key))
          (λ q same. subst (IsSoundCall T i v) (same_Some (DelegateWait p.key) q same) (there.1, sound.own)) refl in
          let gives = subst IsDelegable (sym sound.kind) (delegable p.object away) in
          cond_both (kernel_of T w == i) (asked w (DelegateAsk p.key p.object dst) waiting) (send (kernel_of T w) (DelegateReq p.key p.object w dst) waiting)
          (λ t. IsSound T i t × Answered v s (unshown t))
          (λ here. (
            asked-sound T valid i few None None None None waiting waits w (eqb-true (kernel_of T w) i here) (DelegateAsk p.key p.object dst)
                (sound.own.0, sound.object, sound.kind, gives, selector),
            parked-now (DelegateWait p.key),
          ))
          (λ remote. (
            send-sound T valid i few None None None None waiting waits (kernel_of T w) (DelegateReq p.key p.object w dst)
                ((sound.own.0.0, sound.object.0, sound.kind, gives, other.1, selector), other.0, eqb-false (kernel_of T w) i remote),
            parked-now (DelegateWait p.key),
          ))

      session-target : (session : ℕ) (k : KeyName) → option_and_then (λ c. session_service c.object) (own s v session) ≡ Some k →
          IsServiceKey k × (is_declared_at T k.pe k.vpe ≡ true)
      session-target session k at = from (own s v session) refl at
        where
          of_object : (o : Object) → IsSoundObject T o → session_service o ≡ Some k → IsServiceKey k × (is_declared_at T k.pe k.vpe ≡ true)
          of_object (Mem base len rights) sound none = absurd cc
          of_object (Recv slots) sound none = absurd cc
          of_object (Send gate label credits) sound none = absurd cc
          of_object (Serv name) sound none = absurd cc
          of_object (Sess service ident) sound some = subst (λ q. IsServiceKey q × (is_declared_at T q.pe q.vpe ≡ true)) (same_Some service k some)
              ((sound.0.0, sound.0.1), sound.1.1)

          from : (o : Option Capability) → own s v session ≡ o → option_and_then (λ c. session_service c.object) o ≡ Some k →
              IsServiceKey k × (is_declared_at T k.pe k.vpe ≡ true)
          from None held none = absurd cc
          from (Some c) held some = of_object c.object (is.caps c (own-among v session c held).0).object some

      -- an endpoint whose ring changed is bound to what it was
      ring-sound : (ep : ℕ) (f : List ℕ → List ℕ) → IsSound T i (with_endpoint v ep (ring_changed f (endpoint s v ep)) s)
      ring-sound ep f = endpoint-sound T valid i few None None None None s is v local ep (ring_changed f (endpoint s v ep)) (from (endpoint s v ep) refl)
        where
          from : (o : Option Endpoint) → endpoint s v ep ≡ o → (x : Endpoint) → ring_changed f o ≡ Some x → IsSoundEndpoint T i v x
          from None at x none = absurd cc
          from (Some b) at x some = let e = is.endpoints v ep b at in
              subst (IsSoundEndpoint T i v) (same_Some (record b { ring = f b.ring }) x some) (record {
                own = e.own;
                vpe = e.vpe;
                kind = e.kind;
                object = e.object;
                bindable = e.bindable;
              })

      pub call_row-sound : ids_owed s + 1 ≤ ids_paid s → (c : Call) → IsValidCall (most_vpes T.version) c → IsSound T i (call_row T i s v c).side
          × Answered v s (call_row T i s v c)
      unfolding call_row
      call_row-sound pays (Derive src dst off len rights) valid_call =
          unless-passed Keeps (derive_tests s v src dst off len rights) _ _ (λ code. (is, replied-now)) (λ passed. held-step (own s v src) _ (λ p held.
          let there = own-among v src p held in
          let sound = is.caps p there.0 in
          let ready = destination dst passed.1.1.1.1 in
          let mem = passes (is_of MemKind) (own s v src) p held true (not-false (object_passes (is_of MemKind) (own s v src)) passed.1.1.0) in
          let narrow = passes (is_wider off len rights) (own s v src) p held false passed.1.1.1.0 in (
            child-sound s is v local ready.1 dst valid_call.1 ready.0 (narrowed off len rights p.object)
                (narrowed-sound T off len rights p.object sound.object mem narrow valid_call.2 valid_call.3 valid_call.4) p.key sound.own.0
                (object_kind (narrowed off len rights p.object)) refl,
            replied-now,
          )))
      call_row-sound pays (Gate src dst label credits) valid_call = unless-passed Keeps (gate_tests s v src dst credits) _ _ (λ code. (is, replied-now))
          (λ passed. held-step (own s v src) _ (λ p held.
          let there = own-among v src p held in
          let sound = is.caps p there.0 in
          let ready = destination dst passed.1.1.1.1 in
          let recv = passes (is_of RecvKind) (own s v src) p held true (not-false (object_passes (is_of RecvKind) (own s v src)) passed.1.1.0) in (
            child-sound s is v local ready.1 dst valid_call.1 ready.0 (Send p.key label credits) (
              (
                sound.own.0.0,
                sound.kind
                    ∙ recv-kind p.object recv,
                valid_call.2,
                valid_call.3,
                valid_call.4,
              ),
              sound.own.0,
            ) p.key sound.own.0 (object_kind (Send p.key label credits))
                refl,
            replied-now,
          )))
      call_row-sound pays (Obtain dst w src) valid_call = unless-passed Keeps (obtain_tests T i s v dst w) _ _ (λ code. (is, replied-now)) (λ passed.
          let declared = declared-vpe T valid w (not-false (is_declared T w) passed.1.0) in
          ask_made-sound dst (SelTarget w src) valid_call.0 (destination dst passed.1.1.1) (declared.1, valid_call.2) tt declared.0)
      call_row-sound pays (Delegate src w dst) valid_call = unless-passed Keeps (delegate_tests T i s v src w) _ _ (λ code. (is, replied-now))
          (λ passed. held-step (own s v src) _ (λ p held.
          offer_made-sound w dst p src held (passes stays_at_home (own s v src) p held false passed.1.1.1.1.0) valid_call.2
          (not-false (is_declared T w) passed.1.0)))
      call_row-sound pays (OpenSession dst name) valid_call = unless-passed Keeps (open_tests T i s v dst name) _ _ (λ code. (is, replied-now))
          (λ passed. option-keeps Keeps (λ (x : Service). ask_made T i v dst (ServTarget x.key) s) (service_named T name) (answer NoService s) (λ x there.
          let named = service-named T valid x (found (λ (y : Service). y.name == name) T.services x there).0 in
          ask_made-sound dst (ServTarget x.key) valid_call.0 (destination dst passed.1.1.1) named.0 (
            named.0.0,
            named.1,
          ) (subst (λ k. k < T.kernels) (sym (declared-kernel T x.key.pe x.key.vpe named.1)) (declared-below T valid x.key.pe x.key.vpe named.1)))
          (is, replied-now))
      call_row-sound pays (AskOffer dst session index) valid_call = unless-passed Keeps (offer_tests T i s v dst session) _ _ (λ code. (is, replied-now))
          (λ passed. option-keeps Keeps (λ (k : KeyName). ask_made T i v dst (OfferTarget k index) s)
          (option_and_then (λ c. session_service c.object) (own s v session)) (answer BadKind s) (λ k there.
          let named = session-target session k there in
          ask_made-sound dst (OfferTarget k index) valid_call.0 (destination dst passed.1.1.1.1) (named.0, valid_call.2) (
            named.0.0,
            named.1,
          ) (subst (λ q. q < T.kernels) (sym (declared-kernel T k.pe k.vpe named.1)) (declared-below T valid k.pe k.vpe named.1))) (is, replied-now))
      call_row-sound pays (Revoke src) valid_call =
          held-step (own s v src) _ (λ c held. let begun = begun-sound T valid i few s is v local idle c.key c.mark c (own-among v src c held).2 refl in
          (begun.0, (begun.1, let most = one-most (parked (revoke_begun T i v c.key c.mark s) v) in omega (arith, most))))
      call_row-sound pays (Bind ep src) valid_call = unless-passed Keeps (bind_tests s v src) _ _ (λ code. (is, replied-now))
          (λ passed. held-step (own s v src) _ (λ c held.
          let there = own-among v src c held in
          let sound = is.caps c there.0 in
          let bound : Endpoint = record { key = c.key; object = c.object; ring = [] } in (
            endpoint-sound T valid i few None None None None s is v local ep (Some bound)
                (λ x same. subst (IsSoundEndpoint T i v) (same_Some bound x same) (record {
                  own = sound.own;
                  vpe = there.1;
                  kind = sound.kind;
                  object = sound.object;
                  bindable = passes stays_at_home (own s v src) c held false passed.1.1.0;
                })),
            replied-now,
          )))
      call_row-sound pays (Read ep off len) valid_call = unless-keeps Keeps (memory_tests 1 off len (endpoint s v ep)) _ _ (λ code. (is, replied-now)) (
        is,
        replied-now,
      )
      call_row-sound pays (Write ep off len) valid_call = unless-keeps Keeps (memory_tests 2 off len (endpoint s v ep)) _ _ (λ code. (is, replied-now)) (
        is,
        replied-now,
      )
      call_row-sound pays (SendCall ep len) valid_call = unless-keeps Keeps (send_tests (endpoint s v ep)) _ _ (λ code. (is, replied-now))
          (ring-sound ep (rung len), replied-now)
      call_row-sound pays (Credit ep) valid_call = unless-keeps Keeps (credit_tests (endpoint s v ep)) _ _ (λ code. (is, replied-now)) (
        ring-sound ep credited,
        replied-now,
      )
      call_row-sound pays (Clear src) valid_call = unless-passed Keeps (own_tests (own s v src)) _ _ (λ code. (is, replied-now))
          (λ passed. held-step (own s v src) _ (λ c held. let begun = cleared-sound T valid i few s is pays v local idle c.key c (own-among v src c held).2
          (unmarked-own (own s v src) c held passed.1.0) in
          (begun.0, (begun.1, let most = one-most (parked (clear_begun T i v c.key s) v) in omega (arith, most)))))
      call_row-sound pays Exit valid_call =
          let ends = ended-sound T valid i few s is v local in
          let unparks = unparked-but s (ended T i v s) v ends.1 in
          (ends.0, (unparks.0, let none = unparks.1 in omega (arith, none)))
