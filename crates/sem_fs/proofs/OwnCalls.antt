-- What a call does to its own VPE, where its tests pass.
use Rattle.std.proofs.Common.{◌≡◌, ◌⊎◌, ℕ, ◌+◌, false, [], ◌∷◌, Option, Some, None, refl, sym, ap, ◌∙◌, subst, inl, inr}
use Rattle.std.specs.Prelude.{◌==◌}
use Rattle.std.specs.List.{Contains}
use Rattle.std.specs.Option.{option_map_or, option_and_then}
use Rattle.std.proofs.lemmas.Bool.{cond_both}
use Rattle.sem_key.specs.KeyName.{KeyName}
use Rattle.sem_key.specs.PlaceName.{PlaceName}
use Rattle.sem_key.specs.Lists.{put}
use Rattle.sem_key.specs.Capability.{Capability}
use Rattle.sem_key.proofs.Puts.{get_or-put_same}
use Rattle.sem_msg.specs.declared.call.Call.{Call}
use Rattle.sem_msg.specs.declared.call.Call.TheVariants.{Derive, Gate, Obtain, Delegate, OpenSession, AskOffer, Revoke, Bind, Read as ReadCall}
use Rattle.sem_msg.specs.declared.call.Call.TheVariants.{Write as WriteCall, Send as SendCall, Credit, Exit, Clear}
use Rattle.sem_msg.specs.declared.code.Code.TheVariants.{Ok as OkCode, NoService, BadKind}
use Rattle.sem_msg.specs.declared.message.Message.TheVariants.{ObtainReq, DelegateReq}
use Rattle.sem_msg.specs.declared.message.Target.{Target}
use Rattle.sem_msg.specs.declared.message.Target.TheVariants.{Serv as ServTarget, Offer as OfferTarget}
use Rattle.sem_msg.specs.declared.setup.Service.{Service}
use Rattle.sem_msg.specs.declared.state.Ask.TheVariants.{Obtain as ObtainAsk, Delegate as DelegateAsk}
use Rattle.sem_msg.specs.declared.state.Parked.{Parked}
use Rattle.sem_msg.specs.declared.state.Parked.TheVariants.{ObtainWait, DelegateWait, RevokeWait, Ready}
use Rattle.sem_msg.specs.declared.state.Slot.TheVariants.{Free, Promised}
use Rattle.sem_msg.specs.Rows.{JobRow, VpeRow, no_vpe}
use Rattle.sem_msg.specs.Setup.{Setup}
use Rattle.sem_msg.specs.Lookups.{kernel_of, service_named}
use Rattle.sem_msg.specs.Uses.{memory_tests}
use Rattle.sem_machine.specs.Sides.{Side, row, own, parked, endpoint, call_counted, drawn, promised, parked_as, with_endpoint}
use Rattle.sem_machine.specs.Sound.{IsSound}
use Rattle.sem_machine.specs.Steps.{Step, unshown, answer, cutting}
use Rattle.sem_machine.specs.Asks.{target_vpe}
use Rattle.sem_machine.specs.Calls.{call_row, next_place, ask_made, offer_made, open_tests, offer_tests, delegate_tests, bind_tests, session_service, with_held}
use Rattle.sem_machine.specs.Revokes.{revoke_begun}
use Rattle.sem_revoke.proofs.Waits.{parked-here}
use Rattle.sem_files.specs.Compiled.{service_key}
use Rattle.sem_fs.proofs.ServedSteps.{passed-done, CallPasses}
use Rattle.sem_fs.proofs.Still.{Still, still-asked, still-send, still-begin}

-- how the call is parked, if it is; t is the side before the call, with the call counted
abbrev pub ParksAs : Side → ℕ → Call → Option Parked → Type 0
ParksAs t v (OpenSession dst name) p = (number : ℕ) × (p ≡ Some (ObtainWait number dst)) × (number ≡ (row t v).next_number)
ParksAs t v (AskOffer dst session index) p = (number : ℕ) × (p ≡ Some (ObtainWait number dst)) × (number ≡ (row t v).next_number)
ParksAs t v (Delegate src w dst) p = (c : Capability) × (own t v src ≡ Some c) × (p ≡ Some (DelegateWait c.key))
ParksAs t v (Revoke src) p = ((j : ℕ) × (p ≡ Some (RevokeWait j))) ⊎ (p ≡ Some (Ready 0))
ParksAs t v c p = p ≡ None

module _ (T : Setup) (i v : ℕ) (s : Side) (sound : IsSound T i s) (none : parked s v ≡ None) where
  abbrev pub counted : Side
  counted = call_counted v s

  abbrev n : ℕ
  n = (row counted v).next_call

  -- the call of v is parked so
  abbrev As : Option Parked → Side → Type 0
  As q t = Still v q n t

  unwaited : (q : Option Parked) (x : JobRow) → Contains s.jobs x → Contains x.waiters v → (j : ℕ) × (q ≡ Some (RevokeWait j))
  unwaited q x among waits = let no' : None ≡ Some (RevokeWait x.id) = sym none ∙ sound.waiters x v among (λ gone. absurd cc) waits in absurd cc

  -- from a side with the jobs of s
  begins : (p : Parked) (t : Side) → t.jobs ≡ s.jobs → (row t v).next_call ≡ n → As (Some p) (parked_as v p t)
  begins p t jobs calls = record {
    park = inl (parked-here t v (Some p));
    idle = λ x among waits. unwaited (Some p) x (subst (λ js. Contains js x) jobs among) waits;
    calls = calls;
  }

  abbrev Goes : Call → Step → Type 0
  Goes c x = ((row x.side v).next_call ≡ n) × ParksAs counted v c (parked x.side v)

  parked-of : (q : Option Parked) (t : Side) → As q t → ((j : ℕ) → q ≡ Some (RevokeWait j) → ⊥) → parked t v ≡ q
  parked-of q t S other = elim S.park [ inl same ↦ same | inr (ready, (j, is)) ↦ absurd (other j is) ]

  stays-none : As None counted
  stays-none = record { park = inl none; idle = unwaited None; calls = refl }

  -- the call asks
  ask-goes : (dst : ℕ) (target : Target) → ((row (ask_made T i v dst target counted).side v).next_call ≡ n)
      × ((number : ℕ) × (parked (ask_made T i v dst target counted).side v ≡ Some (ObtainWait number dst)) × (number ≡ (row counted v).next_number))
  ask-goes dst target =
      (all.calls, (place.number, parked-of (Some (ObtainWait place.number dst)) (ask_made T i v dst target counted).side all (λ j no'. absurd cc), refl))
    where
      place : PlaceName
      place = next_place T (call_counted v s) v

      promising : Side
      promising = promised v dst (drawn v (call_counted v s))

      counts : (row (promised v dst (drawn v (call_counted v s))) v).next_call ≡ (row (call_counted v s) v).next_call
      counts =
          let one : Side = drawn v (call_counted v s) in
          ap (λ (r : VpeRow). r.next_call) (get_or-put_same no_vpe one.vpes v (record (row one v) { slots = put Free (row one v).slots dst Promised }))
          ∙ ap (λ (r : VpeRow). r.next_call)
          (get_or-put_same no_vpe (call_counted v s).vpes v (record (row (call_counted v s) v) { next_number = (row (call_counted v s) v).next_number + 1 }))

      waiting : As (Some (ObtainWait (next_place T (call_counted v s) v).number dst))
          (parked_as v (ObtainWait (next_place T (call_counted v s) v).number dst) (promised v dst (drawn v (call_counted v s))))
      waiting = begins (ObtainWait place.number dst) promising refl counts

      all : As (Some (ObtainWait (next_place T (call_counted v s) v).number dst)) (ask_made T i v dst target (call_counted v s)).side
      all = cond_both (kernel_of T (target_vpe target) == i) _ _ (As (Some (ObtainWait place.number dst)))
          (λ _. still-asked v (Some (ObtainWait place.number dst)) n (parked_as v (ObtainWait place.number dst) promising) waiting (target_vpe target)
          (ObtainAsk place target))
          (λ _. still-send v (Some (ObtainWait place.number dst)) n (kernel_of T (target_vpe target)) (ObtainReq place target)
          (parked_as v (ObtainWait place.number dst) promising) waiting)

  offer-goes : (src w dst : ℕ) (p : Capability) → own counted v src ≡ Some p → Goes (Delegate src w dst) (offer_made T i v w dst p counted)
  offer-goes src w dst p held = (all.calls, (p, held, parked-of (Some (DelegateWait p.key)) (offer_made T i v w dst p counted).side all (λ j no'. absurd cc)))
    where
      waiting : As (Some (DelegateWait p.key)) (parked_as v (DelegateWait p.key) (call_counted v s))
      waiting = begins (DelegateWait p.key) (call_counted v s) refl refl

      all : As (Some (DelegateWait p.key)) (offer_made T i v w dst p (call_counted v s)).side
      all = cond_both (kernel_of T w == i) _ _ (As (Some (DelegateWait p.key)))
          (λ _. still-asked v (Some (DelegateWait p.key)) n (parked_as v (DelegateWait p.key) (call_counted v s)) waiting w (DelegateAsk p.key p.object dst))
          (λ _. still-send v (Some (DelegateWait p.key)) n (kernel_of T w) (DelegateReq p.key p.object w dst)
          (parked_as v (DelegateWait p.key) (call_counted v s))
          waiting)

  revoke-goes : (src : ℕ) (k : KeyName) (m : Option ℕ) → ((row (revoke_begun T i v k m counted) v).next_call ≡ n)
      × ParksAs counted v (Revoke src) (parked (revoke_begun T i v k m counted) v)
  revoke-goes src k None =
      let j : ℕ = counted.next_job in
      let all : As (Some (RevokeWait j)) (revoke_begun T i v k None counted) =
      still-begin v (Some (RevokeWait j)) n T i k None (v ∷ []) false (parked_as v (RevokeWait j) counted) (λ _. (j, refl))
      (begins (RevokeWait j) counted refl refl) in
      (all.calls, elim all.park [ inl same ↦ inl (j, same) | inr (ready, (j', is)) ↦ inr ready ])
  revoke-goes src k (Some j) =
      let waits : As (Some (RevokeWait j)) (parked_as v (RevokeWait j) counted) = begins (RevokeWait j) counted refl refl in
      (waits.calls, elim waits.park [ inl same ↦ inl (j, same) | inr (ready, (j', is)) ↦ inr ready ])

  pub own-goes : (c : Call) → CallPasses T i counted v c → Goes c (call_row T i counted v c)
  unfolding call_row
  own-goes (OpenSession dst name) (passed, (x, named, key)) =
      let done : Step = ask_made T i v dst (ServTarget x.key) counted in
      let one = passed-done (open_tests T i counted v dst name) (λ code. answer code counted)
      (option_map_or (λ (y : Service). ask_made T i v dst (ServTarget y.key) counted) (service_named T name) (answer NoService counted)) passed in
      let two : option_map_or (λ (y : Service). ask_made T i v dst (ServTarget y.key) counted) (service_named T name) (answer NoService counted) ≡ done =
      ap (λ o. option_map_or (λ (y : Service). ask_made T i v dst (ServTarget y.key) counted) o (answer NoService counted)) named in
      subst (Goes (OpenSession dst name)) (sym (one ∙ two)) (ask-goes dst (ServTarget x.key))
  own-goes (AskOffer dst session index) (passed, so, (c, held, serves)) =
      let f : KeyName → Step = λ k. ask_made T i v dst (OfferTarget k index) counted in
      let one = passed-done (offer_tests T i counted v dst session) (λ code. answer code counted)
      (option_map_or f (option_and_then (λ (y : Capability). session_service y.object) (own counted v session)) (answer BadKind counted)) passed in
      let two : option_map_or f (option_and_then (λ (y : Capability). session_service y.object) (own counted v session)) (answer BadKind counted)
      ≡ f service_key =
      ap (λ o. option_map_or f (option_and_then (λ (y : Capability). session_service y.object) o) (answer BadKind counted)) held
      ∙ ap (λ o. option_map_or f o (answer BadKind counted)) serves in
      subst (Goes (AskOffer dst session index)) (sym (one ∙ two)) (ask-goes dst (OfferTarget service_key index))
  own-goes (Delegate src w dst) (passed, far, (c, held)) =
      let f : Capability → Step = λ p. offer_made T i v w dst p counted in
      let one = passed-done (delegate_tests T i counted v src w) (λ code. answer code counted) (with_held (own counted v src) f counted) passed in
      let two : with_held (own counted v src) f counted ≡ f c = ap (λ o. with_held o f counted) held in
      subst (Goes (Delegate src w dst)) (sym (one ∙ two)) (offer-goes src w dst c held)
  own-goes (Revoke src) (c, held) =
      let f : Capability → Step = λ y. cutting y.key (unshown (revoke_begun T i v y.key y.mark counted)) in
      let two : with_held (own counted v src) f counted ≡ f c = ap (λ o. with_held o f counted) held in
      subst (Goes (Revoke src)) (sym two) (revoke-goes src c.key c.mark)
  own-goes (Bind ep src) (passed, (c, held)) =
      let f : Capability → Step = λ y. answer OkCode (with_endpoint v ep (Some (record { key = y.key; object = y.object; ring = [] })) counted) in
      let one = passed-done (bind_tests counted v src) (λ code. answer code counted) (with_held (own counted v src) f counted) passed in
      let two : with_held (own counted v src) f counted ≡ f c = ap (λ o. with_held o f counted) held in
      subst (Goes (Bind ep src)) (sym (one ∙ two)) (refl, none)
  own-goes (ReadCall ep off len) passed = subst (Goes (ReadCall ep off len))
      (sym (passed-done (memory_tests 1 off len (endpoint counted v ep)) (λ code. answer code counted) (answer OkCode counted) passed)) (refl, none)
  own-goes (WriteCall ep off len) passed = subst (Goes (WriteCall ep off len))
      (sym (passed-done (memory_tests 2 off len (endpoint counted v ep)) (λ code. answer code counted) (answer OkCode counted) passed)) (refl, none)
  own-goes (Derive src dst off len rights) passed = absurd passed
  own-goes (Gate src dst label credits) passed = absurd passed
  own-goes (Obtain dst w src) passed = absurd passed
  own-goes (SendCall ep len) passed = absurd passed
  own-goes (Credit ep) passed = absurd passed
  own-goes Exit passed = absurd passed
  own-goes (Clear src) passed = absurd passed
