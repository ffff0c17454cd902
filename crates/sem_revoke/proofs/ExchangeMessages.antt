-- A message of an exchange that is handled becomes another token of it, or its call waits no more.
use Rattle.std.proofs.Common.{◌≡◌, ℕ, ◌+◌, ◌≤◌, ◌<◌, Bool, true, false, not, ◌&&◌, ◌||◌, Option, Some, None, length, refl, sym, ap, ◌∙◌, inl, inr, arith}
use Rattle.std.specs.Prelude.{◌==◌}
use Rattle.std.proofs.lemmas.Bool.{cases_Bool, cond_both, and_parts, eqb-true, not-true, true≢false}
use Rattle.sem_key.specs.declared.object.Object.{Object}
use Rattle.sem_key.specs.KeyName.{KeyName, key_eq}
use Rattle.sem_key.specs.PlaceName.{PlaceName}
use Rattle.sem_key.proofs.KeyTests.{key_eq-true}
use Rattle.sem_msg.specs.declared.limits.TheConstants.{ASKS}
use Rattle.sem_msg.specs.declared.code.Code.TheVariants.{Dead}
use Rattle.sem_msg.specs.declared.message.Message.{Message}
use Rattle.sem_msg.specs.declared.message.Message.TheVariants.{ObtainReq, ObtainOk, ObtainNo, DelegateReq, DelegatePrepared, DelegateNo, Ack, Orphan, RevokeReq}
use Rattle.sem_msg.specs.declared.message.Message.TheVariants.{RevokeDone, Unlink}
use Rattle.sem_msg.specs.declared.message.Target.{Target}
use Rattle.sem_msg.specs.declared.state.Ask.TheVariants.{Obtain as ObtainAsk, Delegate as DelegateAsk}
use Rattle.sem_msg.specs.declared.state.Parked.{Parked}
use Rattle.sem_msg.specs.declared.state.Parked.TheVariants.{ObtainWait, ObtainReady, ObtainCancelled, DelegateWait, DelegateReady, RevokeWait, Ready}
use Rattle.sem_msg.specs.declared.state.Pending.{Pending}
use Rattle.sem_msg.specs.declared.state.Slot.TheVariants.{Free}
use Rattle.sem_msg.specs.Setup.{Setup}
use Rattle.sem_msg.specs.Lookups.{kernel_of, owner_of}
use Rattle.sem_machine.specs.Sides.{Side, row, cap, parked, pending, is_alive, parked_as, asked, unlinked, send, with_inbox, pending_removed}
use Rattle.sem_machine.specs.Asks.{target_vpe, is_obtain_wait, is_delegate_wait, call_refused, ask_refused}
use Rattle.sem_machine.specs.Handles.{is_key_declared, is_place_declared, is_object_declared, is_here, lives_without, is_stray, obtain_ready, acknowledged}
use Rattle.sem_machine.specs.Handles.{handle_row, handled}
use Rattle.sem_machine.proofs.Folds.{option-keeps}
use Rattle.sem_revoke.specs.Exchanges.{Exchange, waiter, is_waiting, of_ask, of_message}
use Rattle.sem_revoke.specs.Exchanges.Exchange.{Obtaining, Delegating}
use Rattle.sem_revoke.proofs.Addressed.{is_misaddressed}
use Rattle.sem_revoke.proofs.Exchanges.{Home, of_side', Loose, Kept, kept-less, kept-slot, kept-park, kept-send, kept-asked, kept-refused, loose-refused}
use Rattle.sem_revoke.proofs.Exchanges.{kept-ask_refused, steady, cancelled-waits, obtained-waits, granting-waits, cases_some}
use Rattle.sem_revoke.proofs.ExchangeRows.{req-obtain, req-delegate, kept-installed}
use Rattle.sem_revoke.proofs.Steady.{requested-steady, done-steady}
use Rattle.sem_revoke.proofs.Viewing.{one-more}
use Rattle.sem_revoke.proofs.Waits.{parked-here}

-- what is left of a list of tests that fail
skip5 : (a b c d e w : Bool) → (a || (b || (c || (d || e)))) ≡ false → (a || (b || (c || (d || (e || w))))) ≡ w
skip5 false false false false false w none = refl
skip5 true b c d e w none = absurd cc
skip5 false true c d e w none = absurd cc
skip5 false false true d e w none = absurd cc
skip5 false false false true e w none = absurd cc
skip5 false false false false true w none = absurd cc

pub skip4 : (a b c d w : Bool) → (a || (b || (c || d))) ≡ false → (a || (b || (c || (d || w)))) ≡ w
skip4 false false false false w none = refl
skip4 true b c d w none = absurd cc
skip4 false true c d w none = absurd cc
skip4 false false true d w none = absurd cc
skip4 false false false true w none = absurd cc

pub skip2 : (a b w : Bool) → (a || b) ≡ false → (a || (b || w)) ≡ w
skip2 false false w none = refl
skip2 true b w none = absurd cc
skip2 false true w none = absurd cc

-- where such tests fail, the VPE is of the kernel
fourth5 : (a b c d e : Bool) → (a || (b || (c || (not d || e)))) ≡ false → d ≡ true
fourth5 false false false true e none = refl
fourth5 true b c d e none = absurd cc
fourth5 false true c d e none = absurd cc
fourth5 false false true d e none = absurd cc
fourth5 false false false false e none = absurd cc

pub third4 : (a b c d : Bool) → (a || (b || (not c || d))) ≡ false → c ≡ true
third4 false false true d none = refl
third4 true b c d none = absurd cc
third4 false true c d none = absurd cc
third4 false false false d none = absurd cc

pub second2 : (a b : Bool) → (a || not b) ≡ false → b ≡ true
second2 false true none = refl
second2 true b none = absurd cc
second2 false false none = absurd cc

-- a message that counts is for the VPE that waits, and it waits for it
ok-waiter : (x : Exchange) (parent key : KeyName) (object : Object) → 1 ≤ of_message x (ObtainOk parent key object) →
    (key.vpe ≡ waiter x) × ((p : Option Parked) → is_waiting x p ≡ is_obtain_wait key.number p)
ok-waiter (Obtaining v n) parent key object some = let parts =
    and_parts (key.vpe == v) (key.number == n) (one-more ((key.vpe == v) && (key.number == n)) some) in
    (eqb-true key.vpe v parts.0, λ p. ap (λ m. is_obtain_wait m p) (sym (eqb-true key.number n parts.1)))
ok-waiter (Delegating q) parent key object some = absurd (omega (arith, some))

no-waiter : (x : Exchange) (place : PlaceName) (code : ℕ) → 1 ≤ of_message x (ObtainNo place code) →
    (place.vpe ≡ waiter x) × ((p : Option Parked) → is_waiting x p ≡ is_obtain_wait place.number p)
no-waiter (Obtaining v n) place code some = let parts =
    and_parts (place.vpe == v) (place.number == n) (one-more ((place.vpe == v) && (place.number == n)) some) in
    (eqb-true place.vpe v parts.0, λ p. ap (λ m. is_obtain_wait m p) (sym (eqb-true place.number n parts.1)))
no-waiter (Delegating q) place code some = absurd (omega (arith, some))

prepared-waiter : (x : Exchange) (parent key : KeyName) → 1 ≤ of_message x (DelegatePrepared parent key) →
    (parent.vpe ≡ waiter x) × ((p : Option Parked) → is_waiting x p ≡ is_delegate_wait parent p)
prepared-waiter (Obtaining v n) parent key some = absurd (omega (arith, some))
prepared-waiter (Delegating q) parent key some = let same = key_eq-true parent q (one-more (key_eq parent q) some) in
    (ap (λ (k : KeyName). k.vpe) same, λ p. ap (λ k. is_delegate_wait k p) (sym same))

no-giver : (x : Exchange) (parent : KeyName) (code : ℕ) → 1 ≤ of_message x (DelegateNo parent code) →
    (parent.vpe ≡ waiter x) × ((p : Option Parked) → is_waiting x p ≡ is_delegate_wait parent p)
no-giver (Obtaining v n) parent code some = absurd (omega (arith, some))
no-giver (Delegating q) parent code some = let same = key_eq-true parent q (one-more (key_eq parent q) some) in
    (ap (λ (k : KeyName). k.vpe) same, λ p. ap (λ k. is_delegate_wait k p) (sym same))

-- the others count for no exchange
ack-none : (x : Exchange) (key : KeyName) (accepted : Bool) → of_message x (Ack key accepted) ≡ 0
ack-none (Obtaining v n) key accepted = refl
ack-none (Delegating q) key accepted = refl

orphan-none : (x : Exchange) (parent key : KeyName) → of_message x (Orphan parent key) ≡ 0
orphan-none (Obtaining v n) parent key = refl
orphan-none (Delegating q) parent key = refl

unlink-none : (x : Exchange) (parent key : KeyName) → of_message x (Unlink parent key) ≡ 0
unlink-none (Obtaining v n) parent key = refl
unlink-none (Delegating q) parent key = refl

request-none : (x : Exchange) (key : KeyName) (j : ℕ) → of_message x (RevokeReq key j) ≡ 0
request-none (Obtaining v n) key j = refl
request-none (Delegating q) key j = refl

done-none : (x : Exchange) (j : ℕ) → of_message x (RevokeDone j) ≡ 0
done-none (Obtaining v n) j = refl
done-none (Delegating q) j = refl

-- s0 is the side before the step, which is handled with an empty inbox
module _ (x : Exchange) (T : Setup) (i : ℕ) (s0 : Side) (living : Home x T i s0 → is_waiting x (parked s0 (waiter x)) ≡ true →
    (row s0 (waiter x)).alive ≡ true) where
  abbrev v : ℕ
  v = waiter x

  abbrev u : Side
  u = with_inbox None s0

  abbrev m : ℕ
  m = of_side' x T i s0 u

  abbrev K : ℕ → Side → Type 0
  K k t = Kept x T i s0 k t

  base : K m u
  base = inr (omega arith, λ home. inl (refl, refl))

  -- nothing counts
  uncounted : (k : ℕ) (t : Side) → k ≡ 0 → K m t → K (m + k) t
  uncounted k t none is = kept-less x T i s0 m (m + k) t (omega (arith, none)) is

  -- a dead VPE does not wait
  dead-idle : (w : ℕ) → w ≡ v → kernel_of T w ≡ i → is_alive s0 w ≡ false → Loose x T i s0 u
  dead-idle w who at dead =
      let home : Home x T i s0 = ap (kernel_of T) (sym who) ∙ at in
      elim (cases_Bool (is_waiting x (parked s0 v))) [
        | inl waits ↦ absurd (true≢false (sym (living home waits) ∙ (ap (is_alive s0) (sym who) ∙ dead)))
        | inr idle ↦ (home, idle)
      ]

  -- nor does one that lives without
  stray-idle : (w : ℕ) (test : Option Parked → Bool) → w ≡ v → kernel_of T w ≡ i → ((p : Option Parked) → is_waiting x p ≡ test p) →
      lives_without test u w ≡ true → Loose x T i s0 u
  stray-idle w test who at same without = (
    ap (kernel_of T) (sym who) ∙ at,
    same (parked s0 v)
        ∙ (ap (λ n. test (parked s0 n)) (sym who) ∙ not-true (test (parked s0 w)) (and_parts (is_alive s0 w) (not (test (parked s0 w))) without).1),
  )

  ready-kept : (parent key : KeyName) (object : Object) → kernel_of T key.vpe ≡ i →
      K (m + of_message x (ObtainOk parent key object)) (obtain_ready parent key object (parked u key.vpe) u)
  ready-kept parent key object at = elim (cases_some (of_message x (ObtainOk parent key object))) [
    | inl none ↦ uncounted (of_message x (ObtainOk parent key object)) (obtain_ready parent key object (parked u key.vpe) u) none (by (parked u key.vpe))
    | inr some ↦ (let w = ok-waiter x parent key object some in inl (loose (parked u key.vpe) refl w.0 (ap (kernel_of T) (sym w.0) ∙ at) w.1))
  ]
    where
      by : (p : Option Parked) → K m (obtain_ready parent key object p u)
      by (Some (ObtainWait number sel)) = kept-park x T i s0 m u key.vpe (Some (ObtainReady key parent object sel))
          (λ who home. obtained-waits x key parent object sel) base
      by None = base
      by (Some (ObtainReady key' parent' object' sel)) = base
      by (Some ObtainCancelled) = base
      by (Some (DelegateWait parent')) = base
      by (Some (DelegateReady parent' key')) = base
      by (Some (RevokeWait j)) = base
      by (Some (Ready code)) = base

      loose : (p : Option Parked) → parked u key.vpe ≡ p → key.vpe ≡ v → Home x T i s0 → ((q : Option Parked) → is_waiting x q ≡ is_obtain_wait key.number q) →
          Loose x T i s0 (obtain_ready parent key object p u)
      loose (Some (ObtainWait number sel)) there who home same = (
        home,
        ap (λ n. is_waiting x (parked (obtain_ready parent key object (Some (ObtainWait number sel)) u) n)) (sym who)
            ∙ (ap (is_waiting x) (parked-here u key.vpe (Some (ObtainReady key parent object sel))) ∙ obtained-waits x key parent object sel),
      )
      loose None there who home same = (home, ap (λ n. is_waiting x (parked u n)) (sym who) ∙ (ap (is_waiting x) there ∙ same None))
      loose (Some (ObtainReady key' parent' object' sel)) there who home same = (
        home,
        ap (λ n. is_waiting x (parked u n)) (sym who)
            ∙ (ap (is_waiting x) there ∙ same (Some (ObtainReady key' parent' object' sel))),
      )
      loose (Some ObtainCancelled) there who home same = (
        home,
        ap (λ n. is_waiting x (parked u n)) (sym who)
            ∙ (ap (is_waiting x) there ∙ same (Some ObtainCancelled)),
      )
      loose (Some (DelegateWait parent')) there who home same = (
        home,
        ap (λ n. is_waiting x (parked u n)) (sym who)
            ∙ (ap (is_waiting x) there ∙ same (Some (DelegateWait parent'))),
      )
      loose (Some (DelegateReady parent' key')) there who home same = (
        home,
        ap (λ n. is_waiting x (parked u n)) (sym who)
            ∙ (ap (is_waiting x) there ∙ same (Some (DelegateReady parent' key'))),
      )
      loose (Some (RevokeWait j)) there who home same = (
        home,
        ap (λ n. is_waiting x (parked u n)) (sym who)
            ∙ (ap (is_waiting x) there ∙ same (Some (RevokeWait j))),
      )
      loose (Some (Ready code)) there who home same = (
        home,
        ap (λ n. is_waiting x (parked u n)) (sym who)
            ∙ (ap (is_waiting x) there ∙ same (Some (Ready code))),
      )

  sent : (j : ℕ) (q : Message) (t : Side) → K m t → K m (send j q t)
  sent j q t is = kept-less x T i s0 (m + of_message x q) m (send j q t) (omega arith) (kept-send x T i s0 m t j q is)

  acks : (key : KeyName) (accepted : Bool) (p : Pending) → K m (acknowledged T key accepted u p)
  acks key true p = cond_both (is_alive u key.vpe) _ _ (K m) (λ _. kept-installed x T i s0 m (pending_removed key u) key (Some p.parent) p.sel p.object base)
      (λ _. sent (owner_of T p.parent) (Orphan p.parent key) (pending_removed key u) base)
  acks key false p = kept-slot x T i s0 m (pending_removed key u) key.vpe p.sel Free base

  pub handled-kept : (from : ℕ) (q : Message) → is_misaddressed T i q ≡ false → ((place : PlaceName) (target : Target) → q ≡ ObtainReq place target → (w : ℕ) →
      length (row s0 w).asks < ASKS) → ((parent : KeyName) (object : Object) (vpe sel : ℕ) → q ≡ DelegateReq parent object vpe sel → (w : ℕ) →
      length (row s0 w).asks < ASKS) → K (m + of_message x q) (handled T i u from q)
  unfolding handle_row
  handled-kept from (ObtainReq place target) right room room' =
      let q : Message = ObtainReq place target in
      let same = req-obtain x place target in
      cond_both (is_stray T i u q) u _ (K (m + of_message x q)) (λ stray. absurd (true≢false (sym stray ∙ right)))
      (λ _. cond_both (is_alive u (target_vpe target)) _ _ (K (m + of_message x q))
      (λ _. kept-less x T i s0 (m + of_ask x (ObtainAsk place target)) (m + of_message x q) (asked (target_vpe target) (ObtainAsk place target) u)
      (omega (arith, same)) (kept-asked x T i s0 m u (target_vpe target) (ObtainAsk place target) (room place target refl (target_vpe target)) base))
      (λ _. kept-less x T i s0 (m + of_ask x (ObtainAsk place target)) (m + of_message x q) (ask_refused T i Dead (ObtainAsk place target) u)
      (omega (arith, same)) (kept-ask_refused x T i s0 m Dead (ObtainAsk place target) u base)))
  handled-kept from (DelegateReq parent object vpe sel) right room room' =
      let q : Message = DelegateReq parent object vpe sel in
      let same = req-delegate x parent object vpe sel in
      cond_both (is_stray T i u q) u _ (K (m + of_message x q)) (λ stray. absurd (true≢false (sym stray ∙ right)))
      (λ _. cond_both (is_alive u vpe) _ _ (K (m + of_message x q))
      (λ _. kept-less x T i s0 (m + of_ask x (DelegateAsk parent object sel)) (m + of_message x q) (asked vpe (DelegateAsk parent object sel) u)
      (omega (arith, same)) (kept-asked x T i s0 m u vpe (DelegateAsk parent object sel) (room' parent object vpe sel refl vpe) base))
      (λ _. kept-less x T i s0 (m + of_ask x (DelegateAsk parent object sel)) (m + of_message x q) (ask_refused T i Dead (DelegateAsk parent object sel) u)
      (omega (arith, same)) (kept-ask_refused x T i s0 m Dead (DelegateAsk parent object sel) u base)))
  handled-kept from (ObtainOk parent key object) right room room' =
      let q : Message = ObtainOk parent key object in
      let at : kernel_of T key.vpe ≡ i =
      eqb-true (kernel_of T key.vpe) i (fourth5 (not (is_key_declared T parent)) (not (is_key_declared T key)) (not (is_object_declared T object))
      (is_here T i key.vpe) (is_here T i parent.vpe) right) in
      let stray-is = skip5 (not (is_key_declared T parent)) (not (is_key_declared T key)) (not (is_object_declared T object)) (not (is_here T i key.vpe))
      (is_here T i parent.vpe) (lives_without (is_obtain_wait key.number) u key.vpe) right in
      cond_both (is_stray T i u q) u _ (K (m + of_message x q))
      (λ stray. elim (cases_some (of_message x q)) [
        | inl none ↦ uncounted (of_message x q) u none base
        | inr some ↦ (let w = ok-waiter x parent key object some in inl (stray-idle key.vpe (is_obtain_wait key.number) w.0 at w.1 (sym stray-is ∙ stray)))
      ])
      (λ _. cond_both (is_alive u key.vpe) _ _ (K (m + of_message x q)) (λ _. ready-kept parent key object at)
      (λ dead. elim (cases_some (of_message x q)) [
        | inl none ↦ uncounted (of_message x q) (send (owner_of T parent) (Orphan parent key) u) none
            (sent (owner_of T parent) (Orphan parent key) u base)
        | inr some ↦ (let w = ok-waiter x parent key object some in inl (dead-idle key.vpe w.0 at dead))
      ]))
  handled-kept from (ObtainNo place code) right room room' =
      let q : Message = ObtainNo place code in
      let at : kernel_of T place.vpe ≡ i = eqb-true (kernel_of T place.vpe) i (second2 (not (is_place_declared T place)) (is_here T i place.vpe) right) in
      let stray-is = skip2 (not (is_place_declared T place)) (not (is_here T i place.vpe)) (lives_without (is_obtain_wait place.number) u place.vpe) right in
      cond_both (is_stray T i u q) u _ (K (m + of_message x q))
      (λ stray. elim (cases_some (of_message x q)) [
        | inl none ↦ uncounted (of_message x q) u none base
        | inr some ↦ (let w = no-waiter x place code some in inl (stray-idle place.vpe (is_obtain_wait place.number) w.0 at w.1 (sym stray-is ∙ stray)))
      ])
      (λ _. cond_both (is_alive u place.vpe) _ _ (K (m + of_message x q))
      (λ _. elim (cases_some (of_message x q)) [
        | inl none ↦ uncounted (of_message x q) (call_refused code place.vpe u) none
            (kept-refused x T i s0 m code place.vpe u base)
        | inr some ↦ (let w = no-waiter x place code some in inl (loose-refused x T i s0 code place.vpe u w.0 (ap (kernel_of T) (sym w.0) ∙ at)))
      ])
      (λ dead. elim (cases_some (of_message x q)) [
        | inl none ↦ uncounted (of_message x q) u none base
        | inr some ↦ (let w = no-waiter x place code some in inl (dead-idle place.vpe w.0 at dead))
      ]))
  handled-kept from (DelegatePrepared parent key) right room room' =
      let q : Message = DelegatePrepared parent key in
      let at : kernel_of T parent.vpe ≡ i =
      eqb-true (kernel_of T parent.vpe) i (third4 (not (is_key_declared T parent)) (not (is_key_declared T key)) (is_here T i parent.vpe)
      (is_here T i key.vpe) right) in
      let stray-is = skip4 (not (is_key_declared T parent)) (not (is_key_declared T key)) (not (is_here T i parent.vpe)) (is_here T i key.vpe)
      (lives_without (is_delegate_wait parent) u parent.vpe) right in
      let ready : Side = parked_as parent.vpe (DelegateReady parent key) u in
      cond_both (is_stray T i u q) u _ (K (m + of_message x q))
      (λ stray. elim (cases_some (of_message x q)) [
        | inl none ↦ uncounted (of_message x q) u none base
        | inr some ↦ (let w = prepared-waiter x parent key some in inl (stray-idle parent.vpe (is_delegate_wait parent) w.0 at w.1 (sym stray-is ∙ stray)))
      ])
      (λ _. cond_both (is_alive u parent.vpe) _ _ (K (m + of_message x q))
      (λ _. elim (cases_some (of_message x q)) [
        | inl none ↦ uncounted (of_message x q) ready none
            (kept-park x T i s0 m u parent.vpe (Some (DelegateReady parent key)) (λ who home. granting-waits x parent key) base)
        | inr some ↦ (let w = prepared-waiter x parent key some in inl (
          ap (kernel_of T) (sym w.0) ∙ at,
          ap (λ n. is_waiting x (parked ready n)) (sym w.0)
              ∙ (ap (is_waiting x) (parked-here u parent.vpe (Some (DelegateReady parent key))) ∙ granting-waits x parent key),
        ))
      ])
      (λ dead. elim (cases_some (of_message x q)) [
        | inl none ↦ uncounted (of_message x q) (send (owner_of T key) (Ack key false) u) none
            (sent (owner_of T key) (Ack key false) u base)
        | inr some ↦ (let w = prepared-waiter x parent key some in inl (dead-idle parent.vpe w.0 at dead))
      ]))
  handled-kept from (DelegateNo parent code) right room room' =
      let q : Message = DelegateNo parent code in
      let at : kernel_of T parent.vpe ≡ i = eqb-true (kernel_of T parent.vpe) i (second2 (not (is_key_declared T parent)) (is_here T i parent.vpe) right) in
      let stray-is = skip2 (not (is_key_declared T parent)) (not (is_here T i parent.vpe)) (lives_without (is_delegate_wait parent) u parent.vpe) right in
      cond_both (is_stray T i u q) u _ (K (m + of_message x q))
      (λ stray. elim (cases_some (of_message x q)) [
        | inl none ↦ uncounted (of_message x q) u none base
        | inr some ↦ (let w = no-giver x parent code some in inl (stray-idle parent.vpe (is_delegate_wait parent) w.0 at w.1 (sym stray-is ∙ stray)))
      ])
      (λ _. cond_both (is_alive u parent.vpe) _ _ (K (m + of_message x q))
      (λ _. elim (cases_some (of_message x q)) [
        | inl none ↦ uncounted (of_message x q) (call_refused code parent.vpe u) none
            (kept-refused x T i s0 m code parent.vpe u base)
        | inr some ↦ (let w = no-giver x parent code some in inl (loose-refused x T i s0 code parent.vpe u w.0 (ap (kernel_of T) (sym w.0) ∙ at)))
      ])
      (λ dead. elim (cases_some (of_message x q)) [
        | inl none ↦ uncounted (of_message x q) u none base
        | inr some ↦ (let w = no-giver x parent code some in inl (dead-idle parent.vpe w.0 at dead))
      ]))
  handled-kept from (Ack key accepted) right room room' =
      uncounted (of_message x (Ack key accepted)) (handled T i u from (Ack key accepted)) (ack-none x key accepted)
      (cond_both (is_stray T i u (Ack key accepted)) u _ (K m) (λ _. base) (λ _. option-keeps (K m) (acknowledged T key accepted u) (pending u key) u
      (λ p there. acks key accepted p) base))
  handled-kept from (Orphan parent key) right room room' = uncounted (of_message x (Orphan parent key)) (unlinked parent key u) (orphan-none x parent key) base
  handled-kept from (Unlink parent key) right room room' = uncounted (of_message x (Unlink parent key)) (unlinked parent key u) (unlink-none x parent key) base
  handled-kept from (RevokeReq key j) right room room' =
      uncounted (of_message x (RevokeReq key j)) (handled T i u from (RevokeReq key j)) (request-none x key j)
      (requested-steady (K m) (steady x T i s0 m) T i from j key (cap u key) u (λ t ready same is. kept-park x T i s0 m t key.vpe (Some ObtainCancelled)
      (λ who home. cancelled-waits x) is) base)
  handled-kept from (RevokeDone j) right room room' = uncounted (of_message x (RevokeDone j)) (handled T i u from (RevokeDone j)) (done-none x j)
      (done-steady (K m) (steady x T i s0 m) T i j u base)
