-- No row makes more of what is claimed of a client.
use Rattle.std.proofs.Common.{◌≡◌, ℕ, zero, suc, ◌+◌, ◌≤◌, ◌<◌, Bool, true, false, List, [], ◌∷◌, drop, filter, length, get_or, Option, Some, None, slice_get}
use Rattle.std.proofs.Common.{refl, sym, ap, ◌∙◌, subst, inl, inr, arith, eq-eqb}
use Rattle.std.specs.Prelude.{◌==◌, ◌&&◌, if◌then◌else◌}
use Rattle.std.specs.List.{Contains, sum_by}
use Rattle.std.proofs.lemmas.Bool.{cases_eq, cases_Bool, cond_both, cond-true, cond-false, ne_eqb}
use Rattle.std.proofs.lemmas.Option.{same_Some}
use Rattle.sem_key.specs.declared.limits.TheConstants.{VPES}
use Rattle.sem_key.specs.declared.object.Object.{Object}
use Rattle.sem_key.specs.KeyName.{KeyName, key_eq}
use Rattle.sem_key.specs.PlaceName.{PlaceName, keyed}
use Rattle.sem_key.specs.Lists.{put}
use Rattle.sem_key.specs.Capability.{Capability}
use Rattle.sem_key.specs.CapList.{fresh}
use Rattle.sem_key.proofs.KeyTests.{key_eq-true}
use Rattle.sem_key.proofs.Members.{found}
use Rattle.sem_key.proofs.Puts.{get_or-put_same, get_or-put_other}
use Rattle.sem_msg.specs.declared.call.Call.{Call}
use Rattle.sem_msg.specs.declared.call.Call.TheVariants.{Derive, Gate, Obtain, Delegate, OpenSession, AskOffer, Revoke, Bind, Read as ReadCall}
use Rattle.sem_msg.specs.declared.call.Call.TheVariants.{Write as WriteCall, Send as SendCall, Credit, Exit, Clear}
use Rattle.sem_msg.specs.declared.code.Code.{Code}
use Rattle.sem_msg.specs.declared.code.Code.TheVariants.{NoCap, NoService, BadKind, Dead}
use Rattle.sem_msg.specs.Codes.{code_number}
use Rattle.sem_msg.specs.declared.message.Message.{Message}
use Rattle.sem_msg.specs.declared.message.Message.TheVariants.{ObtainReq, ObtainOk, ObtainNo, DelegateReq, DelegatePrepared, DelegateNo, Ack, Orphan, RevokeReq}
use Rattle.sem_msg.specs.declared.message.Message.TheVariants.{RevokeDone, Unlink}
use Rattle.sem_msg.specs.declared.message.Target.{Target}
use Rattle.sem_msg.specs.declared.message.Target.TheVariants.{Serv as ServTarget, Offer as OfferTarget}
use Rattle.sem_msg.specs.declared.setup.Service.{Service}
use Rattle.sem_msg.specs.declared.state.Ask.{Ask}
use Rattle.sem_msg.specs.declared.state.Ask.TheVariants.{Obtain as ObtainAsk, Delegate as DelegateAsk}
use Rattle.sem_msg.specs.declared.state.Parked.{Parked}
use Rattle.sem_msg.specs.declared.state.Parked.TheVariants.{ObtainWait, ObtainReady, ObtainCancelled, DelegateWait, DelegateReady, RevokeWait, Ready}
use Rattle.sem_msg.specs.declared.state.Pending.{Pending}
use Rattle.sem_msg.specs.declared.state.Slot.{Slot}
use Rattle.sem_msg.specs.declared.state.Slot.TheVariants.{Free, Held, Promised}
use Rattle.sem_msg.specs.Rows.{VpeRow, no_vpe}
use Rattle.sem_msg.specs.Setup.{Setup}
use Rattle.sem_msg.specs.Lookups.{calls_of, kernel_of, owner_of, place_owner, service_named}
use Rattle.sem_msg.specs.Uses.{memory_tests}
use Rattle.sem_machine.specs.Sides.{Side, row, slot, own, cap, parked, endpoint, is_alive, call_counted, drawn, promised, parked_as, unparked, with_slot, asked}
use Rattle.sem_machine.specs.Sides.{ask_taken, linked, installed, cap_added, pending_added, pending_removed, send}
use Rattle.sem_machine.specs.Sound.{IsSound, bit, kept, keeps_selector, is_promised}
use Rattle.sem_machine.specs.Steps.{Step, unshown, answer}
use Rattle.sem_machine.specs.Asks.{target_vpe, asker, promise_freed, call_refused, refusal_sent, ask_refused}
use Rattle.sem_machine.specs.Calls.{call_row, next_place, next_key, ask_made, offer_made, open_tests, offer_tests, delegate_tests, bind_tests, with_held}
use Rattle.sem_machine.specs.Upcalls.{given, given_kind, given_here, child_given, delegate_here, delegate_prepared, ask_decided, upcall_row}
use Rattle.sem_machine.specs.Handles.{handled, acknowledged, obtain_ready}
use Rattle.sem_machine.specs.Resumes.{delegate_granted, delegate_resumed, resumed, resume_row}
use Rattle.sem_machine.proofs.FirstCodes.{unless-keeps}
use Rattle.sem_machine.proofs.Folds.{option-keeps}
use Rattle.sem_machine.proofs.Weighing.{weigh-among}
use Rattle.sem_safety.proofs.Skeleton.{decided-by, handled-by}
use Rattle.sem_revoke.proofs.Growing.{is_plain}
use Rattle.sem_revoke.proofs.Steady.{IsSteady, revoked-steady, requested-steady, done-steady}
use Rattle.sem_fs.specs.Service.{GIVEN, gives_where, MayComeNext, is_ask}
use Rattle.sem_files.specs.Compiled.{SESSION}
use Rattle.sem_fs.specs.Serving.{IsServedAsk, IsServedSide}
use Rattle.sem_fs.proofs.ServedSteps.{ask-among}
use Rattle.sem_fs.proofs.Claims.{IsClaim, of_message, of_messages, of_inbox, of_side, of_rows, of_row, of_ask, taken, remaining, sum_to-less, drawn-le, slot-le}
use Rattle.sem_fs.proofs.Claims.{takes-le, asked-le, taken-le, send-le}

-- a call that is made is no longer left
pub counts-one : (p : Call → Bool) (cs : List Call) (n : ℕ) (c : Call) → slice_get cs n ≡ Some c
    → length (filter p (drop (suc n) cs)) + bit (p c) ≡ length (filter p (drop n cs))
counts-one p [] n c none = absurd cc
counts-one p (x ∷ cs) zero c at = let same : x ≡ c = same_Some x c at in
    subst (λ y. length (filter p cs) + bit (p y) ≡ length (filter p (x ∷ cs))) same (first (p x) (filter p cs))
  where
    first : (b : Bool) (ys : List Call) → length ys + bit b ≡ length (if b then x ∷ ys else ys)
    first true ys = omega arith
    first false ys = omega arith
counts-one p (x ∷ cs) (suc n) c at = counts-one p cs n c at

no-pay : (b : Bool) → ◌≡◌ {A = ℕ} (if b then 0 else 0) 0
no-pay true = refl
no-pay false = refl

-- what one uses is promised
promised-once : (x : Slot) → 1 ≤ is_promised x → x ≡ Promised
promised-once Free less = absurd (omega (arith, less))
promised-once (Held q) less = absurd (omega (arith, less))
promised-once Promised less = refl

pub bit-true : (b : Bool) → b ≡ true → bit b ≡ 1
bit-true true so = refl
bit-true false so = absurd cc

-- what a parked call keeps is promised
kept-promised : (T : Setup) (i : ℕ) (t : Side) → IsSound T i t → (v number sel : ℕ) → kept (parked t v) ≡ Some (number, sel) → slot t v sel ≡ Promised
kept-promised T i t sound v number sel at =
    let most = sound.promises v sel in
    let one : keeps_selector sel (kept (parked t v)) ≡ 1 = ap (keeps_selector sel) at ∙ bit-true (sel == sel) (eq-eqb sel sel refl) in
    promised-once (slot t v sel)
    (more (keeps_selector sel (kept (parked t v))) (sum_by (λ (p : Pending). bit ((p.key.vpe == v) && (p.sel == sel))) t.pendings)
    (is_promised (slot t v sel)) most
    one)
  where
    more : (a b c : ℕ) → a + b + 0 ≤ c → a ≡ 1 → 1 ≤ c
    more a b c most one = omega (arith, most, one)

-- and what a pending delegation keeps
pub pending-promised : (T : Setup) (i : ℕ) (t : Side) → IsSound T i t → (p : Pending) → Contains t.pendings p → slot t p.key.vpe p.sel ≡ Promised
pending-promised T i t sound p among =
    let most = sound.promises p.key.vpe p.sel in
    let uses : Pending → ℕ = λ x. bit ((x.key.vpe == p.key.vpe) && (x.sel == p.sel)) in
    let one : uses p ≡ 1 = bit-true ((p.key.vpe == p.key.vpe) && (p.sel == p.sel))
    (ap (λ b. b && (p.sel == p.sel)) (eq-eqb p.key.vpe p.key.vpe refl) ∙ eq-eqb p.sel p.sel refl) in
    promised-once (slot t p.key.vpe p.sel)
    (more (keeps_selector p.sel (kept (parked t p.key.vpe))) (sum_by uses t.pendings) (is_promised (slot t p.key.vpe p.sel)) (uses p) most one
    (weigh-among uses t.pendings p among))
  where
    more : (a b c x : ℕ) → a + b + 0 ≤ c → x ≡ 1 → x ≤ b → 1 ≤ c
    more a b c x most one less = omega (arith, most, one, less)

module _ (T : Setup) (w0 : ℕ) (m : ℕ → Bool) (k : ℕ) (h : VpeRow → ℕ) (C : IsClaim T w0 m k h) where
  abbrev pub weight : Side → ℕ
  weight t = of_side T w0 m k h t

  abbrev pub pay : ℕ → ℕ → ℕ
  pay w x = if w == w0 then x else 0

  -- the lemmas on small changes, without what is zero
  drawn-so : (t : Side) (w : ℕ) → weight (drawn w t) ≤ weight t + pay w k
  drawn-so t w = let x = drawn-le T w0 m k h C t w in let z = no-pay (w == w0) in omega (arith, x, z)

  slot-so : (t : Side) (w sel : ℕ) (x : Slot) → (w ≡ w0 → h (record (row t w) { slots = put Free (row t w).slots sel x }) ≤ h (row t w))
      → weight (with_slot w sel x t) ≤ weight t
  slot-so t w sel x fewer = let y = slot-le T w0 m k h C t w sel x fewer in let z = no-pay (w == w0) in omega (arith, y, z)

  freed-so : (t : Side) (w sel : ℕ) → weight (with_slot w sel Free t) ≤ weight t
  freed-so t w sel = slot-so t w sel Free (λ here. C.frees (row t w) sel)

  takes-so : (t : Side) (w sel : ℕ) (x : Slot) → GIVEN ≤ sel → weight (with_slot w sel x t) + pay w k ≤ weight t + pay w (bit (m sel))
  takes-so t w sel x far = takes-le T w0 m k h C t w sel x far

  asked-so : (t : Side) (w : ℕ) (a : Ask) → weight (asked w a t) ≤ weight t + pay w (of_ask T w0 m k h a)
  asked-so t w a = let x = asked-le T w0 m k h C t w a in let z = no-pay (w == w0) in omega (arith, x, z)

  taken-so : (t : Side) (w : ℕ) (a : Ask) → slice_get (row t w).asks 0 ≡ Some a → weight (ask_taken w t) + pay w (of_ask T w0 m k h a) ≤ weight t
  taken-so t w a head = let x = taken-le T w0 m k h C t w a head in let z = no-pay (w == w0) in omega (arith, x, z)

  send-so : (t : Side) (j : ℕ) (q : Message) → weight (send j q t) ≡ weight t + of_message T w0 m k h q
  send-so t j q = send-le T w0 m k h C t j q

  -- what is no more than a number
  abbrev pub Below : ℕ → Side → Type 0
  Below n t = weight t ≤ n

  plain-none : (q : Message) → is_plain q ≡ false → of_message T w0 m k h q ≡ 0
  plain-none (Orphan parent key) is = refl
  plain-none (RevokeReq key job) is = refl
  plain-none (RevokeDone job) is = refl
  plain-none (Unlink parent key) is = refl
  plain-none (ObtainReq place target) is = absurd cc
  plain-none (ObtainOk parent key object) is = absurd cc
  plain-none (ObtainNo place code) is = absurd cc
  plain-none (DelegateReq parent object vpe sel) is = absurd cc
  plain-none (DelegatePrepared parent key) is = absurd cc
  plain-none (DelegateNo parent code) is = absurd cc
  plain-none (Ack key accepted) is = absurd cc

  steady : (n : ℕ) → IsSteady (Below n)
  steady n = record {
    caps = λ s cs thin is. is;
    restores = λ s t x was among keeps is. is;
    bound = λ s es is. is;
    jobs = λ s js less is. is;
    opens = λ s root up ws is. is;
    frees = λ s v sel is. let f = freed-so s v sel in omega (arith, is, f);
    wakes = λ s v is. is;
    sends = λ s j q loud is. let e = send-so s j q in let z = plain-none q loud in omega (arith, is, e, z);
  }

  -- A call is counted.
  pub counted-so : (s : Side) (u : ℕ) (c : Call) → u < VPES → (row s u).alive ≡ true → slice_get (calls_of T u) (row s u).next_call ≡ Some c
      → weight (call_counted u s) + (bit (gives_where w0 m c) + pay u (if is_ask c then k else 0)) ≤ weight s
  counted-so s u c low alive next = whole (of_rows T w0 m k h t) (of_rows T w0 m k h s) (taken T w0 m k h (row t w0)) (taken T w0 m k h (row s w0))
      (sum_by (of_messages T w0 m k h) s.outs + of_inbox T w0 m k h s.inbox) (bit (gives_where w0 m c)) (pay u (if is_ask c then k else 0)) rows mine
    where
      t : Side
      t = call_counted u s

      whole : (a a' b b' c x y : ℕ) → a + x ≤ a' → b + y ≤ b' → (a + (b + c)) + (x + y) ≤ a' + (b' + c)
      whole a a' b b' c x y one two = omega (arith, one, two)

      rows : of_rows T w0 m k h (call_counted u s) + bit (gives_where w0 m c) ≤ of_rows T w0 m k h s
      rows = sum_to-less VPES (λ v. of_row T w0 m k h v (row (call_counted u s) v)) (λ v. of_row T w0 m k h v (row s v)) u (bit (gives_where w0 m c)) low
          (λ v other. ap (of_row T w0 m k h v) (get_or-put_other no_vpe s.vpes u v (record (row s u) { next_call = (row s u).next_call + 1 }) other)) here
        where
          here : of_row T w0 m k h u (row (call_counted u s) u) + bit (gives_where w0 m c) ≤ of_row T w0 m k h u (row s u)
          here =
              let n : ℕ = (row s u).next_call in
              let at : row (call_counted u s) u ≡ record (row s u) { next_call = n + 1 } =
              get_or-put_same no_vpe s.vpes u (record (row s u) { next_call = n + 1 }) in
              let now : of_row T w0 m k h u (row (call_counted u s) u) ≡ remaining T w0 m k h u (row s u).alive (n + 1) = ap (of_row T w0 m k h u) at in
              let next' : n + 1 ≡ suc n = omega arith in
              let one : remaining T w0 m k h u (row s u).alive (n + 1) ≡ length (filter (gives_where w0 m) (drop (suc n) (calls_of T u))) =
              ap (λ a. remaining T w0 m k h u a (n + 1)) alive ∙ ap (λ j. length (filter (gives_where w0 m) (drop j (calls_of T u)))) next' in
              let two : of_row T w0 m k h u (row s u) ≡ length (filter (gives_where w0 m) (drop n (calls_of T u))) =
              ap (λ a. remaining T w0 m k h u a n) alive in
              let less = counts-one (gives_where w0 m) (calls_of T u) n c next in
              sums (of_row T w0 m k h u (row (call_counted u s) u)) (remaining T w0 m k h u (row s u).alive (n + 1))
              (length (filter (gives_where w0 m) (drop (suc n) (calls_of T u)))) (of_row T w0 m k h u (row s u))
              (length (filter (gives_where w0 m) (drop n (calls_of T u)))) (bit (gives_where w0 m c)) now one two less
            where
              sums : (a b c' d e x : ℕ) → a ≡ b → b ≡ c' → d ≡ e → c' + x ≡ e → a + x ≤ d
              sums a b c' d e x one two three four = omega (arith, one, two, three, four)

      mine : taken T w0 m k h (row (call_counted u s) w0) + pay u (if is_ask c then k else 0) ≤ taken T w0 m k h (row s w0)
      mine = elim (cases_eq u w0) [
        | inl same ↦
            let r : VpeRow = record (row s u) { next_call = (row s u).next_call + 1 } in
            let at : row (call_counted u s) w0 ≡ r = ap (λ w. row (call_counted u s) w) (sym same) ∙ get_or-put_same no_vpe s.vpes u r in
            let now : taken T w0 m k h (row (call_counted u s) w0) ≡ taken T w0 m k h r = ap (taken T w0 m k h) at in
            let old : taken T w0 m k h (row s u) ≡ taken T w0 m k h (row s w0) = ap (λ w. taken T w0 m k h (row s w)) same in
            let pays : pay u (if is_ask c then k else 0) ≡ (if is_ask c then k else 0) = cond-true (u == w0) (if is_ask c then k else 0) 0 (eq-eqb u w0 same) in
            let less : h r + (if is_ask c then k else 0) ≤ h (row s u) = elim (cases_Bool (is_ask c)) [
              | inl asks ↦ subst (λ n. h r + n ≤ h (row s u)) (sym (cond-true (is_ask c) k 0 asks))
                  (C.counts_ask (row s u) c alive (ap (λ w. slice_get (calls_of T w) (row s u).next_call) (sym same) ∙ next) asks)
              | inr not_ ↦ subst (λ n. h r + n ≤ h (row s u)) (sym (cond-false (is_ask c) k 0 not_)) (let x = C.counts (row s u) in omega (arith, x))
            ] in
            sums (taken T w0 m k h (row (call_counted u s) w0)) (h r) (h (row s u)) (sum_by (of_ask T w0 m k h) (row s u).asks) (taken T w0 m k h (row s w0))
            (pay u (if is_ask c then k else 0)) (if is_ask c then k else 0) now old pays less
        | inr other ↦
            let now : taken T w0 m k h (row (call_counted u s) w0) ≡ taken T w0 m k h (row s w0) =
            ap (taken T w0 m k h) (get_or-put_other no_vpe s.vpes u w0 (record (row s u) { next_call = (row s u).next_call + 1 }) (λ same. other (sym same))) in
            let none : pay u (if is_ask c then k else 0) ≡ 0 = cond-false (u == w0) (if is_ask c then k else 0) 0 (ne_eqb u w0 other) in
            last (taken T w0 m k h (row (call_counted u s) w0)) (taken T w0 m k h (row s w0)) (pay u (if is_ask c then k else 0)) now none
      ]
        where
          sums : (a b c' d e x y : ℕ) → a ≡ b + d → c' + d ≡ e → x ≡ y → b + y ≤ c' → a + x ≤ e
          sums a b c' d e x y one two three four = omega (arith, one, two, three, four)

          last : (a b x : ℕ) → a ≡ b → x ≡ 0 → a + x ≤ b
          last a b x one two = omega (arith, one, two)

  -- what is not added is no more
  at-most : (a b n : ℕ) → a + b ≤ n → a ≤ n
  at-most a b n room = omega (arith, room)

  session-near : (dst : ℕ) → dst ≡ SESSION → dst < GIVEN
  session-near dst is = omega (arith, is)

  skip : (a b c n : ℕ) → a + (b + c) ≤ n → a + c ≤ n
  skip a b c n room = omega (arith, room)

  regroup : (a b c n : ℕ) → a + (b + c) ≤ n → (a + b) + c ≤ n
  regroup a b c n room = omega (arith, room)

  -- The call is done.
  abbrev pub On : ℕ → Step → Type 0
  On n x = Below n x.side

  pay-sum : (w : ℕ) (b : Bool) → bit ((w == w0) && b) ≡ pay w (bit b)
  pay-sum w b = from (w == w0)
    where
      from : (a : Bool) → bit (a && b) ≡ (if a then bit b else 0)
      from true = refl
      from false = refl

  ask-so : (n i u dst : ℕ) (target : Target) (t : Side) → dst < GIVEN → weight t + pay u k ≤ n → On n (ask_made T i u dst target t)
  ask-so n i u dst target t near room =
      let place : PlaceName = next_place T t u in
      let w : ℕ = target_vpe target in
      let waiting : Side = parked_as u (ObtainWait place.number dst) (promised u dst (drawn u t)) in
      let one = drawn-so t u in
      let two = slot-so (drawn u t) u dst Promised (λ here. C.promises (row (drawn u t) u) dst near) in
      let three : weight waiting ≡ weight (promised u dst (drawn u t)) = refl in
      let four : Below n waiting = sums (weight waiting) (weight (promised u dst (drawn u t))) (weight (drawn u t)) (weight t) (pay u k) n three two one room in
      cond_both (kernel_of T w == i) _ _ (Below n)
      (λ _. no-more (weight (asked w (ObtainAsk place target) waiting)) (weight waiting) (pay w 0) n (asked-so waiting w (ObtainAsk place target))
      (no-pay (w == w0))
      four)
      (λ _. no-more (weight (send (kernel_of T w) (ObtainReq place target) waiting)) (weight waiting) 0 n
      (same-less (weight (send (kernel_of T w) (ObtainReq place target) waiting)) (weight waiting + 0)
      (send-so waiting (kernel_of T w) (ObtainReq place target)))
      refl four)
    where
      sums : (a b c d p n' : ℕ) → a ≡ b → b ≤ c → c ≤ d + p → d + p ≤ n' → a ≤ n'
      sums a b c d p n' one two three four = omega (arith, one, two, three, four)

      no-more : (a b z n' : ℕ) → a ≤ b + z → z ≡ 0 → b ≤ n' → a ≤ n'
      no-more a b z n' one two three = omega (arith, one, two, three)

      same-less : (a b : ℕ) → a ≡ b → a ≤ b
      same-less a b same = omega (arith, same)

  offer-so : (n i u src w dst : ℕ) (p : Capability) (t : Side) → weight t + bit (gives_where w0 m (Delegate src w dst)) ≤ n → On n (offer_made T i u w dst p t)
  offer-so n i u src w dst p t room =
      let waiting : Side = parked_as u (DelegateWait p.key) t in
      let same : weight waiting ≡ weight t = refl in
      let pays = pay-sum w (m dst) in
      cond_both (kernel_of T w == i) _ _ (Below n)
      (λ _. asks (weight (asked w (DelegateAsk p.key p.object dst) waiting)) (weight waiting) (weight t) (pay w (bit (m dst)))
      (bit (gives_where w0 m (Delegate src w dst))) n (asked-so waiting w (DelegateAsk p.key p.object dst)) same pays room)
      (λ _. sends (weight (send (kernel_of T w) (DelegateReq p.key p.object w dst) waiting)) (weight waiting) (weight t)
      (bit (gives_where w0 m (Delegate src w dst))) n
      (send-so waiting (kernel_of T w) (DelegateReq p.key p.object w dst)) same room)
    where
      asks : (a b c p' d n' : ℕ) → a ≤ b + p' → b ≡ c → d ≡ p' → c + d ≤ n' → a ≤ n'
      asks a b c p' d n' one two three four = omega (arith, one, two, three, four)

      sends : (a b c d n' : ℕ) → a ≡ b + d → b ≡ c → c + d ≤ n' → a ≤ n'
      sends a b c d n' one two three = omega (arith, one, two, three)

  held-so : (n : ℕ) (o : Option Capability) (f : Capability → Step) (t : Side) → Below n t → ((c : Capability) → On n (f c)) → On n (with_held o f t)
  held-so n o f t is each = option-keeps (On n) f o (answer NoCap t) (λ c held. each c) is

  pub call-so : (n i u : ℕ) (before : List Call) (c : Call) (t : Side) → MayComeNext T u before c
      → weight t + (bit (gives_where w0 m c) + pay u (if is_ask c then k else 0)) ≤ n → On n (call_row T i t u c)
  unfolding call_row
  call-so n i u before (OpenSession dst name) t so room = let still = at-most (weight t)
      (bit (gives_where w0 m (OpenSession dst name)) + pay u (if is_ask (OpenSession dst name) then k else 0)) n room in
      unless-keeps (On n) (open_tests T i t u dst name) _ _ (λ code. still)
      (option-keeps (On n) (λ (y : Service). ask_made T i u dst (ServTarget y.key) t) (service_named T name) (answer NoService t)
      (λ y there. ask-so n i u dst (ServTarget y.key) t (session-near dst so.0)
      (skip (weight t) (bit (gives_where w0 m (OpenSession dst name))) (pay u k) n room))
      still)
  call-so n i u before (AskOffer dst session index) t so room = let still =
      at-most (weight t) (bit (gives_where w0 m (AskOffer dst session index)) + pay u (if is_ask (AskOffer dst session index) then k else 0)) n room in
      unless-keeps (On n) (offer_tests T i t u dst session) _ _ (λ code. still)
      (option-keeps (On n) (λ (q : KeyName). ask_made T i u dst (OfferTarget q index) t) _ (answer BadKind t)
      (λ q there. ask-so n i u dst (OfferTarget q index) t so.3 (skip (weight t) (bit (gives_where w0 m (AskOffer dst session index))) (pay u k) n room)) still)
  call-so n i u before (Delegate src w dst) t so room = let still = at-most (weight t)
      (bit (gives_where w0 m (Delegate src w dst)) + pay u (if is_ask (Delegate src w dst) then k else 0)) n room in
      unless-keeps (On n) (delegate_tests T i t u src w) _ _ (λ code. still)
      (held-so n (own t u src) _ t still
      (λ p. offer-so n i u src w dst p t
      (at-most (weight t + bit (gives_where w0 m (Delegate src w dst))) (pay u 0) n
      (regroup (weight t) (bit (gives_where w0 m (Delegate src w dst))) (pay u 0) n room))))
  call-so n i u before (Revoke src) t so room = let still =
      at-most (weight t) (bit (gives_where w0 m (Revoke src)) + pay u (if is_ask (Revoke src) then k else 0)) n
      room in held-so n (own t u src) _ t still (λ c. revoked-steady (Below n) (steady n) T i u c.key c.mark t (λ j. still))
  call-so n i u before (Bind ep src) t so room = let still =
      at-most (weight t) (bit (gives_where w0 m (Bind ep src)) + pay u (if is_ask (Bind ep src) then k else 0)) n
      room in unless-keeps (On n) (bind_tests t u src) _ _ (λ code. still) (held-so n (own t u src) _ t still (λ c. still))
  call-so n i u before (ReadCall ep off len) t so room = let still = at-most (weight t)
      (bit (gives_where w0 m (ReadCall ep off len)) + pay u (if is_ask (ReadCall ep off len) then k else 0)) n room in
      unless-keeps (On n) (memory_tests 1 off len (endpoint t u ep)) _ _ (λ code. still) still
  call-so n i u before (WriteCall ep off len) t so room = let still = at-most (weight t)
      (bit (gives_where w0 m (WriteCall ep off len)) + pay u (if is_ask (WriteCall ep off len) then k else 0)) n room in
      unless-keeps (On n) (memory_tests 2 off len (endpoint t u ep)) _ _ (λ code. still) still
  call-so n i u before (Derive src dst off len rights) t so room = absurd so
  call-so n i u before (Gate src dst label credits) t so room = absurd so
  call-so n i u before (Obtain dst w src) t so room = absurd so
  call-so n i u before (SendCall ep len) t so room = absurd so
  call-so n i u before (Credit ep) t so room = absurd so
  call-so n i u before Exit t so room = absurd so
  call-so n i u before (Clear src) t so room = absurd so

  -- A call waits no more, or what it was promised comes.
  after : (a b n : ℕ) → a ≤ b → b ≤ n → a ≤ n
  after a b n one two = omega (arith, one, two)

  quiet-so : (n : ℕ) (t : Side) (j : ℕ) (q : Message) → of_message T w0 m k h q ≡ 0 → Below n t → Below n (send j q t)
  quiet-so n t j q none is = sums (weight (send j q t)) (weight t) (of_message T w0 m k h q) n (send-so t j q) none is
    where
      sums : (a b x n' : ℕ) → a ≡ b + x → x ≡ 0 → b ≤ n' → a ≤ n'
      sums a b x n' one two three = omega (arith, one, two, three)

  installed-so : (n : ℕ) (q : KeyName) (parent : Option KeyName) (sel : ℕ) (object : Object) (t : Side) → slot t q.vpe sel ≡ Promised → Below n t
      → Below n (installed q parent sel object t)
  installed-so n q parent sel object t promise is =
      let added : Side = cap_added (fresh q parent sel object) t in
      after (weight (installed q parent sel object t)) (weight added) n (slot-so added q.vpe sel (Held q) (λ here. C.holds (row t q.vpe) sel q promise)) is

  freed-after : (n : ℕ) (t : Side) (v : ℕ) (o : Option Parked) → Below n t → Below n (promise_freed o v t)
  freed-after n t v (Some (ObtainWait number sel)) is = after (weight (with_slot v sel Free t)) (weight t) n (freed-so t v sel) is
  freed-after n t v None is = is
  freed-after n t v (Some (ObtainReady key parent object sel)) is = is
  freed-after n t v (Some ObtainCancelled) is = is
  freed-after n t v (Some (DelegateWait parent)) is = is
  freed-after n t v (Some (DelegateReady parent key)) is = is
  freed-after n t v (Some (RevokeWait j)) is = is
  freed-after n t v (Some (Ready code)) is = is

  refused-so : (n i : ℕ) (code : Code) (a : Ask) (t : Side) → Below n t → Below n (ask_refused T i code a t)
  refused-so n i code a t is = cond_both (kernel_of T (asker a) == i) (call_refused (code_number code) (asker a) t) (refusal_sent T code a t) (Below n)
      (λ _. freed-after n t (asker a) (parked t (asker a)) is) (λ _. sent' a)
    where
      sent' : (b : Ask) → Below n (refusal_sent T code b t)
      sent' (ObtainAsk place target) = quiet-so n t (place_owner T place) (ObtainNo place (code_number code)) refl is
      sent' (DelegateAsk parent object sel) = quiet-so n t (owner_of T parent) (DelegateNo parent (code_number code)) refl is

  -- what a call that waits was promised
  abbrev Promises : Side → Type 0
  Promises t = (v number sel : ℕ) → parked t v ≡ Some (ObtainWait number sel) → slot t v sel ≡ Promised

  given-so : (n i : ℕ) (place : PlaceName) (target : Target) (t : Side) (p : Capability) → Promises t → Below n t → On n (child_given T i place target t p)
  given-so n i place target t p kept' is =
      let q : KeyName = keyed place (given_kind target p) in
      let linking : Side = linked p.key q t in
      cond_both (kernel_of T place.vpe == i) _ _ (Below n) (λ _. here q linking (parked linking place.vpe) (λ number sel at. kept' place.vpe number sel at) is)
      (λ _. quiet-so n linking (place_owner T place) (ObtainOk p.key q (given target place.vpe p)) refl is)
    where
      here : (q : KeyName) (s : Side) (o : Option Parked) → ((number sel : ℕ) → o ≡ Some (ObtainWait number sel) → slot s q.vpe sel ≡ Promised) → Below n s
          → Below n (given_here q p.key (given target place.vpe p) o s)
      here q s (Some (ObtainWait number sel)) promise now = installed-so n q (Some p.key) sel (given target place.vpe p) s (promise number sel refl) now
      here q s None promise now = now
      here q s (Some (ObtainReady key parent object sel)) promise now = now
      here q s (Some ObtainCancelled) promise now = now
      here q s (Some (DelegateWait parent)) promise now = now
      here q s (Some (DelegateReady parent key)) promise now = now
      here q s (Some (RevokeWait j)) promise now = now
      here q s (Some (Ready code)) promise now = now

  -- a number is drawn, and a selector is taken that was claimed
  spent : (a b c x y n : ℕ) → a + x ≤ b + y → b ≤ c + x → c + y ≤ n → a ≤ n
  spent a b c x y n one two three = omega (arith, one, two, three)

  here-so : (n v : ℕ) (parent : KeyName) (object : Object) (sel : ℕ) (t : Side) → GIVEN ≤ sel → weight t + pay v (bit (m sel)) ≤ n
      → On n (delegate_here T v parent object sel t)
  here-so n v parent object sel t far room =
      let q : KeyName = next_key T t v parent.kind in
      let linking : Side = linked parent q (drawn v t) in
      let added : Side = cap_added (fresh q (Some parent) sel object) linking in
      spent (weight (installed q (Some parent) sel object linking)) (weight (drawn v t)) (weight t) (pay v k) (pay v (bit (m sel))) n
      (takes-so added v sel (Held q) far) (drawn-so t v) room

  prepared-so : (n v : ℕ) (parent : KeyName) (object : Object) (sel : ℕ) (t : Side) → GIVEN ≤ sel → weight t + pay v (bit (m sel)) ≤ n
      → On n (delegate_prepared T v parent object sel t)
  prepared-so n v parent object sel t far room =
      let q : KeyName = next_key T t v parent.kind in
      let promising : Side = promised v sel (drawn v t) in
      let preparing : Side = pending_added (record { key = q; parent = parent; object = object; sel = sel }) promising in
      quiet-so n preparing (owner_of T parent) (DelegatePrepared parent q) refl
      (spent (weight promising) (weight (drawn v t)) (weight t) (pay v k) (pay v (bit (m sel))) n (takes-so (drawn v t) v sel Promised far) (drawn-so t v) room)

  -- An upcall: what was claimed by the ask is taken.
  decided-so : (n i v : ℕ) (a : Ask) (t : Side) → IsServedAsk T v a → Promises t → weight t + pay v (of_ask T w0 m k h a) ≤ n → On n (ask_decided T i v a t)
  decided-so n i v a t so kept' room =
      let still : Below n t = at-most (weight t) (pay v (of_ask T w0 m k h a)) n room in
      decided-by (On n) (λ b x is. is) (λ b x is. is) (λ b x is. is) T i v a t (record {
        nothing = still;
        refused = λ code. refused-so n i code a t still;
        given = λ place target p same. given-so n i place target t p kept' still;
        here = λ parent object sel same. here-so n v parent object sel t (subst (IsServedAsk T v) same so)
            (subst (λ b. weight t + pay v (of_ask T w0 m k h b) ≤ n) same room);
        prepared = λ parent object sel same. prepared-so n v parent object sel t (subst (IsServedAsk T v) same so)
            (subst (λ b. weight t + pay v (of_ask T w0 m k h b) ≤ n) same room);
      })

  pub upcall-so : (n i v : ℕ) (t : Side) → IsServedSide T t → IsSound T i t → Below n t → On n (upcall_row T i t v)
  unfolding upcall_row
  upcall-so n i v t is sound now = option-keeps (On n) (λ (a : Ask). ask_decided T i v a (ask_taken v t)) (slice_get (row t v).asks 0) (unshown t)
      (λ a there. decided-so n i v a (ask_taken v t) (is.asks v a (ask-among T v a t there)) (later a there)
      (after (weight (ask_taken v t) + pay v (of_ask T w0 m k h a)) (weight t) n (taken-so t v a there) now)) now
    where
      later : (a : Ask) → slice_get (row t v).asks 0 ≡ Some a → Promises (ask_taken v t)
      later a there u number sel at = same-slot u sel ∙ kept-promised T i t sound u number sel (ap kept at)
        where
          same-slot : (u sel : ℕ) → slot (ask_taken v t) u sel ≡ slot t u sel
          same-slot u sel = elim (cases_eq u v) [
            | inl same ↦ ap (λ w. slot (ask_taken v t) w sel) same
                ∙ (ap (λ (r : VpeRow). get_or r.slots sel Free) (get_or-put_same no_vpe t.vpes v (record (row t v) { asks = drop 1 (row t v).asks }))
                ∙ ap (λ w. slot t w sel) (sym same))
            | inr other ↦ ap (λ (r : VpeRow). get_or r.slots sel Free)
                (get_or-put_other no_vpe t.vpes v u (record (row t v) { asks = drop 1 (row t v).asks }) other)
          ]

  -- A parked call goes on.
  granted-so : (n : ℕ) (parent key : KeyName) (mark : Option ℕ) (t : Side) → Below n t → On n (delegate_granted T parent key mark t)
  granted-so n parent key None t is = quiet-so n (linked parent key t) (owner_of T key) (Ack key true) refl is
  granted-so n parent key (Some j) t is = quiet-so n t (owner_of T key) (Ack key false) refl is

  resumed-so : (n : ℕ) (o : Option Parked) (t : Side)
      → ((key parent : KeyName) (object : Object) (sel : ℕ) → o ≡ Some (ObtainReady key parent object sel) → slot t key.vpe sel ≡ Promised) → Below n t
      → On n (resumed T o t)
  resumed-so n (Some (ObtainReady key parent object sel)) t promise is = installed-so n key (Some parent) sel object t (promise key parent object sel refl) is
  resumed-so n (Some (DelegateReady parent key)) t promise is = from (cap t parent)
    where
      from : (o : Option Capability) → On n (delegate_resumed T parent key o t)
      from None = quiet-so n t (owner_of T key) (Ack key false) refl is
      from (Some c) = granted-so n parent key c.mark t is
  resumed-so n (Some (Ready code)) t promise is = is
  resumed-so n (Some ObtainCancelled) t promise is = is
  resumed-so n (Some (ObtainWait number sel)) t promise is = is
  resumed-so n (Some (DelegateWait parent)) t promise is = is
  resumed-so n (Some (RevokeWait j)) t promise is = is
  resumed-so n None t promise is = is

  pub resume-so : (n i v : ℕ) (t : Side) → IsSound T i t → Below n t → On n (resume_row T t v)
  unfolding resume_row
  resume-so n i v t sound is = resumed-so n (parked t v) (unparked v t)
      (λ key parent object sel at. ap (λ u. slot t u sel) ((sound.calls v (ObtainReady key parent object sel) at).1.0)
      ∙ kept-promised T i t sound v key.number sel (ap kept at)) is

  -- A message is done.

  -- what a delegation that is pending was promised
  abbrev pub Pends : Side → Type 0
  Pends t = (p : Pending) → Contains t.pendings p → slot t p.key.vpe p.sel ≡ Promised

  acked-so : (n i : ℕ) (key : KeyName) (accepted : Bool) (t : Side) (p : Pending) → Pends t → Contains t.pendings p → p.key ≡ key → Below n t
      → Below n (acknowledged T key accepted t p)
  acked-so n i key accepted t p sound among same is =
      let at : slot t key.vpe p.sel ≡ Promised = ap (λ (q : KeyName). slot t q.vpe p.sel) (sym same) ∙ sound p among in
      cond_both accepted _ _ (Below n)
      (λ _. cond_both (is_alive t key.vpe) _ _ (Below n) (λ _. installed-so n key (Some p.parent) p.sel p.object (pending_removed key t) at is)
      (λ _. quiet-so n (pending_removed key t) (owner_of T p.parent) (Orphan p.parent key) refl is))
      (λ _. after (weight (with_slot key.vpe p.sel Free (pending_removed key t))) (weight (pending_removed key t)) n
      (freed-so (pending_removed key t) key.vpe p.sel)
      is)

  awaited-so : (n : ℕ) (parent key : KeyName) (object : Object) (o : Option Parked) (t : Side) → Below n t → Below n (obtain_ready parent key object o t)
  awaited-so n parent key object (Some (ObtainWait number sel)) t is = is
  awaited-so n parent key object None t is = is
  awaited-so n parent key object (Some (ObtainReady q p x sel)) t is = is
  awaited-so n parent key object (Some ObtainCancelled) t is = is
  awaited-so n parent key object (Some (DelegateWait p)) t is = is
  awaited-so n parent key object (Some (DelegateReady p q)) t is = is
  awaited-so n parent key object (Some (RevokeWait j)) t is = is
  awaited-so n parent key object (Some (Ready code)) t is = is

  pub message-so : (n i from : ℕ) (q : Message) (t : Side) → Pends t → weight t + of_message T w0 m k h q ≤ n → Below n (handled T i t from q)
  message-so n i from q t sound room =
      let still : Below n t = at-most (weight t) (of_message T w0 m k h q) n room in
      handled-by (Below n) T i t from q (record {
        same = still;
        asked_obtain = λ place target of. more (weight (asked (target_vpe target) (ObtainAsk place target) t)) (weight t) (pay (target_vpe target) 0) n
            (asked-so t (target_vpe target) (ObtainAsk place target)) (no-pay (target_vpe target == w0)) still;
        dead_obtain = λ place target of. refused-so n i Dead (ObtainAsk place target) t still;
        asked_delegate = λ parent object vpe sel of. asks (weight (asked vpe (DelegateAsk parent object sel) t)) (weight t) (pay vpe (bit (m sel)))
            (bit ((vpe == w0) && m sel)) n (asked-so t vpe (DelegateAsk parent object sel)) (pay-sum vpe (m sel))
            (subst (λ x. weight t + of_message T w0 m k h x ≤ n) of room);
        dead_delegate = λ parent object vpe sel of. refused-so n i Dead (DelegateAsk parent object sel) t still;
        given = λ parent key object of. awaited-so n parent key object (parked t key.vpe) t still;
        orphaned = λ parent key object of. quiet-so n t (owner_of T parent) (Orphan parent key) refl still;
        no_obtain = λ place code of. freed-after n t place.vpe (parked t place.vpe) still;
        prepared = λ parent key of. still;
        given_up = λ parent key of. quiet-so n t (owner_of T key) (Ack key false) refl still;
        no_delegate = λ parent code of. freed-after n t parent.vpe (parked t parent.vpe) still;
        acked = λ key accepted p of there. let at = found (λ (y : Pending). key_eq y.key key) t.pendings p there in
            acked-so n i key accepted t p sound at.0 (key_eq-true p.key key at.1) still;
        unlinks = λ parent key. still;
        requests = λ key j of. requested-steady (Below n) (steady n) T i from j key (cap t key) t (λ u ready parks is. is) still;
        dones = λ j of. done-steady (Below n) (steady n) T i j t still;
      })
    where
      more : (a b z n' : ℕ) → a ≤ b + z → z ≡ 0 → b ≤ n' → a ≤ n'
      more a b z n' one two three = omega (arith, one, two, three)

      asks : (a b p' d n' : ℕ) → a ≤ b + p' → d ≡ p' → b + d ≤ n' → a ≤ n'
      asks a b p' d n' one two three = omega (arith, one, two, three)
