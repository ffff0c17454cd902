-- One event leaves those at rest who wait, and a revoke or a clear that begins with it rests too.
use Rattle.std.proofs.Common.{◌≡◌, ◌⊎◌, ℕ, ◌+◌, ◌<◌, true, false, List, [], Option, Some, None, refl, sym, ap, ◌∙◌, subst, inl, inr, arith, eq-eqb}
use Rattle.std.specs.Prelude.{◌==◌, slice_index_or}
use Rattle.std.specs.List.{Contains, filter}
use Rattle.std.specs.Option.{option_map_or}
use Rattle.std.proofs.lemmas.Bool.{true≢false, cond-true}
use Rattle.sem_key.specs.KeyName.{KeyName, key_eq}
use Rattle.sem_key.specs.Capability.{Capability}
use Rattle.sem_msg.specs.declared.call.Call.{Call}
use Rattle.sem_msg.specs.declared.call.Call.TheVariants.{Derive, Gate, Obtain, Delegate, OpenSession, AskOffer, Revoke, Bind, Read, Write, Send as SendCall}
use Rattle.sem_msg.specs.declared.call.Call.TheVariants.{Credit, Exit, Clear}
use Rattle.sem_msg.specs.declared.entry.Detail.TheVariants.{Called}
use Rattle.sem_msg.specs.declared.message.Message.{Message}
use Rattle.sem_msg.specs.declared.message.Message.TheVariants.{ObtainReq, ObtainOk, ObtainNo, DelegateReq, DelegatePrepared, DelegateNo, Ack, Orphan, RevokeReq}
use Rattle.sem_msg.specs.declared.message.Message.TheVariants.{RevokeDone, Unlink}
use Rattle.sem_msg.specs.declared.state.Parked.TheVariants.{RevokeWait}
use Rattle.sem_msg.specs.Setup.{Setup}
use Rattle.sem_msg.specs.declared.code.Code.TheVariants.{NoCap}
use Rattle.sem_machine.specs.Sides.{Side, row, cap, cap_in, own, is_marked, parked, is_alive, call_counted, unparked, with_inbox}
use Rattle.sem_machine.specs.Steps.{Step, unshown, answer, cutting}
use Rattle.sem_machine.specs.Revokes.{revoke_begun, clear_begun}
use Rattle.sem_machine.specs.Ends.{ended}
use Rattle.sem_machine.specs.Calls.{call_row}
use Rattle.sem_machine.specs.Upcalls.{upcall_row}
use Rattle.sem_machine.specs.Resumes.{can_resume, resumed, resume_row}
use Rattle.sem_machine.specs.Handles.{handle_row, handled}
use Rattle.sem_key.proofs.Members.{Contains-nil, Contains-cons_cases, Contains-from_filter, Contains-from_map}
use Rattle.sem_machine.specs.Journals.{children_in, cut_off}
use Rattle.sem_machine.proofs.FirstCodes.{unless-passed, unmarked-own}
use Rattle.sem_machine.specs.Calls.{own_tests}
use Rattle.sem_msg.specs.Rows.{JobRow, VpeRow}
use Rattle.sem_msg.specs.declared.entry.Detail.{Detail}
use Rattle.sem_msg.specs.VpeRows
use Rattle.sem_msg.specs.ParkedStates.{state_of}
use Rattle.sem_key.specs.CapList.{cap_of}
use Rattle.sem_msg.specs.declared.state.Slot.TheVariants.{Free}
use Rattle.sem_key.proofs.KeyTests.{key_eq-true}
use Rattle.std.proofs.lemmas.Option.{same_Some}
use Rattle.sem_revoke.proofs.Events.{own-cap}
use Rattle.sem_revoke.proofs.Growing.{IsPlainCall}
use Rattle.sem_revoke.proofs.Waits.{Resting, same-caps, same-jobs, resting-on, row-at}
use Rattle.sem_revoke.proofs.Waiting.{Waiting, row-kept, waiting-parked, waiting-unlinked, waiting-requested, waiting-done}
use Rattle.sem_revoke.proofs.Resting.{Quiet, Busy, Unrooted, Uncut, Unrevoked, Unbrought, busy-calling, busy-with, kept-q, call-q, upcall-q, resumed-q}
use Rattle.sem_revoke.proofs.Resting.{handled-q, waiting-ended, waiting-beginning, waiting-revoked}

pair-of : (g : KeyName × KeyName) (r k : KeyName) → g.0 ≡ r → g.1 ≡ k → g ≡ (r, k)
pair-of (p, q) r k one two = ap (λ z. (z, q)) one ∙ ap (λ z. (r, z)) two

-- what a clear cuts off was granted below its key
pub child-in : (gs : List (KeyName × KeyName)) (r k : KeyName) → Contains (children_in gs r) k → Contains gs (r, k)
child-in gs r k among =
    let g = Contains-from_map (λ (g : KeyName × KeyName). g.1) (filter (λ g. key_eq g.0 r) gs) k among in
    let kept = Contains-from_filter (λ (g : KeyName × KeyName). key_eq g.0 r) gs g.0 g.1 in
    subst (Contains gs) (pair-of g.0 r k (key_eq-true g.0.0 r kept.1) g.2) kept.0

-- One event of one kernel: gs are the grants before it, and pend tells which call cuts off which key, by its own key.
module _ (T : Setup) (i : ℕ) (s : Side) (gs : List (KeyName × KeyName)) (pend : ℕ → KeyName → KeyName → Type 0) (R : Waiting pend None s)
    (apart : (p k : KeyName) → Contains gs (p, k) → k ≡ p → ⊥)
    (owns : (v sel : ℕ) (c : Capability) → own s v sel ≡ Some c → c.key.vpe ≡ v)
    (drawn_marks : (k : KeyName) (c : Capability) (n : ℕ) → cap s k ≡ Some c → c.mark ≡ Some n → n < s.next_job) where
  -- a root that is kept is one of a VPE that waits
  abbrev pub AreKept : Side → Type 0
  AreKept t = (x : JobRow) → Contains t.jobs x → x.keep ≡ true → Contains x.waiters x.root.vpe

  -- all are at rest
  abbrev pub AtRest : Side → Type 0
  AtRest t = ((v : ℕ) (k r : KeyName) → pend v k r → Resting None t k r v (parked t v)) × AreKept t

  waiting-rest : (t : Side) → Waiting pend None t → AtRest t
  waiting-rest t W = (W.rests, W.keepers)

  quiet-start : Quiet pend s s
  quiet-start = record { waiting = R; marks = λ v k r pends c held. (c, held, λ n marked. marked, λ none. none) }

  quiet-rest : (base t : Side) → Quiet pend base t → AtRest t
  quiet-rest base t Q = (
    λ v k r pends. resting-on None (record t { caps = base.caps }) t k r v (parked t v) (Q.marks v k r pends)
        (same-jobs k r v (record t { caps = base.caps }) t refl) (omega arith) (λ down. down) (Q.waiting.rests v k r pends),
    Q.waiting.keepers,
  )

  -- what the step grants is no call's own key, and none cuts it off
  abbrev pub Fresh : Step → Type 0
  Fresh x = (p k : KeyName) → ◌≡◌ {A = Option (KeyName × KeyName)} x.outcome.grant (Some (p, k)) → Unrooted pend s k × Uncut pend s k

  -- a call of v that waits from now on, by its own key r, and what it cuts off
  abbrev pub Begins : ℕ → Detail → Option KeyName → ℕ → KeyName → KeyName → Type 0
  Begins v d cut w k r = (w ≡ v) × (◌≡◌ {A = Option KeyName} cut (Some r)) × Contains (cut_off gs d r) k

  -- a call; the revoke or the clear that begins with it waits too
  module _ (v : ℕ) (none : parked s v ≡ None) (alive : is_alive s v ≡ true) where
    abbrev counted : Side
    counted = call_counted v s

    counted-waiting : Waiting pend None counted
    counted-waiting = row-kept pend None s R v (λ r. record r { next_call = r.next_call + 1 }) (λ down. down)

    busy : Busy pend s counted v
    busy = busy-with pend s s v (λ r. record r { next_call = r.next_call + 1 }) v (λ r. refl) (busy-calling pend s s v none alive)

    busy-self : Busy pend counted counted v
    busy-self = busy-with pend counted s v (λ r. record r { next_call = r.next_call + 1 }) v (λ r. refl) (busy-calling pend counted s v none alive)

    own-counted : (src : ℕ) (c : Capability) → own counted v src ≡ Some c → c.key.vpe ≡ v
    own-counted src c held = owns v src c (ap (λ (r : VpeRow). cap_in s (slice_index_or r.slots src Free)) (sym same) ∙ held)
      where
        same : row counted v ≡ record (row s v) { next_call = (row s v).next_call + 1 }
        same = row-at v (λ r. record r { next_call = r.next_call + 1 }) s v
            ∙ cond-true (v == v) (record (row s v) { next_call = (row s v).next_call + 1 }) (row s v) (eq-eqb v v refl)

    plain-rest : (c : Call) → IsPlainCall c → Fresh (call_row T i counted v c) → AtRest (call_row T i counted v c).side
    plain-rest c quiet fresh =
        quiet-rest s (call_row T i counted v c).side
        (call-q pend s T i counted v c quiet busy (kept-q pend s s v (λ r. record r { next_call = r.next_call + 1 }) (λ down. down) quiet-start) fresh)

    abbrev CallRest : ℕ → Call → Step → Type 0
    CallRest index c x = ((w : ℕ) (k r : KeyName) → pend w k r ⊎ Begins v (Called index c) x.outcome.cut w k r → Resting None x.side k r w (parked x.side w))
        × AreKept x.side

    -- nothing waits that did not
    refused-rest : (index : ℕ) (c : Call) (x : Step) → ◌≡◌ {A = Option KeyName} x.outcome.cut None → AtRest x.side → CallRest index c x
    refused-rest index c x uncut rest = (
      λ w k r which. elim which [ inl pends ↦ rest.0 w k r pends | inr (here, cut, among) ↦ (let two : None ≡ Some r = sym uncut ∙ cut in absurd cc) ],
      rest.1,
    )

    revoke-rest : (index src : ℕ) → CallRest index (Revoke src) (call_row T i counted v (Revoke src))
    unfolding call_row
    revoke-rest index src = from (own counted v src) refl
      where
        from : (o : Option Capability) → own counted v src ≡ o →
            CallRest index (Revoke src) (option_map_or (λ (c : Capability). cutting c.key (unshown (revoke_begun T i v c.key c.mark counted))) o
            (answer NoCap counted))
        from None no' = refused-rest index (Revoke src) (answer NoCap counted) refl (waiting-rest counted counted-waiting)
        from (Some c) held =
            let more : ℕ → KeyName → KeyName → Type 0 = λ w k r. pend w k r ⊎ ((w ≡ v) × (r ≡ c.key) × (k ≡ c.key)) in
            let W : Waiting more None (revoke_begun T i v c.key c.mark counted) =
            waiting-revoked pend more v c.key (λ k. k ≡ c.key) (λ w k r is. is) T i counted c (own-cap counted v src c held) busy-self
            (own-counted src c held) counted-waiting
            (λ n marked. drawn_marks c.key c n (own-cap counted v src c held) marked)
            (λ n waits. let two : None ≡ Some (RevokeWait n) = sym none ∙ waits in absurd cc) in (
              λ w k r which. W.rests w k r (elim which [
                | inl pends ↦ inl pends
                | inr (here, cut, among) ↦
                    let own : c.key ≡ r = same_Some c.key r cut in
                    inr (here, sym own, elim (Contains-cons_cases r [] k among) [ inl same ↦ sym same ∙ sym own | inr no' ↦ absurd (Contains-nil k no') ])
              ]),
              W.keepers,
            )

    clear-rest : (index src : ℕ) → CallRest index (Clear src) (call_row T i counted v (Clear src))
    unfolding call_row
    clear-rest index src =
        unless-passed (CallRest index (Clear src)) (own_tests (own counted v src)) _ _
        (λ code. refused-rest index (Clear src) (answer code counted) refl (waiting-rest counted counted-waiting))
        (λ passed. from (own counted v src) refl passed.1.0)
      where
        from : (o : Option Capability) → own counted v src ≡ o → is_marked o ≡ false →
            CallRest index (Clear src) (option_map_or (λ (c : Capability). cutting c.key (unshown (clear_begun T i v c.key counted))) o (answer NoCap counted))
        from None no' test = refused-rest index (Clear src) (answer NoCap counted) refl (waiting-rest counted counted-waiting)
        from (Some c) held test =
            let more : ℕ → KeyName → KeyName → Type 0 = λ w k r. pend w k r ⊎ ((w ≡ v) × (r ≡ c.key) × (k ≡ c.key → ⊥)) in
            let W : Waiting more None (clear_begun T i v c.key counted) =
            waiting-beginning pend more v c.key (λ k. k ≡ c.key → ⊥) (λ w k r is. is) T i counted c (own-cap counted v src c held) busy-self
            (own-counted src c held) counted-waiting true
            (λ k other same. absurd (other same)) (unmarked-own (Some c) c refl test) in (
              λ w k r which. W.rests w k r (elim which [
                | inl pends ↦ inl pends
                | inr (here, cut, among) ↦
                    let own : c.key ≡ r = same_Some c.key r cut in
                    inr (here, sym own, λ same. apart r k (child-in gs r k among) (same ∙ own))
              ]),
              W.keepers,
            )

    exit-rest : (index : ℕ) → CallRest index Exit (call_row T i counted v Exit)
    unfolding call_row
    exit-rest index =
        refused-rest index Exit (call_row T i counted v Exit) refl (waiting-rest (ended T i v counted) (waiting-ended pend T i v counted counted-waiting))

    abbrev Plainly : ℕ → Call → Type 0
    Plainly index c = Fresh (call_row T i counted v c) → CallRest index c (call_row T i counted v c)

    plainly : (index : ℕ) (c : Call) → IsPlainCall c → ((r k : KeyName) → Contains (cut_off gs (Called index c) r) k → ⊥) → Plainly index c
    plainly index c quiet nothing fresh =
        let rest = plain-rest c quiet fresh in
        (λ w k r which. elim which [ inl pends ↦ rest.0 w k r pends | inr (here, cut, among) ↦ absurd (nothing r k among) ], rest.1)

    pub call-rest : (index : ℕ) (c : Call) → Plainly index c
    call-rest index (Derive src dst off len rights) fresh = plainly index (Derive src dst off len rights) tt (λ r k none. Contains-nil k none) fresh
    call-rest index (Gate src dst label credits) fresh = plainly index (Gate src dst label credits) tt (λ r k none. Contains-nil k none) fresh
    call-rest index (Obtain dst w' src) fresh = plainly index (Obtain dst w' src) tt (λ r k none. Contains-nil k none) fresh
    call-rest index (Delegate src w' dst) fresh = plainly index (Delegate src w' dst) tt (λ r k none. Contains-nil k none) fresh
    call-rest index (OpenSession dst name) fresh = plainly index (OpenSession dst name) tt (λ r k none. Contains-nil k none) fresh
    call-rest index (AskOffer dst session offer) fresh = plainly index (AskOffer dst session offer) tt (λ r k none. Contains-nil k none) fresh
    call-rest index (Revoke src) fresh = revoke-rest index src
    call-rest index (Bind ep src) fresh = plainly index (Bind ep src) tt (λ r k none. Contains-nil k none) fresh
    call-rest index (Read ep off len) fresh = plainly index (Read ep off len) tt (λ r k none. Contains-nil k none) fresh
    call-rest index (Write ep off len) fresh = plainly index (Write ep off len) tt (λ r k none. Contains-nil k none) fresh
    call-rest index (SendCall ep len) fresh = plainly index (SendCall ep len) tt (λ r k none. Contains-nil k none) fresh
    call-rest index (Credit ep) fresh = plainly index (Credit ep) tt (λ r k none. Contains-nil k none) fresh
    call-rest index Exit fresh = exit-rest index
    call-rest index (Clear src) fresh = clear-rest index src

  -- a side with the same capabilities, jobs and calls
  pub still-rest : (t : Side) → t.caps ≡ s.caps → t.jobs ≡ s.jobs → t.next_job ≡ s.next_job → t.vpes ≡ s.vpes → t.parks ≡ s.parks → AtRest t
  still-rest t caps jobs next vpes parks = (
    λ v k r pends. subst (Resting None t k r v) (ap (λ ps. state_of ps v) (sym parks))
        (resting-on None s t k r v (parked s v) (same-caps k r s t (λ q. ap (λ cs. cap_of cs q) caps)) (same-jobs k r v s t jobs) (omega (arith, next))
        (λ down. ap (λ rows. VpeRows.is_alive rows v) vpes ∙ down) (R.rests v k r pends)),
    λ x among. R.keepers x (subst (λ xs. Contains xs x) jobs among),
  )

  pub upcall-rest : (v : ℕ) → Fresh (upcall_row T i s v) → AtRest (upcall_row T i s v).side
  upcall-rest v fresh = quiet-rest s (upcall_row T i s v).side (upcall-q pend s T i s v quiet-start fresh)

  pub kill-rest : (v : ℕ) → AtRest (ended T i v s)
  kill-rest v = waiting-rest (ended T i v s) (waiting-ended pend T i v s R)

  -- v, whose call goes on, does not wait any more
  pub resume-rest : (v : ℕ) → ((k r : KeyName) → pend v k r → ⊥) → can_resume (parked s v) ≡ true → Unrevoked pend s (parked s v) → Fresh (resume_row T s v) →
      AtRest (resume_row T s v).side
  unfolding resume_row
  resume-rest v over can new fresh = quiet-rest s (resumed T (parked s v) (unparked v s)).side (resumed-q pend s T (parked s v) (unparked v s) new
      (record {
        waiting = waiting-parked pend None s R v None (λ k r pends. absurd (over k r pends))
            (λ x among open_ waits. absurd (no-wait x.id (R.waiters x among open_ v waits)));
        marks = λ w k r pends c held. (c, held, λ n marked. marked, λ none. none);
      }) fresh)
    where
      no-wait : (n : ℕ) → parked s v ≡ Some (RevokeWait n) → ⊥
      no-wait n is = true≢false (sym can ∙ ap can_resume is)

  abbrev emptied : Side
  emptied = with_inbox None s

  inboxed : Waiting pend None emptied
  inboxed = record {
    rests = λ v k r pends. resting-on None s emptied k r v (parked s v) (same-caps k r s emptied (λ q. refl)) (same-jobs k r v s emptied refl) (omega arith)
        (λ down. down) (R.rests v k r pends);
    waiters = R.waiters;
    keepers = R.keepers;
    roots = R.roots;
    drawn = R.drawn;
    rises = R.rises;
  }

  inbox-quiet : Quiet pend emptied emptied
  inbox-quiet = record { waiting = inboxed; marks = λ v k r pends c held. (c, held, λ n marked. marked, λ none. none) }

  -- an acknowledgement brings no key of a call that waits
  abbrev pub Acks : Message → Type 0
  Acks m = (key : KeyName) → m ≡ Ack key true → Unrooted pend s key

  plain-message : (from : ℕ) (m : Message) → Unbrought pend emptied m → AtRest (handled T i emptied from m)
  plain-message from m new = quiet-rest emptied (handled T i emptied from m) (handled-q pend emptied T i from m emptied new inbox-quiet)

  pub message-rest : (from : ℕ) (m : Message) → Acks m → AtRest (handled T i emptied from m)
  unfolding handle_row
  message-rest from (ObtainReq place target) new = plain-message from (ObtainReq place target) tt
  message-rest from (ObtainOk parent key object) new = plain-message from (ObtainOk parent key object) tt
  message-rest from (ObtainNo place code) new = plain-message from (ObtainNo place code) tt
  message-rest from (DelegateReq parent object vpe sel) new = plain-message from (DelegateReq parent object vpe sel) tt
  message-rest from (DelegatePrepared parent key) new = plain-message from (DelegatePrepared parent key) tt
  message-rest from (DelegateNo parent code) new = plain-message from (DelegateNo parent code) tt
  message-rest from (Ack key true) new = plain-message from (Ack key true) (new key refl)
  message-rest from (Ack key false) new = plain-message from (Ack key false) tt
  message-rest from (Orphan parent key) new = waiting-rest _ (waiting-unlinked pend None emptied inboxed parent key)
  message-rest from (RevokeReq key j) new = waiting-rest _ (waiting-requested pend T i from j key (cap emptied key) emptied refl inboxed)
  message-rest from (RevokeDone j) new = waiting-rest _ (waiting-done pend T i j emptied inboxed)
  message-rest from (Unlink parent key) new = waiting-rest _ (waiting-unlinked pend None emptied inboxed parent key)
