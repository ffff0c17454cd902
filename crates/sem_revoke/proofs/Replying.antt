-- A living VPE has as many replies as it made calls, and one less while a call of it is parked. So in a quiet world in which no call is parked each call of a
-- living VPE is answered.
use Rattle.std.proofs.Common.{◌≡◌, ℕ, zero, suc, ◌+◌, Bool, true, false, ◌&&◌, List, [], ◌∷◌, ◌++◌, length, map, filter, replicate, get_or, slice_get, is_some}
use Rattle.std.proofs.Common.{is_none, Option, Some, None, append-nil, append_assoc, length-append, refl, sym, ap, ◌∙◌, subst, inl, inr, arith, eq-eqb}
use Rattle.std.proofs.Common.{if◌then◌else◌}
use Rattle.std.specs.Prelude.{◌==◌, nat_lt}
use Rattle.std.specs.List.{range_with_len}
use Rattle.std.specs.Option.{option_map, option_map_or}
use Rattle.std.proofs.lemmas.Bool.{cases_Bool, cases_eq, cond_both, cond-true, cond-false, and_parts, and_from, eqb-true, ne_eqb, true≢false}
use Rattle.std.proofs.lemmas.List.Elements.{filter-append, filter_map-append}
use Rattle.sem_key.specs.KeyName.{KeyName}
use Rattle.sem_key.specs.declared.key.Kind.TheVariants.{Mem as MemKind}
use Rattle.sem_key.specs.Capability.{Capability}
use Rattle.sem_key.specs.ObjectRanges.{object_kind}
use Rattle.sem_key.proofs.Puts.{get_or-put_same, get_or-put_other}
use Rattle.sem_msg.specs.declared.call.Call.{Call}
use Rattle.sem_msg.specs.declared.event.Act.{Act}
use Rattle.sem_msg.specs.declared.event.Act.TheVariants.{Call as Calls, Fetch, Handle, Upcall, Resume, Flush, Kill}
use Rattle.sem_msg.specs.declared.entry.Entry.{Entry}
use Rattle.sem_msg.specs.declared.entry.Reply.{Reply}
use Rattle.sem_msg.specs.declared.message.Message.{Message}
use Rattle.sem_msg.specs.declared.state.Ask.TheVariants.{Obtain as ObtainAsk, Delegate as DelegateAsk}
use Rattle.sem_msg.specs.declared.state.Parked.{Parked}
use Rattle.sem_msg.specs.declared.state.Parked.TheVariants.{ObtainWait, ObtainReady, ObtainCancelled, DelegateWait, DelegateReady, RevokeWait, Ready}
use Rattle.sem_msg.specs.declared.state.Slot.TheVariants.{Promised}
use Rattle.sem_msg.specs.declared.setup.VpeDecl.{VpeDecl}
use Rattle.sem_msg.specs.declared.setup.Root.{Root}
use Rattle.sem_msg.specs.Rows.{VpeRow, no_vpe}
use Rattle.sem_msg.specs.VpeRows.{new_vpe, root_held}
use Rattle.sem_msg.specs.ParkedStates.{is_ready_with}
use Rattle.sem_msg.specs.Journal.{replies}
use Rattle.sem_msg.specs.Setup.{Setup, IsSetup}
use Rattle.sem_msg.specs.Lookups.{kernel_of, pe_owner}
use Rattle.sem_msg.specs.declared.code.Code.TheVariants.{Ok as OkCode, Gone, Revoking}
use Rattle.sem_msg.specs.Codes.{code_number}
use Rattle.sem_msg.specs.declared.message.Target.{Target}
use Rattle.sem_key.specs.declared.object.Object.{Object}
use Rattle.sem_key.specs.declared.limits.TheConstants.{VPES}
use Rattle.sem_key.specs.Lists.{put}
use Rattle.sem_machine.specs.Endpoints.{with_ring}
use Rattle.sem_machine.specs.Revokes.{revoke_begun, clear_begun}
use Rattle.sem_machine.specs.Sides.{Side, no_side, row, parked, is_alive, parked_as, unparked, call_counted, drawn, promised, linked, ask_taken, with_endpoint}
use Rattle.sem_machine.specs.Sides.{installed, cap, with_inbox}
use Rattle.sem_machine.specs.Steps.{Step, unshown, answer, replied, cutting}
use Rattle.sem_machine.specs.Asks.{target_vpe}
use Rattle.sem_machine.specs.Calls.{next_key, next_place, call_row, child_made, ask_made, offer_made}
use Rattle.sem_machine.specs.Upcalls.{ask_decided, upcall_row}
use Rattle.sem_machine.specs.Handles.{handled}
use Rattle.sem_machine.specs.Resumes.{can_resume, delegate_granted, delegate_resumed, resumed, resume_row}
use Rattle.sem_machine.specs.Machine.{World, side, start, start_side, empty_side, root_added, vpe_added, vpe_fresh, next_call, local_step, local_entry}
use Rattle.sem_machine.specs.Machine.{input_of, is_enabled, is_locally_enabled, with_side, after, entry_of, replied_vpe}
use Rattle.sem_machine.specs.Schedules.{IsSchedule, world_after}
use Rattle.sem_machine.specs.Living.{reply_count}
use Rattle.sem_machine.proofs.Folds.{in_turn-keeps, option-keeps}
use Rattle.sem_safety.proofs.AskWeights.{free, of_message, of_inbox}
use Rattle.sem_safety.proofs.CarryingWorlds.{stepped}
use Rattle.sem_safety.proofs.Drawers.{side-after}
use Rattle.sem_safety.proofs.EndedVpes.{killed-dead}
use Rattle.sem_safety.proofs.GoingOn.{entry-enabled, moved-sides, after-onward, run-append}
use Rattle.sem_safety.proofs.Skeleton.{call_row-by, decided-by}
use Rattle.sem_revoke.proofs.ReadyCalls.{single, side-le, waiter-weighs, ask-weighs, quiet-event}
use Rattle.sem_revoke.proofs.ParkedCalls.{Steady, steady-row, steady-slot, steady-drawn, steady-asked, steady-installed, steady-ended, steady-revoked}
use Rattle.sem_revoke.proofs.ParkedCalls.{steady-cleared, steady-call, steady-upcall, steady-resume, steady-handled}
use Rattle.sem_revoke.proofs.Waits.{parked-here}

-- one, if a call is parked
abbrev pub one : Option Parked → ℕ
one None = 0
one (Some p) = 1

-- one, if the reply is there and goes to the VPE
abbrev told : ℕ → Option Reply → ℕ
told v None = 0
told v (Some r) = if r.vpe == v then 1 else 0

-- the same of an act that is answered with a code
abbrev says : ℕ → Act → Option ℕ → ℕ
says v act None = 0
says v act (Some code) = if replied_vpe act == v then 1 else 0

reply_count-push : (J : List Entry) (e : Entry) (v : ℕ) → reply_count (J ++ e ∷ []) v ≡ reply_count J v + told v e.reply
reply_count-push J e v =
    let to_v : Reply → Bool = λ r. r.vpe == v in
    let all = filter_map-append (λ (x : Entry). x.reply) J (e ∷ []) in
    let parts = filter-append to_v (replies J) (replies (e ∷ [])) in
    let long = length-append (filter to_v (replies J)) (filter to_v (replies (e ∷ []))) in
    ap (λ rs. length (filter to_v rs)) all ∙ (ap length parts ∙ (long ∙ ap (λ n. reply_count J v + n) (last e.reply refl)))
  where
    last : (o : Option Reply) → e.reply ≡ o → length (filter (λ (r : Reply). r.vpe == v) (replies (e ∷ []))) ≡ told v e.reply
    last None none = rw none refl
    last (Some r) some = rw some (elim (cases_Bool (r.vpe == v)) [
      | inl same ↦ let is = ap (λ (xs : List Reply). length xs) (cond-true (r.vpe == v) (r ∷ []) [] same) in
          let value : told v (Some r) ≡ 1 = cond-true (r.vpe == v) 1 0 same in is ∙ sym value
      | inr other ↦ let is = ap (λ (xs : List Reply). length xs) (cond-false (r.vpe == v) (r ∷ []) [] other) in
          let value : told v (Some r) ≡ 0 = cond-false (r.vpe == v) 1 0 other in is ∙ sym value
    ])

told-says : (v : ℕ) (act : Act) (o : Option ℕ) → told v (option_map (λ code. record { vpe = replied_vpe act; code = code }) o) ≡ says v act o
told-says v act None = refl
told-says v act (Some code) = refl

says-other : (v : ℕ) (act : Act) (o : Option ℕ) → (replied_vpe act ≡ v → ⊥) → says v act o ≡ 0
says-other v act None other = refl
says-other v act (Some code) other = cond-false (replied_vpe act == v) 1 0 (ne_eqb (replied_vpe act) v other)

-- Who is answered.

-- an upcall answers no call
upcall-silent : (T : Setup) (i u : ℕ) (s : Side) → (upcall_row T i s u).outcome.reply ≡ None
unfolding upcall_row
upcall-silent T i u s = option-keeps (λ (x : Step). x.outcome.reply ≡ None) (λ a. ask_decided T i u a (ask_taken u s)) (slice_get (row s u).asks 0) (unshown s)
    (λ a there. decided-by (λ (x : Step). x.outcome.reply ≡ None) (λ w x is. is) (λ w x is. is) (λ w x is. is) T i u a (ask_taken u s)
    (record {
      nothing = refl;
      refused = λ code. refl;
      given = λ place target p of. refl;
      here = λ parent object sel of. refl;
      prepared = λ parent object sel of. refl;
    }))
    refl

-- Its own call.
module _ (T : Setup) (i v n : ℕ) (s : Side) (unparked' : parked s v ≡ None) (made : (row s v).next_call ≡ n) where
  abbrev Good : Step → Type 0
  Good x = is_alive x.side v ≡ true → (says v (Calls v) x.outcome.reply + one (parked x.side v) ≡ 1) × ((row x.side v).next_call ≡ n)

  here : (code : ℕ) → says v (Calls v) (Some code) ≡ 1
  here code = cond-true (v == v) 1 0 (eq-eqb v v refl)

  idle : Steady v ⊥ n s
  idle = (λ none. absurd none, made)

  abbrev IsDone : Step → Type 0
  IsDone x = (says v (Calls v) x.outcome.reply + one (parked x.side v) ≡ 1) × ((row x.side v).next_call ≡ n)

  answers : (x : Step) (code : ℕ) → x.outcome.reply ≡ Some code → parked x.side v ≡ None → (row x.side v).next_call ≡ n → IsDone x
  answers x code reply none same = let is = ap (says v (Calls v)) reply ∙ here code in let rest = ap one none in (omega (arith, is, rest), same)

  some-one : (o : Option Parked) → is_some o ≡ true → one o ≡ 1
  some-one None none = absurd cc
  some-one (Some p) there = refl

  parks : (x : Step) → x.outcome.reply ≡ None → Steady v (Unit {0}) n x.side → IsDone x
  parks x reply S = let is = ap (says v (Calls v)) reply in let rest = some-one (parked x.side v) (S.0 tt) in (omega (arith, is, rest), S.1)

  parked-now : (t : Side) (p : Parked) → (row t v).next_call ≡ n → Steady v (Unit {0}) n (parked_as v p t)
  parked-now t p same = (λ u. ap is_some (parked-here t v (Some p)), same)

  child-good : (dst : ℕ) (object : Object) (parent : KeyName) → IsDone (child_made T v dst object parent s)
  child-good dst object parent =
      let k : KeyName = next_key T s v (object_kind object) in
      answers (child_made T v dst object parent s) (code_number OkCode) refl unparked'
      (steady-installed v ⊥ n (linked parent k (drawn v s)) (steady-drawn v ⊥ n s idle v) k (Some parent) dst object).1

  ask-good : (dst : ℕ) (target : Target) → IsDone (ask_made T i v dst target s)
  ask-good dst target =
      let promising : Side = promised v dst (drawn v s) in
      let waiting : Side = parked_as v (ObtainWait (next_place T s v).number dst) promising in
      let waits : Steady v (Unit {0}) n waiting =
      parked-now promising (ObtainWait (next_place T s v).number dst) (steady-slot v ⊥ n (drawn v s) (steady-drawn v ⊥ n s idle v) v dst Promised).1 in
      parks (ask_made T i v dst target s) refl (cond_both (kernel_of T (target_vpe target) == i) _ _ (Steady v (Unit {0}) n)
      (λ _. steady-asked v (Unit {0}) n waiting waits (target_vpe target) (ObtainAsk (next_place T s v) target)) (λ _. waits))

  offer-good : (w dst : ℕ) (p : Capability) → IsDone (offer_made T i v w dst p s)
  offer-good w dst p =
      let waiting : Side = parked_as v (DelegateWait p.key) s in
      let waits : Steady v (Unit {0}) n waiting = parked-now s (DelegateWait p.key) made in
      parks (offer_made T i v w dst p s) refl
      (cond_both (kernel_of T w == i) _ _ (Steady v (Unit {0}) n) (λ _. steady-asked v (Unit {0}) n waiting waits w (DelegateAsk p.key p.object dst))
      (λ _. waits))

  own-good : (c : Call) → Good (call_row T i s v c)
  own-good c = call_row-by Good T i v s (record {
    answered = λ code lives. answers (answer code s) (code_number code) refl unparked' made;
    child = λ src dst object p held lives. child-good dst object p.key;
    ask = λ dst target lives. ask-good dst target;
    offer = λ src w dst p held lives. offer-good w dst p;
    revoke = λ src k held lives. parks (cutting k.key (unshown (revoke_begun T i v k.key k.mark s))) refl
        (steady-revoked v (Unit {0}) n T i v k.key k.mark s (parked-now s (RevokeWait s.next_job) made, λ j. parked-now s (RevokeWait j) made));
    clear = λ src k held unmarked lives. parks (cutting k.key (unshown (clear_begun T i v k.key s))) refl
        (steady-cleared v (Unit {0}) n T i v k.key s (parked-now s (RevokeWait s.next_job) made));
    bound = λ ep src k held lives. answers (answer OkCode (with_endpoint v ep (Some (record { key = k.key; object = k.object; ring = [] })) s))
        (code_number OkCode) refl unparked' made;
    rung = λ ep f lives. answers (answer OkCode (with_ring v ep f s)) (code_number OkCode) refl unparked' made;
    ends = λ lives. let dead = killed-dead T i v s in absurd (true≢false (sym lives ∙ dead));
  }) c

-- Its own resume.
module _ (T : Setup) (v n : ℕ) (s : Side) (made : (row s v).next_call ≡ n) where
  abbrev t : Side
  t = unparked v s

  abbrev Ends : Step → Type 0
  Ends x = (says v (Resume v) x.outcome.reply + one (parked x.side v) ≡ 1) × ((row x.side v).next_call ≡ n)

  out : (x : Step) (code : ℕ) → x.outcome.reply ≡ Some code → parked x.side v ≡ None → (row x.side v).next_call ≡ n → Ends x
  out x code reply none same =
      let is : says v (Resume v) (Some code) ≡ 1 = cond-true (v == v) 1 0 (eq-eqb v v refl) in
      let says-so = ap (says v (Resume v)) reply in
      let rest = ap one none in
      (omega (arith, is, says-so, rest), same)

  gone : parked t v ≡ None
  gone = parked-here s v None

  resumed-ends : (p : Option Parked) → can_resume p ≡ true → Ends (resumed T p t)
  resumed-ends None none = absurd cc
  resumed-ends (Some (ObtainWait number sel)) none = absurd cc
  resumed-ends (Some (ObtainReady key parent object sel)) some = out (answer OkCode (installed key (Some parent) sel object t)) (code_number OkCode) refl gone
      (steady-installed v ⊥ n t (λ none. absurd none, made) key (Some parent) sel object).1
  resumed-ends (Some ObtainCancelled) some = out (answer Gone t) (code_number Gone) refl gone made
  resumed-ends (Some (DelegateWait parent)) none = absurd cc
  resumed-ends (Some (DelegateReady parent key)) some = by (cap t parent)
    where
      granted : (m : Option ℕ) → Ends (delegate_granted T parent key m t)
      granted None = out (delegate_granted T parent key None t) (code_number OkCode) refl gone made
      granted (Some j) = out (delegate_granted T parent key (Some j) t) (code_number Revoking) refl gone made

      by : (o : Option Capability) → Ends (delegate_resumed T parent key o t)
      by None = out (delegate_resumed T parent key None t) (code_number Gone) refl gone made
      by (Some c) = granted c.mark
  resumed-ends (Some (RevokeWait j)) none = absurd cc
  resumed-ends (Some (Ready code)) some = out (replied code t) code refl gone made

call-same : {u w : ℕ} → Calls u ≡ Calls w → u ≡ w
call-same same = ap replied_vpe same

resume-same : {u w : ℕ} → Resume u ≡ Resume w → u ≡ w
resume-same same = ap replied_vpe same

abbrev killed : Act → ℕ
killed (Kill u) = u
killed a = 0

kill-same : {u w : ℕ} → Kill u ≡ Kill w → u ≡ w
kill-same same = ap killed same

-- The start.

-- no call was made, and none is parked
module _ (v : ℕ) where
  abbrev Fresh : Side → Type 0
  Fresh t = (parked t v ≡ None) × ((row t v).next_call ≡ 0)

  none-of : (n m : ℕ) → get_or {A = Option Parked} (replicate n None) m None ≡ None
  none-of zero m = refl
  none-of (suc n) zero = refl
  none-of (suc n) (suc m) = none-of n m

  row-of : (n m : ℕ) → get_or {A = VpeRow} (replicate n no_vpe) m no_vpe ≡ no_vpe
  row-of zero m = refl
  row-of (suc n) zero = refl
  row-of (suc n) (suc m) = row-of n m

  empty-fresh : (T : Setup) → Fresh (empty_side T)
  empty-fresh T = (none-of VPES v, ap (λ (r : VpeRow). r.next_call) (row-of VPES v))

  first-fresh : (d : VpeDecl) (t : Side) → Fresh t → Fresh (vpe_fresh d t)
  first-fresh d t is = (
    is.0,
    elim (cases_eq v d.vpe) [
      | inl same ↦ ap (λ (r : VpeRow). r.next_call) (ap (λ m. get_or (put no_vpe t.vpes d.vpe new_vpe) m no_vpe) same
          ∙ get_or-put_same no_vpe t.vpes d.vpe new_vpe)
      | inr other ↦ ap (λ (r : VpeRow). r.next_call) (get_or-put_other no_vpe t.vpes d.vpe v new_vpe other) ∙ is.1
    ],
  )

  root-fresh : (d : VpeDecl) (r : Root) (t : Side) → Fresh t → Fresh (root_added d r t)
  root-fresh d r t is =
      let S : Steady v ⊥ 0 t = (λ none. absurd none, is.1) in
      (is.0, (steady-row v ⊥ 0 t S d.vpe (root_held d r (row t d.vpe)) refl).1)

  side-fresh : (T : Setup) (i : ℕ) → Fresh (start_side T i)
  unfolding start_side
  side-fresh T i = in_turn-keeps Fresh vpe_added (λ d t is. in_turn-keeps Fresh (root_added d) (λ r u here. root-fresh d r u here) d.roots (vpe_fresh d t)
      (first-fresh d t is)) (filter (λ (d : VpeDecl). pe_owner T d.pe == i) T.vpes) (empty_side T) (empty-fresh T)

  start-fresh : (T : Setup) (i : ℕ) → Fresh (side (start T) i)
  unfolding start
  start-fresh T i = from (range_with_len 0 T.kernels) i
    where
      from : (is : List ℕ) (j : ℕ) → Fresh (get_or (map (start_side T) is) j no_side)
      from [] j = (refl, refl)
      from (n ∷ ns) zero = side-fresh T n
      from (n ∷ ns) (suc j) = from ns j

-- An event.
abbrev pub Told : Setup → ℕ → List Entry → Type 0
Told T v J = let s : Side = side (world_after T J) (kernel_of T v) in is_alive s v ≡ true → reply_count J v + one (parked s v) ≡ (row s v).next_call

module _ (T : Setup) (valid : IsSetup T) (J : List Entry) (runs : IsSchedule T J) (before : List Entry) (e : Entry) (later : List Entry) (parts : J ≡ before
    ++ e ∷ later) (v : ℕ) where
  abbrev W : World
  W = world_after T before

  abbrev i : ℕ
  i = e.event.kernel

  abbrev s : Side
  s = side W i

  abbrev x : Step
  x = stepped T W e.event

  at : IsSchedule T before × (is_enabled T W e.event ≡ true) × (e ≡ entry_of T W e.event)
  at = entry-enabled T before (start T) e later (subst (IsSchedule T) parts runs)

  -- what is enabled there
  locally : is_locally_enabled T i s e.event.act ≡ true
  unfolding is_enabled
  locally = (and_parts (is_locally_enabled T i s e.event.act) _ (and_parts (nat_lt i T.kernels) _ at.1).1).0

  caller : (u : ℕ) → e.event.act ≡ Calls u → (kernel_of T u ≡ i) × (is_none (parked s u) ≡ true) × (is_some (next_call T s u) ≡ true)
  unfolding is_locally_enabled
  caller u act =
      let is = subst (λ a. is_locally_enabled T i s a ≡ true) act locally in
      let one' = and_parts (kernel_of T u == i) _ is in
      let two = and_parts (is_alive s u) _ one'.1 in
      let three = and_parts (is_none (parked s u)) (is_some (next_call T s u)) two.1 in
      (eqb-true (kernel_of T u) i one'.0, three.0, three.1)

  resumer : (u : ℕ) → e.event.act ≡ Resume u → (kernel_of T u ≡ i) × (can_resume (parked s u) ≡ true)
  unfolding is_locally_enabled
  resumer u act =
      let is = subst (λ a. is_locally_enabled T i s a ≡ true) act locally in
      let one' = and_parts (kernel_of T u == i) _ is in
      (eqb-true (kernel_of T u) i one'.0, one'.1)

  -- The reply of the entry.
  entry-reply : told v e.reply ≡ says v e.event.act x.outcome.reply
  unfolding entry_of local_entry
  entry-reply = ap (λ (y : Entry). told v y.reply) at.2 ∙ told-says v e.event.act x.outcome.reply

  silent : ((u : ℕ) → e.event.act ≡ Calls u → u ≡ v → ⊥) → ((u : ℕ) → e.event.act ≡ Resume u → u ≡ v → ⊥) → says v e.event.act x.outcome.reply ≡ 0
  unfolding local_step
  silent calls resumes = by e.event.act refl
    where
      by : (a : Act) → e.event.act ≡ a → says v e.event.act x.outcome.reply ≡ 0
      by (Calls u) act = says-other v e.event.act x.outcome.reply (λ same. calls u act (ap replied_vpe (sym act) ∙ same))
      by (Resume u) act = says-other v e.event.act x.outcome.reply (λ same. resumes u act (ap replied_vpe (sym act) ∙ same))
      by (Upcall u) act = rw act (ap (says v (Upcall u)) (upcall-silent T i u s))
      by (Fetch j) act = rw act refl
      by Handle act = rw act refl
      by (Flush j) act = rw act refl
      by (Kill u) act = rw act refl

  -- What others do leaves it parked, or not.
  module _ (calls : (u : ℕ) → e.event.act ≡ Calls u → u ≡ v → ⊥) (resumes : (u : ℕ) → e.event.act ≡ Resume u → u ≡ v → ⊥) (kills : (u : ℕ) →
      e.event.act ≡ Kill u → u ≡ v → ⊥) where
    abbrev B : Type 0
    B = is_some (parked s v) ≡ true

    steady-event : Steady v B (row s v).next_call x.side
    unfolding local_step
    steady-event = by e.event.act refl
      where
        S : Steady v B (row s v).next_call s
        S = (λ b. b, refl)

        counted : (u : ℕ) → (u ≡ v → ⊥) → Steady v B (row s v).next_call (call_counted u s)
        counted u other = (
          λ b. b,
          ap (λ (r : VpeRow). r.next_call) (get_or-put_other no_vpe s.vpes u v (record (row s u) { next_call = (row s u).next_call + 1 })
              (λ same. other (sym same))),
        )

        inbox : (o : Option (ℕ × Message)) → Steady v B (row s v).next_call (option_map_or (λ m. handled T i (with_inbox None s) m.0 m.1) o s)
        inbox None = S
        inbox (Some (from, m)) = steady-handled v B (row s v).next_call T i (with_inbox None s) from m S

        by : (a : Act) → e.event.act ≡ a → Steady v B (row s v).next_call (local_step T i s a (input_of W i a)).side
        by (Calls u) act = option-keeps (λ (y : Step). Steady v B (row s v).next_call y.side) (call_row T i (call_counted u s) u) (next_call T s u) (unshown s)
            (λ c there. steady-call v B (row s v).next_call T i u c (call_counted u s) (calls u act) (counted u (calls u act))) S
        by (Resume u) act = steady-resume v B (row s v).next_call T u s (λ same b. resumes u act same) S
        by (Upcall u) act = steady-upcall v B (row s v).next_call T i u s S
        by (Kill u) act = steady-ended v B (row s v).next_call T i u s (λ same b. kills u act same) S
        by Handle act = inbox s.inbox
        by (Fetch j) act = S
        by (Flush j) act = S

    abbrev k0 : KeyName
    k0 = record { pe = 0; vpe = 0; kind = MemKind; number = 0 }

    still-none : is_alive s v ≡ true → parked s v ≡ None → parked x.side v ≡ None
    still-none alive none =
        let frees : free (row s v) (parked s v) ≡ 1 = ap (free (row s v)) none
        ∙ cond-true ((row s v).alive && true) 1 0 (and_from (row s v).alive true alive refl) in
        let most = single T valid before at.0 v in
        let part = side-le v W i in
        let Q = quiet-event T valid J runs before e later parts v k0 ⊥ None None
        (record {
          park = inl none;
          life = inl alive;
          waiters = λ y among w. let one' = waiter-weighs v s y among w in omega (arith, frees, most, part, one');
          asks = λ u a among who. let one' = ask-weighs v s u a among who in omega (arith, frees, most, part, one');
          pend = λ p none'. absurd cc;
        })
        calls resumes kills
        (λ from m full one'. let weighs : of_inbox v s.inbox ≡ of_message v m = ap (of_inbox v) full in omega (arith, frees, most, part, one', weighs))
        (λ from accepted act full y none'. absurd cc)
        (λ from k' j full ready same. let no' = ap (is_ready_with k') (ap (parked s) same ∙ none) in absurd (true≢false (sym ready ∙ no')))
        in
        elim Q.park [ inl same ↦ same | inr (quiet, touched) ↦ absurd touched ]

    others-told : is_alive s v ≡ true → (r : ℕ) → r + one (parked s v) ≡ (row s v).next_call →
        (r + says v e.event.act x.outcome.reply) + one (parked x.side v) ≡ (row x.side v).next_call
    others-told alive r is =
        let says-none = silent calls resumes in
        let calls-same = steady-event.1 in
        let parks-same : one (parked x.side v) ≡ one (parked s v) = by (parked s v) refl in
        omega (arith, is, says-none, calls-same, parks-same)
      where
        one-of : (o : Option Parked) → is_some o ≡ true → one o ≡ 1
        one-of None none = absurd cc
        one-of (Some p) there = refl

        by : (o : Option Parked) → parked s v ≡ o → one (parked x.side v) ≡ one (parked s v)
        by None none = ap one (still-none alive none) ∙ sym (ap one none)
        by (Some p) some = one-of (parked x.side v) (steady-event.0 (ap is_some some)) ∙ sym (ap one some)

  -- Its own acts.
  own-told : is_alive s v ≡ true → is_alive x.side v ≡ true → (r : ℕ) → r + one (parked s v) ≡ (row s v).next_call →
      (r + says v e.event.act x.outcome.reply) + one (parked x.side v) ≡ (row x.side v).next_call
  unfolding local_step resume_row
  own-told alive lives r is = by e.event.act refl
    where
      none-one : (o : Option Parked) → is_none o ≡ true → o ≡ None
      none-one None none = refl
      none-one (Some p) none = absurd cc

      resumed-one : (o : Option Parked) → can_resume o ≡ true → one o ≡ 1
      resumed-one None none = absurd cc
      resumed-one (Some p) some = refl

      called : (act : e.event.act ≡ Calls v) (o : Option Call) → next_call T s v ≡ o → is_some o ≡ true →
          is_alive (option_map_or (call_row T i (call_counted v s) v) o (unshown s)).side v ≡ true
          → let y : Step = option_map_or (call_row T i (call_counted v s) v) o (unshown s) in
          (r + says v (Calls v) y.outcome.reply) + one (parked y.side v) ≡ (row y.side v).next_call
      called act None at-none none lives' = absurd cc
      called act (Some c) at-some some lives' =
          let free' : parked s v ≡ None = none-one (parked s v) (caller v act).1 in
          let counted : (row (call_counted v s) v).next_call ≡ (row s v).next_call + 1 =
          ap (λ (q : VpeRow). q.next_call) (get_or-put_same no_vpe s.vpes v (record (row s v) { next_call = (row s v).next_call + 1 })) in
          let good = own-good T i v ((row s v).next_call + 1) (call_counted v s) free' counted c lives' in
          let none' = ap one free' in
          let sum = good.0 in
          let now = good.1 in
          omega (arith, is, none', sum, now)

      by : (a : Act) → e.event.act ≡ a → (r + says v e.event.act x.outcome.reply) + one (parked x.side v) ≡ (row x.side v).next_call
      by (Calls u) act = elim (cases_eq u v) [
        | inl same ↦
            let is-v : e.event.act ≡ Calls v = act ∙ ap Calls same in
            subst (λ a. let y : Step = local_step T i s a (input_of W i a) in (r + says v a y.outcome.reply) + one (parked y.side v) ≡ (row y.side v).next_call)
            (sym is-v)
            (called is-v (next_call T s v) refl (caller v is-v).2 (subst (λ a. is_alive (local_step T i s a (input_of W i a)).side v ≡ true) is-v lives))
        | inr other ↦ others-told (λ w act' same. other (call-same (sym act ∙ act') ∙ same)) (λ w act' same. absurd (cc (act, act')))
            (λ w act' same. absurd (cc (act, act'))) alive r is
      ]
      by (Resume u) act = elim (cases_eq u v) [
        | inl same ↦
            let is-v : e.event.act ≡ Resume v = act ∙ ap Resume same in
            subst (λ a. let y : Step = local_step T i s a (input_of W i a) in (r + says v a y.outcome.reply) + one (parked y.side v) ≡ (row y.side v).next_call)
            (sym is-v)
            (resumes-so (resumer v is-v).1)
        | inr other ↦ others-told (λ w act' same. absurd (cc (act, act'))) (λ w act' same. other (resume-same (sym act ∙ act') ∙ same))
            (λ w act' same. absurd (cc (act, act'))) alive r is
      ]
        where
          resumes-so : can_resume (parked s v) ≡ true → (r + says v (Resume v) (resume_row T s v).outcome.reply) + one (parked (resume_row T s v).side v)
              ≡ (row (resume_row T s v).side v).next_call
          resumes-so can =
              let ends = resumed-ends T v (row s v).next_call s refl (parked s v) can in
              let was = resumed-one (parked s v) can in
              let sum = ends.0 in
              let now = ends.1 in
              omega (arith, is, was, sum, now)
      by (Kill u) act = elim (cases_eq u v) [
        | inl same ↦
            let dead : is_alive x.side v ≡ false = ap (λ a. is_alive (local_step T i s a (input_of W i a)).side v) (act ∙ ap Kill same) ∙ killed-dead T i v s in
            absurd (true≢false (sym lives ∙ dead))
        | inr other ↦ others-told (λ w act' same. absurd (cc (act, act'))) (λ w act' same. absurd (cc (act, act')))
            (λ w act' same. other (kill-same (sym act ∙ act') ∙ same)) alive r is
      ]
      by (Upcall u) act = others-told (λ w act' same. absurd (cc (act, act'))) (λ w act' same. absurd (cc (act, act'))) (λ w act' same. absurd (cc (act, act')))
          alive r is
      by Handle act = others-told (λ w act' same. absurd (cc (act, act'))) (λ w act' same. absurd (cc (act, act'))) (λ w act' same. absurd (cc (act, act')))
          alive r is
      by (Fetch j) act = others-told (λ w act' same. absurd (cc (act, act'))) (λ w act' same. absurd (cc (act, act'))) (λ w act' same. absurd (cc (act, act')))
          alive r is
      by (Flush j) act = others-told (λ w act' same. absurd (cc (act, act'))) (λ w act' same. absurd (cc (act, act'))) (λ w act' same. absurd (cc (act, act')))
          alive r is

  -- One entry more.
  abbrev k : ℕ
  k = kernel_of T v

  next-told : Told T v before → Told T v (before ++ e ∷ [])
  unfolding after
  next-told was lives = elim (cases_eq k i) [
    | inl home ↦
        let now : side V k ≡ x.side = ap (side V) home ∙ (ap (λ (Z : World). side Z i) world-is ∙ side-after T W e.event) in
        let lives' : is_alive x.side v ≡ true = ap (λ (t : Side). is_alive t v) (sym now) ∙ lives in
        let before' = was alive in
        let was' : reply_count before v + one (parked s v) ≡ (row s v).next_call =
        subst (λ j. reply_count before v + one (parked (side W j) v) ≡ (row (side W j) v).next_call) home before' in
        let sum = own-told (subst (λ j. is_alive (side W j) v ≡ true) home alive) lives' (reply_count before v) was' in
        let count = reply_count-push before e v in
        let reply = entry-reply in
        subst (λ (t : Side). reply_count (before ++ e ∷ []) v + one (parked t v) ≡ (row t v).next_call) (sym now) (omega (arith, sum, count, reply))
    | inr away ↦
        let same : side V k ≡ side W k = ap (λ (Z : World). side Z k) world-is ∙ elsewhere away in
        let before' = was alive in
        let none = silent (λ u act is. away (ap (kernel_of T) (sym is) ∙ (caller u act).0)) (λ u act is. away (ap (kernel_of T) (sym is)
        ∙ (resumer u act).0)) in
        let count = reply_count-push before e v in
        let reply = entry-reply in
        subst (λ (t : Side). reply_count (before ++ e ∷ []) v + one (parked t v) ≡ (row t v).next_call) (sym same) (omega (arith, before', none, count, reply))
  ]
    where
      V : World
      V = world_after T (before ++ e ∷ [])

      world-is : V ≡ after T W e.event
      world-is = run-append T before (e ∷ []) (start T)

      alive : is_alive (side W k) v ≡ true
      alive = ((after-onward T W e.event).sides k).dead v (subst (λ (Z : World). is_alive (side Z k) v ≡ true) world-is lives)

      elsewhere : (k ≡ i → ⊥) → side (after T W e.event) k ≡ side W k
      elsewhere away =
          ap (λ (ss : List Side). get_or ss k no_side) (moved-sides i s e.event.act (with_side i x.side W))
          ∙ get_or-put_other no_side W.sides i k x.side away

-- Along the journal.
pub replies-told : (T : Setup) → IsSetup T → (J : List Entry) → IsSchedule T J → (v : ℕ) → Told T v J
replies-told T valid J runs v = from [] J refl first
  where
    first : Told T v []
    first lives = let is = start-fresh v T (kernel_of T v) in let none = ap one is.0 in let zero' = is.1 in omega (arith, none, zero')

    from : (before later : List Entry) → J ≡ before ++ later → Told T v before → Told T v J
    from before [] parts is = subst (Told T v) (sym (parts ∙ append-nil before)) is
    from before (e ∷ later) parts is = from (before ++ e ∷ []) later (parts
        ∙ sym (append_assoc before (e ∷ []) later)) (next-told T valid J runs before e later parts v is)
