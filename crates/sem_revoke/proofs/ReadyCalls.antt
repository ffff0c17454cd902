-- A call that is ready to install a key stays so until it goes on and the key is held, unless the key is doomed.
use Rattle.sem_sound.proofs.Scheduling.{schedule-sound}
use Rattle.sem_revoke.proofs.Readying.{enabled-low}
use Rattle.sem_revoke.proofs.Lasting.{all-caused, side-here, side-other, held-lasts}
use Rattle.sem_revoke.proofs.Dooming.{asked-doomed}
use Rattle.sem_revoke.specs.Revocation.{IsDoomed}
use Rattle.sem_safety.proofs.GrownLines.{line-self}
use Rattle.std.proofs.lemmas.List.Elements.{Contains-append_left, Contains-append_right}
use Rattle.std.proofs.Common.{◌≡◌, ◌⊎◌, ℕ, ◌+◌, ◌≤◌, ◌<◌, zero, suc, ◌++◌, Bool, true, ◌&&◌, List, [], ◌∷◌, get_or, Option, Some, None, is_none, is_some}
use Rattle.std.proofs.Common.{append-nil, append_assoc, refl, sym, ap, ◌∙◌, subst, inl, inr, arith, eq-eqb, length}
use Rattle.std.specs.Prelude.{◌==◌, nat_lt}
use Rattle.std.specs.List.{Contains, AllPairs, sum_by}
use Rattle.std.specs.Option.{option_map_or, IsSome}
use Rattle.std.proofs.lemmas.Bool.{cases_eq, cases_Bool, and_parts, cond-true, cond-false, eqb-true, ne_eqb, and_from}
use Rattle.std.proofs.lemmas.List.Sums.{sum_by-cons}
use Rattle.sem_key.specs.declared.object.Object.{Object}
use Rattle.sem_key.specs.KeyName.{KeyName, key_eq}
use Rattle.sem_key.specs.Capability.{Capability}
use Rattle.sem_key.specs.CapList.{fresh}
use Rattle.sem_key.proofs.KeyTests.{key_eq-true, key_eq-same}
use Rattle.sem_key.proofs.Members.{found, list_any-at, Contains-head}
use Rattle.sem_msg.specs.declared.setup.VpeDecl.{VpeDecl}
use Rattle.sem_msg.specs.declared.entry.Entry.{Entry}
use Rattle.sem_msg.specs.declared.event.Act.{Act}
use Rattle.sem_msg.specs.declared.event.Act.TheVariants.{Call as Calls, Fetch, Handle, Upcall, Resume, Flush, Kill}
use Rattle.sem_msg.specs.declared.message.Message.{Message}
use Rattle.sem_msg.specs.declared.message.Message.TheVariants.{Ack, RevokeReq}
use Rattle.sem_msg.specs.declared.state.Ask.{Ask}
use Rattle.sem_msg.specs.declared.state.Parked.{Parked}
use Rattle.sem_msg.specs.declared.state.Parked.TheVariants.{ObtainReady}
use Rattle.sem_msg.specs.declared.state.Pending.{Pending}
use Rattle.sem_msg.specs.declared.state.Slot.{Slot}
use Rattle.sem_msg.specs.declared.state.Slot.TheVariants.{Free, Held, Promised}
use Rattle.sem_msg.specs.Rows.{JobRow, no_vpe}
use Rattle.sem_msg.specs.ParkedStates.{is_ready_with}
use Rattle.sem_msg.specs.Setup.{Setup, IsSetup}
use Rattle.sem_msg.specs.Lookups.{kernel_of}
use Rattle.sem_machine.specs.Sides.{Side, no_side, row, cap, cap_in, own, slot, parked, is_alive, call_counted, unparked, installed, with_inbox, outbox}
use Rattle.sem_machine.specs.Steps.{Step, unshown}
use Rattle.sem_machine.specs.Asks.{asker}
use Rattle.sem_machine.specs.Calls.{call_row}
use Rattle.sem_machine.specs.Handles.{handled}
use Rattle.sem_machine.specs.Resumes.{resumed, resume_row}
use Rattle.sem_machine.specs.Machine.{World, side, start, next_call, local_step, input_of, is_enabled, is_locally_enabled, link}
use Rattle.sem_machine.specs.Schedules.{IsSchedule, world_after}
use Rattle.sem_machine.specs.Journals.{has_ended, ends, grants}
use Rattle.sem_machine.specs.Living.{IsLive, way, fetched_from}
use Rattle.sem_machine.proofs.Folds.{option-keeps}
use Rattle.sem_machine.proofs.Weighing.{weigh-among}
use Rattle.sem_safety.proofs.CarryingWorlds.{stepped}
use Rattle.sem_safety.proofs.GoingOn.{entry-enabled}
use Rattle.sem_safety.proofs.HeldOnce.{weigh-at}
use Rattle.sem_safety.proofs.SideLayers.{run-kept}
use Rattle.sem_safety.proofs.SoundEndpoints.{IsSoundSide, sound}
use Rattle.sem_safety.proofs.SoundWorlds.{start-sound}
use Rattle.sem_safety.proofs.Updates.{seen-cap_added}
use Rattle.sem_safety.specs.Observations.{ObservedSide}
use Rattle.sem_safety.proofs.AskWeights.{free, here, of_message, of_ask, of_asks, of_inbox, of_job, of_side}
use Rattle.sem_safety.proofs.AskWorlds.{of_world, world-side, one-exchange}
use Rattle.sem_revoke.proofs.Quiet.{Quiet, quiet-row, quiet-ended}
use Rattle.sem_revoke.proofs.QuietRows.{quiet-call, quiet-upcall, quiet-resume, quiet-handled}

-- A VPE has one exchange at a time.

once-declared : (v : ℕ) (ds : List VpeDecl) → AllPairs (λ (a b : VpeDecl). a.vpe < b.vpe) ds → sum_by (λ (d : VpeDecl). here v d.vpe) ds ≤ 1
once-declared v [] rise = omega arith
once-declared v (d ∷ ds) rise =
    let all = sum_by-cons (λ (x : VpeDecl). here v x.vpe) d ds in
    elim (cases_Bool (d.vpe == v)) [
      | inl same ↦
          let one : here v d.vpe ≡ 1 = cond-true (d.vpe == v) 1 0 same in
          let none = above ds (λ n x within. let less = rise zero (suc n) x (omega arith) (omega (arith, within)) in let is = eqb-true d.vpe v same in
          omega (arith, less, is)) in
          omega (arith, all, one, none)
      | inr differ ↦
          let none : here v d.vpe ≡ 0 = cond-false (d.vpe == v) 1 0 differ in
          let rest = once-declared v ds (λ a b x less within. rise (suc a) (suc b) x (omega (arith, less)) (omega (arith, within))) in
          omega (arith, all, none, rest)
    ]
  where
    above : (ds : List VpeDecl) → ((n : ℕ) (x : VpeDecl) → n < length ds → v < (get_or ds n x).vpe) → sum_by (λ (d : VpeDecl). here v d.vpe) ds ≡ 0
    above [] up = refl
    above (d ∷ ds) up =
        let all = sum_by-cons (λ (x : VpeDecl). here v x.vpe) d ds in
        let none : here v d.vpe ≡ 0 = cond-false (d.vpe == v) 1 0 (ne_eqb d.vpe v (λ same. let less = up zero d (omega arith) in omega (arith, less, same))) in
        let rest = above ds (λ n x within. up (suc n) x (omega (arith, within))) in
        omega (arith, all, none, rest)

pub single : (T : Setup) → IsSetup T → (J : List Entry) → IsSchedule T J → (v : ℕ) → of_world v (world_after T J) ≤ 1
single T valid J runs v = let most = one-exchange v T J runs in let one = once-declared v T.vpes valid.vpes_rise in omega (arith, most, one)

-- what stands in a side weighs in the world
pub side-le : (v : ℕ) (W : World) (i : ℕ) → of_side v (side W i) ≤ of_world v W
side-le v W i = let part = world-side v W i no_side in omega (arith, part)

pub here-one : (v : ℕ) → here v v ≡ 1
here-one v = cond-true (v == v) 1 0 (eq-eqb v v refl)

pub waiter-weighs : (v : ℕ) (s : Side) (x : JobRow) → Contains s.jobs x → Contains x.waiters v → 1 ≤ sum_by (of_job v) s.jobs
waiter-weighs v s x among w = let one = weigh-among (here v) x.waiters v w in let all = weigh-among (of_job v) s.jobs x among in let is = here-one v in
    omega (arith, one, all, is)

pub ask-weighs : (v : ℕ) (s : Side) (u : ℕ) (a : Ask) → Contains (row s u).asks a → asker a ≡ v → 1 ≤ sum_by (of_asks v) s.vpes
ask-weighs v s u a among who =
    let one = weigh-among (of_ask v) (row s u).asks a among in
    let all = weigh-at (of_asks v) no_vpe refl s.vpes u in
    let is : of_ask v a ≡ 1 = ap (here v) who ∙ here-one v in
    omega (arith, one, all, is)

-- what is installed is held
pub installed-held : (k : KeyName) (parent : Option KeyName) (sel : ℕ) (object : Object) (t : Side) →
    cap (installed k parent sel object t) k ≡ Some (fresh k parent sel object)
installed-held k parent sel object t = ap (λ (z : ObservedSide). z.cap k) (seen-cap_added (fresh k parent sel object) t)
    ∙ cond-true (key_eq k k) (Some (fresh k parent sel object)) (cap t k) (key_eq-same k)

-- An event.
module _ (T : Setup) (valid : IsSetup T) (J : List Entry) (runs : IsSchedule T J) (before : List Entry) (e : Entry) (later : List Entry) (parts : J ≡ before
    ++ e ∷ later) where
  abbrev W : World
  W = world_after T before

  abbrev i : ℕ
  i = e.event.kernel

  abbrev s : Side
  s = side W i

  pub at : IsSchedule T before × (is_enabled T W e.event ≡ true)
  at = let x = entry-enabled T before (start T) e later (subst (IsSchedule T) parts runs) in (x.0, x.1)

  sound-now : IsSoundSide s
  sound-now = run-kept IsSoundSide sound T before (start T) (start-sound T) i

  -- what a VPE holds at a selector is its own
  owns : (t : Side) → IsSoundSide t → (u src : ℕ) (p : Capability) → own t u src ≡ Some p → p.key.vpe ≡ u
  owns t is u src p held = from (slot t u src) refl held
    where
      from : (x : Slot) → slot t u src ≡ x → cap_in t x ≡ Some p → p.key.vpe ≡ u
      from Free at' none = absurd cc
      from Promised at' none = absurd cc
      from (Held k) at' some = ap (λ (z : KeyName). z.vpe) (key_eq-true p.key k (found (λ (x : Capability). key_eq x.key k) t.caps p some).1)
          ∙ is.own_slots u src k at'

  -- what may not touch a call leaves it
  pub quiet-event : (v : ℕ) (k0 : KeyName) (Touched : Type 0) (q : Option Parked) (d : Option Pending) → Quiet v k0 Touched q d s
      → ((u : ℕ) → e.event.act ≡ Calls u → u ≡ v → ⊥)
      → ((u : ℕ) → e.event.act ≡ Resume u → u ≡ v → Touched)
      → ((u : ℕ) → e.event.act ≡ Kill u → u ≡ v → Touched)
      → ((from : ℕ) (m : Message) → s.inbox ≡ Some (from, m) → 1 ≤ of_message v m → Touched)
      → ((from : ℕ) (accepted : Bool) → e.event.act ≡ Handle → s.inbox ≡ Some (from, Ack k0 accepted) → (x : Pending) → d ≡ Some x → ⊥)
      → ((from : ℕ) (k : KeyName) (j : ℕ) → s.inbox ≡ Some (from, RevokeReq k j) → is_ready_with k (parked s k.vpe) ≡ true → k.vpe ≡ v → Touched)
      → Quiet v k0 Touched q d (stepped T W e.event).side
  unfolding local_step
  quiet-event v k0 Touched q d Q calls resumes kills tokens settles cancels = by e.event.act refl
    where
      inbox : e.event.act ≡ Handle → (o : Option (ℕ × Message)) → s.inbox ≡ o →
          Quiet v k0 Touched q d (option_map_or (λ m. handled T i (with_inbox None s) m.0 m.1) o s)
      inbox act None none = Q
      inbox act (Some (from, m)) full = quiet-handled v k0 Touched q d T i (with_inbox None s) from m (tokens from m full)
          (λ accepted is. settles from accepted act (full ∙ ap (λ z. Some (from, z)) is))
          (λ k j is. cancels from k j (full ∙ ap (λ z. Some (from, z)) is))
          (record { park = Q.park; life = Q.life; waiters = Q.waiters; asks = Q.asks; pend = Q.pend })

      by : (a : Act) → e.event.act ≡ a → Quiet v k0 Touched q d (local_step T i s a (input_of W i a)).side
      by (Calls u) act =
          let t : Side = call_counted u s in
          let counted : Quiet v k0 Touched q d t = quiet-row v k0 Touched q d s Q u (record (row s u) { next_call = (row s u).next_call + 1 }) (inl refl)
          (λ a among. inl among) in
          let kept : IsSoundSide t = sound.keeps_counted s sound-now u in
          option-keeps (λ (x : Step). Quiet v k0 Touched q d x.side) (call_row T i t u) (next_call T s u) (unshown s)
          (λ c there. quiet-call v k0 Touched q d T i u c t (calls u act) (owns t kept u) counted) Q
      by (Upcall u) act = quiet-upcall v k0 Touched q d T i u s Q
      by (Resume u) act = quiet-resume v k0 Touched q d T u s (resumes u act) Q
      by (Kill u) act = quiet-ended v k0 Touched q d T i u s (kills u act) Q
      by Handle act = inbox act s.inbox refl
      by (Fetch j) act = record { park = Q.park; life = Q.life; waiters = Q.waiters; asks = Q.asks; pend = Q.pend }
      by (Flush j) act = record { park = Q.park; life = Q.life; waiters = Q.waiters; asks = Q.asks; pend = Q.pend }

  -- a VPE that calls has no call parked
  pub calls-unparked : (u : ℕ) → e.event.act ≡ Calls u → is_none (parked s u) ≡ true
  unfolding is_enabled is_locally_enabled
  calls-unparked u act =
      let enabled : is_enabled T W (record { kernel = i; act = Calls u }) ≡ true = ap (λ a. is_enabled T W (record { kernel = i; act = a })) (sym act) ∙ at.1 in
      let outer = (and_parts ((kernel_of T u == i) && (is_alive s u && (is_none (parked s u) && is_some (next_call T s u)))) _
      (and_parts (nat_lt i T.kernels) _ enabled).1).0 in
      let inner = and_parts (is_alive s u) (is_none (parked s u) && is_some (next_call T s u)) (and_parts (kernel_of T u == i) _ outer).1 in
      (and_parts (is_none (parked s u)) (is_some (next_call T s u)) inner.1).0

  -- a VPE that is killed has ended
  killed-ended : (v : ℕ) → e.event.act ≡ Kill v → has_ended J v ≡ true
  killed-ended v act =
      list_any-at (λ (x : Entry). ends v x.event.act x.detail) J e
      (subst (λ xs. Contains xs e) (sym parts) (Contains-append_right before (e ∷ later) e (Contains-head e later))) (ap (λ a. ends v a e.detail) act
      ∙ eq-eqb v v refl)

  pub resumed-held : (v : ℕ) (k parent : KeyName) (object : Object) (sel : ℕ) → e.event.act ≡ Resume v → parked s v ≡ Some (ObtainReady k parent object sel) →
      cap (stepped T W e.event).side k ≡ Some (fresh k (Some parent) sel object)
  unfolding local_step resume_row
  resumed-held v k parent object sel act there =
      ap (λ a. cap (local_step T i s a (input_of W i a)).side k) act
      ∙ (ap (λ p. cap (resumed T p (unparked v s)).side k) there ∙ installed-held k (Some parent) sel object (unparked v s))

  module _ (v sel : ℕ) (k parent : KeyName) (object : Object) where
    abbrev q : Parked
    q = ObtainReady k parent object sel

    -- what became of it in this event
    abbrev Becomes : ℕ → Side → Type 0
    Becomes j t = ((parked t v ≡ Some q) × (is_alive t v ≡ true)) ⊎ (((c : Capability) × (cap t k ≡ Some c)) ⊎ IsDoomed J k)

    abbrev Touched : Type 0
    Touched = IsDoomed J k ⊎ (e.event.act ≡ Resume v)

    ready-step : parked s v ≡ Some q → is_alive s v ≡ true → Becomes i (stepped T W e.event).side
    ready-step there alive =
        let call = ((schedule-sound T valid before at.0).sides i (enabled-low T W e.event at.1)).calls v q there in
        let frees : free (row s v) (parked s v) ≡ 1 = ap (free (row s v)) there
        ∙ cond-true ((row s v).alive && true) 1 0 (and_from (row s v).alive true alive refl) in
        let most = single T valid before at.0 v in
        let part = side-le v W i in
        let Q = quiet-event v k Touched (Some q) None
        (record {
          park = inl there;
          life = inl alive;
          waiters = λ x among w. let one = waiter-weighs v s x among w in absurd (omega (arith, frees, most, part, one));
          asks = λ u a among who. let one = ask-weighs v s u a among who in absurd (omega (arith, frees, most, part, one));
          pend = λ p none. absurd cc;
        })
        (λ u act same. let none = calls-unparked u act in busy (parked s u) none (ap (parked s) same ∙ there))
        (λ u act same. inr (act ∙ ap Resume same))
        (λ u act same. inl (k, line-self (length J) (grants J) k, inr (ap (has_ended J) call.1.0 ∙ killed-ended v (act ∙ ap Kill same))))
        (λ from m full one. let weighs : of_inbox v s.inbox ≡ of_message v m = ap (of_inbox v) full in absurd (omega (arith, frees, most, part, one, weighs)))
        (λ from accepted act full x none. absurd cc)
        (λ from k' j full ready same. inl (subst (IsDoomed J) (cancelled k' (ap (is_ready_with k') (sym (ap (parked s) same ∙ there)) ∙ ready))
        (asked-doomed T valid J runs before (e ∷ later) parts k' j (from, i, fetched from (RevokeReq k' j) full))))
        in
        elim Q.park [
          | inl same ↦ elim Q.life [ inl lives ↦ inl (same, lives) | inr touched ↦ touched-so there touched ]
          | inr (quiet, touched) ↦ touched-so there touched
        ]
      where
        busy : (p : Option Parked) → is_none p ≡ true → p ≡ Some q → ⊥
        busy None none some = absurd cc
        busy (Some x) none some = absurd cc

        cancelled : (k' : KeyName) → key_eq k k' ≡ true → k' ≡ k
        cancelled k' same = sym (key_eq-true k k' same)

        fetched : (from : ℕ) (m : Message) → s.inbox ≡ Some (from, m) → Contains (way W from i) m
        fetched from m full =
            Contains-append_left (fetched_from from s.inbox ++ link W from i) (outbox (side W from) i) m
            (Contains-append_left (fetched_from from s.inbox) (link W from i) m
            (subst (λ xs. Contains xs m) (sym (ap (fetched_from from) full ∙ cond-true (from == from) (m ∷ []) [] (eq-eqb from from refl)))
            (Contains-head m [])))

        touched-so : parked s v ≡ Some q → Touched → Becomes i (stepped T W e.event).side
        touched-so there (inl doomed) = inr (inr doomed)
        touched-so there (inr act) = inr (inl (fresh k (Some parent) sel object, resumed-held v k parent object sel act there))

    ready-next : (j : ℕ) → parked (side W j) v ≡ Some q → is_alive (side W j) v ≡ true → Becomes j (side (world_after T (before ++ e ∷ [])) j)
    ready-next j there alive = elim (cases_eq j i) [
      | inl here ↦ subst (λ t. Becomes j t) (sym (side-here T valid J runs before e later parts (all-caused T valid J runs before (e ∷ later) parts) j here))
          (ready-step (ap (λ n. parked (side W n) v) (sym here) ∙ there) (ap (λ n. is_alive (side W n) v) (sym here) ∙ alive))
      | inr away ↦
          let same = side-other T valid J runs before e later parts (all-caused T valid J runs before (e ∷ later) parts) j away in
          inl (ap (λ t. parked t v) same ∙ there, ap (λ t. is_alive t v) same ∙ alive)
    ]

-- Along the journal.
pub ready-lasts : (T : Setup) → IsSetup T → (J : List Entry) → IsSchedule T J →
    (before later : List Entry) (i v sel : ℕ) (k parent : KeyName) (object : Object) → J ≡ before ++ later
    → parked (side (world_after T before) i) v ≡ Some (ObtainReady k parent object sel) → is_alive (side (world_after T before) i) v ≡ true →
    IsLive (world_after T J) k ⊎ IsDoomed J k
ready-lasts T valid J runs before [] i v sel k parent object parts there alive =
    let same : before ≡ J = sym (parts ∙ append-nil before) in
    inl (inr (inr (inr (record {
      kernel = i;
      vpe = v;
      selector = sel;
      parent = parent;
      object = object;
      ready = subst (λ K. parked (side (world_after T K) i) v ≡ Some (ObtainReady k parent object sel)) same there;
    }))))
ready-lasts T valid J runs before (e ∷ later) i v sel k parent object parts there alive =
    let next : J ≡ (before ++ e ∷ []) ++ later = parts ∙ sym (append_assoc before (e ∷ []) later) in
    elim (ready-next T valid J runs before e later parts v sel k parent object i there alive) [
      | inl (still, lives) ↦ ready-lasts T valid J runs (before ++ e ∷ []) later i v sel k parent object next still lives
      | inr (inl (c, held)) ↦ elim (held-lasts T valid J runs (before ++ e ∷ []) later i k c next held) [
        | inl (d, holds) ↦ inl (inl (i, subst IsSome (sym holds) refl))
        | inr doomed ↦ inr doomed
      ]
      | inr (inr doomed) ↦ inr doomed
    ]
