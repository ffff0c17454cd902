-- Along a schedule what was sent and granted on the one side, with what the world counts there, is no more than on the
-- other.
use Rattle.std.proofs.Common.{◌≡◌, ◌≢◌, ℕ, ◌+◌, ◌<◌, ◌≤◌, true, List, [], ◌∷◌, ◌++◌, Option, Some}
use Rattle.std.proofs.Common.{None, is_none, slice_get, refl, sym, ◌∙◌, ap, subst, arith, append-nil, append_assoc}
use Rattle.std.specs.Prelude.{◌==◌}
use Rattle.std.specs.List.{Contains, sum_by}
use Rattle.std.specs.Option.{option_map_or}
use Rattle.std.proofs.lemmas.Bool.{and_parts, eqb-true}
use Rattle.std.proofs.lemmas.List.Sums.{sum_by-cons, sum_by_push}
use Rattle.sem_key.specs.KeyName.{KeyName}
use Rattle.sem_key.specs.Capability.{Capability}
use Rattle.sem_msg.specs.declared.call.Call.{Call}
use Rattle.sem_msg.specs.declared.entry.Detail.TheVariants.{Carried, Nothing}
use Rattle.sem_msg.specs.declared.entry.Entry.{Entry}
use Rattle.sem_msg.specs.declared.event.Event.{Event}
use Rattle.sem_msg.specs.declared.event.Act.{Act}
use Rattle.sem_msg.specs.declared.event.Act.TheVariants.{Call as Calls, Fetch, Handle, Upcall, Resume, Flush, Kill}
use Rattle.sem_msg.specs.declared.message.Message.{Message}
use Rattle.sem_msg.specs.declared.setup.VpeDecl.{VpeDecl}
use Rattle.sem_msg.specs.declared.state.Ask.{Ask}
use Rattle.sem_msg.specs.declared.state.Parked.TheVariants.{DelegateReady}
use Rattle.sem_key.specs.declared.limits.TheConstants.{PES}
use Rattle.sem_msg.specs.Setup.{Setup}
use Rattle.sem_msg.specs.Lookups.{decl, pe_of, pe_owner, owner_of, kernel_of}
use Rattle.sem_msg.specs.Journal.{message_in}
use Rattle.sem_machine.specs.Sides.{Side, row, parked, outbox, call_counted, ask_taken, unparked, with_inbox}
use Rattle.sem_machine.specs.Steps.{Step, unshown}
use Rattle.sem_machine.specs.Calls.{call_row}
use Rattle.sem_machine.specs.Upcalls.{ask_decided, upcall_row}
use Rattle.sem_machine.specs.Handles.{handled}
use Rattle.sem_machine.specs.Resumes.{resume_row}
use Rattle.sem_machine.specs.Machine.{World, side, start, next_call, local_step, local_entry, after, entry_of, event}
use Rattle.sem_machine.specs.Machine.{is_enabled, is_locally_enabled, is_other_kernel}
use Rattle.sem_machine.specs.Schedules.{IsSchedule, world_after}
use Rattle.sem_machine.proofs.Weighing.{of_option}
use Rattle.sem_safety.proofs.GoingOn.{run-append, entry-enabled}
use Rattle.sem_safety.proofs.JobIds.{HasIds, ids}
use Rattle.sem_revoke.proofs.Readying.{enabled-low}
use Rattle.sem_revoke.proofs.Revoking.{enabled-parts}
use Rattle.sem_messages.specs.Messages.{sent_by}
use Rattle.sem_messages.proofs.Tallies.{Tally, of_ask, of_side, of_inbox, side-counted, side-taken, side-inbox}
use Rattle.sem_safety.specs.Observations.{AreDistinct}
use Rattle.sem_messages.proofs.Falling.{AreLed, of_grant, IsFalling, Revokings}
use Rattle.sem_messages.proofs.Rows.{IsOfKernel, Fell, ended-falls, call_row-falls}
use Rattle.sem_messages.proofs.Answering.{IsAddressed, decided-paid}
use Rattle.sem_messages.proofs.Handling.{IsExpected, resumed-falls, handled-took}
use Rattle.sem_messages.proofs.Worlds.{of_world, world-side, fetched, flushed, start-none}

-- what is known of the side of a kernel between two events
pub record IsKnown (T : Setup) (i : ℕ) (s : Side) : Type 0 where
  pub ids : HasIds s
  pub distinct : AreDistinct s.caps
  pub home : (c : Capability) → Contains s.caps c → IsOfKernel T i c.key
  pub asks : (v : ℕ) (a : Ask) → slice_get (row s v).asks 0 ≡ Some a → IsAddressed T a
  pub offers : (v : ℕ) (parent key : KeyName) → parked s v ≡ Some (DelegateReady parent key) →
      owner_of T parent ≢ owner_of T key
  pub expected : (from : ℕ) (m : Message) → s.inbox ≡ Some (from, m) → IsExpected T i (with_inbox None s) m

-- the PE of a VPE of a kernel is one of that kernel
own-pe : (T : Setup) (v i : ℕ) → kernel_of T v ≡ i → i < T.kernels → pe_owner T (pe_of T v) ≡ i
own-pe T v i here within = from (decl T v) here
  where
    from : (o : Option VpeDecl) → option_map_or (λ (d : VpeDecl). pe_owner T d.pe) o T.kernels ≡ i →
        pe_owner T (option_map_or (λ (d : VpeDecl). d.pe) o PES) ≡ i
    from None none = absurd (omega (arith, none, within))
    from (Some d) same = same

-- what an entry counts: the message that it sends, and its grant
abbrev pub of_entry : Setup → (Message → ℕ) → ℕ → Entry → ℕ
of_entry T L g e = sum_by L (sent_by e) + of_grant T g e.grant

-- what a message counts that is flushed: it leaves an outbox of the one tally, and comes into a link of the other
abbrev pub of_flush : Tally → Tally → Message → ℕ
of_flush P N m = P.out m + N.on m

module _ (T : Setup) (P N : Tally) (gl lead gr : ℕ) (F : IsFalling P N (gl + lead) gr) (A : AreLed T P N lead)
    (revokings : (i : ℕ) → Revokings T P N i) where
  abbrev FellAt : ℕ → Side → Step → Type 0
  FellAt i s x = Fell T P N gl lead gr F A i (revokings i) s x

  called : (i : ℕ) (s : Side) (v : ℕ) → IsKnown T i s → kernel_of T v ≡ i → pe_owner T (pe_of T v) ≡ i →
      FellAt i s (local_step T i s (Calls v) None)
  unfolding local_step
  called i s v is here pe = from (next_call T s v)
    where
      from : (o : Option Call) → FellAt i s (option_map_or (call_row T i (call_counted v s) v) o (unshown s))
      from None = omega arith
      from (Some c) =
          let p = side-counted T P i s v in
          let n = side-counted T N i s v in
          let fell = call_row-falls T P N gl lead gr F A i (revokings i) (call_counted v s)
          (ids.keeps_counted s is.ids v) is.home v here pe c in
          omega (arith, p, n, fell)

  upcalled : (i : ℕ) (s : Side) (v : ℕ) → IsKnown T i s → pe_owner T (pe_of T v) ≡ i →
      FellAt i s (local_step T i s (Upcall v) None)
  unfolding local_step upcall_row
  upcalled i s v is pe = from (slice_get (row s v).asks 0) refl
    where
      from : (o : Option Ask) → slice_get (row s v).asks 0 ≡ o →
          FellAt i s (option_map_or (λ a. ask_decided T i v a (ask_taken v s)) o (unshown s))
      from None at = omega arith
      from (Some a) at =
          let p = side-taken T P i s v in
          let n = side-taken T N i s v in
          let fp : of_option (of_ask T P i) (slice_get (row s v).asks 0) ≡ of_ask T P i a =
          ap (of_option (of_ask T P i)) at in
          let fn : of_option (of_ask T N i) (slice_get (row s v).asks 0) ≡ of_ask T N i a =
          ap (of_option (of_ask T N i)) at in
          let paid = decided-paid T P N gl lead gr F A i (revokings i) (ask_taken v s) is.home is.distinct v
          pe a (is.asks v a at) in
          omega (arith, p, n, fp, fn, paid)

  went_on : (i : ℕ) (s : Side) (v : ℕ) → IsKnown T i s → FellAt i s (local_step T i s (Resume v) None)
  unfolding local_step resume_row
  went_on i s v is =
      let fell = resumed-falls T P N gl lead gr F A i (revokings i) (parked s v) (unparked v s) is.distinct
      (λ parent key there. is.offers v parent key there) in
      omega (arith, fell)

  took : (i : ℕ) (s : Side) → IsKnown T i s → FellAt i s (local_step T i s Handle None)
  unfolding local_step
  took i s is = from s.inbox refl
    where
      from : (o : Option (ℕ × Message)) → s.inbox ≡ o →
          (of_side T P i (option_map_or (λ m. handled T i (with_inbox None s) m.0 m.1) o s) + of_side T N i s) + 0
          ≤ (of_side T P i s + of_side T N i (option_map_or (λ m. handled T i (with_inbox None s) m.0 m.1) o s)) + 0
      from None at = omega arith
      from (Some (from', m)) at =
          let u : Side = with_inbox None s in
          let is' = handled-took T P N gl lead gr F A i (revokings i) m u from' (ids.keeps_inbox s is.ids None tt)
          (is.expected from' m at) in
          let p : of_side T P i u + of_inbox T P s.inbox ≡ of_side T P i s + 0 = side-inbox T P i s None in
          let n : of_side T N i u + of_inbox T N s.inbox ≡ of_side T N i s + 0 = side-inbox T N i s None in
          let wp : of_inbox T P s.inbox ≡ P.on m = ap (of_inbox T P) at in
          let wn : of_inbox T N s.inbox ≡ N.on m = ap (of_inbox T N) at in
          omega (arith, is', p, n, wp, wn)

  killed : (i : ℕ) (s : Side) (v : ℕ) → IsKnown T i s → FellAt i s (local_step T i s (Kill v) None)
  unfolding local_step
  killed i s v is = let fell = ended-falls T P N gl lead gr F A i (revokings i) v s is.ids in omega (arith, fell)

  -- what an event makes of the world, and what its entry counts
  abbrev pub Keeps : World → Event → Type 0
  Keeps W e = (of_world T P (after T W e) + of_world T N W) + of_entry T (of_flush P N) gl (entry_of T W e)
      ≤ (of_world T P W + of_world T N (after T W e)) + of_entry T (of_flush N P) gr (entry_of T W e)

  carried : (K : Message → ℕ) (j : ℕ) (o : Option Message) →
      sum_by K (message_in (option_map_or (λ (m : Message). Carried j m) o Nothing)) ≡ of_option K o
  carried K j None = refl
  carried K j (Some m) = let one = sum_by-cons K m [] in omega (arith, one)

  flush-all : (o : Option Message) → (of_option P.on o + of_option N.out o) + of_option (of_flush P N) o
      ≤ (of_option N.on o + of_option P.out o) + of_option (of_flush N P) o
  flush-all None = omega arith
  flush-all (Some m) = omega arith

  -- neither a fetch nor a flush grants anything
  fetch-grants : (g : ℕ) (W : World) (i j : ℕ) → of_grant T g (entry_of T W (event i (Fetch j))).grant ≡ 0
  unfolding entry_of local_entry local_step
  fetch-grants g W i j = refl

  flush-grants : (g : ℕ) (W : World) (i j : ℕ) → of_grant T g (entry_of T W (event i (Flush j))).grant ≡ 0
  unfolding entry_of local_entry local_step
  flush-grants g W i j = refl

  pub event-kept : (W : World) (i : ℕ) (a : Act) → IsKnown T i (side W i) → is_enabled T W (event i a) ≡ true →
      Keeps W (event i a)
  unfolding after entry_of local_entry is_locally_enabled
  event-kept W i (Calls v) is enabled =
      let s : Side = side W i in
      let within = enabled-low T W (event i (Calls v)) enabled in
      let here = eqb-true (kernel_of T v) i
      (and_parts (kernel_of T v == i) _ (enabled-parts T W i (Calls v) enabled).0).0 in
      let fell = called i s v is here (own-pe T v i here within) in
      let p = world-side T P W i (local_step T i s (Calls v) None).side within in
      let n = world-side T N W i (local_step T i s (Calls v) None).side within in
      omega (arith, fell, p, n)
  event-kept W i (Upcall v) is enabled =
      let s : Side = side W i in
      let within = enabled-low T W (event i (Upcall v)) enabled in
      let here = eqb-true (kernel_of T v) i
      (and_parts (kernel_of T v == i) _ (enabled-parts T W i (Upcall v) enabled).0).0 in
      let fell = upcalled i s v is (own-pe T v i here within) in
      let p = world-side T P W i (local_step T i s (Upcall v) None).side within in
      let n = world-side T N W i (local_step T i s (Upcall v) None).side within in
      omega (arith, fell, p, n)
  event-kept W i (Resume v) is enabled =
      let s : Side = side W i in
      let within = enabled-low T W (event i (Resume v)) enabled in
      let fell = went_on i s v is in
      let p = world-side T P W i (local_step T i s (Resume v) None).side within in
      let n = world-side T N W i (local_step T i s (Resume v) None).side within in
      omega (arith, fell, p, n)
  event-kept W i (Kill v) is enabled =
      let s : Side = side W i in
      let within = enabled-low T W (event i (Kill v)) enabled in
      let fell = killed i s v is in
      let p = world-side T P W i (local_step T i s (Kill v) None).side within in
      let n = world-side T N W i (local_step T i s (Kill v) None).side within in
      omega (arith, fell, p, n)
  event-kept W i Handle is enabled =
      let s : Side = side W i in
      let within = enabled-low T W (event i Handle) enabled in
      let fell = took i s is in
      let p = world-side T P W i (local_step T i s Handle None).side within in
      let n = world-side T N W i (local_step T i s Handle None).side within in
      omega (arith, fell, p, n)
  event-kept W i (Fetch j) is enabled =
      let within = enabled-low T W (event i (Fetch j)) enabled in
      let both = (enabled-parts T W i (Fetch j) enabled).0 in
      let free = (and_parts (is_other_kernel T i j) (is_none (side W i).inbox) both).1 in
      let p = fetched T P W i j within free in
      let n = fetched T N W i j within free in
      let l = fetch-grants gl W i j in
      let r = fetch-grants gr W i j in
      omega (arith, p, n, l, r)
  event-kept W i (Flush j) is enabled =
      let o : Option Message = slice_get (outbox (side W i) j) 0 in
      let within = enabled-low T W (event i (Flush j)) enabled in
      let p = flushed T P W i j within in
      let n = flushed T N W i j within in
      let l = carried (of_flush P N) j o in
      let r = carried (of_flush N P) j o in
      let less = flush-all o in
      let gl' = flush-grants gl W i j in
      let gr' = flush-grants gr W i j in
      omega (arith, p, n, l, r, less, gl', gr')

  -- A schedule, of which is known at each entry what the sides are like.
  module _ (J : List Entry) (known : (before : List Entry) → IsSchedule T before → (i : ℕ) → i < T.kernels →
      IsKnown T i (side (world_after T before) i)) where
    pub schedule-kept : IsSchedule T J → sum_by (of_entry T (of_flush P N) gl) J + of_world T P (world_after T J)
        ≤ sum_by (of_entry T (of_flush N P) gr) J + of_world T N (world_after T J)
    schedule-kept runs = from [] J refl (let p = start-none T P in let n = start-none T N in omega (arith, p, n))
      where
        from : (before later : List Entry) → J ≡ before ++ later →
            sum_by (of_entry T (of_flush P N) gl) before + of_world T P (world_after T before)
            ≤ sum_by (of_entry T (of_flush N P) gr) before + of_world T N (world_after T before) →
            sum_by (of_entry T (of_flush P N) gl) J + of_world T P (world_after T J)
            ≤ sum_by (of_entry T (of_flush N P) gr) J + of_world T N (world_after T J)
        from before [] parts is =
            subst (λ K. sum_by (of_entry T (of_flush P N) gl) K + of_world T P (world_after T K)
            ≤ sum_by (of_entry T (of_flush N P) gr) K + of_world T N (world_after T K)) (sym (parts ∙ append-nil before)) is
        from before (e ∷ es) parts is =
            let W : World = world_after T before in
            let at = entry-enabled T before (start T) e es (subst (IsSchedule T) parts runs) in
            let within = enabled-low T W e.event at.1 in
            let next : Keeps W e.event =
            event-kept W e.event.kernel e.event.act (known before at.0 e.event.kernel within) at.1 in
            let l = ap (of_entry T (of_flush P N) gl) at.2 in
            let r = ap (of_entry T (of_flush N P) gr) at.2 in
            let p : of_world T P (after T W e.event) ≡ of_world T P (world_after T (before ++ e ∷ [])) =
            ap (of_world T P) (sym (run-append T before (e ∷ []) (start T))) in
            let n : of_world T N (after T W e.event) ≡ of_world T N (world_after T (before ++ e ∷ [])) =
            ap (of_world T N) (sym (run-append T before (e ∷ []) (start T))) in
            let push = sum_by_push (of_entry T (of_flush P N) gl) before e in
            let push' = sum_by_push (of_entry T (of_flush N P) gr) before e in
            from (before ++ e ∷ []) es (parts ∙ sym (append_assoc before (e ∷ []) es))
            (omega (arith, is, next, l, r, p, n, push, push'))
