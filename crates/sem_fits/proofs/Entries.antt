-- Every entry of a schedule can be told in the text of its version.
use Rattle.std.proofs.Common.{◌≡◌, ℕ, ◌<◌, ◌&&◌, true, false, nat_lt, not, List, [], ◌∷◌, Option, Some, None, is_none, is_some, slice_get, refl, sym, ◌∙◌, ap}
use Rattle.std.proofs.Common.{subst, arith}
use Rattle.std.specs.Prelude.{◌==◌}
use Rattle.std.specs.List.{All, Contains}
use Rattle.std.specs.Option.{option_map, option_map_or}
use Rattle.std.proofs.lemmas.Bool.{and_parts, cond_both, ltb-true}
use Rattle.std.proofs.lemmas.List.Elements.{All-cons, All-nil}
use Rattle.std.proofs.lemmas.Option.{slice_get_within, get_or_from_slice_get}
use Rattle.sem_msg.specs.declared.call.Call.{Call}
use Rattle.sem_msg.specs.declared.event.Act.{Act}
use Rattle.sem_msg.specs.declared.event.Act.TheVariants.{Call as Calls, Fetch, Handle, Upcall, Resume, Flush, Kill}
use Rattle.sem_msg.specs.declared.event.Event.{Event}
use Rattle.sem_msg.specs.declared.entry.Consent.{Consent}
use Rattle.sem_msg.specs.declared.entry.Detail.{Detail}
use Rattle.sem_msg.specs.declared.entry.Detail.TheVariants.{Called, Carried, Asked, Nothing}
use Rattle.sem_msg.specs.declared.entry.Entry.{Entry}
use Rattle.sem_msg.specs.declared.entry.Outcome.{Outcome}
use Rattle.sem_msg.specs.declared.message.Message.{Message}
use Rattle.sem_msg.specs.declared.state.Ask.{Ask}
use Rattle.sem_msg.specs.Message.{Fits}
use Rattle.sem_msg.specs.Setup.{Setup, IsSetup}
use Rattle.sem_msg.specs.Lookups.{kernel_of, denies}
use Rattle.sem_trace.specs.Ranges.{IsNode}
use Rattle.sem_journal.specs.EntryRanges.{IsCode, EventFits, ReplyFits, EntryFits}
use Rattle.sem_journal.specs.ShownWords.{carries_long}
use Rattle.sem_journal.proofs.LongMemory.{long_entry}
use Rattle.sem_machine.specs.Sides.{Side, row, parked, outbox, is_alive, ask_taken}
use Rattle.sem_machine.specs.Steps.{Step, unshown}
use Rattle.sem_machine.specs.Asks.{asker, is_unawaited}
use Rattle.sem_machine.specs.Upcalls.{ask_decided, upcall_row}
use Rattle.sem_machine.specs.Machine.{World, side, link, start, local_step, local_entry, detail_of, replied_vpe, input_of, after, entry_of, is_enabled}
use Rattle.sem_machine.specs.Machine.{is_allowed, is_locally_enabled, is_other_kernel, next_call}
use Rattle.sem_machine.specs.Schedules.{IsRun, IsSchedule}
use Rattle.sem_sound.specs.SoundWorlds.{IsSoundWorld}
use Rattle.sem_sound.proofs.Meeting.{calls-fit}
use Rattle.sem_sound.proofs.Stepping.{call-valid}
use Rattle.sem_sound.proofs.Scheduling.{schedule-sound, after-sound}
use Rattle.sem_fits.proofs.Near.{NearInbox, outbox-near}
use Rattle.sem_fits.proofs.NearCalls.{NearShown}
use Rattle.sem_fits.proofs.NearSteps.{NearInput, NearAct}
use Rattle.sem_fits.proofs.NearWorlds.{NearWorld, side-near, link-near, front-near, act-near, enabled-parts, step-near, after-near, start-near}
use Rattle.sem_fits.proofs.Messages.{message-fits, short-message}

-- the front of a list is in it
front-among : (ms : List Message) (m : Message) → slice_get ms 0 ≡ Some m → Contains ms m
front-among ms m there = (0, slice_get_within ms 0 m there, get_or_from_slice_get ms 0 m m there)

-- who was asked is told by each upcall
abbrev Tells : Step → Type 0
Tells x = is_some x.outcome.asked ≡ true

-- an ask that is decided
decided-tells : (T : Setup) (i v : ℕ) (a : Ask) (s : Side) → Tells (ask_decided T i v a s)
decided-tells T i v a s = cond_both (is_unawaited T i s a) _ _ Tells (λ _. refl) (λ _. cond_both (denies T v (asker a)) _ _ Tells (λ _. refl) (λ _. refl))

-- an upcall of a VPE that is asked
upcall-tells : (T : Setup) (i : ℕ) (s : Side) (v : ℕ) → is_some (slice_get (row s v).asks 0) ≡ true → Tells (upcall_row T i s v)
unfolding upcall_row
upcall-tells T i s v there = from (slice_get (row s v).asks 0) there
  where
    from : (o : Option Ask) → is_some o ≡ true → Tells (option_map_or (λ a. ask_decided T i v a (ask_taken v s)) o (unshown s))
    from None none = absurd cc
    from (Some a) some = decided-tells T i v a (ask_taken v s)

module _ (T : Setup) (valid : IsSetup T) (W : World) (near : NearWorld T W) (sound : IsSoundWorld T W) (i : ℕ) (few : i < T.kernels) where
  -- what an entry tells of an act, with its memory
  abbrev Told : Act → Detail → Type 0
  Told act detail = EventFits T.version T.kernels act detail × (carries_long detail ≡ false)

  -- what an enabled act tells is in its ranges
  told : (act : Act) (o : Outcome) → NearAct T.version T act → is_locally_enabled T i (side W i) act ≡ true → is_allowed T W i act ≡ true
      → o ≡ (local_step T i (side W i) act (input_of W i act)).outcome → NearShown T.version o → Told act (detail_of T (side W i) act (input_of W i act) o)
  unfolding is_locally_enabled local_step
  told (Calls v) o node enabled allowed same shown =
      let one = and_parts (kernel_of T v == i) (is_alive (side W i) v && (is_none (parked (side W i) v) && is_some (next_call T (side W i) v))) enabled in
      let two = and_parts (is_alive (side W i) v) (is_none (parked (side W i) v) && is_some (next_call T (side W i) v)) one.1 in
      let three = and_parts (is_none (parked (side W i) v)) (is_some (next_call T (side W i) v)) two.1 in
      from (next_call T (side W i) v) refl three.1
    where
      from : (c : Option Call) → next_call T (side W i) v ≡ c → is_some c ≡ true
          → Told (Calls v) (option_map_or (λ call. Called (row (side W i) v).next_call call) c Nothing)
      from None there none = absurd cc
      from (Some c) there some = (
        (
          node.0,
          (let index = calls-fit T valid i few (side W i) (sound.sides i few) v in omega (arith, index)),
          call-valid T valid i few v
              (row (side W i) v).next_call c there,
        ),
        refl,
      )
  told (Fetch j) o node enabled allowed same shown =
      let other = and_parts (nat_lt j T.kernels) (not (j == i)) (and_parts (is_other_kernel T i j) (is_none (side W i).inbox) enabled).0 in
      from (slice_get (link W j i) 0) refl (ltb-true j T.kernels other.0) (front-near T (link W j i) (link-near T W near j i)) allowed
    where
      from : (m : Option Message) → slice_get (link W j i) 0 ≡ m → j < T.kernels → NearInput T.version m → is_some m ≡ true
          → Told (Fetch j) (option_map_or (λ q. Carried j q) m Nothing)
      from None there kernel input none = absurd cc
      from (Some m) there kernel input some = let fits : Fits m = sound.links j i m
          (front-among (link W j i) m there) in ((refl, kernel, message-fits T.version m fits input), short-message j m fits)
  told Handle o node enabled allowed same shown = from (side W i).inbox refl (side-near T W near i).inbox enabled
    where
      from : (m : Option (ℕ × Message)) → (side W i).inbox ≡ m → NearInbox T.version m → is_some m ≡ true →
          Told Handle (option_map_or (λ q. Carried q.0 q.1) m Nothing)
      from None there inbox none = absurd cc
      from (Some (k, m)) there inbox some = let here = (sound.sides i few).inbox k m there in
          ((here.1, message-fits T.version m here.0 inbox), short-message k m here.0)
  told (Upcall v) o node enabled allowed same shown =
      let one = and_parts (kernel_of T v == i) (is_alive (side W i) v && is_some (slice_get (row (side W i) v).asks 0)) enabled in
      let two = and_parts (is_alive (side W i) v) (is_some (slice_get (row (side W i) v).asks 0)) one.1 in
      from o.asked refl (ap (λ (p : Outcome). is_some p.asked) same ∙ upcall-tells T i (side W i) v two.1)
    where
      from : (a : Option (ℕ × Consent)) → o.asked ≡ a → is_some a ≡ true → Told (Upcall v) (option_map_or (λ b. Asked b.0 b.1) a Nothing)
      from None there none = absurd cc
      from (Some (a, c)) there some = ((node.0, shown.asker a c there), refl)
  told (Resume v) o node enabled allowed same shown = (node.0, refl)
  told (Flush j) o node enabled allowed same shown =
      let both = and_parts (is_other_kernel T i j) (is_some (slice_get (outbox (side W i) j) 0)) enabled in
      let other = and_parts (nat_lt j T.kernels) (not (j == i)) both.0 in
      from (slice_get (outbox (side W i) j) 0) refl (ltb-true j T.kernels other.0)
      (front-near T (outbox (side W i) j) (outbox-near T.version (side W i) (side-near T W near i) j)) both.1
    where
      from : (m : Option Message) → slice_get (outbox (side W i) j) 0 ≡ m → j < T.kernels → NearInput T.version m → is_some m ≡ true
          → Told (Flush j) (option_map_or (λ q. Carried j q) m Nothing)
      from None there kernel input none = absurd cc
      from (Some m) there kernel input some = let fits : Fits m = ((sound.sides i few).outs j m
          (front-among (outbox (side W i) j) m there)).0 in ((refl, kernel, message-fits T.version m fits input), short-message j m fits)
  told (Kill v) o node enabled allowed same shown = (node.0, refl)

-- a version has VPEs
some-node : (version : ℕ) → IsNode version 0
some-node version = cond_both (version == 1) 64 128 (λ n. 0 < n) (λ _. omega arith) (λ _. omega arith)

-- the VPE that an act answers
replied-node : (T : Setup) (act : Act) → NearAct T.version T act → IsNode T.version (replied_vpe act)
replied-node T (Calls v) node = node.0
replied-node T (Resume v) node = node.0
replied-node T (Fetch j) node = some-node T.version
replied-node T Handle node = some-node T.version
replied-node T (Upcall v) node = some-node T.version
replied-node T (Flush j) node = some-node T.version
replied-node T (Kill v) node = some-node T.version

-- what was replied
reply-fits : (version v : ℕ) (reply : Option ℕ) → IsNode version v → ((n : ℕ) → reply ≡ Some n → IsCode n) → ReplyFits version
    (option_map (λ code. record { vpe = v; code = code }) reply)
reply-fits version v None node code = tt
reply-fits version v (Some n) node code = (node, code n refl)

module _ (T : Setup) (valid : IsSetup T) where
  entry-fits : (W : World) → NearWorld T W → IsSoundWorld T W → (e : Event) → is_enabled T W e ≡ true → EntryFits T.version T.kernels (entry_of T W e)
  unfolding entry_of local_entry is_enabled
  entry-fits W near sound e enabled =
      let i : ℕ = e.kernel in
      let s : Side = side W i in
      let parts = enabled-parts T valid W e enabled in
      let allowed = (and_parts (is_locally_enabled T i s e.act) (is_allowed T W i e.act) (and_parts (nat_lt i T.kernels) _ enabled).1).1 in
      let node = act-near T valid i parts.0 s e.act parts.1 in
      let x : Step = local_step T i s e.act (input_of W i e.act) in
      let shown : NearShown T.version x.outcome = (step-near T valid W near e enabled).1 in
      let tells = told T valid W near sound i parts.0 e.act x.outcome node parts.1 allowed refl shown in
      record {
        kernel = parts.0;
        event = tells.0;
        grant = shown.granted;
        cut = shown.cut_so;
        reply = reply-fits T.version (replied_vpe e.act) x.outcome.reply (replied-node T e.act node) shown.code;
        memory = long_entry T.version T.kernels (entry_of T W e) tells.0 ∙ tells.1;
      }

  -- each entry of a run
  run-fits : (J : List Entry) (W : World) → NearWorld T W → IsSoundWorld T W → IsRun T W J → All (EntryFits T.version T.kernels) J
  unfolding IsRun
  run-fits [] W near sound runs = All-nil (EntryFits T.version T.kernels)
  run-fits (e ∷ es) W near sound runs = All-cons (EntryFits T.version T.kernels) e es
      (subst (EntryFits T.version T.kernels) (sym runs.1) (entry-fits W near sound e.event runs.0))
      (run-fits es (after T W e.event) (after-near T valid W near e.event runs.0) (after-sound T valid W sound e.event runs.0).0 runs.2)

  -- each entry of a schedule
  pub entries-fit : (J : List Entry) → IsSchedule T J → All (EntryFits T.version T.kernels) J
  unfolding IsRun
  entries-fit J runs = run-fits J (start T) (start-near T valid) (schedule-sound T valid [] tt) runs
