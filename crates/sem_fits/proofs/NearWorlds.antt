-- Along every schedule the sides and the links speak of what a text of the version can speak of.
use Rattle.std.proofs.Common.{◌≡◌, ℕ, ◌<◌, true, false, List, [], ◌∷◌, ◌++◌, length, drop, get_or, replicate, Option, Some, None, slice_get, refl, sym, ◌∙◌, ap}
use Rattle.std.proofs.Common.{subst, arith}
use Rattle.std.specs.Prelude.{◌==◌, nat_lt}
use Rattle.std.specs.List.{All, Contains}
use Rattle.std.specs.Option.{option_map_or}
use Rattle.std.proofs.lemmas.Bool.{and_parts, eqb-true, ltb-true}
use Rattle.std.proofs.lemmas.List.FromFn.{get_or-map-range_with_len, length-map-range_with_len}
use Rattle.std.proofs.lemmas.List.Elements.{All-append, All-cons, All-head, All-nil, All-contains, All-replicate}
use Rattle.sem_key.specs.Lists.{put}
use Rattle.sem_key.proofs.Members.{found}
use Rattle.sem_key.proofs.Puts.{length-put}
use Rattle.sem_msg.specs.declared.event.Act.{Act}
use Rattle.sem_msg.specs.declared.event.Act.TheVariants.{Call as Calls, Fetch, Handle, Upcall, Resume, Flush, Kill}
use Rattle.sem_msg.specs.declared.event.Event.{Event}
use Rattle.sem_msg.specs.declared.entry.Entry.{Entry}
use Rattle.sem_msg.specs.declared.message.Message.{Message}
use Rattle.sem_msg.specs.declared.setup.Service.{Service}
use Rattle.sem_msg.specs.declared.setup.VpeDecl.{VpeDecl}
use Rattle.sem_msg.specs.Setup.{Setup, IsSetup, IsVpeDecl}
use Rattle.sem_msg.specs.Lookups.{decl, pe_of, kernel_of}
use Rattle.sem_key.specs.declared.limits.TheConstants.{PES}
use Rattle.sem_trace.specs.Ranges.{IsNode, IsKeyInText}
use Rattle.sem_machine.specs.Sides.{Side, no_side, outbox}
use Rattle.sem_machine.specs.Steps.{Step}
use Rattle.sem_machine.specs.Machine.{World, side, link, with_side, with_link, start, start_side, local_step, link_moved, input_of, after, is_enabled}
use Rattle.sem_machine.specs.Machine.{is_locally_enabled}
use Rattle.sem_machine.specs.Schedules.{IsRun, run}
use Rattle.sem_safety.proofs.Carrying.{All-put, All-read, All-drop_one}
use Rattle.sem_sound.proofs.Named.{kernel-decl}
use Rattle.sem_sound.proofs.Objects.{service-named}
use Rattle.sem_sound.proofs.Stepping.{call-valid}
use Rattle.sem_fits.proofs.Near.{NearMessage, NearMessages, NearSide, outbox-near}
use Rattle.sem_fits.proofs.NearCalls.{NearStep}
use Rattle.sem_fits.proofs.NearSteps.{NearInput, NearAct, local_step-near}
use Rattle.sem_fits.proofs.NearStarts.{no_side-near, start_side-near}

-- of all sides and links
pub record NearWorld (T : Setup) (W : World) : Type 0 where
  pub sides : All (NearSide T.version) W.sides
  pub links : All (λ row. All (NearMessages T.version) row) W.links
  pub count : length W.sides ≡ T.kernels

module _ (T : Setup) where
  pub side-near : (W : World) → NearWorld T W → (i : ℕ) → NearSide T.version (side W i)
  side-near W is i = All-read (NearSide T.version) no_side W.sides i (no_side-near T.version) is.sides

  -- the links of a kernel
  link_row-near : (W : World) → NearWorld T W → (i : ℕ) → All (NearMessages T.version) (get_or W.links i [])
  link_row-near W is i = All-read (λ (r : List (List Message)). All (NearMessages T.version) r) [] W.links i (All-nil (NearMessages T.version)) is.links

  -- a link
  pub link-near : (W : World) → NearWorld T W → (i j : ℕ) → NearMessages T.version (link W i j)
  link-near W is i j = All-read (NearMessages T.version) [] (get_or W.links i []) j (All-nil (NearMessage T.version)) (link_row-near W is i)

  -- another side of a kernel
  with_side-near : (W : World) → NearWorld T W → (i : ℕ) → i < T.kernels → (s : Side) → NearSide T.version s → NearWorld T (with_side i s W)
  with_side-near W is i few s here = record {
    sides = All-put (NearSide T.version) no_side W.sides i s
        (no_side-near T.version) here is.sides;
    links = is.links;
    count = (let count = is.count in length-put no_side W.sides i s
        (omega (arith, few, count))) ∙ is.count;
  }

  -- other messages in a link
  with_link-near : (W : World) → NearWorld T W → (i j : ℕ) (messages : List Message) → NearMessages T.version messages → NearWorld T (with_link i j messages W)
  with_link-near W is i j messages here = record {
    sides = is.sides;
    links = All-put (λ (r : List (List Message)). All (NearMessages T.version) r) [] W.links i (put [] (get_or W.links i []) j messages)
        (All-nil (NearMessages T.version)) (All-put (NearMessages T.version) [] (get_or W.links i []) j messages (All-nil (NearMessage T.version)) here
        (link_row-near W is i)) is.links;
    count = is.count;
  }

  -- the front of a list
  pub front-near : (ms : List Message) → NearMessages T.version ms → NearInput T.version (slice_get ms 0)
  front-near [] all = tt
  front-near (m ∷ ms) all = All-head (NearMessage T.version) m ms all

  -- what an act takes out of a link
  pub input-near : (W : World) → NearWorld T W → (i : ℕ) (act : Act) → NearInput T.version (input_of W i act)
  input-near W is i (Fetch j) = front-near (link W j i) (link-near W is j i)
  input-near W is i (Calls v) = tt
  input-near W is i Handle = tt
  input-near W is i (Upcall v) = tt
  input-near W is i (Resume v) = tt
  input-near W is i (Flush to) = tt
  input-near W is i (Kill v) = tt

  -- a message goes into a link
  flushed-near : (V : World) → NearWorld T V → (i j : ℕ) (front : Option Message) → NearInput T.version front
      → NearWorld T (option_map_or (λ m. with_link i j (link V i j ++ m ∷ []) V) front V)
  flushed-near V is i j None here = is
  flushed-near V is i j (Some m) here = with_link-near V is i j (link V i j ++ m ∷ [])
      (All-append (NearMessage T.version) (link V i j) (m ∷ []) (link-near V is i j)
      (All-cons (NearMessage T.version) m [] here (All-nil (NearMessage T.version))))

  -- what an act does to the links
  moved-near : (i : ℕ) (s : Side) (act : Act) (V : World) → NearSide T.version s → NearWorld T V → NearWorld T (link_moved i s act V)
  moved-near i s (Fetch j) V before is = with_link-near V is j i (drop 1 (link V j i)) (All-drop_one (NearMessage T.version) (link V j i) (link-near V is j i))
  moved-near i s (Flush j) V before is = flushed-near V is i j (slice_get (outbox s j) 0) (front-near (outbox s j) (outbox-near T.version s before j))
  moved-near i s (Calls v) V before is = is
  moved-near i s Handle V before is = is
  moved-near i s (Upcall v) V before is = is
  moved-near i s (Resume v) V before is = is
  moved-near i s (Kill v) V before is = is

module _ (T : Setup) (valid : IsSetup T) where
  -- a VPE of a kernel, and its PE, are some of which a text can speak
  pub kernel-node : (i : ℕ) → i < T.kernels → (v : ℕ) → (kernel_of T v == i) ≡ true → IsNode T.version v × IsNode T.version (pe_of T v)
  kernel-node i few v here =
      let local : kernel_of T v ≡ i = eqb-true (kernel_of T v) i here in
      let d = kernel-decl T valid v (omega (arith, few, local)) in
      let declared : IsVpeDecl T d.0 = All-contains (IsVpeDecl T) T.vpes d.0 valid.vpes d.2 in
      let pe : pe_of T v ≡ d.0.pe = ap (λ (o : Option VpeDecl). option_map_or (λ x. x.pe) o PES) d.1 in
      (subst (IsNode T.version) d.3 declared.vpe, subst (IsNode T.version) (sym pe) declared.pe)

  -- the VPE of an act that is enabled
  pub act-near : (i : ℕ) → i < T.kernels → (s : Side) (a : Act) → is_locally_enabled T i s a ≡ true → NearAct T.version T a
  unfolding is_locally_enabled
  act-near i few s (Calls v) enabled = kernel-node i few v (and_parts (kernel_of T v == i) _ enabled).0
  act-near i few s (Upcall v) enabled = kernel-node i few v (and_parts (kernel_of T v == i) _ enabled).0
  act-near i few s (Resume v) enabled = kernel-node i few v (and_parts (kernel_of T v == i) _ enabled).0
  act-near i few s (Kill v) enabled = kernel-node i few v (and_parts (kernel_of T v == i) _ enabled).0
  act-near i few s (Fetch j) enabled = tt
  act-near i few s Handle enabled = tt
  act-near i few s (Flush j) enabled = tt

  -- a service has the key of a VPE that is declared
  service-near : (x : Service) → Contains T.services x → IsKeyInText T.version x.key
  service-near x among =
      let named = service-named T valid x among in
      from (decl T x.key.vpe) refl named.1
    where
      number : x.key.number < 4096
      number = (service-named T valid x among).0.0.2

      from : (o : Option VpeDecl) → decl T x.key.vpe ≡ o → option_map_or (λ d. d.pe == x.key.pe) o false ≡ true → IsKeyInText T.version x.key
      from None none no' = absurd cc
      from (Some d) some same =
          let at = found (λ (y : VpeDecl). y.vpe == x.key.vpe) T.vpes d some in
          let declared : IsVpeDecl T d = All-contains (IsVpeDecl T) T.vpes d valid.vpes at.0 in
          (subst (IsNode T.version) (eqb-true d.pe x.key.pe same) declared.pe, subst (IsNode T.version) (eqb-true d.vpe x.key.vpe at.1) declared.vpe, number)

  -- the parts of what makes an event enabled
  pub enabled-parts : (W : World) (e : Event) → is_enabled T W e ≡ true →
      (e.kernel < T.kernels) × (is_locally_enabled T e.kernel (side W e.kernel) e.act ≡ true)
  unfolding is_enabled
  enabled-parts W e enabled =
      let one = and_parts (nat_lt e.kernel T.kernels) _ enabled in
      (ltb-true e.kernel T.kernels one.0, (and_parts (is_locally_enabled T e.kernel (side W e.kernel) e.act) _ one.1).0)

  -- the step of an enabled event
  pub step-near : (W : World) → NearWorld T W → (e : Event) → is_enabled T W e ≡ true
      → NearStep T.version (local_step T e.kernel (side W e.kernel) e.act (input_of W e.kernel e.act))
  step-near W is e enabled =
      let parts = enabled-parts W e enabled in
      local_step-near T.version T e.kernel (side W e.kernel) e.act (input_of W e.kernel e.act) service-near
      (λ v c at. call-valid T valid e.kernel parts.0 v _ c at)
      (act-near e.kernel parts.0 (side W e.kernel) e.act parts.1) (side-near T W is e.kernel) (input-near T W is e.kernel e.act)

  -- the world after it
  pub after-near : (W : World) → NearWorld T W → (e : Event) → is_enabled T W e ≡ true → NearWorld T (after T W e)
  unfolding after
  after-near W is e enabled =
      let x : Step = local_step T e.kernel (side W e.kernel) e.act (input_of W e.kernel e.act) in
      let now = step-near W is e enabled in
      let moved = moved-near T e.kernel (side W e.kernel) e.act (with_side e.kernel x.side W) (side-near T W is e.kernel)
      (with_side-near T W is e.kernel (enabled-parts W e enabled).0 x.side now.0) in
      record { sides = moved.sides; links = moved.links; count = moved.count }

  -- the world at the start
  pub start-near : NearWorld T (start T)
  unfolding start
  start-near = record {
    sides = λ k d within. let few : k < T.kernels = (let long = length-map-range_with_len (start_side T) 0 T.kernels in omega (arith, within, long)) in subst
        (NearSide T.version) (sym (get_or-map-range_with_len (start_side T) 0 T.kernels k k d few (omega arith))) (start_side-near T valid k few);
    links = All-replicate (λ (r : List (List Message)). All (NearMessages T.version) r) T.kernels (replicate T.kernels [])
        (All-replicate (NearMessages T.version) T.kernels [] (All-nil (NearMessage T.version)));
    count = length-map-range_with_len (start_side T) 0 T.kernels;
  }

  -- the world after a run
  pub run-near : (J : List Entry) (W : World) → NearWorld T W → IsRun T W J → NearWorld T (run T W J)
  unfolding IsRun
  run-near [] W is runs = is
  run-near (e ∷ es) W is runs = run-near es (after T W e.event) (after-near W is e.event runs.0) runs.2
