-- After every schedule each side is sound, and what is in the links fits.
use Rattle.std.proofs.Common.{◌+◌, ◌≤◌, ◌∙◌, length, map, ◌≡◌, ℕ, zero, suc, ◌<◌, true, List, [], ◌∷◌, ◌++◌, replicate, drop, get_or, Option, Some, None}
use Rattle.std.proofs.Common.{slice_get, refl, sym, ap, subst, inl, inr, arith}
use Rattle.std.specs.Prelude.{nat_lt}
use Rattle.std.specs.List.{Contains}
use Rattle.std.specs.Option.{option_map_or}
use Rattle.std.proofs.lemmas.Bool.{cases_eq, and_parts, ltb-true}
use Rattle.std.proofs.lemmas.List.Elements.{Contains-push_cases}
use Rattle.std.proofs.lemmas.List.FromFn.{get_or-map-range_with_len}
use Rattle.std.proofs.lemmas.Option.{slice_get_within, get_or_from_slice_get}
use Rattle.sem_key.specs.Lists.{put}
use Rattle.sem_msg.specs.declared.event.Act.{Act}
use Rattle.sem_msg.specs.declared.event.Act.TheVariants.{Call as Calls, Fetch, Handle, Upcall, Resume, Flush, Kill}
use Rattle.sem_msg.specs.declared.event.Event.{Event}
use Rattle.sem_msg.specs.declared.entry.Entry.{Entry}
use Rattle.sem_msg.specs.declared.message.Message.{Message}
use Rattle.sem_msg.specs.Message.{Fits}
use Rattle.sem_msg.specs.Setup.{Setup, IsSetup}
use Rattle.sem_machine.specs.Sides.{Side, no_side, outbox}
use Rattle.sem_machine.specs.Machine.{World, side, link, with_side, with_link, start, start_side, local_step, link_moved, input_of, after, is_enabled}
use Rattle.sem_machine.specs.Machine.{is_locally_enabled, is_allowed, empty_side, vpe_added, vpe_fresh, root_added}
use Rattle.sem_machine.specs.Schedules.{IsRun, IsSchedule, run, world_after}
use Rattle.sem_key.proofs.Puts.{get_or-put_same, get_or-put_other}
use Rattle.sem_key.proofs.Members.{Contains-nil, Contains-head, Contains-tail, Contains-from_map}
use Rattle.sem_machine.specs.Sound.{IsSound, bit, one_if}
use Rattle.sem_sound.specs.SoundWorlds.{IsSoundInput, IsSoundWorld, CountsFit, parked_calls, all_parked_calls}
use Rattle.std.specs.Prelude.{count_by}
use Rattle.std.proofs.lemmas.List.{length_push}
use Rattle.std.proofs.lemmas.List.Sums.{sum_by-cons}
use Rattle.std.specs.List.{sum_by, range_with_len}
use Rattle.sem_key.specs.declared.limits.TheConstants.{VPES}
use Rattle.sem_msg.specs.declared.state.Parked.{Parked}
use Rattle.sem_msg.specs.Lookups.{own_vpes}
use Rattle.sem_machine.specs.Steps.{Step}
use Rattle.sem_machine.specs.Seeded.{is_call}
use Rattle.sem_machine.proofs.Folds.{in_turn-keeps}
use Rattle.sem_machine.proofs.Weighing.{weigh-put, weigh-none, weigh-replicate}
use Rattle.sem_sound.proofs.Starting.{start-sound}
use Rattle.sem_sound.proofs.Stepping.{step-sound}

-- the front of a list is in it
front-among : (ms : List Message) (m : Message) → slice_get ms 0 ≡ Some m → Contains ms m
front-among ms m at = (0, slice_get_within ms 0 m at, get_or_from_slice_get ms 0 m m at)

later-among : (ms : List Message) (m : Message) → Contains (drop 1 ms) m → Contains ms m
later-among [] m among = among
later-among (x ∷ xs) m among = Contains-tail x xs m among

module _ (T : Setup) (valid : IsSetup T) where
  -- a change of links leaves the sides
  moved-sides : (i : ℕ) (s : Side) (a : Act) (V : World) → (link_moved i s a V).sides ≡ V.sides
  moved-sides i s (Calls v) V = refl
  moved-sides i s (Fetch j) V = refl
  moved-sides i s Handle V = refl
  moved-sides i s (Upcall v) V = refl
  moved-sides i s (Resume v) V = refl
  moved-sides i s (Flush j) V = from (slice_get (outbox s j) 0)
    where
      from : (o : Option Message) → (option_map_or (λ m. with_link i j (link V i j ++ m ∷ []) V) o V).sides ≡ V.sides
      from None = refl
      from (Some m) = refl
  moved-sides i s (Kill v) V = refl

  -- what is in a link fits, and is no more than the window
  abbrev IsSoundLink : List Message → Type 0
  IsSoundLink ms = ((m : Message) → Contains ms m → Fits m) × (length ms ≤ T.window)

  moved-replies : (i : ℕ) (s : Side) (a : Act) (V : World) → (link_moved i s a V).replies ≡ V.replies
  moved-replies i s (Calls v) V = refl
  moved-replies i s (Fetch j) V = refl
  moved-replies i s Handle V = refl
  moved-replies i s (Upcall v) V = refl
  moved-replies i s (Resume v) V = refl
  moved-replies i s (Flush j) V = from (slice_get (outbox s j) 0)
    where
      from : (o : Option Message) → (option_map_or (λ m. with_link i j (link V i j ++ m ∷ []) V) o V).replies ≡ V.replies
      from None = refl
      from (Some m) = refl
  moved-replies i s (Kill v) V = refl

  -- a link with other messages
  link-put : (V : World) (i j : ℕ) (ms : List Message) → IsSoundLink ms → ((a b : ℕ) → IsSoundLink (link V a b)) → (a b : ℕ) →
      IsSoundLink (link (with_link i j ms V) a b)
  link-put V i j ms new old a b = elim (cases_eq a i) [
    | inl same ↦
        let row : List (List Message) = put [] (get_or V.links i []) j ms in
        let inner : link (with_link i j ms V) a b ≡ get_or row b [] = ap (λ k. link (with_link i j ms V) k b) same
        ∙ ap (λ (ls : List (List Message)). get_or ls b []) (get_or-put_same [] V.links i row) in
        subst IsSoundLink (sym inner) (elim (cases_eq b j) [
          | inl at ↦ subst (λ k. IsSoundLink (get_or row k [])) (sym at) (subst IsSoundLink (sym (get_or-put_same [] (get_or V.links i []) j ms)) new)
          | inr other ↦ subst IsSoundLink (sym (get_or-put_other [] (get_or V.links i []) j b ms other)) (old i b)
        ])
    | inr other ↦ subst (λ (ls : List (List Message)). IsSoundLink (get_or ls b []))
        (sym (get_or-put_other [] V.links i a (put [] (get_or V.links i []) j ms) other)) (old a b)
  ]

  module _ (W : World) (is : IsSoundWorld T W) where
    each-link : (a b : ℕ) → IsSoundLink (link W a b)
    each-link a b = (is.links a b, is.windows a b)

    moved-links : (i : ℕ) → i < T.kernels → (x : Side) (act : Act) → is_allowed T W i act ≡ true → (a b : ℕ) →
        IsSoundLink (link (link_moved i (side W i) act (with_side i x W)) a b)
    moved-links i few x (Calls v) allowed a b = each-link a b
    moved-links i few x (Fetch j) allowed a b =
        link-put (with_side i x W) j i (drop 1 (link W j i)) (
          (λ q later. is.links j i q (later-among (link W j i) q later)),
          (let less = shorter (link W j i) in let before = is.windows j i in omega (arith, less, before)),
        ) each-link a b
      where
        shorter : (ms : List Message) → length (drop 1 ms) ≤ length ms
        shorter [] = omega arith
        shorter (m ∷ ms) = omega arith
    moved-links i few x Handle allowed a b = each-link a b
    moved-links i few x (Upcall v) allowed a b = each-link a b
    moved-links i few x (Resume v) allowed a b = each-link a b
    moved-links i few x (Kill v) allowed a b = each-link a b
    moved-links i few x (Flush j) allowed a b = from (slice_get (outbox (side W i) j) 0) refl
      where
        from : (o : Option Message) → slice_get (outbox (side W i) j) 0 ≡ o →
            IsSoundLink (link (option_map_or (λ q. with_link i j (link (with_side i x W) i j ++ q ∷ []) (with_side i x W)) o (with_side i x W)) a b)
        from None at = each-link a b
        from (Some q) at = link-put (with_side i x W) i j (link W i j ++ q ∷ []) (
          (λ y in_link. elim (Contains-push_cases (link W i j) q y in_link) [
            | inl before ↦ is.links i j y before
            | inr same ↦ subst Fits same ((is.sides i few).outs j q (front-among (outbox (side W i) j) q at)).0
          ]),
          (let room = ltb-true (length (link W i j)) T.window allowed in let long = length_push (link W i j) q in omega (arith, room, long)),
        )
            each-link a b

    fetched-fits : (i : ℕ) (act : Act) → IsSoundInput act (input_of W i act)
    fetched-fits i (Fetch j) = from (slice_get (link W j i) 0) refl
      where
        from : (o : Option Message) → slice_get (link W j i) 0 ≡ o → IsSoundInput (Fetch j) o
        from None at = tt
        from (Some m) at = is.links j i m (front-among (link W j i) m at)
    fetched-fits i (Calls v) = tt
    fetched-fits i Handle = tt
    fetched-fits i (Upcall v) = tt
    fetched-fits i (Resume v) = tt
    fetched-fits i (Flush j) = tt
    fetched-fits i (Kill v) = tt

    pub after-sound : (e : Event) → is_enabled T W e ≡ true →
        IsSoundWorld T (after T W e) × ((after T W e).replies + all_parked_calls (after T W e) ≤ W.replies + all_parked_calls W + bit (is_call e.act))
    unfolding after is_enabled
    after-sound e enabled =
        let i : ℕ = e.kernel in
        let one = and_parts (nat_lt i T.kernels) _ enabled in
        let few = ltb-true i T.kernels one.0 in
        let here = and_parts (is_locally_enabled T i (side W i) e.act) _ one.1 in
        let z : Step = local_step T i (side W i) e.act (input_of W i e.act) in
        let x : Side = z.side in
        let both = step-sound T valid i few (side W i) (is.sides i few) e.act here.0 (input_of W i e.act) (fetched-fits i e.act) in
        let steps = both.0 in
        let V : World = link_moved i (side W i) e.act (with_side i x W) in
        let same : V.sides ≡ put no_side W.sides i x = moved-sides i (side W i) e.act (with_side i x W) in
        let paid = both.1 in
        let fits = both.2 (is.counts i few) in
        let all = ap (sum_by parked_calls) same in
        let sides = weigh-put parked_calls no_side refl W.sides i x in
        let replies = moved-replies i (side W i) e.act (with_side i x W) in
        let told = counted z.outcome.reply V.replies in (
          record {
            sides = λ j kernel. subst (λ (ss : List Side). IsSound T j (get_or ss j no_side)) (sym same) (elim (cases_eq j i) [
              | inl at ↦ subst (λ k. IsSound T k (get_or (put no_side W.sides i x) k no_side)) (sym at)
                  (subst (IsSound T i) (sym (get_or-put_same no_side W.sides i x)) steps)
              | inr other ↦ subst (IsSound T j) (sym (get_or-put_other no_side W.sides i j x other)) (is.sides j kernel)
            ]);
            counts = λ j kernel. subst (λ (ss : List Side). CountsFit (get_or ss j no_side)) (sym same) (elim (cases_eq j i) [
              | inl at ↦ subst (λ k. CountsFit (get_or (put no_side W.sides i x) k no_side)) (sym at)
                  (subst CountsFit (sym (get_or-put_same no_side W.sides i x)) fits)
              | inr other ↦ subst CountsFit (sym (get_or-put_other no_side W.sides i j x other)) (is.counts j kernel)
            ]);
            links = λ a b. (moved-links i few x e.act here.1 a b).0;
            windows = λ a b. (moved-links i few x e.act here.1 a b).1;
          },
          omega (arith, paid, all, sides, replies, told),
        )
      where
        counted : (o : Option ℕ) (n : ℕ) → option_map_or (λ code. n + 1) o n ≡ n + one_if o
        counted None n = omega arith
        counted (Some code) n = refl

  no-links : (n i j : ℕ) (m : Message) → Contains (get_or (get_or (replicate n (replicate T.kernels [])) i []) j []) m → ⊥
  no-links zero i j m among = Contains-nil m among
  no-links (suc n) zero j m among = inner T.kernels j among
    where
      inner : (k j : ℕ) → Contains (get_or (replicate k []) j []) m → ⊥
      inner zero j among = Contains-nil m among
      inner (suc k) zero among = Contains-nil m among
      inner (suc k) (suc j) among = inner k j among
  no-links (suc n) (suc i) j m among = no-links n i j m among

  -- at the start no job is open
  start-jobs : (i : ℕ) → (start_side T i).jobs ≡ []
  unfolding start_side
  start-jobs i = in_turn-keeps (λ s. s.jobs ≡ []) vpe_added (λ d s here. in_turn-keeps (λ t. t.jobs ≡ []) (root_added d) (λ r t same. same) d.roots
      (vpe_fresh d s) here) (own_vpes T i) (empty_side T) refl

  start-world : IsSoundWorld T (start T)
  unfolding start
  start-world = record {
    sides = λ i few. subst (IsSound T i) (sym (get_or-map-range_with_len (start_side T) 0 T.kernels i i no_side few (omega arith))) (start-sound T valid i few);
    counts = λ i few. subst CountsFit (sym (get_or-map-range_with_len (start_side T) 0 T.kernels i i no_side few (omega arith)))
        (λ x among. absurd (Contains-nil x (subst (λ xs. Contains xs x) (start-jobs i) among)));
    links = λ a b m among. absurd (no-links T.kernels a b m among);
    windows = λ a b. empty (link (start T) a b) (λ m among. no-links T.kernels a b m among);
  }
    where
      empty : (ms : List Message) → ((m : Message) → Contains ms m → ⊥) → length ms ≤ T.window
      empty [] none = omega arith
      empty (m ∷ ms) none = absurd (none m (Contains-head m ms))

  -- at the start no call is parked
  start-parks : (i : ℕ) → parked_calls (start_side T i) ≡ 0
  unfolding start_side
  start-parks i =
      let parks = in_turn-keeps (λ s. s.parks ≡ replicate VPES None) vpe_added (λ d s here. in_turn-keeps (λ t. t.parks ≡ replicate VPES None) (root_added d)
      (λ r t same. same) d.roots (vpe_fresh d s) here) (own_vpes T i) (empty_side T) refl in
      ap (sum_by (λ (p : Option Parked). one_if p)) parks ∙ weigh-replicate (λ (p : Option Parked). one_if p) VPES None refl

  start-parked : all_parked_calls (start T) ≡ 0
  unfolding start
  start-parked = weigh-none parked_calls (map (start_side T) (range_with_len 0 T.kernels)) (λ s among. let from =
      Contains-from_map (start_side T) (range_with_len 0 T.kernels) s among in ap parked_calls (sym from.2) ∙ start-parks from.0)

  run-sound : (J : List Entry) (W : World) → IsSoundWorld T W → IsRun T W J →
      IsSoundWorld T (run T W J) × ((run T W J).replies + all_parked_calls (run T W J) ≤ W.replies + all_parked_calls W + count_by (λ e. is_call e.event.act) J)
  unfolding IsRun
  run-sound [] W is runs = (is, omega arith)
  run-sound (e ∷ es) W is runs =
      let next = after-sound W is e.event runs.0 in
      let rest = run-sound es (after T W e.event) next.0 runs.2 in
      let one = next.1 in
      let all = rest.1 in
      let made = sum_by-cons (λ (x : Entry). bit (is_call x.event.act)) e es in
      (rest.0, omega (arith, one, all, made))

  pub schedule-sound : (J : List Entry) → IsSchedule T J → IsSoundWorld T (world_after T J)
  schedule-sound J runs = (run-sound J (start T) start-world runs).0

  pub schedule-paid : (J : List Entry) → IsSchedule T J → (world_after T J).replies + all_parked_calls (world_after T J) ≤ count_by (λ e. is_call e.event.act) J
  unfolding start
  schedule-paid J runs = let all = (run-sound J (start T) start-world runs).1 in let none = start-parked in omega (arith, all, none)
