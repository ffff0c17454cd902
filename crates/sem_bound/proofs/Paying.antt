-- A world pays for each entry but those of calls and kills: a call brings the most entries that it can, and a kill 1.
use Rattle.std.proofs.Common.{◌≡◌, ℕ, zero, suc, ◌+◌, ◌<◌, ◌≤◌, ◌&&◌, Bool, true, List, [], ◌∷◌, ◌++◌, length, drop}
use Rattle.std.proofs.Common.{get_or, replicate, Option, Some, None, is_some, is_none, slice_get, refl, sym, ◌∙◌, ap}
use Rattle.std.proofs.Common.{subst, arith, append-nil, append_assoc}
use Rattle.std.specs.Prelude.{◌==◌, nat_lt, if◌then◌else◌}
use Rattle.std.specs.List.{Contains, filter, sum_by}
use Rattle.std.specs.Option.{option_map, option_map_or}
use Rattle.std.proofs.lemmas.Bool.{and_parts, cond-true, eqb-true, ltb-true}
use Rattle.std.proofs.lemmas.List.FromFn.{get_or-map-range_with_len}
use Rattle.std.proofs.lemmas.List.Elements.{Contains-append_right}
use Rattle.std.proofs.lemmas.List.Sums.{sum_by-cons, sum_by_push}
use Rattle.sem_key.specs.declared.limits.TheConstants.{VPES}
use Rattle.sem_key.specs.KeyName.{KeyName}
use Rattle.sem_key.specs.CapList.{fresh}
use Rattle.sem_key.specs.Lists.{in_turn, put}
use Rattle.sem_msg.specs.declared.message.Message.{Message}
use Rattle.sem_msg.specs.declared.call.Call.{Call}
use Rattle.sem_msg.specs.declared.entry.Detail.TheVariants.{Called, Nothing}
use Rattle.sem_msg.specs.declared.entry.Entry.{Entry}
use Rattle.sem_msg.specs.declared.event.Event.{Event}
use Rattle.sem_msg.specs.declared.event.Act.{Act}
use Rattle.sem_msg.specs.declared.event.Act.TheVariants.{Call as Calls, Fetch, Handle, Upcall, Resume, Flush, Kill}
use Rattle.sem_msg.specs.declared.setup.Root.{Root}
use Rattle.sem_msg.specs.declared.setup.VpeDecl.{VpeDecl}
use Rattle.sem_msg.specs.declared.state.Ask.{Ask}
use Rattle.sem_msg.specs.Rows.{VpeRow, no_vpe}
use Rattle.sem_msg.specs.Setup.{Setup, root_key}
use Rattle.sem_msg.specs.Lookups.{pe_of, pe_owner, kernel_of}
use Rattle.sem_machine.specs.Sides.{Side, no_side, row, parked, outbox, is_alive, call_counted, ask_taken, unparked}
use Rattle.sem_machine.specs.Sides.{sent, cap_added, with_inbox}
use Rattle.sem_machine.specs.Steps.{Step, unshown}
use Rattle.sem_machine.specs.Calls.{call_row}
use Rattle.sem_machine.specs.Upcalls.{ask_decided, upcall_row}
use Rattle.sem_machine.specs.Handles.{handled}
use Rattle.sem_machine.specs.Resumes.{can_resume, resume_row}
use Rattle.sem_msg.specs.VpeRows.{new_vpe, root_held}
use Rattle.sem_machine.specs.Machine.{World, side, link, with_side, with_link, start, start_side, empty_side}
use Rattle.sem_machine.specs.Machine.{root_added, vpe_added, next_call, local_step, detail_of, local_entry, after}
use Rattle.sem_machine.specs.Machine.{entry_of, event, is_enabled, is_locally_enabled, is_other_kernel, vpe_fresh}
use Rattle.sem_machine.specs.Schedules.{IsSchedule, world_after}
use Rattle.sem_machine.specs.Journals.{root_keys_from, root_keys}
use Rattle.sem_key.proofs.Members.{Contains-head, Contains-from_filter, Contains-flat_map}
use Rattle.sem_key.proofs.Puts.{get_or-put_same, get_or-put_other}
use Rattle.sem_safety.specs.Counts.{sum_to}
use Rattle.sem_safety.proofs.Counted.{sum_to-but}
use Rattle.sem_safety.proofs.GoingOn.{run-append, entry-enabled}
use Rattle.sem_machine.proofs.FirstNumbers.{with_row-same, root-next}
use Rattle.sem_machine.proofs.Weighing.{of_option, weigh-put, weigh-drop, weigh-none, weigh-replicate}
use Rattle.sem_machine.specs.Seeded.{is_kill}
use Rattle.sem_bound.specs.Counts.{kills_made}
use Rattle.sem_bound.specs.Costs.{call_entries, costs_made}
use Rattle.sem_safety.proofs.JobIds.{IdsRise}
use Rattle.sem_bound.proofs.Weights.{besides, in_outbox, in_link, of_inbox, of_ask, of_parked, of_row, of_outbox}
use Rattle.sem_bound.proofs.Weights.{of_key, of_side, side-row, side-counted, side-taken, side-unparked, side-lighter}
use Rattle.sem_bound.proofs.Weights.{side-added, side-inbox, side-sent}
use Rattle.sem_bound.proofs.Layering.{IsNearGrant, IsCalm}
use Rattle.sem_bound.proofs.Ending.{ended-lighter}
use Rattle.sem_bound.proofs.Homes.{IsAtHome, held-home, own-pe}
use Rattle.sem_bound.proofs.Calling.{call_row-costs}
use Rattle.sem_bound.proofs.Answering.{decided-paid, resumed-paid, handled-costs}

-- what an entry brings
abbrev pub credit : Setup → Entry → ℕ
credit T e = call_entries T e.event.kernel e.detail + (if is_kill e.event.act then 1 else 0)

-- what is known of a side
pub record IsReady (T : Setup) (near : KeyName → Bool) (i : ℕ) (s : Side) : Type 0 where
  pub calm : IsCalm T near i s
  pub rise : IdsRise s.jobs
  pub home : IsAtHome T i s

module _ (T : Setup) (near : KeyName → Bool) where
  -- Steps of a side.

  -- of a step on s, with its entry: no heavier than s, but for n
  abbrev Paid : ℕ → Side → ℕ → Step → Type 0
  Paid i s n x = IsNearGrant T near x.outcome.grant → of_side T near i x.side + 1 ≤ of_side T near i s + n

  called-paid : (i : ℕ) (s : Side) (v : ℕ) (input : Option Message) → IsReady T near i s → kernel_of T v ≡ i →
      pe_owner T (pe_of T v) ≡ i → is_some (next_call T s v) ≡ true →
      Paid i s (call_entries T i (detail_of T s (Calls v) input (local_step T i s (Calls v) input).outcome))
      (local_step T i s (Calls v) input)
  unfolding local_step
  called-paid i s v input is here pe some = from (next_call T s v) some
    where
      counted : Side
      counted = call_counted v s

      from : (o : Option Call) → is_some o ≡ true →
          Paid i s (call_entries T i (option_map_or (λ (c : Call). Called (row s v).next_call c) o Nothing))
          (option_map_or (call_row T i counted v) o (unshown s))
      from None none granted = absurd cc
      from (Some c) some granted =
          let less = side-counted T near i s v in
          let costs = call_row-costs T near i counted is.calm is.rise is.home.held v here pe c granted in
          omega (arith, less, costs)

  upcalled-paid : (i : ℕ) (s : Side) (v : ℕ) (input : Option Message) → IsReady T near i s →
      pe_owner T (pe_of T v) ≡ i → is_some (slice_get (row s v).asks 0) ≡ true →
      Paid i s 0 (local_step T i s (Upcall v) input)
  unfolding local_step upcall_row
  upcalled-paid i s v input is pe asks = from (slice_get (row s v).asks 0) refl asks
    where
      from : (o : Option Ask) → slice_get (row s v).asks 0 ≡ o → is_some o ≡ true →
          Paid i s 0 (option_map_or (λ a. ask_decided T i v a (ask_taken v s)) o (unshown s))
      from None at some granted = absurd cc
      from (Some a) at some granted =
          let taken = side-taken T near i s v in
          let first : of_option (of_ask T near i) (slice_get (row s v).asks 0) ≡ of_ask T near i a =
          ap (of_option (of_ask T near i)) at in
          let paid = decided-paid T near i (ask_taken v s) is.calm.1
          (λ k c there. (held-home T i s is.home.held k c there).0) v pe a (is.home.asks v a at) granted in
          omega (arith, taken, first, paid)

  resumed_row-paid : (i : ℕ) (s : Side) (v : ℕ) (input : Option Message) → IsReady T near i s →
      can_resume (parked s v) ≡ true →
      of_side T near i (local_step T i s (Resume v) input).side + 1 ≤ of_side T near i s
  unfolding local_step resume_row
  resumed_row-paid i s v input is can =
      let out = side-unparked T near i s v in
      let paid = resumed-paid T near i (unparked v s) is.calm.1 (parked s v) can in
      omega (arith, out, paid)

  handled-paid : (i : ℕ) (s : Side) (input : Option Message) → IsReady T near i s → is_some s.inbox ≡ true →
      of_side T near i (local_step T i s Handle input).side + 1 ≤ of_side T near i s
  unfolding local_step
  handled-paid i s input is there = from s.inbox refl there
    where
      from : (o : Option (ℕ × Message)) → s.inbox ≡ o → is_some o ≡ true →
          of_side T near i (option_map_or (λ m. handled T i (with_inbox None s) m.0 m.1) o s) + 1 ≤ of_side T near i s
      from None at some = absurd cc
      from (Some m) at some =
          let costs = handled-costs T near i (with_inbox None s) m.0 m.1 is.calm is.rise in
          let out : of_side T near i (with_inbox None s) + of_inbox s.inbox ≡ of_side T near i s + 0 =
          side-inbox T near i s None in
          let weighs : of_inbox s.inbox ≡ 1 + besides m.1 = ap of_inbox at in
          omega (arith, costs, out, weighs)

  killed-paid : (i : ℕ) (s : Side) (v : ℕ) (input : Option Message) → IsReady T near i s →
      of_side T near i (local_step T i s (Kill v) input).side ≤ of_side T near i s
  unfolding local_step
  killed-paid i s v input is = ended-lighter T near i v s is.calm

  -- Worlds.

  abbrev pub of_links : List (List (List Message)) → ℕ
  of_links links = sum_by (λ ls. sum_by (λ ms. sum_by in_link ms) ls) links

  abbrev pub of_world : World → ℕ
  of_world W = sum_to T.kernels (λ i. of_side T near i (side W i)) + of_links W.links

  world-side : (W : World) (i : ℕ) (t : Side) → i < T.kernels →
      of_world (with_side i t W) + of_side T near i (side W i) ≡ of_world W + of_side T near i t
  world-side W i t within =
      let V : World = with_side i t W in
      let sides = sum_to-but T.kernels (λ j. of_side T near j (side W j)) (λ j. of_side T near j (side V j)) i within
      (λ j other. ap (of_side T near j) (get_or-put_other no_side W.sides i j t other)) in
      let here = ap (of_side T near i) (get_or-put_same no_side W.sides i t) in
      omega (arith, sides, here)

  world-link : (W : World) (i j : ℕ) (ms : List Message) →
      of_world (with_link i j ms W) + sum_by in_link (link W i j) ≡ of_world W + sum_by in_link ms
  world-link W i j ms =
      let inner = weigh-put (λ xs. sum_by in_link xs) [] refl (get_or W.links i []) j ms in
      let outer = weigh-put (λ ls. sum_by (λ xs. sum_by in_link xs) ls) [] refl W.links i
      (put [] (get_or W.links i []) j ms) in
      omega (arith, inner, outer)

  -- a message weighs one less in the inbox than in the link, and one less there than in the outbox
  in_inbox : (j : ℕ) (o : Option Message) → is_some o ≡ true →
      of_inbox (option_map (λ m. (j, m)) o) + 1 ≡ of_option in_link o
  in_inbox j None some = absurd cc
  in_inbox j (Some m) some = let one : of_inbox (Some (j, m)) ≡ 1 + besides m = refl in
      let two : of_option in_link (Some m) ≡ 2 + besides m = refl in omega (arith, one, two)

  linked-less : (o : Option Message) → is_some o ≡ true → of_option in_link o + 1 ≡ of_option in_outbox o
  linked-less None some = absurd cc
  linked-less (Some m) some = let one : of_option in_link (Some m) ≡ 2 + besides m = refl in
      let two : of_option in_outbox (Some m) ≡ 3 + besides m = refl in omega (arith, one, two)

  fetched : (W : World) (i j : ℕ) → i < T.kernels → is_some (slice_get (link W j i) 0) ≡ true →
      of_world (after T W (event i (Fetch j))) + 1 ≤ of_world W
  unfolding after local_step
  fetched W i j within some =
      let s : Side = side W i in
      let ms : List Message = link W j i in
      let input : Option Message = slice_get ms 0 in
      let t : Side = with_inbox (option_map (λ m. (j, m)) input) s in
      let V : World = with_side i t W in
      let new = world-side W i t within in
      let moved : of_world (with_link j i (drop 1 ms) V) + sum_by in_link ms
      ≡ of_world V + sum_by in_link (drop 1 ms) =
      world-link V j i (drop 1 ms) in
      let front = weigh-drop in_link ms in
      let inbox = side-inbox T near i s (option_map (λ m. (j, m)) input) in
      let less = in_inbox j input some in
      omega (arith, new, moved, front, inbox, less)

  link-more : (V : World) (i j : ℕ) (o : Option Message) →
      of_world (option_map_or (λ m. with_link i j (link V i j ++ m ∷ []) V) o V) ≡ of_world V + of_option in_link o
  link-more V i j None = omega arith
  link-more V i j (Some m) = let more = world-link V i j (link V i j ++ m ∷ []) in
      let push = sum_by_push in_link (link V i j) m in omega (arith, more, push)

  flushed : (W : World) (i j : ℕ) → i < T.kernels → is_some (slice_get (outbox (side W i) j) 0) ≡ true →
      of_world (after T W (event i (Flush j))) + 1 ≤ of_world W
  unfolding after local_step
  flushed W i j within some =
      let s : Side = side W i in
      let V : World = with_side i (sent j s) W in
      let new = world-side W i (sent j s) within in
      let gone = side-sent T near i s j in
      let more = link-more V i j (slice_get (outbox s j) 0) in
      let less = linked-less (slice_get (outbox s j) 0) some in
      omega (arith, new, gone, more, less)

  -- An event that is enabled. A grant within a kernel is of a key that is near.
  pub after-paid : (W : World) (i : ℕ) (a : Act) → IsReady T near i (side W i) → is_enabled T W (event i a) ≡ true →
      IsNearGrant T near (entry_of T W (event i a)).grant →
      of_world (after T W (event i a)) + 1 ≤ of_world W + credit T (entry_of T W (event i a))
  unfolding after is_enabled is_locally_enabled entry_of local_entry
  after-paid W i (Calls v) is enabled granted =
      let s : Side = side W i in
      let both = and_parts (nat_lt i T.kernels) _ enabled in
      let within = ltb-true i T.kernels both.0 in
      let two = and_parts (kernel_of T v == i) (is_alive s v && (is_none (parked s v) && is_some (next_call T s v)))
      (and_parts ((kernel_of T v == i) && (is_alive s v && (is_none (parked s v) && is_some (next_call T s v)))) _
      both.1).0 in
      let some = (and_parts (is_none (parked s v)) (is_some (next_call T s v))
      (and_parts (is_alive s v) (is_none (parked s v) && is_some (next_call T s v)) two.1).1).1 in
      let here = eqb-true (kernel_of T v) i two.0 in
      let paid = called-paid i s v None is here (own-pe T v i here within) some granted in
      let new = world-side W i (local_step T i s (Calls v) None).side within in
      omega (arith, paid, new)
  after-paid W i (Kill v) is enabled granted =
      let within = ltb-true i T.kernels (and_parts (nat_lt i T.kernels) _ enabled).0 in
      let paid = killed-paid i (side W i) v None is in
      let new = world-side W i (local_step T i (side W i) (Kill v) None).side within in
      omega (arith, paid, new)
  after-paid W i (Upcall v) is enabled granted =
      let s : Side = side W i in
      let both = and_parts (nat_lt i T.kernels) _ enabled in
      let within = ltb-true i T.kernels both.0 in
      let two = and_parts (kernel_of T v == i) (is_alive s v && is_some (slice_get (row s v).asks 0))
      (and_parts ((kernel_of T v == i) && (is_alive s v && is_some (slice_get (row s v).asks 0))) _ both.1).0 in
      let some = (and_parts (is_alive s v) (is_some (slice_get (row s v).asks 0)) two.1).1 in
      let paid = upcalled-paid i s v None is (own-pe T v i (eqb-true (kernel_of T v) i two.0) within) some granted in
      let new = world-side W i (local_step T i s (Upcall v) None).side within in
      omega (arith, paid, new)
  after-paid W i (Resume v) is enabled granted =
      let s : Side = side W i in
      let both = and_parts (nat_lt i T.kernels) _ enabled in
      let within = ltb-true i T.kernels both.0 in
      let here = (and_parts ((kernel_of T v == i) && can_resume (parked s v)) _ both.1).0 in
      let can = (and_parts (kernel_of T v == i) (can_resume (parked s v)) here).1 in
      let paid = resumed_row-paid i s v None is can in
      let new = world-side W i (local_step T i s (Resume v) None).side within in
      omega (arith, paid, new)
  after-paid W i Handle is enabled granted =
      let s : Side = side W i in
      let both = and_parts (nat_lt i T.kernels) _ enabled in
      let within = ltb-true i T.kernels both.0 in
      let some = (and_parts (is_some s.inbox) _ both.1).0 in
      let paid = handled-paid i s None is some in
      let new = world-side W i (local_step T i s Handle None).side within in
      omega (arith, paid, new)
  after-paid W i (Fetch j) is enabled granted =
      let both = and_parts (nat_lt i T.kernels) _ enabled in
      let some = (and_parts (is_other_kernel T i j && is_none (side W i).inbox)
      (is_some (slice_get (link W j i) 0)) both.1).1 in
      let paid = fetched W i j (ltb-true i T.kernels both.0) some in
      omega (arith, paid)
  after-paid W i (Flush j) is enabled granted =
      let s : Side = side W i in
      let both = and_parts (nat_lt i T.kernels) _ enabled in
      let here = (and_parts (is_other_kernel T i j && is_some (slice_get (outbox s j) 0)) _ both.1).0 in
      let some = (and_parts (is_other_kernel T i j) (is_some (slice_get (outbox s j) 0)) here).1 in
      let paid = flushed W i j (ltb-true i T.kernels both.0) some in
      omega (arith, paid)

  kernel-within : (W : World) (e : Event) → is_enabled T W e ≡ true → e.kernel < T.kernels
  unfolding is_enabled
  kernel-within W e enabled = ltb-true e.kernel T.kernels (and_parts (nat_lt e.kernel T.kernels) _ enabled).0

  -- The start.
  module _ (i : ℕ) where
    root-weighs : (d : VpeDecl) (r : Root) (s : Side) →
        of_side T near i (root_added d r s)
        ≤ of_side T near i s + of_key T near i (root_key d (row s d.vpe).next_number r)
    root-weighs d r s =
        let k : KeyName = root_key d (row s d.vpe).next_number r in
        let added : Side = cap_added (fresh k None r.sel r.object) s in
        let one = side-added T near i s (fresh k None r.sel r.object) in
        let two = side-lighter T near i added d.vpe (root_held d r (row s d.vpe)) (omega arith) in
        omega (arith, one, two)

    roots-weigh : (d : VpeDecl) (rs : List Root) (n : ℕ) (s : Side) → (row s d.vpe).next_number ≡ n →
        of_side T near i (in_turn (root_added d) rs s)
        ≤ of_side T near i s + sum_by (of_key T near i) (root_keys_from d n rs)
    unfolding in_turn root_keys_from
    roots-weigh d [] n s number = omega arith
    roots-weigh d (r ∷ rs) n s number =
        let first = root-weighs d r s in
        let same : of_key T near i (root_key d (row s d.vpe).next_number r) ≡ of_key T near i (root_key d n r) =
        ap (λ m. of_key T near i (root_key d m r)) number in
        let rest = roots-weigh d rs (n + 1) (root_added d r s) (root-next d r s ∙ ap (λ m. m + 1) number) in
        let all = sum_by-cons (of_key T near i) (root_key d n r) (root_keys_from d (n + 1) rs) in
        omega (arith, first, same, rest, all)

    abbrev roots_weight : VpeDecl → ℕ
    roots_weight d = sum_by (of_key T near i) (root_keys_from d 0 d.roots)

    vpe-weighs : (d : VpeDecl) (s : Side) → of_side T near i (vpe_added d s) ≤ of_side T near i s + roots_weight d
    vpe-weighs d s =
        let fresh' = side-row T near i s d.vpe new_vpe in
        let roots = roots-weigh d d.roots 0 (vpe_fresh d s)
        (ap (λ (x : VpeRow). x.next_number) (with_row-same d.vpe (λ v. new_vpe) s)) in
        omega (arith, fresh', roots)

    vpes-weigh : (ds : List VpeDecl) (s : Side) →
        of_side T near i (in_turn vpe_added ds s) ≤ of_side T near i s + sum_by roots_weight ds
    unfolding in_turn
    vpes-weigh [] s = omega arith
    vpes-weigh (d ∷ ds) s =
        let first = vpe-weighs d s in
        let rest = vpes-weigh ds (vpe_added d s) in
        let all = sum_by-cons roots_weight d ds in
        omega (arith, first, rest, all)

  module _ (roots : (k : KeyName) → Contains (root_keys T) k → near k ≡ true) where
    side-none : (i : ℕ) → of_side T near i (start_side T i) ≡ 0
    unfolding start_side
    side-none i =
        let ds : List VpeDecl = filter (λ d. pe_owner T d.pe == i) T.vpes in
        let rows = weigh-replicate (of_row T near i) VPES no_vpe refl in
        let calls = weigh-replicate of_parked VPES None refl in
        let outs = weigh-replicate of_outbox T.kernels [] refl in
        let all = vpes-weigh i ds (empty_side T) in
        let none : sum_by (roots_weight i) ds ≡ 0 =
        weigh-none (roots_weight i) ds
        (λ d among. weigh-none (of_key T near i) (root_keys_from d 0 d.roots)
        (λ k root. cond-true (near k) 0 3
        (roots k (Contains-flat_map
        (λ (x : VpeDecl). root_keys_from x 0 x.roots) T.vpes d k
        (Contains-from_filter (λ (x : VpeDecl). pe_owner T x.pe == i) T.vpes d among).0
        root)))) in
        omega (arith, rows, calls, outs, all, none)

    none-to : (n : ℕ) (f : ℕ → ℕ) → ((i : ℕ) → i < n → f i ≡ 0) → sum_to n f ≡ 0
    none-to zero f none = refl
    none-to (suc n) f none = let rest = none-to n f (λ i lt. none i (omega (arith, lt))) in
        let here = none n (omega arith) in omega (arith, rest, here)

    start-none : of_world (start T) ≡ 0
    unfolding start
    start-none =
        let sides = none-to T.kernels (λ i. of_side T near i (side (start T) i))
        (λ i within. ap (of_side T near i)
        (get_or-map-range_with_len (start_side T) 0 T.kernels i i no_side within (omega arith))
        ∙ side-none i) in
        let links : of_links (replicate T.kernels (replicate T.kernels [])) ≡ 0 =
        weigh-replicate (λ (ls : List (List Message)). sum_by (λ ms. sum_by in_link ms) ls) T.kernels
        (replicate T.kernels []) (weigh-replicate (λ ms. sum_by in_link ms) T.kernels [] refl) in
        omega (arith, sides, links)

    -- A schedule, of which it is known at each entry what the sides are like and that a grant within a kernel is of a
    -- near key.
    abbrev credits : List Entry → ℕ
    credits J = sum_by (credit T) J

    module _ (J : List Entry) (ready : (before later : List Entry) → J ≡ before ++ later → IsSchedule T before →
        (i : ℕ) → i < T.kernels → IsReady T near i (side (world_after T before) i)) (granted : (e : Entry) →
        Contains J e → IsNearGrant T near e.grant) where
      pub schedule-paid : IsSchedule T J → length J + of_world (world_after T J) ≤ credits J
      schedule-paid runs = from [] J refl (let none = start-none in omega (arith, none))
        where
          longer : (xs : List Entry) (x : Entry) → length (xs ++ x ∷ []) ≡ length xs + 1
          longer [] x = refl
          longer (y ∷ ys) x = let rest = longer ys x in omega (arith, rest)

          from : (before later : List Entry) → J ≡ before ++ later →
              length before + of_world (world_after T before) ≤ credits before →
              length J + of_world (world_after T J) ≤ credits J
          from before [] parts is =
              subst (λ K. length K + of_world (world_after T K) ≤ credits K) (sym (parts ∙ append-nil before)) is
          from before (e ∷ es) parts is =
              let W : World = world_after T before in
              let at = entry-enabled T before (start T) e es (subst (IsSchedule T) parts runs) in
              let among : Contains J e =
              subst (λ K. Contains K e) (sym parts)
              (Contains-append_right before (e ∷ es) e (Contains-head e es)) in
              let within = kernel-within W e.event at.1 in
              let next = after-paid W e.event.kernel e.event.act
              (ready before (e ∷ es) parts at.0 e.event.kernel within) at.1
              (subst (λ (x : Entry). IsNearGrant T near x.grant) at.2 (granted e among)) in
              let brings = ap (credit T) at.2 in
              let world : of_world (after T W e.event) ≡ of_world (world_after T (before ++ e ∷ [])) =
              ap of_world (sym (run-append T before (e ∷ []) (start T))) in
              let push = sum_by_push (credit T) before e in
              let more = longer before e in
              from (before ++ e ∷ []) es (parts ∙ sym (append_assoc before (e ∷ []) es))
              (omega (arith, is, next, brings, world, push, more))

-- the credits are what the calls can bring, and one for each kill
pub credits-counted : (T : Setup) (J : List Entry) → sum_by (credit T) J ≡ costs_made T J + kills_made J
credits-counted T [] = refl
credits-counted T (e ∷ es) =
    let rest = credits-counted T es in
    let all = sum_by-cons (credit T) e es in
    let calls = sum_by-cons (λ (x : Entry). call_entries T x.event.kernel x.detail) e es in
    let kills = sum_by-cons (λ (x : Entry). if is_kill x.event.act then 1 else 0) e es in
    omega (arith, rest, all, calls, kills)
