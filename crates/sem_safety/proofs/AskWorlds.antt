-- One exchange at a time: along every schedule there is for each declared VPE one thing under way at most, or the VPE may call, and for no other anything.
use Rattle.std.proofs.Common.{◌≡◌, ℕ, zero, suc, ◌+◌, ◌≤◌, ◌&&◌, true, List, [], ◌∷◌, ◌++◌, drop, replicate, get_or, Option, Some, None, is_some, is_none}
use Rattle.std.proofs.Common.{slice_get, refl, sym, ◌∙◌, ap, subst, arith, append-nil, append_assoc}
use Rattle.std.specs.Prelude.{◌==◌, nat_lt, if◌then◌else◌, not}
use Rattle.std.specs.List.{range_with_len, sum_by}
use Rattle.std.specs.Option.{option_map, option_map_or}
use Rattle.std.proofs.lemmas.Bool.{and_parts, and_from, cond-true}
use Rattle.std.proofs.lemmas.List.Sums.{sum_by-cons, sum_by_push}
use Rattle.sem_key.specs.KeyName.{KeyName}
use Rattle.sem_key.specs.CapList.{fresh}
use Rattle.sem_key.specs.Lists.{in_turn, put}
use Rattle.sem_msg.specs.declared.entry.Entry.{Entry}
use Rattle.sem_msg.specs.declared.event.Act.{Act}
use Rattle.sem_msg.specs.declared.event.Act.TheVariants.{Call as Calls, Fetch, Handle, Upcall, Resume, Flush, Kill}
use Rattle.sem_msg.specs.declared.message.Message.{Message}
use Rattle.sem_msg.specs.declared.setup.Root.{Root}
use Rattle.sem_msg.specs.declared.setup.VpeDecl.{VpeDecl}
use Rattle.sem_msg.specs.declared.state.Ask.{Ask}
use Rattle.sem_msg.specs.declared.state.Parked.{Parked}
use Rattle.sem_msg.specs.Rows.{VpeRow, no_vpe}
use Rattle.sem_msg.specs.Setup.{Setup, root_key}
use Rattle.sem_msg.specs.Lookups.{pe_owner, kernel_of, own_vpes}
use Rattle.sem_machine.specs.Sides.{Side, no_side, row, parked, outbox, is_alive, call_counted, ask_taken, unparked, sent, cap_added, with_inbox}
use Rattle.sem_machine.specs.Steps.{Step, unshown}
use Rattle.sem_machine.specs.Calls.{call_row}
use Rattle.sem_machine.specs.Upcalls.{ask_decided, upcall_row}
use Rattle.sem_machine.specs.Handles.{handled}
use Rattle.sem_machine.specs.Resumes.{can_resume, resume_row}
use Rattle.sem_msg.specs.VpeRows.{new_vpe, root_held}
use Rattle.sem_machine.specs.Machine.{World, side, link, with_side, with_link, start, start_side, empty_side, root_added, vpe_added, vpe_fresh, next_call}
use Rattle.sem_machine.specs.Machine.{local_step, after, event, is_enabled, is_locally_enabled}
use Rattle.sem_machine.specs.Schedules.{IsSchedule, world_after}
use Rattle.sem_key.proofs.Puts.{get_or-put_same}
use Rattle.sem_safety.proofs.GoingOn.{run-append, entry-enabled}
use Rattle.sem_machine.proofs.Folds.{option-keeps}
use Rattle.sem_safety.proofs.LiveWorlds.{sum-le, sum-of_map, owned-once}
use Rattle.sem_safety.proofs.SideLayers.{run-kept}
use Rattle.sem_safety.proofs.SoundEndpoints.{IsSoundSide, sound}
use Rattle.sem_safety.proofs.SoundWorlds.{start-sound}
use Rattle.sem_machine.proofs.Weighing.{of_option, weigh-put, weigh-drop, weigh-replicate}
use Rattle.sem_safety.proofs.JobIds.{IdsRise, HasIds, ids, start-ids}
use Rattle.sem_safety.proofs.AskWeights.{waits, free, here, of_message, of_ask, of_asks, of_inbox, of_messages, of_side, free_at, free-most, side-row}
use Rattle.sem_safety.proofs.AskWeights.{side-counted, side-taken, side-unparked, side-inbox, side-sent}
use Rattle.sem_safety.proofs.AskRevokes.{ended-fewer}
use Rattle.sem_safety.proofs.AskRows.{call_row-few, decided-costs, resumed-same, handled-costs}
use Rattle.sem_key.specs.declared.limits.TheConstants.{VPES}

module _ (v0 : ℕ) where
  abbrev pub of_links : List (List (List Message)) → ℕ
  of_links links = sum_by (λ ls. sum_by (of_messages v0) ls) links

  abbrev pub of_world : World → ℕ
  of_world W = sum_by (of_side v0) W.sides + of_links W.links

  -- Steps of a side.

  -- a VPE that is alive and not parked may call
  may-call : (s : Side) (v : ℕ) → is_alive s v ≡ true → is_none (parked s v) ≡ true → free_at v0 v (row (call_counted v s) v) (parked s v) ≡ here v0 v
  may-call s v lives idle =
      let r : VpeRow = record (row s v) { next_call = (row s v).next_call + 1 } in
      let at : free_at v0 v (row (call_counted v s) v) (parked s v) ≡ free_at v0 v r (parked s v) =
      ap (λ x. free_at v0 v x (parked s v)) (get_or-put_same no_vpe s.vpes v r) in
      let quiet : not (waits (parked s v)) ≡ true = from (parked s v) idle in
      let one : free r (parked s v) ≡ 1 =
      cond-true ((row s v).alive && not (waits (parked s v))) 1 0 (and_from (row s v).alive (not (waits (parked s v))) lives quiet) in
      at ∙ ap (λ n. if v == v0 then n else 0) one
    where
      from : (p : Option Parked) → is_none p ≡ true → not (waits p) ≡ true
      from None h = refl
      from (Some p) h = absurd cc

  called-few : (T : Setup) (i : ℕ) (s : Side) (v : ℕ) (input : Option Message) → IsSoundSide s → IdsRise s.jobs → is_alive s v ≡ true →
      is_none (parked s v) ≡ true → of_side v0 (local_step T i s (Calls v) input).side ≤ of_side v0 s
  unfolding local_step
  called-few T i s v input sound' rise lives idle =
      let t : Side = call_counted v s in
      let same = side-counted v0 s v in
      let r : VpeRow = record (row s v) { next_call = (row s v).next_call + 1 } in
      let sound_t : IsSoundSide t = sound.keeps_counted s sound' v in
      option-keeps (λ (x : Step). of_side v0 x.side ≤ of_side v0 s) (call_row T i t v) (next_call T s v) (unshown s) (λ c there. let few =
      call_row-few v0 t v (may-call s v lives idle) T i c sound_t rise in omega (arith, same, few)) (omega arith)

  upcalled-few : (T : Setup) (i : ℕ) (s : Side) (v : ℕ) (input : Option Message) → of_side v0 (local_step T i s (Upcall v) input).side ≤ of_side v0 s
  unfolding local_step upcall_row
  upcalled-few T i s v input =
      option-keeps (λ (x : Step). of_side v0 x.side ≤ of_side v0 s) (λ (a : Ask). ask_decided T i v a (ask_taken v s)) (slice_get (row s v).asks 0) (unshown s)
      (λ a there.
      let taken = side-taken v0 s v in
      let first : of_option (of_ask v0) (slice_get (row s v).asks 0) ≡ of_ask v0 a = ap (of_option (of_ask v0)) there in
      let costs = decided-costs v0 T i v a (ask_taken v s) in
      omega (arith, taken, first, costs))
      (omega arith)

  resumed-few : (T : Setup) (i : ℕ) (s : Side) (v : ℕ) (input : Option Message) → can_resume (parked s v) ≡ true →
      of_side v0 (local_step T i s (Resume v) input).side ≤ of_side v0 s
  unfolding local_step resume_row
  resumed-few T i s v input can =
      let out = side-unparked v0 s v can in
      let few = resumed-same v0 T (parked s v) (unparked v s) in
      omega (arith, out, few)

  handled-few : (T : Setup) (i : ℕ) (s : Side) (input : Option Message) → of_side v0 (local_step T i s Handle input).side ≤ of_side v0 s
  unfolding local_step
  handled-few T i s input = from s.inbox refl
    where
      from : (o : Option (ℕ × Message)) → s.inbox ≡ o → of_side v0 (option_map_or (λ m. handled T i (with_inbox None s) m.0 m.1) o s) ≤ of_side v0 s
      from None at = omega arith
      from (Some m) at =
          let costs = handled-costs v0 T i (with_inbox None s) m.0 m.1 in
          let out : of_side v0 (with_inbox None s) + of_inbox v0 s.inbox ≡ of_side v0 s + 0 = side-inbox v0 s None in
          let weighs : of_inbox v0 s.inbox ≡ of_message v0 m.1 = ap (of_inbox v0) at in
          omega (arith, costs, out, weighs)

  killed-few : (T : Setup) (i : ℕ) (s : Side) (v : ℕ) (input : Option Message) → of_side v0 (local_step T i s (Kill v) input).side ≤ of_side v0 s
  unfolding local_step
  killed-few T i s v input = ended-fewer v0 T i v s

  -- Worlds.
  pub world-side : (W : World) (i : ℕ) (t : Side) → of_world (with_side i t W) + of_side v0 (side W i) ≡ of_world W + of_side v0 t
  world-side W i t = let sides = weigh-put (of_side v0) no_side refl W.sides i t in omega (arith, sides)

  world-link : (W : World) (i j : ℕ) (ms : List Message) → of_world (with_link i j ms W) + of_messages v0 (link W i j) ≡ of_world W + of_messages v0 ms
  world-link W i j ms =
      let inner = weigh-put (of_messages v0) [] refl (get_or W.links i []) j ms in
      let outer = weigh-put (λ ls. sum_by (of_messages v0) ls) [] refl W.links i (put [] (get_or W.links i []) j ms) in
      omega (arith, inner, outer)

  in_inbox : (j : ℕ) (o : Option Message) → of_inbox v0 (option_map (λ m. (j, m)) o) ≡ of_option (of_message v0) o
  in_inbox j None = refl
  in_inbox j (Some m) = refl

  fetched : (T : Setup) (W : World) (i j : ℕ) → of_world (after T W (event i (Fetch j))) ≤ of_world W
  unfolding after local_step
  fetched T W i j =
      let s : Side = side W i in
      let ms : List Message = link W j i in
      let input : Option Message = slice_get ms 0 in
      let t : Side = with_inbox (option_map (λ m. (j, m)) input) s in
      let V : World = with_side i t W in
      let new = world-side W i t in
      let moved : of_world (with_link j i (drop 1 ms) V) + of_messages v0 ms ≡ of_world V + of_messages v0 (drop 1 ms) = world-link V j i (drop 1 ms) in
      let front = weigh-drop (of_message v0) ms in
      let inbox = side-inbox v0 s (option_map (λ m. (j, m)) input) in
      let same = in_inbox j input in
      omega (arith, new, moved, front, inbox, same)

  link-more : (V : World) (i j : ℕ) (o : Option Message) → of_world (option_map_or (λ m. with_link i j (link V i j ++ m ∷ []) V) o V)
      ≡ of_world V + of_option (of_message v0) o
  link-more V i j None = omega arith
  link-more V i j (Some m) = let more = world-link V i j (link V i j ++ m ∷ []) in let push = sum_by_push (of_message v0) (link V i j) m in
      omega (arith, more, push)

  flushed : (T : Setup) (W : World) (i j : ℕ) → of_world (after T W (event i (Flush j))) ≤ of_world W
  unfolding after local_step
  flushed T W i j =
      let s : Side = side W i in
      let V : World = with_side i (sent j s) W in
      let new = world-side W i (sent j s) in
      let gone = side-sent v0 s j in
      let more = link-more V i j (slice_get (outbox s j) 0) in
      omega (arith, new, gone, more)

  pub after-few : (T : Setup) (W : World) (i : ℕ) (a : Act) → IsSoundSide (side W i) → IdsRise (side W i).jobs → is_enabled T W (event i a) ≡ true →
      of_world (after T W (event i a)) ≤ of_world W
  unfolding after is_enabled is_locally_enabled
  after-few T W i (Calls v) sound' rise enabled =
      let s : Side = side W i in
      let here' = (and_parts ((kernel_of T v == i) && (is_alive s v && (is_none (parked s v) && is_some (next_call T s v)))) _
      (and_parts (nat_lt i T.kernels) _ enabled).1).0 in
      let two = and_parts (is_alive s v) (is_none (parked s v) && is_some (next_call T s v)) (and_parts (kernel_of T v == i) _ here').1 in
      let few = called-few T i s v None sound' rise two.0 (and_parts (is_none (parked s v)) (is_some (next_call T s v)) two.1).0 in
      let new = world-side W i (local_step T i s (Calls v) None).side in
      omega (arith, few, new)
  after-few T W i (Kill v) sound' rise enabled =
      let few = killed-few T i (side W i) v None in
      let new = world-side W i (local_step T i (side W i) (Kill v) None).side in
      omega (arith, few, new)
  after-few T W i (Upcall v) sound' rise enabled =
      let few = upcalled-few T i (side W i) v None in
      let new = world-side W i (local_step T i (side W i) (Upcall v) None).side in
      omega (arith, few, new)
  after-few T W i (Resume v) sound' rise enabled =
      let s : Side = side W i in
      let here' = (and_parts ((kernel_of T v == i) && can_resume (parked s v)) _ (and_parts (nat_lt i T.kernels) _ enabled).1).0 in
      let can = (and_parts (kernel_of T v == i) (can_resume (parked s v)) here').1 in
      let few = resumed-few T i s v None can in
      let new = world-side W i (local_step T i s (Resume v) None).side in
      omega (arith, few, new)
  after-few T W i Handle sound' rise enabled =
      let few = handled-few T i (side W i) None in
      let new = world-side W i (local_step T i (side W i) Handle None).side in
      omega (arith, few, new)
  after-few T W i (Fetch j) sound' rise enabled = fetched T W i j
  after-few T W i (Flush j) sound' rise enabled = flushed T W i j

  -- The start: each declared VPE may call.
  abbrev declared : VpeDecl → ℕ
  declared d = here v0 d.vpe

  root-same : (d : VpeDecl) (r : Root) (s : Side) → of_side v0 (root_added d r s) ≡ of_side v0 s
  root-same d r s =
      let k : KeyName = root_key d (row s d.vpe).next_number r in
      let added : Side = cap_added (fresh k None r.sel r.object) s in
      let one : of_side v0 added ≡ of_side v0 s = refl in
      let two = side-row v0 added d.vpe (root_held d r (row s d.vpe)) in
      omega (arith, one, two)

  roots-same : (d : VpeDecl) (rs : List Root) (s : Side) → of_side v0 (in_turn (root_added d) rs s) ≡ of_side v0 s
  unfolding in_turn
  roots-same d [] s = refl
  roots-same d (r ∷ rs) s = roots-same d rs (root_added d r s) ∙ root-same d r s

  vpe-more : (d : VpeDecl) (s : Side) → of_side v0 (vpe_added d s) ≤ of_side v0 s + declared d
  vpe-more d s =
      let t : Side = vpe_fresh d s in
      let rows = side-row v0 s d.vpe new_vpe in
      let most = free-most v0 d.vpe new_vpe (parked s d.vpe) in
      let none : of_asks v0 new_vpe ≡ 0 = refl in
      let roots = roots-same d d.roots t in
      omega (arith, rows, most, none, roots)

  vpes-more : (ds : List VpeDecl) (s : Side) → of_side v0 (in_turn vpe_added ds s) ≤ of_side v0 s + sum_by declared ds
  unfolding in_turn
  vpes-more [] s = omega arith
  vpes-more (d ∷ ds) s =
      let first = vpe-more d s in
      let rest = vpes-more ds (vpe_added d s) in
      let all = sum_by-cons declared d ds in
      omega (arith, first, rest, all)

  free-rows : (n v : ℕ) (p : Option Parked) → free (get_or (replicate n no_vpe) v no_vpe) p ≡ 0
  free-rows zero v p = refl
  free-rows (suc n) zero p = refl
  free-rows (suc n) (suc v) p = free-rows n v p

  side-first : (T : Setup) (i : ℕ) → of_side v0 (start_side T i) ≤ sum_by declared (own_vpes T i)
  unfolding start_side
  side-first T i =
      let rows = weigh-replicate (of_asks v0) VPES no_vpe refl in
      let outs = weigh-replicate (of_messages v0) T.kernels [] refl in
      let none = free-rows VPES v0 (parked (empty_side T) v0) in
      let all = vpes-more (own_vpes T i) (empty_side T) in
      omega (arith, rows, outs, none, all)

  start-first : (T : Setup) → of_world (start T) ≤ sum_by declared T.vpes
  unfolding start
  start-first T =
      let kernels : List ℕ = range_with_len 0 T.kernels in
      let mapped = sum-of_map (of_side v0) (start_side T) kernels in
      let each = sum-le (λ i. of_side v0 (start_side T i)) (λ i. sum_by declared (own_vpes T i)) (side-first T) kernels in
      let owned = owned-once (λ (d : VpeDecl). pe_owner T d.pe) declared T.kernels T.vpes in
      let links : of_links (replicate T.kernels (replicate T.kernels [])) ≡ 0 =
      weigh-replicate (λ (ls : List (List Message)). sum_by (of_messages v0) ls) T.kernels (replicate T.kernels [])
      (weigh-replicate (of_messages v0) T.kernels [] refl) in
      omega (arith, mapped, each, owned, links)

  -- A schedule.
  pub one-exchange : (T : Setup) (J : List Entry) → IsSchedule T J → of_world (world_after T J) ≤ sum_by (λ (d : VpeDecl). here v0 d.vpe) T.vpes
  one-exchange T J runs = from [] J refl (start-first T)
    where
      from : (before later : List Entry) → J ≡ before ++ later → of_world (world_after T before) ≤ sum_by declared T.vpes →
          of_world (world_after T J) ≤ sum_by declared T.vpes
      from before [] parts is = subst (λ K. of_world (world_after T K) ≤ sum_by declared T.vpes) (sym (parts ∙ append-nil before)) is
      from before (e ∷ es) parts is =
          let W : World = world_after T before in
          let at = entry-enabled T before (start T) e es (subst (IsSchedule T) parts runs) in
          let sound_so : IsSoundSide (side W e.event.kernel) = run-kept IsSoundSide sound T before (start T) (start-sound T) e.event.kernel in
          let ids_so : HasIds (side W e.event.kernel) = run-kept HasIds ids T before (start T) (start-ids T) e.event.kernel in
          let next = after-few T W e.event.kernel e.event.act sound_so ids_so.rise at.1 in
          let world : of_world (after T W e.event) ≡ of_world (world_after T (before ++ e ∷ [])) = ap of_world (sym (run-append T before (e ∷ []) (start T))) in
          from (before ++ e ∷ []) es (parts ∙ sym (append_assoc before (e ∷ []) es)) (omega (arith, is, next, world))
