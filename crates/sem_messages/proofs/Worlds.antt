-- What a world counts in a tally: a flush and a fetch move a message, and at the start nothing counts.
use Rattle.std.proofs.Common.{◌≡◌, ℕ, zero, suc, ◌+◌, ◌<◌, ◌≤◌, true, List, [], ◌∷◌, ◌++◌, drop, get_or, replicate}
use Rattle.std.proofs.Common.{Option, Some, None, is_none, slice_get, refl, ◌∙◌, ap, arith}
use Rattle.std.specs.Prelude.{◌==◌}
use Rattle.std.specs.List.{sum_by, filter}
use Rattle.std.specs.Option.{option_map, option_map_or}
use Rattle.std.proofs.lemmas.List.FromFn.{get_or-map-range_with_len}
use Rattle.std.proofs.lemmas.List.Sums.{sum_by_push}
use Rattle.sem_key.specs.declared.limits.TheConstants.{VPES}
use Rattle.sem_key.specs.CapList.{fresh}
use Rattle.sem_key.specs.KeyName.{KeyName}
use Rattle.sem_key.specs.Lists.{in_turn, put}
use Rattle.sem_msg.specs.declared.message.Message.{Message}
use Rattle.sem_msg.specs.declared.event.Act.TheVariants.{Fetch, Flush}
use Rattle.sem_msg.specs.declared.setup.Root.{Root}
use Rattle.sem_msg.specs.declared.setup.VpeDecl.{VpeDecl}
use Rattle.sem_msg.specs.Rows.{no_vpe}
use Rattle.sem_msg.specs.Setup.{Setup, root_key}
use Rattle.sem_msg.specs.Lookups.{pe_owner}
use Rattle.sem_msg.specs.VpeRows.{new_vpe, root_held}
use Rattle.sem_machine.specs.Sides.{Side, no_side, row, outbox, sent, cap_added, with_inbox}
use Rattle.sem_machine.specs.Machine.{World, side, link, with_side, with_link, start, start_side, empty_side}
use Rattle.sem_machine.specs.Machine.{root_added, vpe_added, vpe_fresh, local_step, after, event}
use Rattle.sem_key.proofs.Puts.{get_or-put_same, get_or-put_other}
use Rattle.sem_machine.proofs.Weighing.{of_option, weigh-put, weigh-drop, weigh-replicate}
use Rattle.sem_safety.specs.Counts.{sum_to}
use Rattle.sem_safety.proofs.Counted.{sum_to-but}
use Rattle.sem_messages.proofs.Links.{side-fresh}
use Rattle.sem_messages.proofs.Tallies.{Tally, of_inbox, of_row, of_outbox, of_side, side-row, side-sent, side-inbox}

module _ (T : Setup) (K : Tally) where
  abbrev pub of_links : List (List (List Message)) → ℕ
  of_links links = sum_by (λ ls. sum_by (λ ms. sum_by K.on ms) ls) links

  abbrev pub of_world : World → ℕ
  of_world W = sum_to T.kernels (λ i. of_side T K i (side W i)) + of_links W.links

  pub world-side : (W : World) (i : ℕ) (t : Side) → i < T.kernels →
      of_world (with_side i t W) + of_side T K i (side W i) ≡ of_world W + of_side T K i t
  world-side W i t within =
      let V : World = with_side i t W in
      let sides = sum_to-but T.kernels (λ j. of_side T K j (side W j)) (λ j. of_side T K j (side V j)) i within
      (λ j other. ap (of_side T K j) (get_or-put_other no_side W.sides i j t other)) in
      let here = ap (of_side T K i) (get_or-put_same no_side W.sides i t) in
      omega (arith, sides, here)

  world-link : (W : World) (i j : ℕ) (ms : List Message) →
      of_world (with_link i j ms W) + sum_by K.on (link W i j) ≡ of_world W + sum_by K.on ms
  world-link W i j ms =
      let inner = weigh-put (λ xs. sum_by K.on xs) [] refl (get_or W.links i []) j ms in
      let outer = weigh-put (λ ls. sum_by (λ xs. sum_by K.on xs) ls) [] refl W.links i
      (put [] (get_or W.links i []) j ms) in
      omega (arith, inner, outer)

  in_inbox : (j : ℕ) (o : Option Message) → of_inbox T K (option_map (λ m. (j, m)) o) ≡ of_option K.on o
  in_inbox j None = refl
  in_inbox j (Some m) = refl

  empty-inbox : (o : Option (ℕ × Message)) → is_none o ≡ true → of_inbox T K o ≡ 0
  empty-inbox None none = refl
  empty-inbox (Some m) none = absurd cc

  -- a message that is fetched counts as it did
  pub fetched : (W : World) (i j : ℕ) → i < T.kernels → is_none (side W i).inbox ≡ true →
      of_world (after T W (event i (Fetch j))) ≡ of_world W
  unfolding after local_step
  fetched W i j within free =
      let s : Side = side W i in
      let ms : List Message = link W j i in
      let input : Option Message = slice_get ms 0 in
      let t : Side = with_inbox (option_map (λ m. (j, m)) input) s in
      let V : World = with_side i t W in
      let new = world-side W i t within in
      let moved : of_world (with_link j i (drop 1 ms) V) + sum_by K.on ms ≡ of_world V + sum_by K.on (drop 1 ms) =
      world-link V j i (drop 1 ms) in
      let front = weigh-drop K.on ms in
      let inbox = side-inbox T K i s (option_map (λ m. (j, m)) input) in
      let same = in_inbox j input in
      let none = empty-inbox s.inbox free in
      omega (arith, new, moved, front, inbox, same, none)

  link-more : (V : World) (i j : ℕ) (o : Option Message) →
      of_world (option_map_or (λ m. with_link i j (link V i j ++ m ∷ []) V) o V) ≡ of_world V + of_option K.on o
  link-more V i j None = omega arith
  link-more V i j (Some m) = let more = world-link V i j (link V i j ++ m ∷ []) in
      let push = sum_by_push K.on (link V i j) m in omega (arith, more, push)

  -- one that is flushed counts as in a link
  pub flushed : (W : World) (i j : ℕ) → i < T.kernels →
      of_world (after T W (event i (Flush j))) + of_option K.out (slice_get (outbox (side W i) j) 0)
      ≡ of_world W + of_option K.on (slice_get (outbox (side W i) j) 0)
  unfolding after local_step
  flushed W i j within =
      let s : Side = side W i in
      let V : World = with_side i (sent j s) W in
      let new = world-side W i (sent j s) within in
      let gone = side-sent T K i s j in
      let more = link-more V i j (slice_get (outbox s j) 0) in
      omega (arith, new, gone, more)

  -- The start.
  module _ (i : ℕ) where
    root-same : (d : VpeDecl) (r : Root) (s : Side) → of_side T K i (root_added d r s) ≡ of_side T K i s
    root-same d r s =
        let k : KeyName = root_key d (row s d.vpe).next_number r in
        let added : Side = cap_added (fresh k None r.sel r.object) s in
        let two = side-row T K i added d.vpe (root_held d r (row s d.vpe)) in
        let one = side-fresh T K i s k None r.sel r.object in
        omega (arith, one, two)

    roots-same : (d : VpeDecl) (rs : List Root) (s : Side) →
        of_side T K i (in_turn (root_added d) rs s) ≡ of_side T K i s
    unfolding in_turn
    roots-same d [] s = refl
    roots-same d (r ∷ rs) s = roots-same d rs (root_added d r s) ∙ root-same d r s

    vpe-less : (d : VpeDecl) (s : Side) → of_side T K i (vpe_added d s) ≤ of_side T K i s
    vpe-less d s =
        let rows = side-row T K i s d.vpe new_vpe in
        let none : of_row T K i new_vpe ≡ 0 = refl in
        let roots = roots-same d d.roots (vpe_fresh d s) in
        omega (arith, rows, none, roots)

    vpes-less : (ds : List VpeDecl) (s : Side) → of_side T K i (in_turn vpe_added ds s) ≤ of_side T K i s
    unfolding in_turn
    vpes-less [] s = omega arith
    vpes-less (d ∷ ds) s =
        let first = vpe-less d s in
        let rest = vpes-less ds (vpe_added d s) in
        omega (arith, first, rest)

    side-none : of_side T K i (start_side T i) ≡ 0
    unfolding start_side
    side-none =
        let ds : List VpeDecl = filter (λ d. pe_owner T d.pe == i) T.vpes in
        let rows = weigh-replicate (of_row T K i) VPES no_vpe refl in
        let outs = weigh-replicate (of_outbox T K) T.kernels [] refl in
        let all = vpes-less ds (empty_side T) in
        omega (arith, rows, outs, all)

  none-to : (n : ℕ) (f : ℕ → ℕ) → ((i : ℕ) → i < n → f i ≡ 0) → sum_to n f ≡ 0
  none-to zero f none = refl
  none-to (suc n) f none = let rest = none-to n f (λ i lt. none i (omega (arith, lt))) in
      let here = none n (omega arith) in omega (arith, rest, here)

  -- a world counts nothing where no side and no link does
  pub world-none : (W : World) → ((i : ℕ) → i < T.kernels → of_side T K i (side W i) ≡ 0) → of_links W.links ≡ 0 →
      of_world W ≡ 0
  world-none W sides links =
      let all = none-to T.kernels (λ i. of_side T K i (side W i)) sides in omega (arith, all, links)

  pub start-none : of_world (start T) ≡ 0
  unfolding start
  start-none =
      world-none (start T)
      (λ i within. ap (of_side T K i)
      (get_or-map-range_with_len (start_side T) 0 T.kernels i i no_side within (omega arith)) ∙ side-none i)
      (weigh-replicate (λ (ls : List (List Message)). sum_by (λ ms. sum_by K.on ms) ls) T.kernels
      (replicate T.kernels []) (weigh-replicate (λ ms. sum_by K.on ms) T.kernels [] refl))
