-- The places in which a key is live in a world: along every schedule it is one at most.
use Rattle.std.proofs.Common.{◌≡◌, ℕ, zero, suc, ◌+◌, ◌<◌, ◌≤◌, Bool, List, [], ◌∷◌, ◌++◌, drop, map, replicate, get_or, Option, Some, None, slice_get, refl}
use Rattle.std.proofs.Common.{sym, ◌∙◌, ap, subst, inl, inr, arith, append-nil, append_assoc, eq-eqb, ◌&&◌}
use Rattle.std.specs.Prelude.{◌==◌, if◌then◌else◌}
use Rattle.std.specs.List.{filter, flat_map, range_with_len, sum_by}
use Rattle.std.specs.Option.{option_map, option_map_or}
use Rattle.std.proofs.lemmas.Bool.{cases_Bool, cases_eq, cond_both, cond-true, cond-false, ne_eqb, and_from}
use Rattle.std.proofs.lemmas.List.Sums.{sum_by-cons, sum_by-append, sum_by_push}
use Rattle.sem_key.specs.KeyName.{KeyName, key_eq}
use Rattle.sem_key.specs.Capability.{Capability}
use Rattle.sem_key.specs.Lists.{in_turn, put}
use Rattle.sem_msg.specs.declared.message.Message.{Message}
use Rattle.sem_msg.specs.declared.entry.Entry.{Entry}
use Rattle.sem_msg.specs.declared.event.Act.{Act}
use Rattle.sem_msg.specs.declared.event.Act.TheVariants.{Call as Calls, Fetch, Handle, Upcall, Resume, Flush, Kill}
use Rattle.sem_msg.specs.declared.setup.Root.{Root}
use Rattle.sem_msg.specs.declared.setup.VpeDecl.{VpeDecl}
use Rattle.sem_msg.specs.declared.state.Slot.TheVariants.{Held}
use Rattle.sem_msg.specs.Rows.{VpeRow}
use Rattle.sem_msg.specs.Setup.{Setup, IsSetup, root_key}
use Rattle.sem_msg.specs.Lookups.{pe_owner}
use Rattle.sem_machine.specs.Sides.{Side, no_side, row, outbox, sent, with_slot, cap_added, with_inbox}
use Rattle.sem_msg.specs.VpeRows.{new_vpe}
use Rattle.sem_machine.specs.Machine.{World, side, link, with_side, with_link, start, start_side, empty_side, root_added, vpe_added, local_step, local_entry}
use Rattle.sem_machine.specs.Machine.{after, entry_of, event, vpe_fresh}
use Rattle.sem_machine.specs.Schedules.{IsSchedule, world_after}
use Rattle.sem_machine.specs.Journals.{grants, root_keys_from, root_keys}
use Rattle.sem_key.proofs.KeyTests.{key_eq-true}
use Rattle.sem_safety.proofs.CarryingWorlds.{stepped}
use Rattle.sem_machine.proofs.FirstNumbers.{with_row-same, root-next}
use Rattle.sem_safety.proofs.GoingOn.{run-append, entry-enabled}
use Rattle.sem_safety.proofs.NewGrants.{with_grant, without_grant}
use Rattle.sem_safety.proofs.OneLife.{schedule-once}
use Rattle.sem_safety.proofs.Tokens.{of_key}
use Rattle.sem_safety.proofs.TokenWorlds.{with_granted}
use Rattle.sem_machine.proofs.Weighing.{of_option, weigh-put, weigh-drop, weigh-replicate}
use Rattle.sem_safety.proofs.Lives.{at_key, at_message, at_messages, at_parked, at_inbox, at_side, at_grant, lives-inbox, lives-sent, lives-added, lives}
use Rattle.sem_safety.proofs.LiveRows.{step-within}

-- Sums.

-- where each weighs no more than by another measure, so do all
pub sum-le : {X : Type 0} (w u : X → ℕ) → ((x : X) → w x ≤ u x) → (xs : List X) → sum_by w xs ≤ sum_by u xs
sum-le w u less [] = omega arith
sum-le w u less (x ∷ xs) =
    let one = sum_by-cons w x xs in
    let two = sum_by-cons u x xs in
    let here = less x in
    let rest = sum-le w u less xs in
    omega (arith, one, two, here, rest)

pub sum-of_map : {X Y : Type 0} (w : Y → ℕ) (f : X → Y) (xs : List X) → sum_by w (map f xs) ≡ sum_by (λ x. w (f x)) xs
sum-of_map w f [] = refl
sum-of_map w f (x ∷ xs) =
    let one = sum_by-cons w (f x) (map f xs) in
    let two = sum_by-cons (λ x. w (f x)) x xs in
    let rest = sum-of_map w f xs in
    omega (arith, one, two, rest)

sum-of_flat_map : {X Y : Type 0} (w : Y → ℕ) (f : X → List Y) (xs : List X) → sum_by w (flat_map f xs) ≡ sum_by (λ x. sum_by w (f x)) xs
sum-of_flat_map w f [] = refl
sum-of_flat_map w f (x ∷ xs) =
    let one = sum_by-append w (f x) (flat_map f xs) in
    let two = sum_by-cons (λ x. sum_by w (f x)) x xs in
    let rest = sum-of_flat_map w f xs in
    omega (arith, one, two, rest)

-- a weight at one number counts once in a range
abbrev if_here : ℕ → ℕ → ℕ → ℕ
if_here o r i = if o == i then r else 0

range-later : (o r a n : ℕ) → o < a → sum_by (if_here o r) (range_with_len a n) ≡ 0
range-later o r a zero below = refl
range-later o r a (suc n) below =
    let all = sum_by-cons (if_here o r) a (range_with_len (a + 1) n) in
    let here : if_here o r a ≡ 0 = cond-false (o == a) r 0 (ne_eqb o a (λ same. omega (arith, same, below))) in
    let rest = range-later o r (a + 1) n (omega (arith, below)) in
    omega (arith, all, here, rest)

range-once : (o r a n : ℕ) → sum_by (if_here o r) (range_with_len a n) ≤ r
range-once o r a zero = omega arith
range-once o r a (suc n) =
    let all = sum_by-cons (if_here o r) a (range_with_len (a + 1) n) in
    elim (cases_eq o a) [
      | inl same ↦
          let here : if_here o r a ≤ r = cond_both (o == a) r 0 (λ m. m ≤ r) (λ _. omega arith) (λ _. omega arith) in
          let rest = range-later o r (a + 1) n (omega (arith, same)) in
          omega (arith, all, here, rest)
      | inr other ↦
          let here : if_here o r a ≡ 0 = cond-false (o == a) r 0 (ne_eqb o a other) in
          let rest = range-once o r (a + 1) n in
          omega (arith, all, here, rest)
    ]

sum-plus : {X : Type 0} (w u v : X → ℕ) → ((x : X) → w x ≡ u x + v x) → (xs : List X) → sum_by w xs ≡ sum_by u xs + sum_by v xs
sum-plus w u v plus [] = refl
sum-plus w u v plus (x ∷ xs) =
    let one = sum_by-cons w x xs in
    let two = sum_by-cons u x xs in
    let three = sum_by-cons v x xs in
    let here = plus x in
    let rest = sum-plus w u v plus xs in
    omega (arith, one, two, three, here, rest)

-- each element has one owner, so all owners together have no more than all
pub owned-once : {X : Type 0} (owner weight : X → ℕ) (n : ℕ) (xs : List X) →
    sum_by (λ i. sum_by weight (filter (λ x. owner x == i) xs)) (range_with_len 0 n) ≤ sum_by weight xs
owned-once owner weight n [] = let none = nothing n 0 in omega (arith, none)
  where
    nothing : (n a : ℕ) → sum_by (λ i. 0) (range_with_len a n) ≡ 0
    nothing zero a = refl
    nothing (suc n) a = let all = sum_by-cons (λ i. 0) a (range_with_len (a + 1) n) in let rest = nothing n (a + 1) in omega (arith, all, rest)
owned-once owner weight n (x ∷ xs) =
    let split = sum-plus (λ i. sum_by weight (filter (λ x. owner x == i) (x ∷ xs))) (if_here (owner x) (weight x))
    (λ i. sum_by weight (filter (λ x. owner x == i) xs)) here (range_with_len 0 n) in
    let first = range-once (owner x) (weight x) 0 n in
    let rest = owned-once owner weight n xs in
    let all = sum_by-cons weight x xs in
    omega (arith, split, first, rest, all)
  where
    here : (i : ℕ) → sum_by weight (filter (λ y. owner y == i) (x ∷ xs)) ≡ if_here (owner x) (weight x) i + sum_by weight (filter (λ y. owner y == i) xs)
    here i = elim (cases_Bool (owner x == i)) [
      | inl same ↦
          let kept : filter (λ y. owner y == i) (x ∷ xs) ≡ x ∷ filter (λ y. owner y == i) xs =
          cond-true (owner x == i) (x ∷ filter (λ y. owner y == i) xs) (filter (λ y. owner y == i) xs) same in
          let one = ap (sum_by weight) kept in
          let two = sum_by-cons weight x (filter (λ y. owner y == i) xs) in
          let three : if_here (owner x) (weight x) i ≡ weight x = cond-true (owner x == i) (weight x) 0 same in
          omega (arith, one, two, three)
      | inr other ↦
          let left : filter (λ y. owner y == i) (x ∷ xs) ≡ filter (λ y. owner y == i) xs =
          cond-false (owner x == i) (x ∷ filter (λ y. owner y == i) xs) (filter (λ y. owner y == i) xs) other in
          let one = ap (sum_by weight) left in
          let three : if_here (owner x) (weight x) i ≡ 0 = cond-false (owner x == i) (weight x) 0 other in
          omega (arith, one, three)
    ]

module _ (k0 : KeyName) (counts : Option KeyName → Bool) where
  abbrev pub at_links : List (List (List Message)) → ℕ
  at_links links = sum_by (λ ls. sum_by (at_messages k0) ls) links

  abbrev pub at_world : World → ℕ
  at_world W = sum_by (at_side k0 counts) W.sides + at_links W.links

  pub world-side : (W : World) (i : ℕ) (t : Side) → at_world (with_side i t W) + at_side k0 counts (side W i) ≡ at_world W + at_side k0 counts t
  world-side W i t = let sides = weigh-put (at_side k0 counts) no_side refl W.sides i t in omega (arith, sides)

  world-link : (W : World) (i j : ℕ) (ms : List Message) → at_world (with_link i j ms W) + at_messages k0 (link W i j) ≡ at_world W + at_messages k0 ms
  world-link W i j ms =
      let inner = weigh-put (at_messages k0) [] refl (get_or W.links i []) j ms in
      let outer = weigh-put (λ ls. sum_by (at_messages k0) ls) [] refl W.links i (put [] (get_or W.links i []) j ms) in
      omega (arith, inner, outer)

  in_inbox : (j : ℕ) (o : Option Message) → at_inbox k0 (option_map (λ m. (j, m)) o) ≡ of_option (at_message k0) o
  in_inbox j None = refl
  in_inbox j (Some m) = refl

  fetched : (T : Setup) (W : World) (i j : ℕ) → at_world (after T W (event i (Fetch j))) ≤ at_world W
  unfolding after local_step
  fetched T W i j =
      let s : Side = side W i in
      let ms : List Message = link W j i in
      let input : Option Message = slice_get ms 0 in
      let t : Side = with_inbox (option_map (λ m. (j, m)) input) s in
      let V : World = with_side i t W in
      let new = world-side W i t in
      let moved : at_world (with_link j i (drop 1 ms) V) + at_messages k0 ms ≡ at_world V + at_messages k0 (drop 1 ms) = world-link V j i (drop 1 ms) in
      let front = weigh-drop (at_message k0) ms in
      let inbox = lives-inbox k0 counts s (option_map (λ m. (j, m)) input) in
      let same = in_inbox j input in
      omega (arith, new, moved, front, inbox, same)

  link-more : (V : World) (i j : ℕ) (o : Option Message) → at_world (option_map_or (λ m. with_link i j (link V i j ++ m ∷ []) V) o V)
      ≡ at_world V + of_option (at_message k0) o
  link-more V i j None = omega arith
  link-more V i j (Some m) = let more = world-link V i j (link V i j ++ m ∷ []) in let push = sum_by_push (at_message k0) (link V i j) m in
      omega (arith, more, push)

  flushed : (T : Setup) (W : World) (i j : ℕ) → at_world (after T W (event i (Flush j))) ≤ at_world W
  unfolding after local_step
  flushed T W i j =
      let s : Side = side W i in
      let V : World = with_side i (sent j s) W in
      let new = world-side W i (sent j s) in
      let gone = lives-sent k0 counts s j in
      let more = link-more V i j (slice_get (outbox s j) 0) in
      omega (arith, new, gone, more)

  -- The world after an event.
  pub after-lives : (T : Setup) (W : World) (i : ℕ) (a : Act) →
      at_world (after T W (event i a)) ≤ at_world W + at_grant k0 (stepped T W (event i a)).outcome.grant
  unfolding after
  after-lives T W i (Calls v) =
      let few = step-within k0 counts T i (side W i) (Calls v) None tt in
      let new = world-side W i (local_step T i (side W i) (Calls v) None).side in
      omega (arith, few, new)
  after-lives T W i (Upcall v) =
      let few = step-within k0 counts T i (side W i) (Upcall v) None tt in
      let new = world-side W i (local_step T i (side W i) (Upcall v) None).side in
      omega (arith, few, new)
  after-lives T W i (Resume v) =
      let few = step-within k0 counts T i (side W i) (Resume v) None tt in
      let new = world-side W i (local_step T i (side W i) (Resume v) None).side in
      omega (arith, few, new)
  after-lives T W i (Kill v) =
      let few = step-within k0 counts T i (side W i) (Kill v) None tt in
      let new = world-side W i (local_step T i (side W i) (Kill v) None).side in
      omega (arith, few, new)
  after-lives T W i Handle =
      let few = step-within k0 counts T i (side W i) Handle None tt in
      let new = world-side W i (local_step T i (side W i) Handle None).side in
      omega (arith, few, new)
  after-lives T W i (Fetch j) = let few = fetched T W i j in omega (arith, few)
  after-lives T W i (Flush j) = let few = flushed T W i j in omega (arith, few)

  -- The start: a root has no parent.
  abbrev pub at_root : KeyName → ℕ
  at_root k = if counts None then at_key k0 k else 0

  root-less : (k : KeyName) → at_root k ≤ at_key k0 k
  root-less k = cond_both (counts None) (at_key k0 k) 0 (λ n. n ≤ at_key k0 k) (λ _. omega arith) (λ _. omega arith)

  root-lives : (d : VpeDecl) (r : Root) (s : Side) →
      at_side k0 counts (root_added d r s) ≤ at_side k0 counts s + at_root (root_key d (row s d.vpe).next_number r)
  root-lives d r s =
      let k : KeyName = root_key d (row s d.vpe).next_number r in
      let c : Capability = record { key = k; parent = None; children = []; mark = None; selector = r.sel; object = r.object } in
      let L = lives k0 counts (at_side k0 counts s + at_root k) in
      let added = lives-added k0 counts s c in
      L.keeps_drawn (with_slot d.vpe r.sel (Held k) (cap_added c s)) (L.keeps_slot (cap_added c s) (omega (arith, added)) d.vpe r.sel (Held k) refl) d.vpe

  roots-live : (d : VpeDecl) (rs : List Root) (n : ℕ) (s : Side) → (row s d.vpe).next_number ≡ n →
      at_side k0 counts (in_turn (root_added d) rs s) ≤ at_side k0 counts s + sum_by at_root (root_keys_from d n rs)
  unfolding in_turn root_keys_from
  roots-live d [] n s number = omega arith
  roots-live d (r ∷ rs) n s number =
      let first = root-lives d r s in
      let same : at_root (root_key d (row s d.vpe).next_number r) ≡ at_root (root_key d n r) = ap (λ m. at_root (root_key d m r)) number in
      let rest = roots-live d rs (n + 1) (root_added d r s) (root-next d r s ∙ ap (λ m. m + 1) number) in
      let all = sum_by-cons (at_root) (root_key d n r) (root_keys_from d (n + 1) rs) in
      omega (arith, first, same, rest, all)

  abbrev roots_weight : VpeDecl → ℕ
  roots_weight d = sum_by at_root (root_keys_from d 0 d.roots)

  vpe-lives : (d : VpeDecl) (s : Side) → at_side k0 counts (vpe_added d s) ≤ at_side k0 counts s + roots_weight d
  vpe-lives d s =
      let roots = roots-live d d.roots 0 (vpe_fresh d s) (ap (λ (x : VpeRow). x.next_number) (with_row-same d.vpe (λ v. new_vpe) s)) in
      omega (arith, roots)

  vpes-live : (ds : List VpeDecl) (s : Side) → at_side k0 counts (in_turn vpe_added ds s) ≤ at_side k0 counts s + sum_by roots_weight ds
  unfolding in_turn
  vpes-live [] s = omega arith
  vpes-live (d ∷ ds) s =
      let first = vpe-lives d s in
      let rest = vpes-live ds (vpe_added d s) in
      let all = sum_by-cons roots_weight d ds in
      omega (arith, first, rest, all)

  side-lives : (T : Setup) (i : ℕ) → at_side k0 counts (start_side T i) ≤ sum_by roots_weight (filter (λ d. pe_owner T d.pe == i) T.vpes)
  unfolding start_side
  side-lives T i =
      let calls = weigh-replicate (at_parked k0) 128 None refl in
      let outs = weigh-replicate (at_messages k0) T.kernels [] refl in
      let all = vpes-live (filter (λ d. pe_owner T d.pe == i) T.vpes) (empty_side T) in
      omega (arith, calls, outs, all)

  pub start-lives : (T : Setup) → at_world (start T) ≤ sum_by at_root (root_keys T)
  unfolding start
  start-lives T =
      let kernels : List ℕ = range_with_len 0 T.kernels in
      let mapped = sum-of_map (at_side k0 counts) (start_side T) kernels in
      let each = sum-le (λ i. at_side k0 counts (start_side T i)) (λ i. sum_by roots_weight (filter (λ d. pe_owner T d.pe == i) T.vpes))
      (side-lives T) kernels in
      let owned = owned-once (λ (d : VpeDecl). pe_owner T d.pe) roots_weight T.kernels T.vpes in
      let roots = sum-of_flat_map (at_root) (λ (d : VpeDecl). root_keys_from d 0 d.roots) T.vpes in
      let links : at_links (replicate T.kernels (replicate T.kernels [])) ≡ 0 =
      weigh-replicate (λ (ls : List (List Message)). sum_by (at_messages k0) ls) T.kernels (replicate T.kernels [])
      (weigh-replicate (at_messages k0) T.kernels [] refl) in
      omega (arith, mapped, each, owned, roots, links)

  -- A schedule.
  abbrev pub made_weight : Setup → List (KeyName × KeyName) → ℕ
  made_weight T gs = sum_by at_root (root_keys T) + sum_by (λ (g : KeyName × KeyName). at_key k0 g.1) gs

  granted-weight : (gs : List (KeyName × KeyName)) (o : Option (KeyName × KeyName)) → sum_by (λ (g : KeyName × KeyName). at_key k0 g.1) (with_granted 0 0 gs o)
      ≡ sum_by (λ (g : KeyName × KeyName). at_key k0 g.1) gs + at_grant k0 o
  granted-weight gs None = omega arith
  granted-weight gs (Some g) = sum_by_push (λ (h : KeyName × KeyName). at_key k0 h.1) gs g

  granted-is : (before : List Entry) (e : Entry) (o : Option (KeyName × KeyName)) → e.grant ≡ o → with_granted 0 0 (grants before) o ≡ grants (before ++ e ∷ [])
  granted-is before e None none = sym (without_grant before e none)
  granted-is before e (Some g) some = sym (with_grant before e g some)

  shown : (T : Setup) (W : World) (e : Entry) → e ≡ entry_of T W e.event → e.grant ≡ (stepped T W e.event).outcome.grant
  unfolding entry_of local_entry
  shown T W e made' = ap (λ (x : Entry). x.grant) made'

  pub schedule-lives : (T : Setup) (J : List Entry) → IsSchedule T J → at_world (world_after T J) ≤ made_weight T (grants J)
  schedule-lives T J runs = from [] J refl (let first = start-lives T in omega (arith, first))
    where
      from : (before later : List Entry) → J ≡ before ++ later → at_world (world_after T before) ≤ made_weight T (grants before) →
          at_world (world_after T J) ≤ made_weight T (grants J)
      from before [] parts is = subst (λ K. at_world (world_after T K) ≤ made_weight T (grants K)) (sym (parts ∙ append-nil before)) is
      from before (e ∷ es) parts is =
          let W : World = world_after T before in
          let at = entry-enabled T before (start T) e es (subst (IsSchedule T) parts runs) in
          let next = after-lives T W e.event.kernel e.event.act in
          let o : Option (KeyName × KeyName) = (stepped T W e.event).outcome.grant in
          let world : at_world (after T W e.event) ≡ at_world (world_after T (before ++ e ∷ [])) = ap at_world (sym (run-append T before (e ∷ []) (start T))) in
          let gs : made_weight T (with_granted 0 0 (grants before) o) ≡ made_weight T (grants (before ++ e ∷ [])) =
          ap (made_weight T) (granted-is before e o (shown T W e at.2)) in
          let more = granted-weight (grants before) o in
          from (before ++ e ∷ []) es (parts ∙ sym (append_assoc before (e ∷ []) es)) (omega (arith, is, next, world, gs, more))

  -- a key weighs no more than its place
  pub at-place : (k : KeyName) → at_key k0 k ≤ of_key k0.vpe k0.number k
  at-place k = elim (cases_Bool (key_eq k k0)) [
    | inl same ↦
        let here : of_key k0.vpe k0.number k ≡ 1 = ap (of_key k0.vpe k0.number) (key_eq-true k k0 same)
        ∙ cond-true ((k0.vpe == k0.vpe) && (k0.number == k0.number)) 1 0 (and_from (k0.vpe == k0.vpe) (k0.number == k0.number) (eq-eqb k0.vpe k0.vpe refl)
        (eq-eqb k0.number k0.number refl)) in
        let one : at_key k0 k ≡ 1 = cond-true (key_eq k k0) 1 0 same in
        omega (arith, here, one)
    | inr other ↦ let none : at_key k0 k ≡ 0 = cond-false (key_eq k k0) 1 0 other in omega (arith, none)
  ]

  -- a key is live in one place at most
  pub lives-once : (T : Setup) → IsSetup T → (J : List Entry) → IsSchedule T J → at_world (world_after T J) ≤ 1
  lives-once T valid J runs =
      let few = schedule-lives T J runs in
      let once = (schedule-once k0.vpe k0.number T valid J runs).once in
      let fewer = sum-le at_root (at_key k0) root-less (root_keys T) in
      let roots = sum-le (at_key k0) (of_key k0.vpe k0.number) at-place (root_keys T) in
      let children = sum-le (λ (g : KeyName × KeyName). at_key k0 g.1) (λ (g : KeyName × KeyName). of_key k0.vpe k0.number g.1) (λ g. at-place g.1)
      (grants J) in
      omega (arith, few, once, fewer, roots, children)
