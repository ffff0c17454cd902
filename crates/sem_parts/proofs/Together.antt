-- A journal is a schedule exactly where its parts are runs of the kernels alone and agree.
use Rattle.std.proofs.Common.{◌≡◌, ◌≢◌, ℕ, zero, suc, ◌+◌, ◌<◌, ◌≤◌, ◌&&◌, true, false, cond, List, [], ◌∷◌, ◌++◌, length, drop, replicate, get_or, slice_get}
use Rattle.std.proofs.Common.{Option, None, Some, is_some, refl, sym, ◌∙◌, ap, subst, inl, inr, arith, append-nil, append_assoc, eq-eqb, ◌⊎◌}
use Rattle.std.specs.Prelude.{◌==◌, nat_lt, nat_le, IfSome, IsSome}
use Rattle.std.specs.List.{All, cons_option}
use Rattle.std.specs.Option.{option_map, option_map_or}
use Rattle.std.proofs.lemmas.Bool.{cases_eq, cond-true, and_parts, and_from, lt-ltb, ltb-true, le-leb, leb-true, false≢true}
use Rattle.std.proofs.lemmas.List.{append_cancel_left, length_push, take_at}
use Rattle.std.proofs.lemmas.List.Elements.{All-nil, All-contains, All-take, Contains-append_right, filter_map-append}
use Rattle.std.proofs.lemmas.List.FromFn.{get_or-map-range_with_len}
use Rattle.sem_msg.specs.declared.message.Message.{Message}
use Rattle.sem_msg.specs.declared.event.Act.{Act}
use Rattle.sem_msg.specs.declared.event.Act.TheVariants.{Call as Calls, Fetch, Handle, Upcall, Resume, Flush, Kill}
use Rattle.sem_msg.specs.declared.entry.Detail.{Detail}
use Rattle.sem_msg.specs.declared.entry.Detail.TheVariants.{Called, Carried, Asked, Nothing}
use Rattle.sem_msg.specs.declared.entry.Entry.{Entry}
use Rattle.sem_msg.specs.Setup.{Setup}
use Rattle.sem_msg.specs.Lookups.{kernel_of}
use Rattle.sem_msg.specs.Journal.{part, replies, message_in, fetched, kill_number, Agrees}
use Rattle.sem_machine.specs.Sides.{Side, no_side, outbox, is_alive}
use Rattle.sem_machine.specs.Machine.{World, start, start_side, side, link, after, entry_of, event, with_side, is_enabled, is_locally_enabled, is_allowed}
use Rattle.sem_machine.specs.Machine.{is_other_kernel, local_step, local_entry, input_of, replied_vpe, link_moved, with_link}
use Rattle.sem_machine.specs.Schedules.{IsRun, IsSchedule, run, world_after, carried_in, BringsMessage, IsLocalRun}
use Rattle.sem_key.proofs.Members.{Contains-head}
use Rattle.sem_key.proofs.Puts.{get_or-put_same, get_or-put_other}
use Rattle.sem_safety.proofs.GoingOn.{moved-sides, run-append, entry-enabled}
use Rattle.sem_msg.specs.Fabric.{AgreeAt, link_in, link_put}
use Rattle.sem_parts.specs.Parts.{AreParts, IsHanded, IsNext, RunsTo}
use Rattle.sem_parts.proofs.Growing.{snoc-induct}
use Rattle.sem_msg.proofs.Moves.{part-own, part-other, sends, takes, flushed-snoc, fetched-snoc}
use Rattle.sem_msg.proofs.Agreeing.{IsDue, agrees-none, agrees-front, agrees-due, agrees-whole}
use Rattle.sem_msg.proofs.Entering.{IsMoved, agree-entered, link-few, moved-own, moved-kill, moved-fetch, moved-flush, few-put}
use Rattle.sem_parts.proofs.LocalRuns.{runs-start, runs-next, runs-before, IsLocalRun-parts, entry-event, next-made, next-side}

-- The journal, the links, the replies and the sides of a world belong together.
pub record Stands (T : Setup) (J : List Entry) (W : World) : Type 0 where
  pub fabric : AgreeAt T T.kernels T.window T.kills J W.links
  pub replies : W.replies ≡ length (replies J)
  pub sides : (i : ℕ) → i < T.kernels → RunsTo T i (part J i) (side W i)

-- the front of a list that has one
front : (ms : List Message) → is_some (slice_get ms 0) ≡ true → (m : Message) × (ms ≡ m ∷ drop 1 ms) × (slice_get ms 0 ≡ Some m)
front [] some = absurd (false≢true some)
front (m ∷ ms) some = (m, refl, refl)

-- The start.

-- a row of links with nothing in them
abbrev no_links : ℕ → List (List Message)
no_links n = replicate n []

empty : (n i j : ℕ) → link_in (replicate n (no_links n)) i j ≡ []
empty n i j = outer (row_at n i)
  where
    row_at : (rows at : ℕ) → (get_or (replicate rows (no_links n)) at [] ≡ no_links n) ⊎ (get_or (replicate rows (no_links n)) at [] ≡ [])
    row_at zero at = inr refl
    row_at (suc rows) zero = inl refl
    row_at (suc rows) (suc at) = row_at rows at

    inner : (links at : ℕ) → get_or (no_links links) at [] ≡ []
    inner zero at = refl
    inner (suc links) zero = refl
    inner (suc links) (suc at) = inner links at

    outer : (get_or (replicate n (no_links n)) i [] ≡ no_links n) ⊎ (get_or (replicate n (no_links n)) i [] ≡ []) → link_in (replicate n (no_links n)) i j ≡ []
    outer (inl within) = ap (λ (row : List (List Message)). get_or row j []) within ∙ inner n j
    outer (inr past) = ap (λ (row : List (List Message)). get_or row j []) past

pub stands-start : (T : Setup) → Stands T [] (start T)
unfolding start
stands-start T = record {
  fabric = record {
    same_kernels = refl;
    same_window = refl;
    same_kills = refl;
    owned = All-nil (λ (e : Entry). e.event.kernel < T.kernels);
    agrees = agrees-none T;
    linked = λ i j. sym (empty T.kernels i j);
  };
  replies = refl;
  sides = λ i within. subst (RunsTo T i []) (sym (get_or-map-range_with_len (start_side T) 0 T.kernels i i no_side within (omega arith))) (runs-start T i);
}

-- Forward: an event that is enabled.
module _ (T : Setup) (W : World) (J : List Entry) (is : Stands T J W) where
  -- what an enabled act is handed
  input-is : (i : ℕ) (a : Act) → is_allowed T W i a ≡ true → IsHanded a (input_of W i a)
  input-is i (Fetch j) allowed = let here = front (link W j i) allowed in subst IsSome (sym here.2) refl
  input-is i (Calls v) allowed = refl
  input-is i Handle allowed = refl
  input-is i (Upcall v) allowed = refl
  input-is i (Resume v) allowed = refl
  input-is i (Flush j) allowed = refl
  input-is i (Kill v) allowed = refl

  due-if : (n : ℕ) (o : Option ℕ) → option_map_or (λ k. nat_le k n) o false ≡ true → IfSome o (λ k. k ≤ n)
  due-if n None is_due = tt
  due-if n (Some k) is_due = leb-true k n is_due

  few : (i j : ℕ) → length (link W i j) ≤ T.window
  few = link-few T T.kernels T.window T.kills J W.links is.fabric

  -- the links move as the entry tells, and none has more messages than the window then
  links-next : (i : ℕ) (a : Act) → is_locally_enabled T i (side W i) a ≡ true → is_allowed T W i a ≡ true
      → IsMoved (entry_of T W (event i a)) W.links (after T W (event i a)).links × ((x y : ℕ) → length (link (after T W (event i a)) x y) ≤ T.window)
  unfolding entry_of local_entry after is_locally_enabled
  links-next i (Calls v) enabled allowed = (moved-own (entry_of T W (event i (Calls v))) W.links tt, few)
  links-next i Handle enabled allowed = (moved-own (entry_of T W (event i Handle)) W.links tt, few)
  links-next i (Upcall v) enabled allowed = (moved-own (entry_of T W (event i (Upcall v))) W.links tt, few)
  links-next i (Resume v) enabled allowed = (moved-own (entry_of T W (event i (Resume v))) W.links tt, few)
  links-next i (Kill v) enabled allowed = (moved-kill (entry_of T W (event i (Kill v))) W.links v refl, few)
  links-next i (Fetch j) enabled allowed =
      let (m, at, taken) = front (link W j i) allowed in
      let before = few j i in
      let long : length (link W j i) ≡ length (drop 1 (link W j i)) + 1 = ap length at ∙ omega arith in (
        moved-fetch (entry_of T W (event i (Fetch j))) W.links i j m (ap (λ (o : Option Message). option_map_or (λ x. Carried j x) o Nothing) taken)
            (drop 1 (link W j i)) refl at,
        few-put T.window W.links j i (drop 1 (link W j i)) few (omega (arith, before, long)),
      )
  links-next i (Flush j) enabled allowed =
      let (m, at, taken) = front (outbox (side W i) j) (and_parts (is_other_kernel T i j) (is_some (slice_get (outbox (side W i) j) 0)) enabled).1 in
      let room = ltb-true (length (link W i j)) T.window allowed in
      let long = length_push (link W i j) m in
      let now : (after T W (event i (Flush j))).links ≡ link_put i j (link W i j ++ m ∷ []) W.links = flushed-to (slice_get (outbox (side W i) j) 0) m taken in
      subst (λ (links : List (List (List Message))). IsMoved (entry_of T W (event i (Flush j))) W.links links
      × ((x y : ℕ) → length (link_in links x y) ≤ T.window)) (sym now) (
        moved-flush (entry_of T W (event i (Flush j))) W.links i j m (ap (λ (o : Option Message). option_map_or (λ x. Carried j x) o Nothing) taken) refl,
        few-put T.window W.links i j (link W i j ++ m ∷ []) few (omega (arith, room, long)),
      )
    where
      flushed-to : (o : Option Message) (m : Message) → o ≡ Some m
          → (option_map_or (λ x. record (with_side i (local_step T i (side W i) (Flush j) None).side W) { links = link_put i j (link W i j ++ x ∷ []) W.links })
          o (with_side i (local_step T i (side W i) (Flush j) None).side W)).links ≡ link_put i j (link W i j ++ m ∷ []) W.links
      flushed-to o m is_some_m =
          subst (λ (p : Option Message).
          (option_map_or (λ x. record (with_side i (local_step T i (side W i) (Flush j) None).side W) { links = link_put i j (link W i j ++ x ∷ []) W.links }) p
          (with_side i (local_step T i (side W i) (Flush j) None).side W)).links ≡ link_put i j (link W i j ++ m ∷ []) W.links) (sym is_some_m) refl

  due-next : (i : ℕ) (a : Act) → is_allowed T W i a ≡ true → IsDue T J (entry_of T W (event i a))
  unfolding entry_of local_entry
  due-next i (Kill v) allowed w same =
      let vpe : v ≡ w = cc in
      let counted = is.replies in
      subst (λ x. IfSome (kill_number T x) (λ k. k ≤ length (replies J))) vpe
      (subst (λ n. IfSome (kill_number T v) (λ k. k ≤ n)) counted (due-if W.replies (kill_number T v) allowed))
  due-next i (Calls v) allowed w same = absurd cc
  due-next i Handle allowed w same = absurd cc
  due-next i (Upcall v) allowed w same = absurd cc
  due-next i (Resume v) allowed w same = absurd cc
  due-next i (Fetch j) allowed w same = absurd cc
  due-next i (Flush j) allowed w same = absurd cc

  -- moving a message counts no reply
  replies-moved : (i : ℕ) (s : Side) (a : Act) (V : World) → (link_moved i s a V).replies ≡ V.replies
  replies-moved i s (Fetch j) V = refl
  replies-moved i s (Calls v) V = refl
  replies-moved i s Handle V = refl
  replies-moved i s (Upcall v) V = refl
  replies-moved i s (Resume v) V = refl
  replies-moved i s (Kill v) V = refl
  replies-moved i s (Flush j) V = by_front (slice_get (outbox s j) 0)
    where
      by_front : (front : Option Message) → (option_map_or (λ m. with_link i j (link V i j ++ m ∷ []) V) front V).replies ≡ V.replies
      by_front None = refl
      by_front (Some m) = refl

  -- the replies after an event are those of the journal with its entry
  replies-next : (i : ℕ) (a : Act) → (after T W (event i a)).replies ≡ length (replies (J ++ entry_of T W (event i a) ∷ []))
  unfolding after entry_of local_entry
  replies-next i a =
      counted (replies-moved i (side W i) a (with_side i (local_step T i (side W i) a (input_of W i a)).side W)
      ∙ is.replies) (local_step T i (side W i) a (input_of W i a)).outcome.reply
      ∙ sym (ap length (filter_map-append (λ (x : Entry). x.reply) J (entry_of T W (event i a) ∷ [])))
    where
      counted : {n : ℕ} → n ≡ length (replies J) → (o : Option ℕ)
          → option_map_or (λ code. n + 1) o n ≡ length (replies J ++ cons_option (option_map (λ code. record { vpe = replied_vpe a; code = code }) o) [])
      counted same None = same ∙ sym (ap length (append-nil (replies J)))
      counted same (Some code) = ap (λ m. m + 1) same ∙ sym (length_push (replies J) (record { vpe = replied_vpe a; code = code }))

  side-same : (i : ℕ) (a : Act) → side (after T W (event i a)) i ≡ (local_step T i (side W i) a (input_of W i a)).side
  unfolding after
  side-same i a =
      let t : Side = (local_step T i (side W i) a (input_of W i a)).side in
      ap (λ (sides : List Side). get_or sides i no_side) (moved-sides i (side W i) a (with_side i t W)) ∙ get_or-put_same no_side W.sides i t

  side-other : (i j : ℕ) (a : Act) → j ≢ i → side (after T W (event i a)) j ≡ side W j
  unfolding after
  side-other i j a apart =
      let t : Side = (local_step T i (side W i) a (input_of W i a)).side in
      ap (λ (sides : List Side). get_or sides j no_side) (moved-sides i (side W i) a (with_side i t W)) ∙ get_or-put_other no_side W.sides i j t apart

  made-so : (i : ℕ) (a : Act) → entry_of T W (event i a) ≡ local_entry T i (side W i) a (input_of W i a)
  unfolding entry_of
  made-so i a = refl

  entry-at : (i : ℕ) (a : Act) → (entry_of T W (event i a)).event ≡ event i a
  unfolding entry_of
  entry-at i a = entry-event T i (side W i) a (input_of W i a)

  stands-event : (i : ℕ) (a : Act) → is_enabled T W (event i a) ≡ true → Stands T (J ++ entry_of T W (event i a) ∷ []) (after T W (event i a))
  unfolding is_enabled
  stands-event i a enabled =
      let (within, both) = and_parts (nat_lt i T.kernels) (is_locally_enabled T i (side W i) a && is_allowed T W i a) enabled in
      let (local', allowed) = and_parts (is_locally_enabled T i (side W i) a) (is_allowed T W i a) both in
      let e : Entry = entry_of T W (event i a) in
      let here : i < T.kernels = ltb-true i T.kernels within in
      let at : e.event ≡ event i a = entry-at i a in
      let (moved, short) = links-next i a local' allowed in
      let input = input-is i a allowed in
      record {
        fabric = agree-entered T T.kernels T.window T.kills J W.links is.fabric e (after T W (event i a)).links moved
            (subst (λ k. k < T.kernels) (sym (ap (λ x. x.kernel) at)) here) short (due-next i a allowed);
        replies = replies-next i a;
        sides = λ j inside. elim (cases_eq j i) [
          | inl same ↦ subst (λ k. RunsTo T k (part (J ++ e ∷ []) k) (side (after T W (event i a)) k)) (sym same)
              (subst (RunsTo T i (part (J ++ e ∷ []) i)) (sym (side-same i a))
              (subst (λ L. RunsTo T i L (local_step T i (side W i) a (input_of W i a)).side) (sym (part-own J e i (ap (λ x. x.kernel) at)))
              (subst (RunsTo T i (part J i ++ e ∷ [])) (next-side T i (side W i) a (input_of W i a) e input (made-so i a))
              (runs-next T i (part J i) (side W i) e (is.sides i here) (next-made T i (side W i) a (input_of W i a) e input local' (made-so i a))))))
          | inr apart ↦ subst (RunsTo T j (part (J ++ e ∷ []) j)) (sym (side-other i j a apart))
              (subst (λ L. RunsTo T j L (side W j)) (sym (part-other J e j (λ same. apart (sym same ∙ ap (λ x. x.kernel) at)))) (is.sides j inside))
        ];
      }

  pub stands-next : (e : Entry) → is_enabled T W e.event ≡ true → e ≡ entry_of T W e.event → Stands T (J ++ e ∷ []) (after T W e.event)
  stands-next e enabled made = subst (λ (x : Entry). Stands T (J ++ x ∷ []) (after T W e.event)) (sym made) (stands-event e.event.kernel e.event.act enabled)

  -- Backward: an entry that its kernel makes next, and that agrees.

  -- what the links say of an entry that agrees
  leads-so : (e : Entry) → Agrees T (J ++ e ∷ []) → (i j : ℕ)
      → (rest : List Message) × (link W i j ++ sends e.event.kernel e.event.act e.detail i j ≡ takes e.event.kernel e.event.act e.detail i j ++ rest)
      × (length rest ≤ T.window)
  leads-so e agrees i j =
      let lead = agrees-whole T (J ++ e ∷ []) agrees i j in
      let sent = sends e.event.kernel e.event.act e.detail i j in
      let taken = takes e.event.kernel e.event.act e.detail i j in
      let whole : fetched J i j ++ (link W i j ++ sent) ≡ fetched J i j ++ (taken ++ lead.rest) =
      sym (append_assoc (fetched J i j) (link W i j) sent)
      ∙ (ap (λ l. l ++ sent) (sym (is.fabric.linked i j))
      ∙ (sym (flushed-snoc J e i j)
      ∙ (lead.begins
      ∙ (ap (λ l. l ++ lead.rest) (fetched-snoc J e i j)
      ∙ append_assoc (fetched J i j) taken lead.rest)))) in
      (lead.rest, append_cancel_left (fetched J i j) (link W i j ++ sent) (taken ++ lead.rest) whole, lead.few)

  due-from : (n : ℕ) (o : Option ℕ) → is_some o ≡ true → IfSome o (λ k. k ≤ n) → option_map_or (λ k. nat_le k n) o false ≡ true
  due-from n None there due = absurd (false≢true there)
  due-from n (Some k) there due = le-leb k n due

  allowed-so : (i : ℕ) (a : Act) (d : Detail) → is_locally_enabled T i (side W i) a ≡ true → BringsMessage a (carried_in a d)
      → ((j : ℕ) → a ≡ Flush j → (m : Message) × (d ≡ Carried j m))
      → ((x y : ℕ) → (rest : List Message) × (link W x y ++ sends i a d x y ≡ takes i a d x y ++ rest) × (length rest ≤ T.window))
      → ((v : ℕ) → a ≡ Kill v → IfSome (kill_number T v) (λ n. n ≤ length (replies J)))
      → (is_allowed T W i a ≡ true) × (carried_in a d ≡ input_of W i a)
  unfolding is_locally_enabled
  allowed-so i (Calls v) d enabled brings flushes leads due = (refl, refl)
  allowed-so i Handle d enabled brings flushes leads due = (refl, refl)
  allowed-so i (Upcall v) d enabled brings flushes leads due = (refl, refl)
  allowed-so i (Resume v) d enabled brings flushes leads due = (refl, refl)
  allowed-so i (Kill v) d enabled brings flushes leads due =
      let some = (and_parts (is_alive (side W i) v) (is_some (kill_number T v))
      (and_parts (kernel_of T v == i) (is_alive (side W i) v && is_some (kill_number T v)) enabled).1).1 in
      (due-from W.replies (kill_number T v) some (subst (λ n. IfSome (kill_number T v) (λ k. k ≤ n)) (sym is.replies) (due v refl)), refl)
  allowed-so i (Flush j) d enabled brings flushes leads due =
      let (m, carried) = flushes j refl in
      let (rest, moved, short) = leads i j in
      let one : cond (j == j) (cond (i == i) (message_in d) []) [] ≡ m ∷ [] = cond-true (j == j) (cond (i == i) (message_in d) []) [] (eq-eqb j j refl)
      ∙ (cond-true (i == i) (message_in d) [] (eq-eqb i i refl) ∙ ap message_in carried) in
      let same : link W i j ++ m ∷ [] ≡ rest = ap (λ l. link W i j ++ l) (sym one) ∙ moved in
      let long : length (link W i j) + 1 ≡ length rest = sym (length_push (link W i j) m) ∙ ap length same in
      (lt-ltb (length (link W i j)) T.window (omega (arith, long, short)), refl)
  allowed-so i (Fetch j) (Carried peer m) enabled brings flushes leads due =
      let (rest, moved, short) = leads j i in
      let one : cond (j == j) (cond (i == i) (m ∷ []) []) [] ≡ m ∷ [] = cond-true (j == j) (cond (i == i) (m ∷ []) []) [] (eq-eqb j j refl)
      ∙ cond-true (i == i) (m ∷ []) [] (eq-eqb i i refl) in
      let same : link W j i ≡ m ∷ rest = sym (append-nil (link W j i)) ∙ (moved ∙ ap (λ l. l ++ rest) one) in
      (ap (λ l. is_some (slice_get l 0)) same, sym (ap (λ l. slice_get l 0) same))
  allowed-so i (Fetch j) (Called index call) enabled brings flushes leads due = absurd brings
  allowed-so i (Fetch j) (Asked asker consent) enabled brings flushes leads due = absurd brings
  allowed-so i (Fetch j) Nothing enabled brings flushes leads due = absurd brings

  -- a flush that a kernel makes carries a message
  flush-carries : (i : ℕ) (e : Entry) → IsNext T i (side W i) e → (j : ℕ) → e.event.act ≡ Flush j → (m : Message) × (e.detail ≡ Carried j m)
  unfolding is_locally_enabled local_entry
  flush-carries i e next j act =
      let enabled : is_locally_enabled T i (side W i) (Flush j) ≡ true = subst (λ a. is_locally_enabled T i (side W i) a ≡ true) act next.enabled in
      let made : e ≡ local_entry T i (side W i) (Flush j) (carried_in e.event.act e.detail) =
      subst (λ a. e ≡ local_entry T i (side W i) a (carried_in e.event.act e.detail)) act next.made in
      let (m, at, taken) = front (outbox (side W i) j) (and_parts (is_other_kernel T i j) (is_some (slice_get (outbox (side W i) j) 0)) enabled).1 in
      (m, ap (λ (x : Entry). x.detail) made ∙ ap (λ (o : Option Message). option_map_or (λ x. Carried j x) o Nothing) taken)

  pub next-enabled : (e : Entry) → e.event.kernel < T.kernels → IsNext T e.event.kernel (side W e.event.kernel) e → Agrees T (J ++ e ∷ [])
      → (is_enabled T W e.event ≡ true) × (e ≡ entry_of T W e.event)
  unfolding is_enabled entry_of
  next-enabled e here next agrees =
      let i : ℕ = e.event.kernel in
      let a : Act = e.event.act in
      let (allowed, input) = allowed-so i a e.detail next.enabled next.brings (flush-carries i e next) (leads-so e agrees) (agrees-due T J e agrees) in (
        and_from (nat_lt i T.kernels) (is_locally_enabled T i (side W i) a && is_allowed T W i a) (lt-ltb i T.kernels here)
            (and_from (is_locally_enabled T i (side W i) a) (is_allowed T W i a) next.enabled allowed),
        next.made ∙ ap (local_entry T i (side W i) a) input,
      )

-- Schedules.

-- the world after one entry more
pub world-snoc : (T : Setup) (J : List Entry) (e : Entry) → world_after T (J ++ e ∷ []) ≡ after T (world_after T J) e.event
world-snoc T J e = run-append T J (e ∷ []) (start T)

IsRun-snoc : (T : Setup) (W : World) (J : List Entry) (e : Entry) → IsRun T W J → is_enabled T (run T W J) e.event ≡ true → e ≡ entry_of T (run T W J) e.event
    → IsRun T W (J ++ e ∷ [])
unfolding IsRun
IsRun-snoc T W [] e runs enabled made = (enabled, made, tt)
IsRun-snoc T W (x ∷ xs) e (first, made_so, rest) enabled made = (first, made_so, IsRun-snoc T (after T W x.event) xs e rest enabled made)

pub schedule-stands : (T : Setup) (J : List Entry) → IsSchedule T J → Stands T J (world_after T J)
schedule-stands T J = snoc-induct (λ L. IsSchedule T L → Stands T L (world_after T L)) (λ runs. stands-start T) (λ L e before runs.
    let (first, enabled, made) = entry-enabled T L (start T) e [] runs in
    subst (Stands T (L ++ e ∷ [])) (sym (world-snoc T L e)) (stands-next T (world_after T L) L (before first) e enabled made)) J

pub schedule-parts : (T : Setup) (J : List Entry) → IsSchedule T J → AreParts T J
schedule-parts T J runs = let stands = schedule-stands T J runs in record {
  owned = stands.fabric.owned;
  runs = λ i here. (stands.sides i here).run;
  agrees = stands.fabric.agrees;
}

-- the parts without the last entry
parts-front : (T : Setup) (J : List Entry) (e : Entry) → AreParts T (J ++ e ∷ []) → AreParts T J
parts-front T J e is = record {
  owned = subst (All (λ (x : Entry). x.event.kernel < T.kernels)) (take_at J (e ∷ []) (length J) refl)
      (All-take (λ (x : Entry). x.event.kernel < T.kernels) (length J) (J ++ e ∷ []) is.owned);
  runs = λ i here. elim (cases_eq e.event.kernel i) [
    | inl same ↦ (IsLocalRun-parts T i (start_side T i) (part J i) e (subst (IsLocalRun T i) (part-own J e i same) (is.runs i here))).0
    | inr apart ↦ subst (IsLocalRun T i) (part-other J e i apart) (is.runs i here)
  ];
  agrees = agrees-front T J e is.agrees;
}

pub parts-schedule : (T : Setup) (J : List Entry) → AreParts T J → IsSchedule T J
unfolding IsRun
parts-schedule T J = snoc-induct (λ L. AreParts T L → IsSchedule T L) (λ is. tt) (λ L e before is.
    let first = before (parts-front T L e is) in
    let stands = schedule-stands T L first in
    let i : ℕ = e.event.kernel in
    let here : i < T.kernels = All-contains (λ (x : Entry). x.event.kernel < T.kernels) (L ++ e ∷ []) e is.owned
    (Contains-append_right L (e ∷ []) e (Contains-head e [])) in
    let next = runs-before T i (part L i) (side (world_after T L) i) e (subst (IsLocalRun T i) (part-own L e i refl) (is.runs i here)) (stands.sides i here) in
    let (enabled, made) = next-enabled T (world_after T L) L stands e here next is.agrees in
    IsRun-snoc T (start T) L e first enabled made) J
