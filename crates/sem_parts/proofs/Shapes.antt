-- After a schedule there is a side for each kernel and a link for each pair; so the world is told by what is read off it.
use Rattle.std.proofs.Common.{◌≡◌, ℕ, ◌<◌, ◌&&◌, Bool, true, List, [], ◌∷◌, ◌++◌, length, drop, map, replicate, get_or, set, slice_get, Option, None, Some}
use Rattle.std.proofs.Common.{is_some, is_none, refl, sym, ◌∙◌, ap, subst, inl, inr, arith, length-set}
use Rattle.std.specs.Prelude.{nat_lt, not, ◌==◌}
use Rattle.std.specs.List.{range_with_len}
use Rattle.std.specs.Option.{option_map_or}
use Rattle.std.proofs.lemmas.Bool.{cases_eq, and_parts, ltb-true}
use Rattle.std.proofs.lemmas.List.{append_cancel_left, get_or-set_same, get_or-set_other}
use Rattle.std.proofs.lemmas.List.FromFn.{length-map-range_with_len, fill_by_all}
use Rattle.sem_msg.specs.declared.message.Message.{Message}
use Rattle.sem_msg.specs.declared.event.Act.{Act}
use Rattle.sem_msg.specs.declared.event.Act.TheVariants.{Call as Calls, Fetch, Handle, Upcall, Resume, Flush, Kill}
use Rattle.sem_msg.specs.declared.entry.Entry.{Entry}
use Rattle.sem_msg.specs.Setup.{Setup}
use Rattle.sem_msg.specs.Journal.{part, replies, fetched}
use Rattle.sem_machine.specs.Sides.{Side, no_side, outbox}
use Rattle.sem_machine.specs.Machine.{World, start, start_side, side, link, after, event, with_side, is_enabled, is_locally_enabled, is_allowed}
use Rattle.sem_machine.specs.Machine.{is_other_kernel, local_step, input_of}
use Rattle.sem_machine.specs.Schedules.{IsSchedule, world_after}
use Rattle.sem_key.proofs.Puts.{length-put}
use Rattle.sem_safety.proofs.GoingOn.{moved-sides, entry-enabled}
use Rattle.sem_msg.specs.Fabric.{FabricValue, IsSquare, link_in, link_put}
use Rattle.sem_msg.proofs.Squares.{square-put, square-start}
use Rattle.sem_parts.specs.Parts.{RunsTo}
use Rattle.sem_parts.specs.SidesAfter.{HasEntered, AreSidesAfter, world_with}
use Rattle.sem_parts.proofs.Growing.{snoc-induct}
use Rattle.sem_parts.proofs.Together.{schedule-stands, parts-schedule, world-snoc, stands-start}

-- two lists of one length that read the same are the same
same-list : {X : Type 0} (d : X) (n : ℕ) (xs ys : List X) → length xs ≡ n → length ys ≡ n → ((i : ℕ) → i < n → get_or xs i d ≡ get_or ys i d) → xs ≡ ys
same-list d n xs ys long long' same = fill_by_all (λ i. get_or ys i d) xs n d long same ∙ sym (fill_by_all (λ i. get_or ys i d) ys n d long' (λ i within. refl))

-- Worlds.

pub record IsShaped (T : Setup) (W : World) : Type 0 where
  pub count : length W.sides ≡ T.kernels
  pub square : IsSquare T.kernels W.links

module _ (T : Setup) where
  shaped-start : IsShaped T (start T)
  unfolding start
  shaped-start = record { count = length-map-range_with_len (start_side T) 0 T.kernels; square = square-start T.kernels }

  pub other-kernel : (i j : ℕ) (b : Bool) → (is_other_kernel T i j && b) ≡ true → j < T.kernels
  other-kernel i j b enabled = ltb-true j T.kernels (and_parts (nat_lt j T.kernels) (not (j == i)) (and_parts (is_other_kernel T i j) b enabled).0).0

  shaped-event : (W : World) (i : ℕ) (a : Act) → is_enabled T W (event i a) ≡ true → IsShaped T W → IsShaped T (after T W (event i a))
  unfolding is_enabled after is_locally_enabled
  shaped-event W i a enabled is =
      let (within, both) = and_parts (nat_lt i T.kernels) (is_locally_enabled T i (side W i) a && is_allowed T W i a) enabled in
      let (locally, allowed) = and_parts (is_locally_enabled T i (side W i) a) (is_allowed T W i a) both in
      let here : i < T.kernels = ltb-true i T.kernels within in
      let count = is.count in
      let t : Side = (local_step T i (side W i) a (input_of W i a)).side in
      record {
        count = ap length (moved-sides i (side W i) a (with_side i t W)) ∙ (length-put no_side W.sides i t (omega (arith, here, count)) ∙ count);
        square = by_act a here locally;
      }
    where
      by_act : (b : Act) → i < T.kernels → is_locally_enabled T i (side W i) b ≡ true → IsSquare T.kernels (after T W (event i b)).links
      by_act (Calls v) here ok = is.square
      by_act Handle here ok = is.square
      by_act (Upcall v) here ok = is.square
      by_act (Resume v) here ok = is.square
      by_act (Kill v) here ok = is.square
      by_act (Fetch j) here ok = square-put T.kernels W.links j i (drop 1 (link W j i)) is.square (other-kernel i j (is_none (side W i).inbox) ok) here
      by_act (Flush j) here ok = by_front (slice_get (outbox (side W i) j) 0)
        where
          by_front : (o : Option Message) →
              IsSquare T.kernels
              (option_map_or (λ m. record (with_side i (local_step T i (side W i) (Flush j) None).side W) {
                links =
                    link_put i j (link W i j ++ m ∷ []) W.links;
              }) o (with_side i (local_step T i (side W i) (Flush j) None).side W)).links
          by_front None = is.square
          by_front (Some m) =
              square-put T.kernels W.links i j (link W i j ++ m ∷ []) is.square here (other-kernel i j (is_some (slice_get (outbox (side W i) j) 0)) ok)

  pub schedule-shaped : (J : List Entry) → IsSchedule T J → IsShaped T (world_after T J)
  schedule-shaped J = snoc-induct (λ L. IsSchedule T L → IsShaped T (world_after T L)) (λ runs. shaped-start) (λ L e before runs.
      let (first, enabled, made) = entry-enabled T L (start T) e [] runs in
      subst (IsShaped T) (sym (world-snoc T L e)) (shaped-event (world_after T L) e.event.kernel e.event.act enabled (before first))) J

  -- Kernels and a fabric that stand at a schedule.

  module _ (sides : List Side) (f : FabricValue) (is : AreSidesAfter T sides f) where
    pub stand-schedule : IsSchedule T f.journal
    stand-schedule = parts-schedule T f.journal (record { owned = is.fabric.owned; runs = λ i here. (is.runs i here).run; agrees = is.fabric.agrees })

    -- they are the world after it
    pub stand-world : world_after T f.journal ≡ world_with sides f
    stand-world =
        let W : World = world_after T f.journal in
        let stands = schedule-stands T f.journal stand-schedule in
        let shaped = schedule-shaped f.journal stand-schedule in
        let same_sides : W.sides ≡ sides = same-list no_side T.kernels W.sides sides shaped.count is.count (λ i here. sym (stands.sides i here).side
        ∙ (is.runs i here).side) in
        let same_links : W.links ≡ f.links = same-list [] T.kernels W.links f.links shaped.square.rows is.square.rows (λ i here.
        same-list [] T.kernels (get_or W.links i []) (get_or f.links i []) (shaped.square.each i here) (is.square.each i here) (λ j there.
        append_cancel_left (fetched f.journal i j) (link W i j) (link_in f.links i j) (sym (stands.fabric.linked i j) ∙ is.fabric.linked i j))) in
        let same_replies : W.replies ≡ length (replies f.journal) = stands.replies in
        λ k. record { sides = same_sides k; links = same_links k; replies = same_replies k }

    -- after a step of one kernel they stand at a schedule again
    pub stand-next : (i : ℕ) (e : Entry) (t : Side) (g : FabricValue) → i < T.kernels → IsSquare T.kernels g.links → HasEntered T i e t f g →
        AreSidesAfter T (set sides i t) g
    stand-next i e t g here square next =
        let count = is.count in
        let within : i < length sides = omega (arith, here, count) in
        record {
          count = length-set sides i t ∙ count;
          square = square;
          fabric = next.fabric;
          runs = λ k inside. elim (cases_eq k i) [
            | inl same ↦ subst (λ m. RunsTo T m (part g.journal m) (get_or (set sides i t) m no_side)) (sym same)
                (subst (RunsTo T i (part g.journal i)) (sym (get_or-set_same sides i t no_side within)) next.own)
            | inr apart ↦ subst (RunsTo T k (part g.journal k)) (sym (get_or-set_other sides i k t no_side apart))
                (subst (λ L. RunsTo T k L (get_or sides k no_side)) (sym (next.others k apart)) (is.runs k inside))
          ];
        }

  -- so a step of the code is an event of the world that they are
  pub stand-after : (sides : List Side) (f : FabricValue) (i : ℕ) (e : Entry) (t : Side) (g : FabricValue) → AreSidesAfter T sides f → i < T.kernels
      → IsSquare T.kernels g.links → HasEntered T i e t f g → world_with (set sides i t) g ≡ after T (world_with sides f) e.event
  stand-after sides f i e t g is here square next =
      let now = stand-next sides f is i e t g here square next in
      sym (stand-world (set sides i t) g now)
      ∙ (ap (world_after T) next.journal ∙ (world-snoc T f.journal e ∙ ap (λ (W : World). after T W e.event) (stand-world sides f is)))

  -- The start and the world after a schedule.

  pub stand-start : (places : List Bool) →
      AreSidesAfter T (map (start_side T) (range_with_len 0 T.kernels)) (record {
        kernels = T.kernels;
        window = T.window;
        kills = T.kills;
        journal = [];
        links = replicate T.kernels (replicate T.kernels []);
        places = places;
      })
  unfolding start
  stand-start places = let stands = stands-start T in record {
    count = shaped-start.count;
    square = shaped-start.square;
    fabric = stands.fabric;
    runs = stands.sides;
  }

  pub schedule-stand : (J : List Entry) (places : List Bool) → IsSchedule T J →
      AreSidesAfter T (world_after T J).sides (record {
        kernels = T.kernels;
        window = T.window;
        kills = T.kills;
        journal = J;
        links = (world_after T J).links;
        places = places;
      })
  schedule-stand J places runs =
      let stands = schedule-stands T J runs in
      let shaped = schedule-shaped J runs in
      record { count = shaped.count; square = shaped.square; fabric = stands.fabric; runs = stands.sides }
