-- Schedules with the same parts lead to the same world.
use Rattle.std.proofs.Common.{◌≡◌, ℕ, List, [], ◌∷◌, ◌++◌, length, filter, get_or, refl, sym, ◌∙◌, ap, subst, inl, inr}
use Rattle.std.specs.List.{flat_map}
use Rattle.std.proofs.lemmas.Bool.{cases_eq, cases_lt}
use Rattle.sem_msg.specs.declared.message.Message.{Message}
use Rattle.sem_msg.specs.declared.entry.Entry.{Entry}
use Rattle.sem_msg.specs.declared.event.Event.{Event}
use Rattle.sem_msg.specs.Setup.{Setup}
use Rattle.sem_msg.specs.Journal.{part, replies, message_in, is_flush_to, is_fetch_from}
use Rattle.sem_msg.specs.Fabric.{link_in}
use Rattle.sem_msg.proofs.Moves.{part-own, part-other}
use Rattle.sem_machine.specs.Sides.{Side, no_side}
use Rattle.sem_machine.specs.Machine.{entry_of}
use Rattle.sem_machine.specs.Schedules.{IsSchedule, world_after}
use Rattle.sem_parts.specs.Parts.{RunsTo}
use Rattle.sem_parts.specs.SidesAfter.{AreSidesAfter, fabric_with}
use Rattle.sem_parts.proofs.Together.{schedule-parts}
use Rattle.sem_parts.proofs.Shapes.{schedule-stand, stand-world}
use Rattle.sem_histories.specs.Outcomes.{HasSameParts, and_then}
use Rattle.sem_histories.proofs.Counting.{no-part, same-count}

module _ (T : Setup) (J K : List Entry) (runs : IsSchedule T J) (runs' : IsSchedule T K) (same : HasSameParts T J K) where
  -- who is no kernel of the setup has no part in either
  pub every-part : (i : ℕ) → part J i ≡ part K i
  every-part i = elim (cases_lt i T.kernels) [
    | inl here ↦ same i here
    | inr past ↦ no-part T.kernels i J (schedule-parts T J runs).owned past ∙ sym (no-part T.kernels i K (schedule-parts T K runs').owned past)
  ]

  -- the sides and links after the one stand at the other
  stand-other : AreSidesAfter T (world_after T J).sides (fabric_with T K (world_after T J).links [])
  stand-other =
      let stand = schedule-stand T J [] runs in
      let parts = schedule-parts T K runs' in
      let links : List (List (List Message)) = (world_after T J).links in
      let sent : (i : ℕ) → List Entry → List Message = λ j L. flat_map (λ e. message_in e.detail) (filter (λ e. is_flush_to j e.event.act) L) in
      let taken : (i : ℕ) → List Entry → List Message = λ i L. flat_map (λ e. message_in e.detail) (filter (λ e. is_fetch_from i e.event.act) L) in
      record {
        count = stand.count;
        square = stand.square;
        fabric = record {
          same_kernels = refl;
          same_window = refl;
          same_kills = refl;
          owned = parts.owned;
          agrees = parts.agrees;
          linked = λ i j. ap (sent j) (sym (every-part i)) ∙ (stand.fabric.linked i j ∙ ap (λ L. taken i L ++ link_in links i j) (every-part j));
        };
        runs = λ i here. subst (λ L. RunsTo T i L (get_or (world_after T J).sides i no_side)) (same i here) (stand.runs i here);
      }

  pub same-replies : length (replies J) ≡ length (replies K)
  same-replies = same-count T.kernels J K (schedule-parts T J runs).owned (schedule-parts T K runs').owned same

  pub same-worlds : world_after T J ≡ world_after T K
  same-worlds =
      let links : List (List (List Message)) = (world_after T J).links in
      let sides : List Side = (world_after T J).sides in
      stand-world T sides (fabric_with T J links []) (schedule-stand T J [] runs)
      ∙ ((λ k. record { sides = sides; links = links; replies = same-replies k })
      ∙ sym (stand-world T sides (fabric_with T K links []) stand-other))

  -- an event keeps the parts alike
  pub parts-next : (e : Event) → HasSameParts T (and_then T J e) (and_then T K e)
  parts-next e i here =
      let x : Entry = entry_of T (world_after T J) e in
      let y : Entry = entry_of T (world_after T K) e in
      let made : x ≡ y = ap (λ W. entry_of T W e) same-worlds in
      subst (λ z. part (J ++ x ∷ []) i ≡ part (K ++ z ∷ []) i) made (elim (cases_eq x.event.kernel i) [
        | inl own ↦ part-own J x i own ∙ (ap (λ L. L ++ x ∷ []) (same i here) ∙ sym (part-own K x i own))
        | inr other ↦ part-other J x i other ∙ (same i here ∙ sym (part-other K x i other))
      ])
