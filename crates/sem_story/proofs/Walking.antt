-- A walk that goes on by an entry.
use Rattle.std.proofs.Common.{◌≡◌, ℕ, suc, ◌+◌, ◌<◌, true, List, [], ◌∷◌, ◌++◌, length, take, drop, get_or, sym, ap, ◌∙◌, subst, arith}
use Rattle.std.proofs.lemmas.List.{length-append, take-append-drop}
use Rattle.std.proofs.Math.Seq.{drop-cons}
use Rattle.std.proofs.lemmas.List.Sums.{fold-append}
use Rattle.sem_key.specs.KeyName.{KeyName}
use Rattle.sem_msg.specs.declared.entry.Entry.{Entry}
use Rattle.sem_msg.specs.Setup.{Setup}
use Rattle.sem_msg.specs.Lookups.{owner_of}
use Rattle.sem_machine.specs.Machine.{World, side, start, is_enabled, after}
use Rattle.sem_machine.specs.Schedules.{IsSchedule, world_after}
use Rattle.sem_safety.proofs.GoingOn.{entry-enabled}
use Rattle.sem_kernel.specs.Worlds.{WorldValue}
use Rattle.sem_story.specs.declared.rows.StoryRow.{StoryRow}
use Rattle.sem_story.specs.declared.stages.Stage.{Stage}
use Rattle.sem_story.specs.declared.walks.Walk.{Walk}
use Rattle.sem_story.specs.declared.walks.When.{When}
use Rattle.sem_story.specs.Stages.{stage_in, seen_by}
use Rattle.sem_story.specs.Changes.{stage_after}
use Rattle.sem_story.specs.Telling.{last_stage}
use Rattle.sem_kernel.specs.Worlds.{stepped_value}
use Rattle.sem_story.specs.Walks.{IsAfter, IsOneOf, Notes}
use Rattle.sem_story.proofs.Laws.{Laws, stage-told}
use Rattle.sem_story.proofs.Told.{noted-before, told-all, told-end, one-then}

module _ (T : Setup) (J : List Entry) (e : Entry) (k : KeyName) where
  abbrev W : World
  W = world_after T J

  more-world : world_after T (J ++ e ∷ []) ≡ after T W e.event
  more-world = fold-append (λ (V : World) (x : Entry). after T V x.event) (start T) J (e ∷ [])

  -- the walk goes on by it
  pub walked : (old new : Walk) (when : When) (first second : List StoryRow) → IsAfter T J k old → new.world ≡ stepped_value old.world e.event → Laws T J e k →
      new.stage ≡ stage_after T k e old.stage (seen_by k (side new.world.world (owner_of T k))) → when.stage ≡ new.stage → when.number ≡ length J →
      Notes when old.rows.items first → Notes when first second → Notes when second new.rows.items →
      IsOneOf (last_stage first) (last_stage old.rows.items) when.stage → IsOneOf (last_stage second) (last_stage first) when.stage →
      (IsOneOf (last_stage second) old.stage when.stage → last_stage new.rows.items ≡ when.stage) → IsAfter T (J ++ e ∷ []) k new
  walked old new when first second before makes laws stage now number notes more rest one two last =
      let stepped : new.world ≡ record { setup = T; world = after T W e.event } =
      subst (λ (w : WorldValue). new.world ≡ stepped_value w e.event) before.world makes in
      let world : new.world ≡ record { setup = T; world = world_after T (J ++ e ∷ []) } = stepped
      ∙ ap (λ (V : World). record { setup = T; world = V }) (sym more-world) in
      let told : new.stage ≡ stage_in T (world_after T (J ++ e ∷ [])) k = stage
      ∙ (ap (λ (s : Stage). stage_after T k e s (seen_by k (side new.world.world (owner_of T k)))) before.stage
      ∙ (ap (λ (w : WorldValue). stage_after T k e (stage_in T W k) (seen_by k (side w.world (owner_of T k)))) world
      ∙ stage-told T J e k laws)) in
      let all : when.number + 1 ≡ length (J ++ e ∷ []) = let long = length-append J (e ∷ []) in omega (arith, long, number) in
      let is : when.stage ≡ stage_in T (world_after T (J ++ e ∷ [])) k = now ∙ told in
      let was : last_stage old.rows.items ≡ old.stage = told-end T k J old.rows.items before.rows ∙ sym before.stage in
      let both : IsOneOf (last_stage second) (last_stage old.rows.items) when.stage =
      one-then (last_stage old.rows.items) (last_stage first) (last_stage second) when.stage one two in
      let both_now : IsOneOf (last_stage second) old.stage when.stage = subst (λ (s : Stage). IsOneOf (last_stage second) s when.stage) was both in
      record {
        world = world;
        stage = told;
        rows = told-all T k (J ++ e ∷ []) new.rows.items (last both_now ∙ is)
            (rest T (J ++ e ∷ []) k all is (more T (J ++ e ∷ []) k all is (notes T (J ++ e ∷ []) k all is (noted-before T k J e old.rows.items before.rows))));
      }

-- A walk has come to the entry at a place of a schedule.
module _ (T : Setup) (J : List Entry) (runs : IsSchedule T J) (place : ℕ) (e : Entry) (within : place < length J) (at : e ≡ get_or J place e) where
  pub with-it : J ≡ take place J ++ e ∷ drop (suc place) J
  with-it = sym (ap (λ (xs : List Entry). take place J ++ xs) (sym (drop-cons J place e within ∙ ap (λ (x : Entry). x ∷ drop (suc place) J) (sym at)))
      ∙ take-append-drop place J)

  -- its event is enabled
  pub next-enabled : (now : WorldValue) → now ≡ record { setup = T; world = world_after T (take place J) } → is_enabled now.setup now.world e.event ≡ true
  next-enabled now so_far =
      let on = entry-enabled T (take place J) (start T) e (drop (suc place) J) (subst (IsSchedule T) with-it runs) in
      subst (λ (w : WorldValue). is_enabled w.setup w.world e.event ≡ true) (sym so_far) on.1
