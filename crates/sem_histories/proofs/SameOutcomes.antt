-- What is told apart by no event comes to one outcome.
use Rattle.std.proofs.Common.{◌≡◌, ℕ, true, List, [], ◌∷◌, ◌++◌, length, map, filter, refl, sym, ◌∙◌, ap, subst}
use Rattle.std.specs.Prelude.{◌==◌}
use Rattle.std.specs.List.{Contains}
use Rattle.std.proofs.lemmas.List.{length-map}
use Rattle.sem_key.proofs.Members.{Contains-head, Contains-tail}
use Rattle.sem_msg.specs.declared.entry.Entry.{Entry}
use Rattle.sem_msg.specs.declared.entry.Reply.{Reply}
use Rattle.sem_msg.specs.declared.event.Event.{Event}
use Rattle.sem_msg.specs.declared.setup.VpeDecl.{VpeDecl}
use Rattle.sem_msg.specs.Setup.{Setup, IsSetup}
use Rattle.sem_msg.specs.Journal.{replies}
use Rattle.sem_msg.specs.Lookups.{kernel_of}
use Rattle.sem_machine.specs.Sides.{is_alive}
use Rattle.sem_machine.specs.Machine.{side, after, entry_of}
use Rattle.sem_machine.specs.Schedules.{IsSchedule, world_after}
use Rattle.sem_machine.specs.Living.{IsQuiet, IsComplete, reply_count}
use Rattle.sem_machine.proofs.Pushing.{world_after-push}
use Rattle.sem_revoke.proofs.Completing.{quiet-complete}
use Rattle.sem_machine.specs.HeldKeys.{keys_held}
use Rattle.sem_histories.specs.Outcomes.{HasSameParts, HasSameState, and_then, codes_to, outcome}
use Rattle.sem_histories.proofs.Codes.{codes-append, codes-parts}
use Rattle.sem_histories.proofs.SameParts.{every-part, same-worlds}

-- two functions that agree on a list give one list
map-alike : {X Y : Type 0} (f g : X → Y) (xs : List X) → ((x : X) → Contains xs x → f x ≡ g x) → map f xs ≡ map g xs
map-alike f g [] alike = refl
map-alike f g (x ∷ xs) alike =
    let rest = map-alike f g xs (λ y there. alike y (Contains-tail x xs y there)) in
    let first = alike x (Contains-head x xs) in
    λ k. first k ∷ rest k

-- Schedules with the same parts.

module _ (T : Setup) (J K : List Entry) where
  pub same-codes : IsSchedule T J → IsSchedule T K → HasSameParts T J K → (v : ℕ) → codes_to J v ≡ codes_to K v
  same-codes runs runs' same v =
      codes-parts T J v runs
      ∙ (ap (λ L. codes_to L v) (every-part T J K runs runs' same (kernel_of T v))
      ∙ sym (codes-parts T K v runs'))

  pub parts-state : IsSchedule T J → IsSchedule T K → HasSameParts T J K → HasSameState T J K
  parts-state runs runs' same = record {
    world = same-worlds T J K runs runs' same;
    codes = λ d among. same-codes runs runs' same d.vpe;
  }

  reply-count : (L : List Entry) (v : ℕ) → reply_count L v ≡ length (codes_to L v)
  reply-count L v = sym (length-map (filter (λ r. r.vpe == v) (replies L)) (λ (r : Reply). r.code))

  pub parts-complete : IsComplete T J → IsSchedule T K → HasSameParts T J K → IsComplete T K
  parts-complete complete runs' same =
      let worlds : world_after T J ≡ world_after T K = same-worlds T J K complete.schedule runs' same in
      record {
        schedule = runs';
        quiet = subst (IsQuiet T) worlds complete.quiet;
        all_answered = λ v alive.
            reply-count K v
            ∙ (ap length (sym (same-codes complete.schedule runs' same v))
            ∙ (sym (reply-count J v)
            ∙ complete.all_answered v (subst (λ W. is_alive (side W (kernel_of T v)) v ≡ true) (sym worlds) alive)));
      }

  -- Schedules with the same state.

  pub state-outcome : HasSameState T J K → outcome T J ≡ outcome T K
  state-outcome same =
      let codes = map-alike (λ (d : VpeDecl). codes_to J d.vpe) (λ d. codes_to K d.vpe) T.vpes same.codes in
      let worlds = same.world in
      λ k. record { codes = codes k; held = keys_held (worlds k).sides }

  pub state-complete : IsSetup T → IsComplete T J → IsSchedule T K → HasSameState T J K → IsComplete T K
  state-complete valid complete runs' same = quiet-complete T valid K runs' (subst (IsQuiet T) same.world complete.quiet)

  -- an event keeps the state the same
  pub state-next : (e : Event) → HasSameState T J K → HasSameState T (and_then T J e) (and_then T K e)
  state-next e same =
      let worlds : world_after T J ≡ world_after T K = same.world in
      record {
        world = world_after-push T J e ∙ (ap (λ W. after T W e) worlds ∙ sym (world_after-push T K e));
        codes = λ d among.
            codes-append J (entry_of T (world_after T J) e ∷ []) d.vpe
            ∙ ((λ k. same.codes d among k ++ codes_to (entry_of T (worlds k) e ∷ []) d.vpe)
            ∙ sym (codes-append K (entry_of T (world_after T K) e ∷ []) d.vpe));
      }
