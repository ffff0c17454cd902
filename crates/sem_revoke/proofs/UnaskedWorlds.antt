-- After every schedule the dead are asked nothing.
use Rattle.std.proofs.Common.{◌≡◌, ℕ, zero, suc, List, [], ◌∷◌, ◌++◌, Option, Some, None, replicate, get_or, append-nil, append_assoc, refl, sym, ap, ◌∙◌}
use Rattle.std.proofs.Common.{subst, inl, inr}
use Rattle.std.specs.Option.{option_map_or}
use Rattle.std.proofs.lemmas.Bool.{cases_eq}
use Rattle.sem_key.specs.declared.limits.TheConstants.{VPES}
use Rattle.sem_msg.specs.declared.entry.Entry.{Entry}
use Rattle.sem_msg.specs.declared.event.Act.{Act}
use Rattle.sem_msg.specs.declared.event.Act.TheVariants.{Call as Calls, Fetch, Handle, Upcall, Resume, Flush, Kill}
use Rattle.sem_msg.specs.declared.message.Message.{Message}
use Rattle.sem_msg.specs.Rows.{no_vpe}
use Rattle.sem_msg.specs.Setup.{Setup}
use Rattle.sem_msg.specs.Lookups.{own_vpes}
use Rattle.sem_machine.specs.Sides.{call_counted, with_inbox}
use Rattle.sem_machine.specs.Steps.{Step, unshown}
use Rattle.sem_machine.specs.Calls.{call_row}
use Rattle.sem_machine.specs.Handles.{handled}
use Rattle.sem_machine.specs.Machine.{World, side, start, start_side, empty_side, vpe_added, next_call, local_step, after, event}
use Rattle.sem_machine.specs.Schedules.{world_after}
use Rattle.sem_machine.proofs.Folds.{in_turn-keeps, option-keeps}
use Rattle.sem_safety.proofs.CarryingWorlds.{stepped}
use Rattle.sem_safety.proofs.Drawers.{side-after}
use Rattle.sem_safety.proofs.GoingOn.{run-append}
use Rattle.sem_revoke.proofs.ExchangeWorlds.{side-elsewhere}
use Rattle.sem_revoke.proofs.Revoking.{start-each}
use Rattle.sem_revoke.proofs.Unasked.{Unasked, counted-kept, call-unasked, upcall-unasked, resume-unasked, handled-unasked, ended-unasked, vpe-unasked}

module _ (T : Setup) where
  start-unasked : (i : ℕ) → Unasked (side (start T) i)
  unfolding start_side
  start-unasked i = start-each T Unasked (λ u dead. refl) each i
    where
      empty : (n u : ℕ) → (get_or (replicate n no_vpe) u no_vpe).asks ≡ []
      empty zero u = refl
      empty (suc n) zero = refl
      empty (suc n) (suc u) = empty n u

      each : (j : ℕ) → Unasked (start_side T j)
      each j = in_turn-keeps Unasked vpe_added vpe-unasked (own_vpes T j) (empty_side T) (λ u dead. empty VPES u)

  stepped-unasked : (W : World) (i : ℕ) (a : Act) → Unasked (side W i) → Unasked (stepped T W (event i a)).side
  unfolding local_step
  stepped-unasked W i (Calls v) is = option-keeps (λ (x : Step). Unasked x.side) (call_row T i (call_counted v (side W i)) v) (next_call T (side W i) v)
      (unshown (side W i)) (λ c there. call-unasked T i v (call_counted v (side W i)) (counted-kept (side W i) v is) c) is
  stepped-unasked W i (Upcall v) is = upcall-unasked T i v (side W i) is
  stepped-unasked W i (Resume v) is = resume-unasked T i v (side W i) is
  stepped-unasked W i (Kill v) is = ended-unasked T i v (side W i) is
  stepped-unasked W i (Fetch j) is = is
  stepped-unasked W i (Flush j) is = is
  stepped-unasked W i Handle is = by (side W i).inbox
    where
      by : (o : Option (ℕ × Message)) → Unasked (option_map_or (λ m. handled T i (with_inbox None (side W i)) m.0 m.1) o (side W i))
      by None = is
      by (Some m) = handled-unasked T i (with_inbox None (side W i)) m.0 m.1 is

  next-unasked : (W : World) (i : ℕ) (a : Act) → ((j : ℕ) → Unasked (side W j)) → (j : ℕ) → Unasked (side (after T W (event i a)) j)
  next-unasked W i a is j = elim (cases_eq j i) [
    | inl here ↦ subst Unasked (sym (ap (side (after T W (event i a))) here ∙ side-after T W (event i a))) (stepped-unasked W i a (is i))
    | inr away ↦ subst Unasked (sym (side-elsewhere T W i a j away)) (is j)
  ]

  -- the dead are asked nothing
  pub all-unasked : (J : List Entry) (j : ℕ) → Unasked (side (world_after T J) j)
  all-unasked J = from [] J refl start-unasked
    where
      from : (before later : List Entry) → J ≡ before ++ later → ((j : ℕ) → Unasked (side (world_after T before) j)) → (j : ℕ) →
          Unasked (side (world_after T J) j)
      from before [] parts is = subst (λ K. (j : ℕ) → Unasked (side (world_after T K) j)) (sym (parts ∙ append-nil before)) is
      from before (e ∷ later) parts is =
          from (before ++ e ∷ []) later (parts ∙ sym (append_assoc before (e ∷ []) later))
          (subst (λ (V : World). (j : ℕ) →
          Unasked (side V j)) (sym (run-append T before (e ∷ []) (start T))) (next-unasked (world_after T before) e.event.kernel e.event.act is))
