-- A step of one kernel, with what the fabric gives or takes.
use Rattle.std.proofs.Common.{◌≡◌, ℕ, ◌<◌, true, List, [], ◌∷◌, ◌++◌, length, drop, slice_get, Option, None, Some, is_some, refl, sym, ◌∙◌, ap, subst}
use Rattle.std.specs.Option.{option_map_or}
use Rattle.std.proofs.lemmas.Bool.{false≢true, and_parts}
use Rattle.sem_msg.specs.declared.message.Message.{Message}
use Rattle.sem_msg.specs.declared.event.Act.{Act}
use Rattle.sem_msg.specs.declared.event.Act.TheVariants.{Call as Calls, Fetch, Handle, Upcall, Resume, Flush, Kill}
use Rattle.sem_msg.specs.declared.entry.Detail.TheVariants.{Carried, Nothing}
use Rattle.sem_msg.specs.declared.entry.Entry.{Entry}
use Rattle.sem_msg.specs.Setup.{Setup}
use Rattle.sem_msg.specs.Journal.{part, replies}
use Rattle.sem_machine.specs.Sides.{Side, outbox}
use Rattle.sem_machine.specs.Machine.{is_other_kernel, is_locally_enabled, local_step, local_entry}
use Rattle.sem_msg.specs.Fabric.{FabricValue, FabricAgrees, IsOwnAct, is_due, link_in, relinked, entered}
use Rattle.sem_parts.specs.Parts.{IsHanded, RunsTo}
use Rattle.sem_parts.specs.SidesAfter.{HasEntered}
use Rattle.sem_msg.proofs.Moves.{part-own, part-other}
use Rattle.sem_msg.proofs.Entering.{agrees-own, agrees-fetch, agrees-flush, agrees-kill}
use Rattle.sem_parts.proofs.LocalRuns.{runs-next, next-made, next-side}

module _ (T : Setup) (f : FabricValue) (is : FabricAgrees T f) (i : ℕ) (here : i < f.kernels) (s : Side) (runs : RunsTo T i (part f.journal i) s) where
  -- the runs, where the journal has the kernel's next entry more
  has-entered : (a : Act) (input : Option Message) (g : FabricValue) → IsHanded a input → is_locally_enabled T i s a ≡ true
      → FabricAgrees T g → g.journal ≡ f.journal ++ local_entry T i s a input ∷ [] →
      HasEntered T i (local_entry T i s a input) (local_step T i s a input).side f g
  unfolding local_entry
  has-entered a input g handed enabled agrees journal =
      let e : Entry = local_entry T i s a input in
      record {
        fabric = agrees;
        journal = journal;
        own = subst (λ L. RunsTo T i L (local_step T i s a input).side) (sym (ap (λ J. part J i) journal ∙ part-own f.journal e i refl))
            (subst (RunsTo T i (part f.journal i ++ e ∷ [])) (next-side T i s a input e handed refl)
            (runs-next T i (part f.journal i) s e runs (next-made T i s a input e handed enabled refl)));
        others = λ k apart. ap (λ J. part J k) journal ∙ part-other f.journal e k (λ same. apart (sym same));
      }

  pub own-entered : (a : Act) → IsOwnAct a → is_locally_enabled T i s a ≡ true
      → HasEntered T i (local_entry T i s a None) (local_step T i s a None).side f (entered (local_entry T i s a None) f)
  unfolding local_entry
  own-entered a own enabled = has-entered a None (entered (local_entry T i s a None) f) (handed a own) enabled
      (agrees-own T f is (local_entry T i s a None) here own) refl
    where
      handed : (b : Act) → IsOwnAct b → IsHanded b None
      handed (Calls v) ok = refl
      handed Handle ok = refl
      handed (Upcall v) ok = refl
      handed (Resume v) ok = refl
      handed (Fetch j) ok = absurd ok
      handed (Flush j) ok = absurd ok
      handed (Kill v) ok = absurd ok

  pub fetch-entered : (j : ℕ) (m : Message) → is_locally_enabled T i s (Fetch j) ≡ true → slice_get (link_in f.links j i) 0 ≡ Some m
      → HasEntered T i (local_entry T i s (Fetch j) (Some m)) (local_step T i s (Fetch j) (Some m)).side f
      (entered (local_entry T i s (Fetch j) (Some m)) (relinked j i (drop 1 (link_in f.links j i)) f))
  unfolding local_entry
  fetch-entered j m enabled first =
      let e : Entry = local_entry T i s (Fetch j) (Some m) in
      has-entered (Fetch j) (Some m) (entered e (relinked j i (drop 1 (link_in f.links j i)) f)) refl enabled (agrees-fetch T f is e here j m refl refl first)
      refl

  pub flush-entered : (j : ℕ) (m : Message) → is_locally_enabled T i s (Flush j) ≡ true → (local_entry T i s (Flush j) None).detail ≡ Carried j m
      → length (link_in f.links i j) < f.window
      → HasEntered T i (local_entry T i s (Flush j) None) (local_step T i s (Flush j) None).side f
      (entered (local_entry T i s (Flush j) None) (relinked i j (link_in f.links i j ++ m ∷ []) f))
  unfolding local_entry
  flush-entered j m enabled carried room =
      let e : Entry = local_entry T i s (Flush j) None in
      has-entered (Flush j) None (entered e (relinked i j (link_in f.links i j ++ m ∷ []) f)) refl enabled (agrees-flush T f is e here j m refl carried room)
      refl

  pub kill-entered : (v : ℕ) → is_locally_enabled T i s (Kill v) ≡ true → is_due T (length (replies f.journal)) v ≡ true
      → HasEntered T i (local_entry T i s (Kill v) None) (local_step T i s (Kill v) None).side f (entered (local_entry T i s (Kill v) None) f)
  unfolding local_entry
  kill-entered v enabled due = has-entered (Kill v) None (entered (local_entry T i s (Kill v) None) f) refl enabled
      (agrees-kill T f is (local_entry T i s (Kill v) None) here v refl due) refl

-- The entry of a flush carries the front of the outbox.
pub flush-carries : (T : Setup) (i : ℕ) (s : Side) (j : ℕ) → is_locally_enabled T i s (Flush j) ≡ true
    → (m : Message) × ((local_entry T i s (Flush j) None).detail ≡ Carried j m) × (slice_get (outbox s j) 0 ≡ Some m)
unfolding is_locally_enabled local_entry
flush-carries T i s j enabled = by_front (outbox s j) (and_parts (is_other_kernel T i j) (is_some (slice_get (outbox s j) 0)) enabled).1
  where
    by_front : (ms : List Message) → is_some (slice_get ms 0) ≡ true
        → (m : Message) × (option_map_or (λ x. Carried j x) (slice_get ms 0) Nothing ≡ Carried j m) × (slice_get ms 0 ≡ Some m)
    by_front [] some = absurd (false≢true some)
    by_front (m ∷ ms) some = (m, refl, refl)
