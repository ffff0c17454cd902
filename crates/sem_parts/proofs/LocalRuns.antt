-- A run of one kernel alone goes on by one entry more.
use Rattle.std.proofs.Common.{◌≡◌, ℕ, true, List, [], ◌∷◌, ◌++◌, Option, None, Some, refl, sym, ◌∙◌, ap, subst}
use Rattle.std.proofs.lemmas.Bool.{false≢true}
use Rattle.sem_msg.specs.declared.message.Message.{Message}
use Rattle.sem_msg.specs.declared.event.Act.{Act}
use Rattle.sem_msg.specs.declared.event.Act.TheVariants.{Call as Calls, Fetch, Handle, Upcall, Resume, Flush, Kill}
use Rattle.sem_msg.specs.declared.entry.Entry.{Entry}
use Rattle.sem_msg.specs.Setup.{Setup}
use Rattle.sem_machine.specs.Sides.{Side}
use Rattle.sem_machine.specs.Machine.{start_side, is_locally_enabled, local_step, local_entry}
use Rattle.sem_machine.specs.Schedules.{carried_in, BringsMessage, IsLocalRun, IsLocalRunFrom, local_run_from}
use Rattle.sem_parts.specs.Parts.{IsHanded, IsNext, RunsTo}

module _ (T : Setup) (i : ℕ) where
  -- the side after an entry
  abbrev pub side_after : Side → Entry → Side
  side_after s e = (local_step T i s e.event.act (carried_in e.event.act e.detail)).side

  pub run-snoc : (s : Side) (L : List Entry) (e : Entry) → local_run_from T i s (L ++ e ∷ []) ≡ side_after (local_run_from T i s L) e
  run-snoc s [] e = refl
  run-snoc s (x ∷ xs) e = run-snoc (side_after s x) xs e

  pub IsLocalRun-snoc : (s : Side) (L : List Entry) (e : Entry) → IsLocalRunFrom T i s L → IsNext T i (local_run_from T i s L) e →
      IsLocalRunFrom T i s (L ++ e ∷ [])
  unfolding IsLocalRunFrom
  IsLocalRun-snoc s [] e runs next = (next.enabled, next.brings, next.made, tt)
  IsLocalRun-snoc s (x ∷ xs) e (enabled, brings, made, rest) next = (enabled, brings, made, IsLocalRun-snoc (side_after s x) xs e rest next)

  pub IsLocalRun-parts : (s : Side) (L : List Entry) (e : Entry) → IsLocalRunFrom T i s (L ++ e ∷ []) →
      IsLocalRunFrom T i s L × IsNext T i (local_run_from T i s L) e
  unfolding IsLocalRunFrom
  IsLocalRun-parts s [] e (enabled, brings, made, rest) = (tt, record { enabled = enabled; brings = brings; made = made })
  IsLocalRun-parts s (x ∷ xs) e (enabled, brings, made, rest) = let inner = IsLocalRun-parts (side_after s x) xs e rest in
      ((enabled, brings, made, inner.0), inner.1)

  pub runs-start : RunsTo T i [] (start_side T i)
  unfolding IsLocalRunFrom
  runs-start = record { run = tt; side = refl }

  -- the run is extended by what the kernel makes next
  pub runs-next : (L : List Entry) (s : Side) (e : Entry) → RunsTo T i L s → IsNext T i s e → RunsTo T i (L ++ e ∷ []) (side_after s e)
  runs-next L s e is next = record {
    run = IsLocalRun-snoc (start_side T i) L e is.run (subst (λ (t : Side). IsNext T i t e) (sym is.side) next);
    side = run-snoc (start_side T i) L e ∙ ap (λ (t : Side). side_after t e) is.side;
  }

  pub runs-before : (L : List Entry) (s : Side) (e : Entry) → IsLocalRun T i (L ++ e ∷ []) → RunsTo T i L s → IsNext T i s e
  runs-before L s e run is = subst (λ (t : Side). IsNext T i t e) is.side (IsLocalRun-parts (start_side T i) L e run).1

-- What a kernel is handed, and what its entry tells.

module _ (T : Setup) (i : ℕ) (s : Side) where
  pub entry-event : (a : Act) (input : Option Message) → (local_entry T i s a input).event ≡ record { kernel = i; act = a }
  unfolding local_entry
  entry-event a input = refl

  -- the entry carries what was handed
  pub entry-input : (a : Act) (input : Option Message) → IsHanded a input → carried_in a (local_entry T i s a input).detail ≡ input
  unfolding local_entry
  entry-input (Fetch from) None is = absurd (false≢true is)
  entry-input (Fetch from) (Some m) is = refl
  entry-input (Calls v) input is = sym is
  entry-input Handle input is = sym is
  entry-input (Upcall v) input is = sym is
  entry-input (Resume v) input is = sym is
  entry-input (Flush to) input is = sym is
  entry-input (Kill v) input is = sym is

  brings-input : (a : Act) (input : Option Message) → IsHanded a input → BringsMessage a input
  brings-input (Fetch from) None is = absurd (false≢true is)
  brings-input (Fetch from) (Some m) is = tt
  brings-input (Calls v) input is = tt
  brings-input Handle input is = tt
  brings-input (Upcall v) input is = tt
  brings-input (Resume v) input is = tt
  brings-input (Flush to) input is = tt
  brings-input (Kill v) input is = tt

  -- what a kernel makes by an act that is locally enabled is what it makes next
  pub next-made : (a : Act) (input : Option Message) (e : Entry) → IsHanded a input → is_locally_enabled T i s a ≡ true → e ≡ local_entry T i s a input →
      IsNext T i s e
  next-made a input e is enabled made =
      let act : e.event.act ≡ a = ap (λ (x : Entry). x.event.act) made ∙ ap (λ x. x.act) (entry-event a input) in
      let carried : carried_in e.event.act e.detail ≡ input = ap (λ b. carried_in b e.detail) act
      ∙ (ap (λ (x : Entry). carried_in a x.detail) made ∙ entry-input a input is) in
      record {
        enabled = subst (λ b. is_locally_enabled T i s b ≡ true) (sym act) enabled;
        brings = subst (λ (x : Act × Option Message). BringsMessage x.0 x.1) (λ k. (sym act k, sym carried k)) (brings-input a input is);
        made = subst (λ (x : Act × Option Message). e ≡ local_entry T i s x.0 x.1) (λ k. (sym act k, sym carried k)) made;
      }

  -- and the side after it is that after the step
  pub next-side : (a : Act) (input : Option Message) (e : Entry) → IsHanded a input → e ≡ local_entry T i s a input →
      side_after T i s e ≡ (local_step T i s a input).side
  next-side a input e is made =
      let act : e.event.act ≡ a = ap (λ (x : Entry). x.event.act) made ∙ ap (λ x. x.act) (entry-event a input) in
      let carried : carried_in e.event.act e.detail ≡ input = ap (λ b. carried_in b e.detail) act
      ∙ (ap (λ (x : Entry). carried_in a x.detail) made ∙ entry-input a input is) in
      λ k. (local_step T i s (act k) (carried k)).side

-- The run of a kernel goes on by its step.
pub runs-step : (T : Setup) (i : ℕ) (L : List Entry) (s : Side) (a : Act) (input : Option Message) → RunsTo T i L s → IsHanded a input
    → is_locally_enabled T i s a ≡ true → RunsTo T i (L ++ local_entry T i s a input ∷ []) (local_step T i s a input).side
runs-step T i L s a input is handed enabled =
    subst (RunsTo T i (L ++ local_entry T i s a input ∷ [])) (next-side T i s a input (local_entry T i s a input) handed refl)
    (runs-next T i L s (local_entry T i s a input) is (next-made T i s a input (local_entry T i s a input) handed enabled refl))
