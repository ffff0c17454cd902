-- What a run leaves is a schedule of the setup that the command runs, and safe.
use Rattle.std.proofs.Common.{◌≡◌, ℕ, zero, suc, ◌-◌, true, List, [], ◌∷◌, length, Option, Some, None, refl, sym, ap, subst, inl, inr}
use Rattle.std.specs.Prelude.{◌≢◌}
use Rattle.std.specs.Option.{option_map_or}
use Rattle.rand_pcg.specs.Lcg.{Lcg}
use Rattle.rand_pcg.specs.Pcg.{pcg32}
use Rattle.sem_msg.specs.declared.event.Event.{Event}
use Rattle.sem_msg.specs.declared.entry.Entry.{Entry}
use Rattle.sem_msg.specs.Setup.{Setup, IsSetup}
use Rattle.sem_machine.specs.Machine.{World, start, after, entry_of, enabled, is_enabled}
use Rattle.sem_machine.specs.Schedules.{IsRun, IsSchedule}
use Rattle.sem_machine.specs.Seeded.{drain, entry_limit, picked, seeded}
use Rattle.sem_pick.specs.Seeds.{generator_of}
use Rattle.sem_bound.proofs.Spent.{limited}
use Rattle.sem_revoke.proofs.Safe.{all-safe}
use Rattle.sem_machine.proofs.Pushing.{entry_of-event}
use Rattle.sem_serial.proofs.Running.{picked-enabled}
use Rattle.sem_cli.specs.declared.statuses.Status.{Status}
use Rattle.sem_cli.specs.declared.statuses.Status.TheVariants.{Done, Usage, TraceRefused, ReadFault, WriteFault, Memory, ReportRefused}
use Rattle.sem_cli.specs.declared.forms.Command.TheVariants.{Generate, Ask}
use Rattle.sem_files.specs.Compiled.{compiled}
use Rattle.sem_run.specs.Inputs.{Given, RunsSetup}
use Rattle.sem_run.specs.Inputs.RunsSetup.{is_read, is_compiled, is_generated}
use Rattle.sem_run.proofs.Asked.{not-run}
use Rattle.sem_run.specs.Ends.{RunsSeeded, EndsThreaded, EndsSoaked, EndsFiled, IsPartOfRun, IsSafeRun, IsOfRun, WouldEnd}

-- what the words make is a run
drain-run : (n : ℕ) (T : Setup) (W : World) (g : Lcg) → IsRun T W (drain n T W g)
unfolding drain IsRun
drain-run zero T W g = tt
drain-run (suc n) T W g = by_pick (picked (pcg32 g).0 (enabled T W)) refl (λ e. drain-run n T (after T W e) (pcg32 g).1)
  where
    by_pick : (o : Option Event) → picked (pcg32 g).0 (enabled T W) ≡ o → ((e : Event) → IsRun T (after T W e) (drain n T (after T W e) (pcg32 g).1)) →
        IsRun T W (option_map_or (λ e. entry_of T W e ∷ drain n T (after T W e) (pcg32 g).1) o [])
    by_pick None none rest = tt
    by_pick (Some e) some rest =
        let event : (entry_of T W e).event ≡ e = entry_of-event T W e in (
          subst (λ (x : Event). is_enabled T W x ≡ true) (sym event) (picked-enabled T W (pcg32 g).0 e some),
          ap (entry_of T W) (sym event),
          subst (λ (x : Event). IsRun T (after T W x) (drain n T (after T W e) (pcg32 g).1)) (sym event) (rest e),
        )

seeded-schedule : (T : Setup) (seed : ℕ) → IsSchedule T (seeded T seed)
seeded-schedule T seed = drain-run (entry_limit T - length {A = Entry} []) T (start T) (generator_of seed)

module _ (g : Given) (J : List Entry) where
  -- a schedule of the setup that the command runs is safe
  schedule-safe : (T : Setup) → RunsSetup g T → IsSchedule T J → IsSafeRun g J
  schedule-safe T of runs =
      let valid : IsSetup T = is-setup of in
      record {
        setup = T;
        runs = of;
        schedule = runs;
        safe = all-safe T valid J runs;
        few = limited T valid J runs;
      }
    where
      is-setup : RunsSetup g T → IsSetup T
      is-setup (is_read seed asked trace) = trace.valid
      is-setup (is_compiled seed F asked read made valid) = valid
      is-setup (is_generated seed vpes calls asked made valid) = valid

  seeded-safe : (T : Setup) (seed : ℕ) → RunsSeeded g J T seed → IsSafeRun g J
  seeded-safe T seed run = schedule-safe T (is_read seed (inl run.command) run.trace) (subst (IsSchedule T) (sym run.seeded) (seeded-schedule T seed))

  threaded-safe : (text : List ℕ) → EndsThreaded g J text → IsSafeRun g J
  threaded-safe text ends = schedule-safe ends.setup (is_read ends.seed (inr ends.command) ends.trace) ends.complete.schedule

  soaked-safe : (text : List ℕ) → EndsSoaked g J text → IsSafeRun g J
  soaked-safe text ends = schedule-safe ends.setup (is_generated ends.seed ends.vpes ends.calls ends.command ends.made ends.valid) ends.complete.schedule

  filed-safe : (text : List ℕ) → EndsFiled g J text → IsSafeRun g J
  filed-safe text ends = schedule-safe (compiled ends.files) (is_compiled ends.seed ends.files ends.command ends.read refl ends.valid) ends.complete.schedule

  part-safe : IsPartOfRun g J → J ≢ [] → IsSafeRun g J
  part-safe (inl empty) some = absurd (some empty)
  part-safe (inr (T, of, runs)) some = schedule-safe T of runs

  module _ (text : List ℕ) where
    -- a run that would end so left a safe schedule
    pub would-safe : (status : Status) → WouldEnd g J text status → IsOfRun g status J → IsSafeRun g J
    would-safe Done (inl ends) of_run = seeded-safe ends.setup ends.seed ends.run
    would-safe Done (inr (inl ends)) of_run = absurd (not-run g (Ask ends.question) of_run.0 ends.command refl of_run.1 of_run.2)
    would-safe Done (inr (inr (inl ends))) of_run = absurd (not-run g (Generate ends.seed ends.vpes ends.calls) of_run.0 ends.command refl of_run.1 of_run.2)
    would-safe Done (inr (inr (inr (inl ends)))) of_run = threaded-safe text ends
    would-safe Done (inr (inr (inr (inr (inl ends))))) of_run = soaked-safe text ends
    would-safe Done (inr (inr (inr (inr (inr ends))))) of_run = filed-safe text ends
    would-safe Usage ends of_run = absurd of_run
    would-safe TraceRefused ends of_run = absurd of_run
    would-safe ReadFault ends of_run = absurd of_run
    would-safe WriteFault ends of_run = absurd ends
    would-safe Memory ends of_run = part-safe ends.part of_run
    would-safe ReportRefused ends of_run = absurd of_run

    -- and so did one whose text could not be written
    pub unwritten-safe : (status : Status) → WouldEnd g J text status → J ≢ [] → IsSafeRun g J
    unwritten-safe Done (inl ends) some = seeded-safe ends.setup ends.seed ends.run
    unwritten-safe Done (inr (inl ends)) some = absurd (some ends.no_journal)
    unwritten-safe Done (inr (inr (inl ends))) some = absurd (some ends.no_journal)
    unwritten-safe Done (inr (inr (inr (inl ends)))) some = threaded-safe text ends
    unwritten-safe Done (inr (inr (inr (inr (inl ends))))) some = soaked-safe text ends
    unwritten-safe Done (inr (inr (inr (inr (inr ends))))) some = filed-safe text ends
    unwritten-safe Usage ends some = absurd (some ends.no_journal)
    unwritten-safe TraceRefused (inl ends) some = absurd (some ends.no_journal)
    unwritten-safe TraceRefused (inr ends) some = absurd (some ends.no_journal)
    unwritten-safe ReadFault ends some = absurd (some ends.no_journal)
    unwritten-safe WriteFault ends some = absurd ends
    unwritten-safe Memory ends some = would-safe Memory ends some
    unwritten-safe ReportRefused ends some = absurd (some ends.no_journal)
