-- How a run of a setup ends: of the one that was read, on one thread or in threads, and of a generated one.
use Rattle.std.proofs.Common.{◌≡◌, ℕ, ◌*◌, List, [], length, Result, Ok, Err, refl, sym, ap, ◌∙◌, subst, inl, inr}
use Rattle.std.specs.Prelude.{Contains, IfOk}
use Rattle.sem_msg.specs.declared.entry.Entry.{Entry}
use Rattle.sem_msg.specs.Journal.{replies}
use Rattle.sem_msg.specs.declared.call.Call.TheVariants.{Exit}
use Rattle.sem_msg.specs.declared.setup.VpeDecl.{VpeDecl}
use Rattle.sem_msg.specs.Setup.{Setup, IsSetup, call_count}
use Rattle.sem_gen.specs.Generated.{generated}
use Rattle.sem_gen.proofs.Loads.{none-killed, none-exits, calls-counted}
use Rattle.sem_machine.specs.Schedules.{IsSchedule, world_after}
use Rattle.sem_machine.specs.Living.{IsComplete}
use Rattle.sem_machine.specs.Seeded.{seeded}
use Rattle.sem_audit.specs.Reported.{report}
use Rattle.sem_audit.specs.Straying.{stray_count}
use Rattle.sem_audit.proofs.Answering.{all-answered}
use Rattle.sem_audit.proofs.Straying.{none-stray}
use Rattle.sem_trace.specs.declared.fault.TraceFault.{TraceFault}
use Rattle.sem_cli.specs.Messages.{refused_line, files_refused_line}
use Rattle.sem_cli.specs.Summary.{summary}
use Rattle.sem_cli.specs.declared.statuses.Status.{Status}
use Rattle.sem_cli.specs.declared.statuses.Status.TheVariants.{Done, Usage, TraceRefused, ReadFault, WriteFault, Memory, ReportRefused}
use Rattle.sem_cli.specs.declared.forms.Command.TheVariants.{Run, Threads, Files, Soak}
use Rattle.sem_run.specs.declared.response.Response.{Response}
use Rattle.sem_run.specs.Inputs.{Given, Asks, AsksRun, IsUntouched, ReadsFront, ReadsTrace, IsRefusedTrace, AreRefused, IsQuietlyRead}
use Rattle.sem_run.specs.Inputs.RunsSetup.{is_read, is_compiled, is_generated}
use Rattle.sem_run.specs.Ends.{WouldEnd}
use Rattle.sem_run.specs.Texts.{text_of}
use Rattle.sem_run.specs.Readings.{EndsRun, IsRefusalTold, IsLoadTold, IsOkWith, ReadsService}
use Rattle.sem_run.proofs.ReadInput.{untouched-part}

-- what holds of a value that is there, and what makes it be there
pub both-hold : {A E : Type 0} (P Q : A → Type 0) (r : Result A E) → IfOk r P → IsOkWith Q r → (a : A) × P a × Q a
both-hold P Q (Ok a) p q = (a, p, q)
both-hold P Q (Err e) p q = absurd q

module _ (g : Given) (J : List Entry) (text : List ℕ) where
  -- a part of a trace that was read
  read-part : (T : Setup) → ReadsTrace g T → ReadsFront g
  read-part T trace = (trace.text, trace.taken)

  module _ (seed : ℕ) (T : Setup) (trace : ReadsTrace g T) (quiet : IsQuietlyRead g) (runs : IsSchedule T J) where
    pub run-ends : (status : Status) → Asks g (Run seed) → EndsRun T J text status → (status ≡ Done → J ≡ seeded T seed) → WouldEnd g J text status
    run-ends Done asked ends made =
        inl (record { setup = T; seed = seed; run = record { command = asked; trace = trace; seeded = made refl }; complete = ends.0; told = ends.1 })
    run-ends Usage asked ends made = absurd ends
    run-ends TraceRefused asked ends made = absurd ends
    run-ends ReadFault asked ends made = absurd ends
    run-ends WriteFault asked ends made = absurd ends
    run-ends Memory asked ends made = record { part = inr (T, is_read seed (inl asked) trace, runs); read = read-part T trace; quiet = quiet; told = ends }
    run-ends ReportRefused asked ends made = absurd ends

    pub threads-end : (status : Status) → Asks g (Threads seed) → EndsRun T J text status → WouldEnd g J text status
    threads-end Done asked ends = inr (inr (inr (inl (record { setup = T; seed = seed; command = asked; trace = trace; complete = ends.0; told = ends.1 }))))
    threads-end Usage asked ends = absurd ends
    threads-end TraceRefused asked ends = absurd ends
    threads-end ReadFault asked ends = absurd ends
    threads-end WriteFault asked ends = absurd ends
    threads-end Memory asked ends = record { part = inr (T, is_read seed (inr asked) trace, runs); read = read-part T trace; quiet = quiet; told = ends }
    threads-end ReportRefused asked ends = absurd ends

  -- what file commands are compiled to
  module _ (seed : ℕ) (T : Setup) (service : ReadsService g T) (quiet : IsQuietlyRead g) (runs : IsSchedule T J) (asked : Asks g (Files seed)) where
    pub files-end : (status : Status) → EndsRun T J text status → (status ≡ Done → J ≡ seeded T seed) → WouldEnd g J text status
    files-end Done ends made = inr (inr (inr (inr (inr (record {
      files = service.files;
      seed = seed;
      command = asked;
      read = service.read;
      valid = subst IsSetup service.made service.valid;
      made = made refl ∙ ap (λ U. seeded U seed) service.made;
      complete = subst (λ U. IsComplete U J) service.made ends.0;
      told = ends.1 ∙ ap (λ U. report U J) service.made;
    })))))
    files-end Usage ends made = absurd ends
    files-end TraceRefused ends made = absurd ends
    files-end ReadFault ends made = absurd ends
    files-end WriteFault ends made = absurd ends
    files-end Memory ends made = record {
      part = inr (T, is_compiled seed service.files asked service.read service.made service.valid, runs);
      read = (service.read.text, service.read.taken);
      quiet = quiet;
      told = ends;
    }
    files-end ReportRefused ends made = absurd ends

  -- a text that is refused
  module _ (read : ReadsFront g) (quiet : IsQuietlyRead g) (empty : J ≡ []) where
    text-ends : (line : List ℕ) → (text ≡ line → WouldEnd g J text TraceRefused) → (status : Status) → IsRefusalTold line text status → WouldEnd g J text status
    text-ends line refuses Done told = absurd told
    text-ends line refuses Usage told = absurd told
    text-ends line refuses TraceRefused told = refuses told
    text-ends line refuses ReadFault told = absurd told
    text-ends line refuses WriteFault told = absurd told
    text-ends line refuses Memory told = record { part = inl empty; read = read; quiet = quiet; told = told }
    text-ends line refuses ReportRefused told = absurd told

    module _ (seed : ℕ) (fault : TraceFault) where
      -- it is no trace
      pub fault-ends : AsksRun g seed → IsRefusedTrace g fault → (status : Status) → IsRefusalTold (refused_line fault) text status → WouldEnd g J text status
      fault-ends asked refused =
          text-ends (refused_line fault) (λ told. inl (record {
            seed = seed;
            command = asked;
            fault = fault;
            refused = refused;
            read = read;
            quiet = quiet;
            no_journal = empty;
            told = told;
          }))

      -- it is no text of file commands
      pub files-fault-ends : Asks g (Files seed) → AreRefused g fault → (status : Status) → IsRefusalTold (files_refused_line fault) text status →
          WouldEnd g J text status
      files-fault-ends asked refused =
          text-ends (files_refused_line fault)
          (λ told. inr (record { seed = seed; command = asked; fault = fault; refused = refused; read = read; quiet = quiet; no_journal = empty; told = told }))

  -- a load: the laws of complete schedules say the rest
  module _ (seed vpes calls : ℕ) (T : Setup) (asked : Asks g (Soak seed vpes calls)) (is : T ≡ generated seed vpes calls) (valid : IsSetup T)
      (untouched : IsUntouched g) where
    pub soak-ends : IsComplete T J → text ≡ summary vpes (vpes * calls) (length (replies J)) (stray_count T J (world_after T J).sides) → WouldEnd g J text Done
    soak-ends complete told = inr (inr (inr (inr (inl (record {
      setup = T;
      seed = seed;
      vpes = vpes;
      calls = calls;
      command = asked;
      made = is;
      valid = valid;
      untouched = untouched;
      complete = complete;
      all_answered = all-answered T valid (subst (λ U. U.kills ≡ []) (sym is) (none-killed seed vpes calls)) (subst (λ (U : Setup). (d : VpeDecl) →
          Contains U.vpes d → Contains d.calls Exit → ⊥) (sym is) (none-exits seed vpes calls)) J complete ∙ (ap call_count is ∙ calls-counted seed vpes calls);
      none_stray = none-stray T valid J complete;
      told = told;
    })))))

    -- memory was lacking on the way
    pub soak-part : IsSchedule T J → text ≡ [] → WouldEnd g J text Memory
    soak-part runs told = record {
      part = inr (T, is_generated seed vpes calls asked is valid, runs);
      read = untouched-part g untouched;
      quiet = untouched.quiet;
      told = told;
    }

    pub load-ends : IsComplete T J → (status : Status) → IsLoadTold T J vpes (vpes * calls) text status → WouldEnd g J text status
    load-ends complete Done told = soak-ends complete told
    load-ends complete Usage told = absurd told
    load-ends complete TraceRefused told = absurd told
    load-ends complete ReadFault told = absurd told
    load-ends complete WriteFault told = absurd told
    load-ends complete Memory told = soak-part complete.schedule told
    load-ends complete ReportRefused told = absurd told

  -- memory was lacking before anything was run or read
  pub nothing-done : IsUntouched g → J ≡ [] → text ≡ [] → WouldEnd g J text Memory
  nothing-done untouched empty told = record { part = inl empty; read = untouched-part g untouched; quiet = untouched.quiet; told = told }

-- a response for lack of memory
pub memory-ends : (g : Given) (r : Response) (J : List Entry) → r.status ≡ Memory → text_of r.text r.journal.entries ≡ [] → r.journal.entries ≡ J →
    WouldEnd g J [] Memory → WouldEnd g r.journal.entries (text_of r.text r.journal.entries) r.status
memory-ends g r J status text journal ends = rw (status, text, journal) ends
