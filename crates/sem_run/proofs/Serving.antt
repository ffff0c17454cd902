-- What the program promises follows from why it would end, and from what was written of its text.
use Rattle.std.proofs.Common.{◌≡◌, ℕ, true, false, List, [], ◌++◌, Option, Some, None, IfSome, refl, sym, ◌∙◌, ap, subst, append-nil, inl, inr}
use Rattle.std.specs.Prelude.{◌⊎◌}
use Rattle.std.proofs.lemmas.Bool.{false≢true}
use Rattle.std.proofs.lemmas.Option.{none-some, same_Some}
use Rattle.sem_msg.specs.declared.entry.Entry.{Entry}
use Rattle.sem_msg.specs.Setup.{Setup}
use Rattle.sem_io.specs.Count.{Rose}
use Rattle.sem_io.specs.SourceBytes.{Takes}
use Rattle.sem_io.specs.SinkBytes.{Appends, AppendsPrefix}
use Rattle.sem_trace.specs.Refusal.{refusal}
use Rattle.sem_files.specs.FileRefusal.{refusal as files_refusal}
use Rattle.sem_report.specs.declared.verdict.Verdict.{Verdict}
use Rattle.sem_audit.specs.Reported.{report}
use Rattle.sem_cli.specs.declared.forms.Command.{Command}
use Rattle.sem_cli.specs.declared.forms.Command.TheVariants.{Run, Threads, Files, Generate, Soak, Ask}
use Rattle.sem_cli.specs.declared.statuses.Status.{Status}
use Rattle.sem_cli.specs.declared.statuses.Status.TheVariants.{Done, Usage, TraceRefused, ReadFault, WriteFault, Memory, ReportRefused}
use Rattle.sem_run.specs.Inputs.{Given, Asks, AsksRun, ReadsTrace, reads_input}
use Rattle.sem_run.specs.Reports.{IsReport, IsVerdict, is_accepted}
use Rattle.sem_run.specs.Ends.{WouldEnd, EndsWith}
use Rattle.sem_run.specs.Serves.{Serves, TellsUsage, RefusesTraces, RunsTraces, RefusesFiles, RunsFiles, RefusesReports, AcceptsReports}
use Rattle.sem_run.proofs.Asked.{not-both, not-run, no-run, no-files, is_files}
use Rattle.sem_run.proofs.SafeRuns.{would-safe, unwritten-safe}

-- what was read to the end of an input is all that was left of it
whole : (before after : Option (List ℕ)) (text bytes : List ℕ) → Takes before after text → IfSome after (λ rest. rest ≡ []) → before ≡ Some bytes → text ≡ bytes
whole before None text bytes taken end is = absurd (none-some bytes (sym taken ∙ is))
whole before (Some rest) text bytes taken end is =
    let all : text ++ rest ≡ bytes = same_Some (text ++ rest) bytes (sym taken ∙ is) in
    sym (ap (λ r. text ++ r) end ∙ append-nil text) ∙ all

module _ (g : Given) (J : List Entry) (text : List ℕ) where
  -- the words are no command
  pub usage : (status : Status) → WouldEnd g J text status → TellsUsage g status
  usage Done (inl ends) none = absurd (none-some (Run ends.seed) (sym none ∙ ends.run.command))
  usage Done (inr (inl ends)) none = absurd (none-some (Ask ends.question) (sym none ∙ ends.command))
  usage Done (inr (inr (inl ends))) none = absurd (none-some (Generate ends.seed ends.vpes ends.calls) (sym none ∙ ends.command))
  usage Done (inr (inr (inr (inl ends)))) none = absurd (none-some (Threads ends.seed) (sym none ∙ ends.command))
  usage Done (inr (inr (inr (inr (inl ends))))) none = absurd (none-some (Soak ends.seed ends.vpes ends.calls) (sym none ∙ ends.command))
  usage Done (inr (inr (inr (inr (inr ends))))) none = absurd (none-some (Files ends.seed) (sym none ∙ ends.command))
  usage Usage ends none = inl refl
  usage TraceRefused (inr ends) none = absurd (none-some (Files ends.seed) (sym none ∙ ends.command))
  usage TraceRefused (inl ends) none = absurd (no-command ends.seed ends.command)
    where
      no-command : (seed : ℕ) → AsksRun g seed → ⊥
      no-command seed (inl asked) = none-some (Run seed) (sym none ∙ asked)
      no-command seed (inr asked) = none-some (Threads seed) (sym none ∙ asked)
  usage ReadFault ends none = absurd (none-some ends.asked (sym none ∙ ends.command))
  usage WriteFault ends none = absurd ends
  usage Memory ends none = inr (inr refl)
  usage ReportRefused ends none = absurd (none-some (Ask ends.question) (sym none ∙ ends.command))

  -- a command that reads nothing
  pub unread : (command : Command) → reads_input command ≡ false → Asks g command → (status : Status) → WouldEnd g J text status →
      (status ≡ Done) ⊎ ((status ≡ WriteFault) ⊎ (status ≡ Memory))
  unread command lacks asked Done ends = inl refl
  unread command lacks asked Usage ends = absurd (none-some command (sym ends.no_command ∙ asked))
  unread command lacks asked TraceRefused (inr ends) = absurd (not-both g command (Files ends.seed) reads_input asked ends.command lacks refl)
  unread command lacks asked TraceRefused (inl ends) = absurd (no-trace ends.seed ends.command)
    where
      no-trace : (seed : ℕ) → AsksRun g seed → ⊥
      no-trace seed (inl other) = not-both g command (Run seed) reads_input asked other lacks refl
      no-trace seed (inr other) = not-both g command (Threads seed) reads_input asked other lacks refl
  unread command lacks asked ReadFault ends = absurd (not-both g command ends.asked reads_input asked ends.command lacks ends.reads)
  unread command lacks asked WriteFault ends = absurd ends
  unread command lacks asked Memory ends = inr (inr refl)
  unread command lacks asked ReportRefused ends = absurd (not-both g command (Ask ends.question) reads_input asked ends.command lacks refl)

  -- a command that runs what it reads runs no load
  no-load : (seed vpes calls other : ℕ) → Asks g (Soak seed vpes calls) → AsksRun g other → ⊥
  no-load seed vpes calls other asked (inl is) = not-both g (Soak seed vpes calls) (Run other) reads_input asked is refl refl
  no-load seed vpes calls other asked (inr is) = not-both g (Soak seed vpes calls) (Threads other) reads_input asked is refl refl

  -- a text that is no trace
  pub refuses_traces : (status : Status) → WouldEnd g J text status → RefusesTraces g status
  refuses_traces Done (inl ends) seed bytes fault asked left refused = absurd (stands ends.setup ends.run.trace)
    where
      stands : (T : Setup) → ReadsTrace g T → ⊥
      stands T trace = none-some fault (sym trace.stands.accepted ∙ (ap refusal (whole g.before g.after trace.text bytes trace.taken trace.to_end left)
          ∙ refused))
  refuses_traces Done (inr (inl ends)) seed bytes fault asked left refused = absurd (no-run g (Ask ends.question) ends.command refl seed asked)
  refuses_traces Done (inr (inr (inl ends))) seed bytes fault asked left refused =
      absurd (no-run g (Generate ends.seed ends.vpes ends.calls) ends.command refl seed asked)
  refuses_traces Done (inr (inr (inr (inl ends)))) seed bytes fault asked left refused =
      absurd (none-some fault (sym ends.trace.stands.accepted
      ∙ (ap refusal (whole g.before g.after ends.trace.text bytes ends.trace.taken ends.trace.to_end left) ∙ refused)))
  refuses_traces Done (inr (inr (inr (inr (inl ends))))) seed bytes fault asked left refused =
      absurd (no-load ends.seed ends.vpes ends.calls seed ends.command asked)
  refuses_traces Done (inr (inr (inr (inr (inr ends))))) seed bytes fault asked left refused = absurd (no-files g seed ends.seed asked ends.command)
  refuses_traces Usage ends seed bytes fault asked left refused = absurd (no-words seed asked)
    where
      no-words : (seed : ℕ) → AsksRun g seed → ⊥
      no-words seed (inl is) = none-some (Run seed) (sym ends.no_command ∙ is)
      no-words seed (inr is) = none-some (Threads seed) (sym ends.no_command ∙ is)
  refuses_traces TraceRefused ends seed bytes fault asked left refused = inl refl
  refuses_traces ReadFault ends seed bytes fault asked left refused = inr (inl refl)
  refuses_traces WriteFault ends seed bytes fault asked left refused = absurd ends
  refuses_traces Memory ends seed bytes fault asked left refused = inr (inr (inr refl))
  refuses_traces ReportRefused ends seed bytes fault asked left refused = absurd (no-run g (Ask ends.question) ends.command refl seed asked)

  -- a trace
  pub runs : (status : Status) → WouldEnd g J text status → RunsTraces g status
  runs Done ends seed bytes T asked left stands = inl refl
  runs Usage ends seed bytes T asked left stands = absurd (no-words seed asked)
    where
      no-words : (seed : ℕ) → AsksRun g seed → ⊥
      no-words seed (inl is) = none-some (Run seed) (sym ends.no_command ∙ is)
      no-words seed (inr is) = none-some (Threads seed) (sym ends.no_command ∙ is)
  runs TraceRefused (inr ends) seed bytes T asked left stands = absurd (no-files g seed ends.seed asked ends.command)
  runs TraceRefused (inl ends) seed bytes T asked left stands =
      let refused : refusal bytes ≡ Some ends.fault = subst (λ o. IfSome o (λ bytes. refusal bytes ≡ Some ends.fault)) left ends.refused in
      absurd (none-some ends.fault (sym stands.accepted ∙ refused))
  runs ReadFault ends seed bytes T asked left stands = inr (inl refl)
  runs WriteFault ends seed bytes T asked left stands = absurd ends
  runs Memory ends seed bytes T asked left stands = inr (inr (inr refl))
  runs ReportRefused ends seed bytes T asked left stands = absurd (no-run g (Ask ends.question) ends.command refl seed asked)

  -- a text that is no text of file commands
  pub refuses_files : (status : Status) → WouldEnd g J text status → RefusesFiles g status
  refuses_files Done (inl ends) seed bytes fault asked left refused = absurd (no-files g ends.seed seed (inl ends.run.command) asked)
  refuses_files Done (inr (inl ends)) seed bytes fault asked left refused = absurd (not-run g (Ask ends.question) (Files seed) ends.command refl asked refl)
  refuses_files Done (inr (inr (inl ends))) seed bytes fault asked left refused =
      absurd (not-run g (Generate ends.seed ends.vpes ends.calls) (Files seed) ends.command refl asked refl)
  refuses_files Done (inr (inr (inr (inl ends)))) seed bytes fault asked left refused = absurd (no-files g ends.seed seed (inr ends.command) asked)
  refuses_files Done (inr (inr (inr (inr (inl ends))))) seed bytes fault asked left refused =
      absurd (not-both g (Soak ends.seed ends.vpes ends.calls) (Files seed) is_files ends.command asked refl refl)
  refuses_files Done (inr (inr (inr (inr (inr ends))))) seed bytes fault asked left refused =
      absurd (none-some fault (sym ends.read.stands.accepted
      ∙ (ap files_refusal (whole g.before g.after ends.read.text bytes ends.read.taken ends.read.to_end left) ∙ refused)))
  refuses_files Usage ends seed bytes fault asked left refused = absurd (none-some (Files seed) (sym ends.no_command ∙ asked))
  refuses_files TraceRefused ends seed bytes fault asked left refused = inl refl
  refuses_files ReadFault ends seed bytes fault asked left refused = inr (inl refl)
  refuses_files WriteFault ends seed bytes fault asked left refused = absurd ends
  refuses_files Memory ends seed bytes fault asked left refused = inr (inr (inr refl))
  refuses_files ReportRefused ends seed bytes fault asked left refused = absurd (not-run g (Ask ends.question) (Files seed) ends.command refl asked refl)

  -- file commands
  pub runs_files : (status : Status) → WouldEnd g J text status → RunsFiles g status
  runs_files Done ends seed bytes F asked left stands = inl refl
  runs_files Usage ends seed bytes F asked left stands = absurd (none-some (Files seed) (sym ends.no_command ∙ asked))
  runs_files TraceRefused (inl ends) seed bytes F asked left stands = absurd (no-files g ends.seed seed ends.command asked)
  runs_files TraceRefused (inr ends) seed bytes F asked left stands =
      let refused : files_refusal bytes ≡ Some ends.fault = subst (λ o. IfSome o (λ bytes. files_refusal bytes ≡ Some ends.fault)) left ends.refused in
      absurd (none-some ends.fault (sym stands.accepted ∙ refused))
  runs_files ReadFault ends seed bytes F asked left stands = inr (inl refl)
  runs_files WriteFault ends seed bytes F asked left stands = absurd ends
  runs_files Memory ends seed bytes F asked left stands = inr (inr (inr refl))
  runs_files ReportRefused ends seed bytes F asked left stands = absurd (not-run g (Ask ends.question) (Files seed) ends.command refl asked refl)

  -- a text that is no report
  pub refuses_reports : (status : Status) → WouldEnd g J text status → RefusesReports g status
  refuses_reports Done (inl ends) question bytes asked left isnt = absurd (no-run g (Ask question) asked refl ends.seed (inl ends.run.command))
  refuses_reports Done (inr (inl ends)) question bytes asked left isnt =
      let is : report ends.setup ends.entries ≡ bytes = whole g.before g.after (report ends.setup ends.entries) bytes ends.input.taken ends.input.to_end left in
      absurd (isnt (record { setup = ends.setup; entries = ends.entries; valid = ends.valid; complete = ends.complete; spelled = sym is }))
  refuses_reports Done (inr (inr (inl ends))) question bytes asked left isnt =
      absurd (not-both g (Generate ends.seed ends.vpes ends.calls) (Ask question) reads_input ends.command asked refl refl)
  refuses_reports Done (inr (inr (inr (inl ends)))) question bytes asked left isnt = absurd (no-run g (Ask question) asked refl ends.seed (inr ends.command))
  refuses_reports Done (inr (inr (inr (inr (inl ends))))) question bytes asked left isnt =
      absurd (not-both g (Soak ends.seed ends.vpes ends.calls) (Ask question) reads_input ends.command asked refl refl)
  refuses_reports Done (inr (inr (inr (inr (inr ends))))) question bytes asked left isnt =
      absurd (not-run g (Ask question) (Files ends.seed) asked refl ends.command refl)
  refuses_reports Usage ends question bytes asked left isnt = absurd (none-some (Ask question) (sym ends.no_command ∙ asked))
  refuses_reports TraceRefused (inl ends) question bytes asked left isnt = absurd (no-run g (Ask question) asked refl ends.seed ends.command)
  refuses_reports TraceRefused (inr ends) question bytes asked left isnt = absurd (not-run g (Ask question) (Files ends.seed) asked refl ends.command refl)
  refuses_reports ReadFault ends question bytes asked left isnt = inr (inl refl)
  refuses_reports WriteFault ends question bytes asked left isnt = absurd ends
  refuses_reports Memory ends question bytes asked left isnt = inr (inr (inr refl))
  refuses_reports ReportRefused ends question bytes asked left isnt = inl refl

  module _ (accepts : (bytes : List ℕ) (verdict : Verdict) → IsReport bytes → IsVerdict bytes verdict → is_accepted verdict ≡ true) where
    -- a report
    pub accepts_reports : (status : Status) → WouldEnd g J text status → AcceptsReports g status
    accepts_reports Done ends question bytes asked left r = inl refl
    accepts_reports Usage ends question bytes asked left r = absurd (none-some (Ask question) (sym ends.no_command ∙ asked))
    accepts_reports TraceRefused (inl ends) question bytes asked left r = absurd (no-run g (Ask question) asked refl ends.seed ends.command)
    accepts_reports TraceRefused (inr ends) question bytes asked left r = absurd (not-run g (Ask question) (Files ends.seed) asked refl ends.command refl)
    accepts_reports ReadFault ends question bytes asked left r = inr (inl refl)
    accepts_reports WriteFault ends question bytes asked left r = absurd ends
    accepts_reports Memory ends question bytes asked left r = inr (inr (inr refl))
    accepts_reports ReportRefused ends question bytes asked left r =
        let is : bytes ≡ ends.bytes = subst (λ o. IfSome o (λ all. all ≡ ends.bytes)) left ends.input in
        let yes : is_accepted ends.refused.verdict ≡ true = accepts ends.bytes ends.refused.verdict (subst IsReport is r) ends.refused.found in
        absurd (false≢true (sym ends.refused.refused ∙ yes))

    -- the text was written
    pub written : (status : Status) (before after : Option (List ℕ)) (faults faults' : ℕ) → WouldEnd g J text status → Appends before after text →
        Serves g (record { status = status; journal = J; before = before; after = after; faults_before = faults; faults_after = faults' })
    written status before after faults faults' ends appended =
        record {
          ends = ends-with status ends;
          write_fault = λ is. absurd (subst (WouldEnd g J text) is ends);
          safe = would-safe g J text status ends;
          usage = usage status ends;
          refuses_traces = refuses_traces status ends;
          runs = runs status ends;
          refuses_files = refuses_files status ends;
          runs_files = runs_files status ends;
          refuses_reports = refuses_reports status ends;
          accepts_reports = accepts_reports status ends;
          generates = λ seed vpes calls asked. unread (Generate seed vpes calls) refl asked status ends;
          soaks = λ seed vpes calls asked. unread (Soak seed vpes calls) refl asked status ends;
        }
      where
        ends-with : (s : Status) → WouldEnd g J text s →
            EndsWith s g (record { status = status; journal = J; before = before; after = after; faults_before = faults; faults_after = faults' })
        ends-with Done ends = (text, ends, appended)
        ends-with Usage ends = (text, ends, appended)
        ends-with TraceRefused ends = (text, ends, appended)
        ends-with ReadFault ends = (text, ends, appended)
        ends-with WriteFault ends = absurd ends
        ends-with Memory ends = (text, ends, appended)
        ends-with ReportRefused ends = (text, ends, appended)

    -- a write failed
    pub unwritten : (status : Status) (before after : Option (List ℕ)) (faults faults' : ℕ) → WouldEnd g J text status → AppendsPrefix before after text →
        Rose faults faults' →
        Serves g (record { status = WriteFault; journal = J; before = before; after = after; faults_before = faults; faults_after = faults' })
    unwritten status before after faults faults' ends appended rose = record {
      ends = (status, (text, ends, appended));
      write_fault = λ is. rose;
      safe = unwritten-safe g J text status ends;
      usage = λ none. inr (inl refl);
      refuses_traces = λ seed bytes fault asked left refused. inr (inr (inl refl));
      runs = λ seed bytes T asked left stands. inr (inr (inl refl));
      refuses_files = λ seed bytes fault asked left refused. inr (inr (inl refl));
      runs_files = λ seed bytes F asked left stands. inr (inr (inl refl));
      refuses_reports = λ question bytes asked left isnt. inr (inr (inl refl));
      accepts_reports = λ question bytes asked left r. inr (inr (inl refl));
      generates = λ seed vpes calls asked. inr (inl refl);
      soaks = λ seed vpes calls asked. inr (inl refl);
    }
