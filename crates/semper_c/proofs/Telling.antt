-- What the top call leaves in memory is the answer that is promised.
use Rattle.std.proofs.Common.{◌≡◌, ℕ, Bool, true, false, List, [], ◌++◌, Option, Some, None, IfSome, refl, sym, ◌∙◌, ap, subst, append-nil, arith, inl, inr}
use Rattle.std.proofs.Common.{◌∷◌, ◌<◌, ◌^◌, codes, decimal, String, string_bytes}
use Rattle.std.specs.Prelude.{◌≢◌}
use Rattle.std.proofs.lemmas.Bool.{false≢true}
use Rattle.std.proofs.lemmas.Option.{none-some, same_Some}
use Rattle.sem_msg.specs.declared.entry.Entry.{Entry}
use Rattle.sem_msg.specs.Setup.{Setup}
use Rattle.sem_io.specs.Count.{Rose}
use Rattle.sem_io.specs.SourceBytes.{Takes}
use Rattle.sem_trace.specs.SetupOfText.{Stands}
use Rattle.sem_reader.proofs.Decimals.{number_of-decimal}
use Rattle.sem_machine.specs.Seeded.{seeded}
use Rattle.sem_machine.specs.Living.{IsComplete}
use Rattle.sem_revoke.proofs.Safe.{all-safe}
use Rattle.sem_audit.specs.Reported.{report}
use Rattle.sem_cli.specs.declared.forms.Command.{Command}
use Rattle.sem_cli.specs.declared.forms.Command.TheVariants.{Run, Threads, Files, Generate, Soak, Ask}
use Rattle.sem_cli.specs.declared.forms.Question.{Question}
use Rattle.sem_cli.specs.declared.forms.Question.TheVariants.{Check}
use Rattle.sem_cli.specs.declared.statuses.Status.{Status}
use Rattle.sem_cli.specs.declared.statuses.Status.TheVariants.{Done, Usage, TraceRefused, ReadFault, WriteFault, Memory, ReportRefused}
use Rattle.sem_cli.specs.Commands.{command_of}
use Rattle.sem_run.specs.Inputs.{Given, asked_by, is_alone, reads_input}
use Rattle.sem_run.specs.Reports.{IsReport, IsRefusedReport}
use Rattle.sem_run.specs.Ends.{IsAnswer, EndsReported, EndsDone, EndsRefused}
use Rattle.sem_run.specs.Serves.{Serves, IsOrFails}
use Rattle.sem_run.proofs.Asked.{not-both, not-run, no-run, no-files}
use Rattle.semper_c.specs.Answers.{IsSeededReport, IsTraceRefused, AnswersQuestion, RunAnswer, ReportAnswer}
use Rattle.semper_c.specs.Served.{from_memory, to_memory}

-- the words that ask for a run
run-words : (seed : ℕ) → seed < 2 ^ 64 → command_of (codes "run" ∷ decimal seed ∷ []) ≡ Some (Run seed)
run-words seed fits = rw (number_of-decimal seed 18446744073709551615 (omega arith) fits) refl

pub run-asked : {A : Type 0} (words : List (String A)) (first second : String A) (seed : ℕ) → words ≡ first ∷ second ∷ [] → string_bytes first ≡ codes "run" →
    string_bytes second ≡ decimal seed → seed < 2 ^ 64 → asked_by words ≡ Some (Run seed)
run-asked words first second seed items is number fits = rw (items, is, number) (run-words seed fits)

-- what was read to the end of an input is all of it
whole : (rest : Option (List ℕ)) (bytes text : List ℕ) → Takes (Some bytes) rest text → IfSome rest (λ left. left ≡ []) → text ≡ bytes
whole None bytes text taken end = absurd (none-some bytes (sym taken))
whole (Some left) bytes text taken end = sym (same_Some bytes (text ++ left) taken ∙ (ap (λ l. text ++ l) end ∙ append-nil text))

-- a count that stays 0 does not rise
no-rise : Rose 0 0 → ⊥
no-rise (inl less) = absurd (omega arith)
no-rise (inr is) = absurd (omega arith)

abbrev seed_in : Command → ℕ
seed_in (Run seed) = seed
seed_in (Threads seed) = seed
seed_in (Files seed) = seed
seed_in (Generate seed vpes calls) = seed
seed_in (Soak seed vpes calls) = seed
seed_in (Ask question) = 0

abbrev question_in : Command → Question
question_in (Run seed) = Check
question_in (Threads seed) = Check
question_in (Files seed) = Check
question_in (Generate seed vpes calls) = Check
question_in (Soak seed vpes calls) = Check
question_in (Ask question) = question

abbrev is_refusal : Status → Bool
is_refusal Done = false
is_refusal Usage = false
is_refusal TraceRefused = false
is_refusal ReadFault = false
is_refusal WriteFault = false
is_refusal Memory = false
is_refusal ReportRefused = true

-- a refusal is neither a success nor a failure
no-refusal : IsOrFails Done ReportRefused → ⊥
no-refusal (inl is) = false≢true (sym (ap is_refusal is))
no-refusal (inr (inl is)) = false≢true (sym (ap is_refusal is))
no-refusal (inr (inr (inl is))) = false≢true (sym (ap is_refusal is))
no-refusal (inr (inr (inr is))) = false≢true (sym (ap is_refusal is))

module _ (input : List ℕ) (rest : Option (List ℕ)) (J : List Entry) (text : List ℕ) (faults : ℕ) where
  -- a run of the trace
  module _ (seed : ℕ) where
    abbrev g : Given
    g = from_memory (Some (Run seed)) input rest

    reported : (told : List ℕ) → text ≡ told → EndsReported g J told → IsSeededReport input seed text
    reported told is ends =
        let T : Setup = ends.setup in
        let same : ends.seed ≡ seed = sym (ap seed_in (same_Some (Run seed) (Run ends.seed) ends.run.command)) in
        let made : J ≡ seeded T seed = ends.run.seeded ∙ ap (λ s. seeded T s) same in
        let complete : IsComplete T (seeded T seed) = subst (IsComplete T) made ends.complete in
        let read : ends.run.trace.text ≡ input = whole rest input ends.run.trace.text ends.run.trace.taken ends.run.trace.to_end in
        record {
          setup = T;
          valid = ends.run.trace.valid;
          stands = subst (λ bytes. Stands bytes T) read ends.run.trace.stands;
          complete = complete;
          safe = all-safe T ends.run.trace.valid (seeded T seed) complete.schedule;
          told = is ∙ (ends.told ∙ ap (λ j. report T j) made);
        }

    run-done : (told : List ℕ) → text ≡ told → EndsDone g J told → IsSeededReport input seed text
    run-done told is (inl ends) = reported told is ends
    run-done told is (inr (inl ends)) = absurd (not-run g (Ask ends.question) (Run seed) ends.command refl refl refl)
    run-done told is (inr (inr (inl ends))) = absurd (not-run g (Generate ends.seed ends.vpes ends.calls) (Run seed) ends.command refl refl refl)
    run-done told is (inr (inr (inr (inl ends)))) = absurd (not-both g (Threads ends.seed) (Run seed) is_alone ends.command refl refl refl)
    run-done told is (inr (inr (inr (inr (inl ends))))) =
        absurd (not-both g (Soak ends.seed ends.vpes ends.calls) (Run seed) is_alone ends.command refl refl refl)
    run-done told is (inr (inr (inr (inr (inr ends))))) = absurd (no-files g seed ends.seed (inl refl) ends.command)

    run-refused : (told : List ℕ) → text ≡ told → EndsRefused g J told → IsTraceRefused input text
    run-refused told is (inl ends) = record { fault = ends.fault; refused = ends.refused; told = is ∙ ends.told }
    run-refused told is (inr ends) = absurd (no-files g seed ends.seed (inl refl) ends.command)

    pub run-answer : (status : Status) → status ≢ WriteFault → Serves g (to_memory status J text faults) → RunAnswer input seed status text
    run-answer Done went serves =
        let ends = serves.ends in
        run-done ends.0 (same_Some text ends.0 ends.2) ends.1
    run-answer Usage went serves =
        let ends = serves.ends in
        absurd (none-some (Run seed) (sym ends.1.no_command))
    run-answer TraceRefused went serves =
        let ends = serves.ends in
        run-refused ends.0 (same_Some text ends.0 ends.2) ends.1
    run-answer ReadFault went serves =
        let ends = serves.ends in
        absurd (no-rise ends.1.fault)
    run-answer WriteFault went serves = absurd (went refl)
    run-answer Memory went serves =
        let ends = serves.ends in
        same_Some text ends.0 ends.2 ∙ ends.1.told
    run-answer ReportRefused went serves =
        let ends = serves.ends in
        absurd (not-run g (Ask ends.1.question) (Run seed) ends.1.command refl refl refl)

  -- a question about the report
  module _ (question : Question) where
    abbrev h : Given
    h = from_memory (Some (Ask question)) input rest

    report-done : (told : List ℕ) → text ≡ told → EndsDone h J told → AnswersQuestion question input text
    report-done told is (inl ends) = absurd (not-run h (Ask question) (Run ends.seed) refl refl ends.run.command refl)
    report-done told is (inr (inl ends)) =
        let T : Setup = ends.setup in
        let same : ends.question ≡ question = sym (ap question_in (same_Some (Ask question) (Ask ends.question) ends.command)) in
        let told' : IsAnswer question T ends.entries told = subst (λ q. IsAnswer q T ends.entries told) same ends.told in
        record {
          setup = T;
          entries = ends.entries;
          valid = ends.valid;
          complete = ends.complete;
          spelled = sym (whole rest input (report T ends.entries) ends.input.taken ends.input.to_end);
          told = subst (λ t. IsAnswer question T ends.entries t) (sym is) told';
        }
    report-done told is (inr (inr (inl ends))) =
        absurd (not-both h (Generate ends.seed ends.vpes ends.calls) (Ask question) reads_input ends.command refl refl refl)
    report-done told is (inr (inr (inr (inl ends)))) = absurd (not-run h (Ask question) (Threads ends.seed) refl refl ends.command refl)
    report-done told is (inr (inr (inr (inr (inl ends))))) = absurd (not-run h (Ask question) (Soak ends.seed ends.vpes ends.calls) refl refl ends.command refl)
    report-done told is (inr (inr (inr (inr (inr ends))))) = absurd (not-run h (Ask question) (Files ends.seed) refl refl ends.command refl)

    pub report-answer : (status : Status) → status ≢ WriteFault → Serves h (to_memory status J text faults) → ReportAnswer question input status text
    report-answer Done went serves =
        let ends = serves.ends in
        report-done ends.0 (same_Some text ends.0 ends.2) ends.1
    report-answer Usage went serves =
        let ends = serves.ends in
        absurd (none-some (Ask question) (sym ends.1.no_command))
    report-answer TraceRefused went serves = absurd (refused serves.ends.1)
      where
        refused : {told : List ℕ} → EndsRefused h J told → ⊥
        refused (inl ends) = no-run h (Ask question) refl refl ends.seed ends.command
        refused (inr ends) = not-run h (Ask question) (Files ends.seed) refl refl ends.command refl
    report-answer ReadFault went serves =
        let ends = serves.ends in
        absurd (no-rise ends.1.fault)
    report-answer WriteFault went serves = absurd (went refl)
    report-answer Memory went serves =
        let ends = serves.ends in
        same_Some text ends.0 ends.2 ∙ ends.1.told
    report-answer ReportRefused went serves =
        let ends = serves.ends in
        let is : text ≡ ends.0 = same_Some text ends.0 ends.2 in
        let bytes : ends.1.bytes ≡ input = sym ends.1.input in (
          (λ (r : IsReport input). no-refusal (serves.accepts_reports question input refl refl r)),
          subst (λ t. IsRefusedReport input t) (sym is) (subst (λ b. IsRefusedReport b ends.0) bytes ends.1.refused),
        )
