-- What the bytes that were read tell of the input. One byte more is read than a text may have.
use Rattle.std.proofs.Common.{◌≡◌, ℕ, ◌+◌, ◌<◌, ◌≤◌, false, List, [], ◌∷◌, ◌++◌, length, take, Option, Some, None, IfSome, refl, sym, ◌∙◌, ap, subst, arith}
use Rattle.std.proofs.Common.{inl, inr}
use Rattle.std.specs.Prelude.{nat_lt}
use Rattle.std.proofs.lemmas.Bool.{cases_lt, cond-true, lt-ltb, false≢true}
use Rattle.std.proofs.lemmas.List.{length-append, take_all, length-take}
use Rattle.std.proofs.lemmas.Option.{none-some}
use Rattle.sem_msg.specs.Setup.{Setup, IsSetup}
use Rattle.sem_io.specs.SourceBytes.{Takes}
use Rattle.sem_io.proofs.Moves.{Takes-nil}
use Rattle.sem_trace.specs.declared.fault.Cause.TheVariants.{InputTooLong}
use Rattle.sem_trace.specs.declared.fault.TraceFault.{TraceFault}
use Rattle.sem_trace.specs.Refusal.{refusal}
use Rattle.sem_trace.specs.SetupOfText.{Stands, IsWhy}
use Rattle.sem_trace.specs.declared.fault.TraceError.{TraceError}
use Rattle.sem_trace.specs.declared.fault.TraceError.TheVariants.{Refused as RefusedText}
use Rattle.sem_report.specs.declared.verdict.Verdict.{Verdict}
use Rattle.sem_report.specs.declared.verdict.Verdict.TheVariants.{Accepted, BadLine, BadEntry, NotOver, BadAudit}
use Rattle.sem_report.specs.ReportRefusal.{report_refusal}
use Rattle.sem_cli.specs.declared.forms.Command.TheVariants.{Ask}
use Rattle.sem_cli.specs.declared.forms.Question.{Question}
use Rattle.sem_cli.specs.declared.statuses.Status.{Status}
use Rattle.sem_cli.specs.declared.statuses.Status.TheVariants.{Done, Usage, TraceRefused, ReadFault, WriteFault, Memory, ReportRefused}
use Rattle.sem_msg.specs.declared.entry.Entry.{Entry}
use Rattle.sem_files.specs.Files.{Files}
use Rattle.sem_files.specs.Compiled.{AreFiles}
use Rattle.sem_files.specs.FileRefusal.{refusal as files_refusal}
use Rattle.sem_files.specs.FilesOfText.{FilesStand}
use Rattle.sem_run.specs.Inputs.{Given, Asks, IsUntouched, ReadsFront, ReadsTrace, ReadsFiles, IsQuietlyRead}
use Rattle.sem_run.specs.Reports.{IsVerdict, is_accepted, verdict_line}
use Rattle.sem_run.specs.declared.findings.Finding.{Finding}
use Rattle.sem_run.specs.Findings.{IsFound, IfAccepted, IsOf, IsAskable}
use Rattle.sem_run.specs.Readings.{TellsAnswer, IsVerdictTold}
use Rattle.sem_run.specs.Ends.{WouldEnd}

-- nothing was read
pub untouched-part : (g : Given) → IsUntouched g → ReadsFront g
untouched-part g untouched = ([], subst (λ after. Takes g.before after []) (sym untouched.unread) (Takes-nil g.before))

-- the refusal of a text that is too long
abbrev long_fault : TraceFault
long_fault = record { line = 0; word = None; cause = InputTooLong }

long-trace : (bytes : List ℕ) → 8388608 < length bytes → refusal bytes ≡ Some long_fault
unfolding refusal
long-trace bytes long = cond-true (nat_lt 8388608 (length bytes)) _ _ (lt-ltb 8388608 (length bytes) long)

long-files : (bytes : List ℕ) → 8388608 < length bytes → files_refusal bytes ≡ Some long_fault
unfolding files_refusal
long-files bytes long = cond-true (nat_lt 8388608 (length bytes)) _ _ (lt-ltb 8388608 (length bytes) long)

long-report : (bytes : List ℕ) → 134217728 < length bytes → report_refusal bytes ≡ Some long_fault
unfolding report_refusal
long-report bytes long = cond-true (nat_lt 134217728 (length bytes)) _ _ (lt-ltb 134217728 (length bytes) long)

module _ (limit : ℕ) where
  -- the first bytes of what was left were read
  abbrev pub IsRead : Option (List ℕ) → List ℕ → Type 0
  IsRead left read = IfSome left (λ bytes. read ≡ take (limit + 1) bytes)

  -- a text that is not too long was read whole
  all-read : (bytes read : List ℕ) → read ≡ take (limit + 1) bytes → length read ≤ limit → read ≡ bytes
  all-read bytes read is short = is ∙ take_all (limit + 1) bytes (omega (arith, short, length-take (limit + 1) bytes, ap length is))

  no-rest : (read rest : List ℕ) → read ≡ take (limit + 1) (read ++ rest) → length read ≤ limit → rest ≡ []
  no-rest read [] is few = refl
  no-rest read (b ∷ rest) is few = absurd (omega (arith, few, ap length (all-read (read ++ b ∷ rest) read is few), length-append read (b ∷ rest)))

  -- then nothing is left of the input
  at-end : (left after : Option (List ℕ)) (read : List ℕ) → Takes left after read → IsRead left read → length read ≤ limit → IfSome after (λ rest. rest ≡ [])
  at-end left None read taken first few = tt
  at-end left (Some rest) read taken first few = let all : IsRead (Some (read ++ rest)) read = rw taken at first in no-rest read rest all few

  module _ (why : List ℕ → Option TraceFault) (too-long : (bytes : List ℕ) → limit < length bytes → why bytes ≡ Some long_fault) where
    -- the input is refused as what was read
    same-refusal : (bytes read : List ℕ) → read ≡ take (limit + 1) bytes → why bytes ≡ why read
    same-refusal bytes read is = elim (cases_lt limit (length read)) [
      | inr few ↦ ap why (sym (all-read bytes read is few))
      | inl long ↦
          let more : limit < length bytes = omega (arith, long, length-take (limit + 1) bytes, ap length is) in
          too-long bytes more ∙ sym (too-long read long)
    ]

    -- what is not refused is short
    short : (read : List ℕ) → why read ≡ None → length read ≤ limit
    short read accepted = elim (cases_lt limit (length read)) [
      | inr few ↦ few
      | inl long ↦ absurd (none-some long_fault (sym accepted ∙ too-long read long))
    ]

-- A trace, and file commands.

module _ (why : List ℕ → Option TraceFault) (too-long : (bytes : List ℕ) → 8388608 < length bytes → why bytes ≡ Some long_fault) where
  -- the text is refused for what the reader told
  text-refused : (left : Option (List ℕ)) (read given : List ℕ) (fault : TraceFault) (e : TraceError) → IsRead 8388608 left read → given ≡ read →
      IsWhy (why given) e → e ≡ RefusedText fault → IfSome left (λ bytes. why bytes ≡ Some fault)
  text-refused None read given fault e is same refused told = tt
  text-refused (Some bytes) read given fault e is same refused told = same-refusal 8388608 why too-long bytes read is
      ∙ (ap why (sym same) ∙ subst (IsWhy (why given)) told refused)

pub reads-refused : (left : Option (List ℕ)) (read given : List ℕ) (fault : TraceFault) (e : TraceError) → IsRead 8388608 left read → given ≡ read →
    IsWhy (refusal given) e → e ≡ RefusedText fault → IfSome left (λ bytes. refusal bytes ≡ Some fault)
reads-refused = text-refused refusal long-trace

pub files-refused : (left : Option (List ℕ)) (read given : List ℕ) (fault : TraceFault) (e : TraceError) → IsRead 8388608 left read → given ≡ read →
    IsWhy (files_refusal given) e → e ≡ RefusedText fault → IfSome left (λ bytes. files_refusal bytes ≡ Some fault)
files-refused = text-refused files_refusal long-files

-- where it stands for a setup, it was read to its end
pub reads-trace : (g : Given) (read : List ℕ) → IsRead 8388608 g.before read → (T : Setup) → Takes g.before g.after read → Stands read T → IsSetup T →
    ReadsTrace g T
reads-trace g read is T taken stands valid = record {
  valid = valid;
  text = read;
  taken = taken;
  stands = stands;
  to_end = at-end 8388608 g.before g.after read taken is (short 8388608 refusal long-trace read stands.accepted);
}

-- where it stands for file commands, it was read to its end
pub reads-files : (g : Given) (read : List ℕ) → IsRead 8388608 g.before read → (F : Files) → Takes g.before g.after read → FilesStand read F → AreFiles F →
    ReadsFiles g F
reads-files g read is F taken stands valid = record {
  valid = valid;
  text = read;
  taken = taken;
  stands = stands;
  to_end = at-end 8388608 g.before g.after read taken is (short 8388608 files_refusal long-files read stands.accepted);
}

-- A report.

module _ (bytes read : List ℕ) (is : read ≡ take (134217728 + 1) bytes) where
  -- what no line of which is bad was read whole
  told-whole : report_refusal read ≡ None → read ≡ bytes
  told-whole accepted = all-read 134217728 bytes read is (short 134217728 report_refusal long-report read accepted)

  -- the verdict on what was read is that on the input
  same-verdict : (verdict : Verdict) → IsVerdict read verdict → IsVerdict bytes verdict
  same-verdict (Accepted T journal due) found = subst (λ x. IsVerdict x (Accepted T journal due)) (told-whole found.0.tells.accepted) found
  same-verdict (BadLine fault) found = same-refusal 134217728 report_refusal long-report bytes read is ∙ found
  same-verdict (BadEntry journal n entered replayed) found = subst (λ x. IsVerdict x (BadEntry journal n entered replayed)) (told-whole found.1.accepted) found
  same-verdict (NotOver journal next) found = subst (λ x. IsVerdict x (NotOver journal next)) (told-whole found.1.accepted) found
  same-verdict (BadAudit line due) found = subst (λ x. IsVerdict x (BadAudit line due)) (told-whole found.2.tells.accepted) found

input-verdict : (left : Option (List ℕ)) (read : List ℕ) (verdict : Verdict) → IsRead 134217728 left read → IsVerdict read verdict →
    (bytes : List ℕ) × IfSome left (λ all. all ≡ bytes) × IsVerdict bytes verdict
input-verdict None read verdict is found = (read, tt, found)
input-verdict (Some bytes) read verdict is found = (bytes, refl, same-verdict bytes read is verdict found)

-- a verdict that is right accepts schedules alone
pub askable : (bytes : List ℕ) (f : Finding) (verdict : Verdict) → IsVerdict bytes verdict → IfAccepted (λ T J. IsFound T J f) verdict → IsAskable f verdict
askable bytes f (Accepted T journal due) right is = (right.0.complete.schedule, is)
askable bytes f (BadLine fault) right is = tt
askable bytes f (BadEntry journal n entered replayed) right is = tt
askable bytes f (NotOver journal next) right is = tt
askable bytes f (BadAudit line due) right is = tt

-- what holds of a setup and a journal holds of a report of them that is accepted
pub if-accepted : (P : Setup → List Entry → Type 0) (T : Setup) (J : List Entry) (verdict : Verdict) → IsOf T J verdict → P T J → IfAccepted P verdict
if-accepted P T J (Accepted S journal due) is so = subst (λ S'. P S' journal.entries) (sym is.0) (subst (P T) (sym is.1) so)
if-accepted P T J (BadLine fault) is so = tt
if-accepted P T J (BadEntry journal n entered replayed) is so = tt
if-accepted P T J (NotOver journal next) is so = tt
if-accepted P T J (BadAudit line due) is so = tt

-- what is not accepted is told by its line
refused-line : (question : Question) (verdict : Verdict) (text : List ℕ) → is_accepted verdict ≡ false → TellsAnswer question verdict text →
    text ≡ verdict_line verdict
refused-line question (Accepted T journal due) text refused told = absurd (false≢true (sym refused))
refused-line question (BadLine fault) text refused told = told
refused-line question (BadEntry journal n entered replayed) text refused told = told
refused-line question (NotOver journal next) text refused told = told
refused-line question (BadAudit line due) text refused told = told

-- how a question about what was read ends
module _ (g : Given) (J : List Entry) (text read : List ℕ) (question : Question) (asked : Asks g (Ask question)) (is : IsRead 134217728 g.before read)
    (taken : Takes g.before g.after read) (quiet : IsQuietlyRead g) (empty : J ≡ []) where
  accepted-ends : (verdict : Verdict) → IsVerdict read verdict → IsVerdictTold question verdict text Done → WouldEnd g J text Done
  accepted-ends (Accepted T journal due) found told = inr (inl (record {
    question = question;
    command = asked;
    setup = T;
    entries = journal.entries;
    valid = found.0.tells.fits.trace;
    complete = found.0.complete;
    input = record {
      taken = subst (Takes g.before g.after) found.1 taken;
      to_end = at-end 134217728 g.before g.after read taken is (short 134217728 report_refusal long-report read found.0.tells.accepted);
    };
    no_journal = empty;
    told = told.1;
  }))
  accepted-ends (BadLine fault) found told = absurd (false≢true told.0)
  accepted-ends (BadEntry journal n entered replayed) found told = absurd (false≢true told.0)
  accepted-ends (NotOver journal next) found told = absurd (false≢true told.0)
  accepted-ends (BadAudit line due) found told = absurd (false≢true told.0)

  pub answer-ends : (verdict : Verdict) → IsVerdict read verdict → (status : Status) → IsVerdictTold question verdict text status → WouldEnd g J text status
  answer-ends verdict found Done told = accepted-ends verdict found told
  answer-ends verdict found Usage told = absurd told
  answer-ends verdict found TraceRefused told = absurd told
  answer-ends verdict found ReadFault told = absurd told
  answer-ends verdict found WriteFault told = absurd told
  answer-ends verdict found Memory told = record { part = inl empty; read = (read, taken); quiet = quiet; told = told }
  answer-ends verdict found ReportRefused told =
      let input = input-verdict g.before read verdict is found in
      record {
        question = question;
        command = asked;
        bytes = input.0;
        input = input.1;
        refused = record { verdict = verdict; found = input.2; refused = told.0; told = refused-line question verdict text told.0 told.1 };
        read = (read, taken);
        quiet = quiet;
        no_journal = empty;
      }

  -- memory was lacking when it was judged
  pub unjudged : text ≡ [] → WouldEnd g J text Memory
  unjudged told = record { part = inl empty; read = (read, taken); quiet = quiet; told = told }
