-- One line of a report more.
use Rattle.std.proofs.Common.{◌≡◌, ℕ, ◌+◌, List, [], ◌∷◌, ◌++◌, Option, Some, None, refl, ap, sym, ◌∙◌, subst, arith, length, length-append, take, drop}
use Rattle.std.proofs.Common.{drop-drop, get_or, get_or-drop, add-zero, ◌-◌, ◌<◌, map, replicate, decimal, append_assoc, append-nil}
use Rattle.std.proofs.lemmas.List.{map-append, replicate-append-replicate}
use Rattle.std.specs.List.{All}
use Rattle.std.proofs.lemmas.List.Elements.{All-nil, All-cons, All-append}
use Rattle.std.proofs.lemmas.Grind.{flat_map-append}
use Rattle.sem_msg.specs.declared.entry.Entry.{Entry}
use Rattle.sem_msg.specs.declared.audit.Held.{Held}
use Rattle.sem_msg.specs.Audits.{held_pairs}
use Rattle.sem_report.specs.ReportRanges.{HeldFits}
use Rattle.sem_journal.specs.ReportText.{held_line, journal_lines}
use Rattle.sem_journal.specs.EntryForms.{entry_form}
use Rattle.sem_journal.specs.EntryText.{entry_words}
use Rattle.sem_journal.specs.EntryRanges.{EntryFits}
use Rattle.sem_text.specs.Lines.{line, text}
use Rattle.sem_trace.specs.LineErrors.{at_line, fault_of}
use Rattle.sem_trace.specs.declared.fault.TraceError.{TraceError}
use Rattle.sem_trace.specs.declared.fault.TraceError.TheVariants.{Refused as RefusedText, Memory as NoMemory}
use Rattle.sem_trace.specs.declared.line_error.LineError.{LineError}
use Rattle.sem_trace.specs.declared.line_error.LineError.TheVariants.{Refused, Memory}
use Rattle.sem_trace.specs.declared.fault.Cause.{Cause}
use Rattle.sem_trace.specs.declared.fault.Cause.TheVariants.{TooMany}
use Rattle.sem_trace.specs.TextLines.{bytes_fault}
use Rattle.std.specs.Option.{option_or, option_map}
use Rattle.std.specs.Prelude.{unwrap_or, codes}
use Rattle.sem_trace.specs.Declarations.{number_at}
use Rattle.sem_trace.specs.Refusal.{version_in}
use Rattle.sem_trace.specs.SetupOfText.{IsWhy}
use Rattle.sem_report.specs.WholeLines.{whole_lines, content}
use Rattle.sem_report.specs.ReportRefusal.{Form, report_form, report_version, count_form, audit_forms, forms_behind, words_in, count_at, report_line_fault}
use Rattle.sem_report.specs.ReportRefusal.{forms_fault}
use Rattle.sem_trace.specs.Forms.{whole_line}
use Rattle.sem_report.specs.ReadsReport.{Because, HaveForms, StopsAt, NextLine, OneEntry, IsMissing}

pub missing_stops : (form : Form) (n : ℕ) (lines : List (List ℕ)) (e : TraceError) → IsMissing n lines e → StopsAt (form ∷ []) n lines e
unfolding forms_fault
missing_stops form n lines e missing = rw (missing.1, missing.0) (λ more. refl)

pub line_follows : (form : Form) (n m : ℕ) (text whole behind : List ℕ) → NextLine n text whole m behind → report_line_fault form whole ≡ None →
    HaveForms (form ∷ []) (n + 1) (whole_lines text) (m + 1) (whole_lines behind)
unfolding forms_fault
line_follows form n m text whole behind next good = rw (next.lines, good, next.number) (λ more. refl)

pub line_stops : (form : Form) (n m : ℕ) (text whole behind : List ℕ) (e : LineError) → NextLine n text whole m behind →
    Because (report_line_fault form whole) e → StopsAt (form ∷ []) (n + 1) (whole_lines text) (at_line m e)
unfolding forms_fault
line_stops form n m text whole behind (Refused cause) next because = rw (next.lines, because, next.number) (λ more. refl)
line_stops form n m text whole behind Memory next because = tt

-- one line more of the same form
pub follows_more : (form : Form) (i n m k : ℕ) (first next last : List (List ℕ)) → HaveForms (replicate i form) n first m next →
    HaveForms (form ∷ []) m next k last → HaveForms (replicate (i + 1) form) n first k last
follows_more form i n m k first next last so_far one more =
    let forms : replicate (i + 1) form ++ more ≡ replicate i form ++ form ∷ more =
    ap (λ (fs : List Form). fs ++ more) (sym (replicate-append-replicate i 1 form)) ∙ append_assoc (replicate i form) (form ∷ []) more in
    ap (λ (fs : List Form). forms_fault n fs first) forms ∙ (so_far (form ∷ more) ∙ one more)

-- a line that does not have the form of those before it
pub stops_at : (form : Form) (i number n m : ℕ) (first next : List (List ℕ)) (e : TraceError) → HaveForms (replicate i form) n first m next → i < number →
    StopsAt (form ∷ []) m next e → StopsAt (replicate number form) n first e
stops_at form i number n m first next (RefusedText fault) so_far within stops = λ more.
    let rest : ℕ = number - i - 1 in
    let split : number ≡ i + (1 + rest) = omega arith in
    let all : replicate number form ≡ replicate i form ++ (replicate 1 form ++ replicate rest form) = ap (λ (k : ℕ). replicate k form) split
    ∙ (sym (replicate-append-replicate i (1 + rest) form)
    ∙ ap (λ (fs : List Form). replicate i form ++ fs) (sym (replicate-append-replicate 1 rest form))) in
    let forms : replicate number form ++ more ≡ replicate i form ++ form ∷ (replicate rest form ++ more) = ap (λ (fs : List Form). fs ++ more) all
    ∙ append_assoc (replicate i form) (form ∷ replicate rest form) more in
    ap (λ (fs : List Form). forms_fault n fs first) forms ∙ (so_far (form ∷ (replicate rest form ++ more)) ∙ stops (replicate rest form ++ more))
stops_at form i number n m first next NoMemory so_far within stops = tt

-- the text of lines with one more
pub text_more : {X : Type 0} (words : X → List (List ℕ)) (xs : List X) (x : X) (all rest behind : List ℕ) → all ≡ text (map words xs) ++ rest →
    rest ≡ line (words x) ++ behind → all ≡ text (map words (xs ++ x ∷ [])) ++ behind
text_more words xs x all rest behind so_far one = so_far
    ∙ (rw (one, map-append, flat_map-append, append-nil) (sym (append_assoc (text (map words xs)) (line (words x)) behind)))

-- an entry more
pub entries_fit : (version kernels : ℕ) (text behind : List ℕ) (before after : List Entry) → OneEntry version kernels text behind before after →
    All (EntryFits version kernels) before → All (EntryFits version kernels) after
entries_fit version kernels text behind before after one fits =
    subst (All (EntryFits version kernels)) (sym one.added)
    (All-append (EntryFits version kernels) before (one.entry ∷ []) fits
    (All-cons (EntryFits version kernels) one.entry [] one.fits (All-nil (EntryFits version kernels))))

pub entries_read : (version kernels : ℕ) (all rest behind : List ℕ) (before after : List Entry) → OneEntry version kernels rest behind before after →
    all ≡ text (map entry_words before) ++ rest → all ≡ text (map entry_words after) ++ behind
entries_read version kernels all rest behind before after one so_far = rw one.added (text_more entry_words before one.entry all rest behind so_far one.parts)

pub entries_count : (version kernels n : ℕ) (text behind : List ℕ) (before after : List Entry) → OneEntry version kernels text behind before after →
    length before ≡ n → length after ≡ n + 1
entries_count version kernels n text behind before after one count = rw (one.added, length-append, count) refl

-- a key more
pub keys_read : (held : Held) (before after : List Held) (all rest behind : List ℕ) → all ≡ text (map held_line (held_pairs before)) ++ rest →
    rest ≡ line (held_line (held.key, held.sel)) ++ behind → after ≡ before ++ held ∷ [] → all ≡ text (map held_line (held_pairs after)) ++ behind
keys_read held before after all rest behind so_far one added =
    rw (added, map-append) (text_more held_line (held_pairs before) (held.key, held.sel) all rest behind so_far one)

pub keys_fit : (version : ℕ) (held : Held) (before after : List Held) → All (HeldFits version) (held_pairs before) → HeldFits version (held.key, held.sel) →
    after ≡ before ++ held ∷ [] → All (HeldFits version) (held_pairs after)
keys_fit version held before after so_far one added =
    rw (added, map-append) (All-append (HeldFits version) (held_pairs before) ((held.key, held.sel) ∷ []) so_far (All-cons (HeldFits version) (
      held.key,
      held.sel,
    ) [] one (All-nil (HeldFits version))))

-- the lines behind one more
pub drop_more : (lines rest behind : List (List ℕ)) (i : ℕ) → rest ≡ drop i lines → behind ≡ drop 1 rest → behind ≡ drop (i + 1) lines
drop_more lines rest behind i so_far one = one ∙ (ap (drop 1) so_far ∙ (drop-drop 1 i lines ∙ ap (λ (n : ℕ). drop n lines) (omega arith)))

-- behind the last line
pub no_lines_more : (n : ℕ) (lines : List (List ℕ)) → lines ≡ [] → forms_fault n [] lines ≡ None
unfolding forms_fault
no_lines_more n lines none = rw none refl

pub line_more : (n : ℕ) (lines behind : List (List ℕ)) (whole : List ℕ) (cause : Cause) → lines ≡ whole ∷ behind →
    unwrap_or (bytes_fault (content whole)) TooMany ≡ cause → forms_fault n [] lines ≡ Some (fault_of n (whole_line cause))
unfolding forms_fault
line_more n lines behind whole cause is because = rw is (told (bytes_fault (content whole)) cause because)
  where
    told : (o : Option Cause) (cause : Cause) → unwrap_or o TooMany ≡ cause →
        option_map (fault_of n) (option_map whole_line (option_or o (Some TooMany))) ≡ Some (fault_of n (whole_line cause))
    told None cause because = rw because refl
    told (Some other) cause because = rw because refl

-- lines of some forms, and then of others
pub follows_both : (forms others : List Form) (n m k : ℕ) (first next last : List (List ℕ)) → HaveForms forms n first m next → HaveForms others m next k last →
    HaveForms (forms ++ others) n first k last
follows_both forms others n m k first next last one other more = ap (λ (fs : List Form). forms_fault n fs first) (append_assoc forms others more)
    ∙ (one (others ++ more) ∙ other more)

pub stops_behind : (forms others : List Form) (n m : ℕ) (first next : List (List ℕ)) (e : TraceError) → HaveForms forms n first m next → StopsAt others m next e →
    StopsAt (forms ++ others) n first e
stops_behind forms others n m first next (RefusedText fault) one other =
    λ more. ap (λ (fs : List Form). forms_fault n fs first) (append_assoc forms others more) ∙ (one (others ++ more) ∙ other more)
stops_behind forms others n m first next NoMemory one other = tt

pub stops_before : (forms others : List Form) (n : ℕ) (first : List (List ℕ)) (e : TraceError) → StopsAt forms n first e → StopsAt (forms ++ others) n first e
stops_before forms others n first (RefusedText fault) stops = λ more. ap (λ (fs : List Form). forms_fault n fs first) (append_assoc forms others more)
    ∙ stops (others ++ more)
stops_before forms others n first NoMemory stops = tt

-- the number that a line tells, counted from the lines before it
pub count_behind : (i : ℕ) (lines rest : List (List ℕ)) → rest ≡ drop i lines → count_at lines i ≡ count_at rest 0
count_behind i lines rest is = ap (λ (whole : List ℕ). number_at (words_in whole) 1) (ap (λ (k : ℕ). get_or lines k []) (sym (add-zero i))
    ∙ (sym (get_or-drop i lines 0 []) ∙ ap (λ (ls : List (List ℕ)). get_or ls 0 []) (sym is)))

-- The first line of a report.
pub first_missing : (n : ℕ) (lines : List (List ℕ)) (e : TraceError) → n ≡ 0 → IsMissing (n + 1) lines e →
    IsWhy (forms_fault 1 (report_form ∷ []) (take 1 lines)) e
unfolding forms_fault
first_missing n lines e start missing = rw (missing.1, missing.0, start) refl

pub first_good : (n m : ℕ) (text whole behind : List ℕ) → NextLine n text whole m behind → report_line_fault report_form whole ≡ None →
    forms_fault 1 (report_form ∷ []) (take 1 (whole_lines text)) ≡ None
unfolding forms_fault
first_good n m text whole behind next good = rw (next.lines, good) refl

pub first_bad : (n m : ℕ) (text whole behind : List ℕ) (e : LineError) → n ≡ 0 → NextLine n text whole m behind →
    Because (report_line_fault report_form whole) e → IsWhy (forms_fault 1 (report_form ∷ []) (take 1 (whole_lines text))) (at_line m e)
unfolding forms_fault
first_bad n m text whole behind (Refused cause) start next because = rw (next.lines, because, next.number, start) refl
first_bad n m text whole behind Memory start next because = tt

pub first_told : (n m version : ℕ) (text whole behind : List ℕ) → NextLine n text whole m behind → version_in (words_in whole) ≡ version →
    report_version (whole_lines text) ≡ version
first_told n m version text whole behind next told = rw next.lines told

-- The lines behind the trace.
pub count_further : (i k n : ℕ) (lines rest : List (List ℕ)) → rest ≡ drop i lines → i + k ≡ n → count_at lines n ≡ count_at rest k
count_further i k n lines rest is same = ap (λ (whole : List ℕ). number_at (words_in whole) 1) (ap (λ (j : ℕ). get_or lines j []) (sym same)
    ∙ (sym (get_or-drop i lines k []) ∙ ap (λ (ls : List (List ℕ)). get_or ls k []) (sym is)))

pub forms_are : (version kernels number held : ℕ) (lines : List (List ℕ)) → count_at lines 0 ≡ number → count_at lines (number + 4) ≡ held →
    forms_behind version kernels lines ≡ count_form (codes "journal") ∷ (replicate number (entry_form version kernels) ++ audit_forms version held)
unfolding forms_behind
forms_are version kernels number held lines is is' = rw (is, is') refl

pub drop_entries : (number : ℕ) (lines rest behind : List (List ℕ)) → rest ≡ drop 1 lines → behind ≡ drop number rest → behind ≡ drop (number + 1) lines
drop_entries number lines rest behind one more = more ∙ (ap (drop number) one ∙ (drop-drop number 1 lines ∙ ap (λ (n : ℕ). drop n lines) (omega arith)))

three_parts : (a b c d all rest behind : List ℕ) → all ≡ a ++ rest → rest ≡ b ++ behind → behind ≡ c ++ d → all ≡ a ++ b ++ c ++ d
three_parts a b c d all rest behind first second third = rw (first, second, third) (simp append_assoc)

pub journal_read : (entries : List Entry) (number : ℕ) (all rest behind audit last : List ℕ) → all ≡ line (codes "journal" ∷ decimal number ∷ []) ++ rest →
    rest ≡ text (map entry_words entries) ++ behind → behind ≡ audit ++ last → length entries ≡ number → all ≡ text (journal_lines entries) ++ audit ++ last
journal_read entries number all rest behind audit last first second third count =
    let counted : all ≡ line (codes "journal" ∷ decimal (length entries) ∷ []) ++ rest =
    subst (λ (n : ℕ). all ≡ line (codes "journal" ∷ decimal n ∷ []) ++ rest) (sym count) first in
    three_parts (line (codes "journal" ∷ decimal (length entries) ∷ [])) (text (map entry_words entries)) audit last all rest behind counted second third
