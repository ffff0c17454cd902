use Rattle.std.proofs.Common.{◌≡◌, ℕ, List, [], ◌++◌, length, sym, ◌∙◌, ap, subst}
use Rattle.std.specs.Prelude.{OnOk}
use Rattle.std.proofs.lemmas.Result.{on_ok_weaker}
use Rattle.sem_msg.specs.declared.entry.Entry.{Entry}
use Rattle.sem_msg.specs.Setup.{Setup}
use Rattle.sem_text.specs.Lines.{text}
use Rattle.sem_access.specs.Accesses.{accesses}
use Rattle.sem_access.specs.ContentsText.{access_lines}
use Rattle.sem_mem.proofs.Ordering.{all-before}
use Rattle.sem_query.specs.Denials.{IsDenied}
use Rattle.sem_run.specs.declared.findings.Finding.{Finding}
use Rattle.sem_run.specs.Ends.{IsAnswer}
use Rattle.sem_run.specs.Findings.{question_about, IsFound}
use Rattle.sem_run.proofs.answers.push_answer.Goals as goal

-- the text of the accesses is that of the journal
pub returns-in-Accounted : goal.returns-in-Accounted
returns-in-Accounted c =
    let T : Setup = c.args.setup.now in
    let J : List Entry = c.args.journal.now.entries in
    subst (λ (f : Finding). OnOk c.push_contents.result (IsAnswer (question_about f) T J c.push_contents.new.out.items)) (sym c.in-Accounted.is)
    (on_ok_weaker c.push_contents.result (λ told.
    told (accesses T J) (length J) (subst (IsFound T J) c.in-Accounted.is c.requires.found) (all-before T J)
    ∙ ap (λ bytes. bytes ++ text (access_lines (accesses T J) (length J))) c.requires.empty) c.push_contents.ensures)

-- what is appended to nothing is the answer
alone : (out old : List ℕ) (told : List ℕ) → old ≡ [] → out ≡ old ++ told → out ≡ told
alone out old told none is = is ∙ ap (λ bytes. bytes ++ told) none

pub returns-in-Sighted : goal.returns-in-Sighted
returns-in-Sighted c =
    let T : Setup = c.args.setup.now in
    let J : List Entry = c.args.journal.now.entries in
    subst (λ (f : Finding). OnOk c.push_whereabouts.result (IsAnswer (question_about f) T J c.push_whereabouts.new.out.items)) (sym c.in-Sighted.is)
    (on_ok_weaker c.push_whereabouts.result (λ is. alone _ _ _ c.requires.empty is)
    (c.push_whereabouts.ensures.ok T (subst (IsFound T J) c.in-Sighted.is c.requires.found)))

pub returns-in-Line : goal.returns-in-Line
returns-in-Line c =
    let T : Setup = c.args.setup.now in
    let J : List Entry = c.args.journal.now.entries in
    subst (λ (f : Finding). OnOk c.path.result (IsAnswer (question_about f) T J c.path.new.out.items)) (sym c.in-Line.is)
    (on_ok_weaker c.path.result (λ is. alone _ _ _ c.requires.empty is) c.path.ensures.ok)

pub returns-in-Denial : goal.returns-in-Denial
returns-in-Denial c =
    let T : Setup = c.args.setup.now in
    let J : List Entry = c.args.journal.now.entries in
    subst (λ (f : Finding). OnOk c.denied.result (IsAnswer (question_about f) T J c.denied.new.out.items)) (sym c.in-Denial.is)
    (on_ok_weaker c.denied.result (λ is. subst (IsDenied T J c.in-Denial.entry) (sym (alone _ _ _ c.requires.empty is.2)) is.1) c.denied.ensures.ok)
