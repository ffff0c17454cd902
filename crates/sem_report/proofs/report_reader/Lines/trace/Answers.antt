use Rattle.std.proofs.Common.{◌≡◌, ℕ, None, map, sym, List, ◌+◌, length, ◌++◌, ap, ◌∙◌, refl, arith, length-append}
use Rattle.sem_trace.specs.TraceText.{canonical}
use Rattle.sem_report.specs.WholeLines.{whole_lines, content}
use Rattle.sem_report.specs.ReportRefusal.{trace_section, head_fault}
use Rattle.sem_report.proofs.TraceInReport.{section_below, head_refused, section_version, section_refused, section_declares, section_spelled, same_text}
use Rattle.sem_report.proofs.TraceInReport.{section_count}
use Rattle.sem_report.proofs.report_reader.Lines.trace.Goals as goal

pub returns-in-Some-clause-err : goal.returns-in-Some-clause-err
returns-in-Some-clause-err c = head_refused c.args.version _ c.in-Some.fault (sym (rw c.split_section-number.ensures.section at c.in-Some.ensures))

pub line_later-requires : goal.line_later-requires
line_later-requires c =
    let size : length c.args.self.now.rest.now ≡ length c.split_section-number.result.0.now + length c.split_section-number.result.1.now =
    ap length c.split_section-number.ensures.text ∙ length-append _ _ in
    section_below c.split_section-number.result.0.now _ c.in-Err.e c.split_section-number.ensures.section (omega (arith, c.requires.room, size))
    c.in-Err.ensures.refused

pub returns-in-Err-clause-err : goal.returns-in-Err-clause-err
returns-in-Err-clause-err c =
    let head : head_fault c.args.version 2 (map content (trace_section (whole_lines c.args.self.now.rest.now))) ≡ None =
    sym (rw c.split_section-number.ensures.section at c.in_default.ensures) in
    rw c.line_later.ensures (section_refused c.args.version c.split_section-number.result.0.now _ c.in-Err.e c.split_section-number.ensures.section head
    c.in-Err.ensures.refused)

pub returns-in-Some-first_difference-clause-err : goal.returns-in-Some-first_difference-clause-err
returns-in-Some-first_difference-clause-err c =
    let text : c.deref.result.now ≡ canonical c.in-Ok.setup = c.deref.ensures.value ∙ (c.in-Ok-push_trace.ensures.ok ∙ (rw c.clear.ensures.items refl)) in
    let head : head_fault c.args.version 2 (map content (trace_section (whole_lines c.args.self.now.rest.now))) ≡ None =
    sym (rw c.split_section-number.ensures.section at c.in_default.ensures) in
    let spelled = section_spelled c.args.version c.split_section-number.result.0.now c.deref.result.now _ c.in-Ok.setup c.first_difference.result
    c.split_section-number.ensures.section c.in-Ok.ensures.declared head text c.first_difference.ensures in
    rw c.refused.ensures (rw c.in-Some-first_difference.is at spelled)

pub overflow_add-self : goal.overflow_add-self
overflow_add-self c =
    let size : length c.args.self.now.rest.now ≡ length c.split_section-number.result.0.now + length c.split_section-number.result.1.now =
    ap length c.split_section-number.ensures.text ∙ length-append _ _ in
    let many = section_count c.split_section-number.result.0.now _ c.split_section-number.result.2 c.split_section-number.ensures.section
    c.split_section-number.ensures.number in
    omega (arith, c.requires.start, c.requires.room, size, many)

pub returns-clause-ok : goal.returns-clause-ok
returns-clause-ok c =
    let text : c.deref.result.now ≡ canonical c.in-Ok.setup = c.deref.ensures.value ∙ (c.in-Ok-push_trace.ensures.ok ∙ (rw c.clear.ensures.items refl)) in
    let head : head_fault c.args.version 2 (map content (trace_section (whole_lines c.args.self.now.rest.now))) ≡ None =
    sym (rw c.split_section-number.ensures.section at c.in_default.ensures) in
    let spelled = section_spelled c.args.version c.split_section-number.result.0.now c.deref.result.now _ c.in-Ok.setup c.first_difference.result
    c.split_section-number.ensures.section c.in-Ok.ensures.declared head text c.first_difference.ensures in
    rw c.in_default-first_difference.is at spelled

pub returns-clause-declared : goal.returns-clause-declared
returns-clause-declared c = section_declares c.split_section-number.result.0.now _ c.in-Ok.setup c.split_section-number.ensures.section c.in-Ok.ensures.declared

pub returns-clause-read : goal.returns-clause-read
returns-clause-read c =
    let text : c.deref.result.now ≡ canonical c.in-Ok.setup = c.deref.ensures.value ∙ (c.in-Ok-push_trace.ensures.ok ∙ (rw c.clear.ensures.items refl)) in
    let same = same_text 2 c.split_section-number.result.0.now c.deref.result.now c.in_default-first_difference.ensures in
    c.split_section-number.ensures.text ∙ ap (λ (front : List ℕ). front ++ c.split_section-number.result.1.now) (same ∙ text)

pub returns-clause-room : goal.returns-clause-room
returns-clause-room c =
    let size : length c.args.self.now.rest.now ≡ length c.split_section-number.result.0.now + length c.split_section-number.result.1.now =
    ap length c.split_section-number.ensures.text ∙ length-append _ _ in
    let many = section_count c.split_section-number.result.0.now _ c.split_section-number.result.2 c.split_section-number.ensures.section
    c.split_section-number.ensures.number in
    omega (arith, c.requires.start, c.requires.room, size, many)

pub returns-clause-version : goal.returns-clause-version
returns-clause-version c =
    let head : head_fault c.args.version 2 (map content (trace_section (whole_lines c.args.self.now.rest.now))) ≡ None =
    sym (rw c.split_section-number.ensures.section at c.in_default.ensures) in
    section_version c.args.version c.split_section-number.result.0.now _ c.in-Ok.setup c.requires.version c.split_section-number.ensures.section head
    c.in-Ok.ensures.declared
