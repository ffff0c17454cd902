use Rattle.std.proofs.Common.{◌+◌, ◌∙◌, Some, ap, sym}
use Rattle.sem_report.proofs.AuditLines.{is-made_line, made-differ, cut-differ, counts-differ, none-differ, key-differs}
use Rattle.sem_report.proofs.audits.audit_difference.Goals as goal

-- how many keys were made
pub returns-then-told-due : goal.returns-then-told-due
returns-then-told-due c T J spelled fits fits' =
    let is = is-made_line T J _ c.args.told.now c.args.due.now spelled fits fits' _ c.made_line.ensures.line in
    ap Some is ∙ made-differ T J _ c.args.told.now c.args.due.now spelled fits fits' c.if-told-due.true

-- how many were cut off
pub returns-then-told-due-2 : goal.returns-then-told-due-2
returns-then-told-due-2 c T J spelled fits fits' =
    let is = is-made_line T J _ c.args.told.now c.args.due.now spelled fits fits' _ c.made_line-then-told-due-2.ensures.line in
    ap (λ n. Some (n + 1)) is ∙ cut-differ T J _ c.args.told.now c.args.due.now spelled fits fits' c.if-told-due.false c.if-told-due-2.true

-- how many are held
pub returns-then-len : goal.returns-then-len
returns-then-len c T J spelled fits fits' =
    let is = is-made_line T J _ c.args.told.now c.args.due.now spelled fits fits' _ c.made_line-then-len.ensures.line in
    ap (λ n. Some (n + 2)) is
    ∙ counts-differ T J _ c.args.told.now c.args.due.now spelled fits fits' c.if-told-due.false c.if-told-due-2.false (λ same. c.if-len.true (c.len.ensures
    ∙ (same ∙ sym c.len-2.ensures)))

-- a key that is held
pub returns-in-Some : goal.returns-in-Some
returns-in-Some c T J spelled fits fits' =
    let is = is-made_line T J _ c.args.told.now c.args.due.now spelled fits fits' _ c.made_line-in-Some.ensures.line in
    let count = sym c.len.ensures ∙ (c.if-len.false ∙ c.len-2.ensures) in
    ap (λ n. Some (n + 3 + c.in-Some.key)) is
    ∙ key-differs T J _ c.args.told.now c.args.due.now spelled fits fits' c.if-told-due.false c.if-told-due-2.false count c.in-Some.key
    (rw (c.as_slice.ensures, c.as_slice-2.ensures) at c.in-Some.ensures)

-- nothing
pub returns-in-None : goal.returns-in-None
returns-in-None c T J spelled fits fits' =
    let count = sym c.len.ensures ∙ (c.if-len.false ∙ c.len-2.ensures) in
    let same = sym c.as_slice.ensures ∙ (c.in-None.ensures ∙ c.as_slice-2.ensures) in
    none-differ T J _ c.args.told.now c.args.due.now spelled fits fits' c.if-told-due.false c.if-told-due-2.false count same
