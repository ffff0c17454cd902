use Rattle.std.proofs.Common.{sym, ap, ◌∙◌}
use Rattle.sem_report.specs.Audited.{audited}
use Rattle.sem_run.proofs.FoundVerdicts.{tells-complete, due-fits, due-report, is-report}
use Rattle.sem_run.proofs.judging.judge_audit.Goals as goal

pub other_line-requires-clause-due : goal.other_line-requires-clause-due
other_line-requires-clause-due c =
    let T = c.args.setup in
    let J = c.args.journal.entries in
    let told = c.args.told.now in
    due-fits (audited T J told) T J told c.requires.told c.requires.complete c.args.due c.requires.due

-- the audits are the same
pub returns-then-same_audit-clause-verdict : goal.returns-then-same_audit-clause-verdict
returns-then-same_audit-clause-verdict c =
    let T = c.args.setup in
    let J = c.args.journal.entries in
    let told = c.args.told.now in
    let tells = c.requires.told in (
      tells-complete (audited T J told) T J told tells c.requires.complete c.args.due c.requires.due,
      ap (audited T J) (c.same_audit.ensures.0 c.if-same_audit.true)
          ∙ due-report (audited T J told) T J told tells c.requires.complete c.args.due c.requires.due,
    )

-- the audit is as it is due
pub returns-in-None-clause-verdict : goal.returns-in-None-clause-verdict
returns-in-None-clause-verdict c =
    let T = c.args.setup in
    let J = c.args.journal.entries in
    let told = c.args.told.now in
    let tells = c.requires.told in (
      tells-complete (audited T J told) T J told tells c.requires.complete c.args.due c.requires.due,
      is-report (audited T J told) T J told tells c.requires.complete c.args.due c.requires.due (sym c.in-None.is ∙ c.in_ok-other_line.ensures),
    )

-- a line of it is not
pub returns-in-Some-clause-verdict : goal.returns-in-Some-clause-verdict
returns-in-Some-clause-verdict c =
    let T = c.args.setup in
    let J = c.args.journal.entries in
    let told = c.args.told.now in (
      T,
      J,
      tells-complete (audited T J told) T J told c.requires.told c.requires.complete c.args.due c.requires.due,
      sym c.in_ok-other_line.ensures ∙ c.in-Some.is,
    )
