use Rattle.std.proofs.Common.{◌≡◌, [], refl, ◌∙◌, ap, Some}
use Rattle.sem_machine.specs.Seeded.{drained}
use Rattle.sem_cli.specs.declared.forms.Command.TheVariants.{Files}
use Rattle.sem_run.proofs.Ending.{both-hold, files-end}
use Rattle.sem_run.proofs.services.run_files.Goals as goal

-- a run of what the commands are compiled to
pub returns-in-Ok : goal.returns-in-Ok
returns-in-Ok g c =
    files-end _ _ _ c.args.seed c.in-Ok.setup (c.in-Ok.ensures.reads (Some (Files c.args.seed))) c.in-Ok.ensures.quiet c.report_run.ensures.schedule refl
    c.report_run.result.status c.report_run.ensures.ends (λ done.
    let from = both-hold (λ s. s.1.journal ≡ []) _ c.boot-started.result c.boot-started.ensures.journal (c.report_run.ensures.drained done) in
    from.2 ∙ ap (λ J. drained c.in-Ok.setup J c.args.seed) from.1)

-- what was read is no text of file commands
pub returns-in-Err : goal.returns-in-Err
returns-in-Err g c = c.in-Err.ensures.refused c.args.seed (Some (Files c.args.seed)) refl
