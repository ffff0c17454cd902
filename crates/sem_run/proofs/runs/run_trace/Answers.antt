use Rattle.std.proofs.Common.{◌≡◌, [], refl, ◌∙◌, ap, inl, Some}
use Rattle.sem_machine.specs.Seeded.{drained}
use Rattle.sem_cli.specs.declared.forms.Command.TheVariants.{Run}
use Rattle.sem_run.proofs.Ending.{both-hold, run-ends}
use Rattle.sem_run.proofs.runs.run_trace.Goals as goal

-- a run of the setup that was read
pub returns-in-Ok : goal.returns-in-Ok
returns-in-Ok g c =
    run-ends _ _ _ c.args.seed c.in-Ok.setup (c.in-Ok.ensures.reads (Some (Run c.args.seed))) c.in-Ok.ensures.quiet c.report_run.ensures.schedule
    c.report_run.result.status refl c.report_run.ensures.ends (λ done.
    let from = both-hold (λ s. s.1.journal ≡ []) _ c.boot-started.result c.boot-started.ensures.journal (c.report_run.ensures.drained done) in
    from.2 ∙ ap (λ J. drained c.in-Ok.setup J c.args.seed) from.1)

-- what was read is no trace
pub returns-in-Err : goal.returns-in-Err
returns-in-Err g c = c.in-Err.ensures.refused c.args.seed (Some (Run c.args.seed)) (inl refl)
