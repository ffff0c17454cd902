use Rattle.std.proofs.Common.{◌≡◌, ◌+◌, take, get_or, sym, ◌∙◌, ap, arith}
use Rattle.std.proofs.lemmas.List.Elements.{All-get_or}
use Rattle.sem_access.specs.declared.run.Run.{Run}
use Rattle.sem_access.specs.declared.look.Look.{Look}
use Rattle.sem_access.specs.LastWrites.{looked}
use Rattle.sem_access.specs.Runs.{run_of, IsValidRun, entry_at}
use Rattle.sem_mem.specs.Writing.{shared, with_run}
use Rattle.sem_mem.proofs.KeptRuns.{each-run}
use Rattle.sem_mem.proofs.Looking.{start-found, next-found, next-few}
use Rattle.sem_mem.proofs.looks.look_in.Goals as goal

pub loop-run-init : goal.loop-run-init
loop-run-init c = start-found c.args.base c.args.len

pub with_run-found-requires-clause-run : goal.with_run-found-requires-clause-run
with_run-found-requires-clause-run c = All-get_or IsValidRun c.args.runs.now c.loop-run.run-index (run_of 0 0 0) c.loop-run-test.true
    (each-run c.args.runs.now c.requires.runs)

pub with_run-found-requires-clause-few : goal.with_run-found-requires-clause-few
with_run-found-requires-clause-few c =
    let r : Run = get_or c.args.runs.now c.loop-run.run-index (run_of 0 0 0) in
    let few = next-few c.args.runs.now c.loop-run.run-index (run_of 0 0 0) c.args.base c.args.len c.requires.runs c.loop-run-test.true in
    let same : c.loop-run.found.written + shared c.args.base (c.args.base + c.from.result) r
    ≡ (looked (entry_at (take c.loop-run.run-index c.args.runs.now)) c.args.base c.args.len).written + shared c.args.base (c.args.base + c.args.len) r =
    ap (λ (l : Look). l.written + shared c.args.base (c.args.base + c.from.result) r) c.loop-run.invariant
    ∙ ap (λ n. (looked (entry_at (take c.loop-run.run-index c.args.runs.now)) c.args.base c.args.len).written + shared c.args.base (c.args.base + n) r)
    c.from.ensures in
    let range = c.requires.range in
    omega (arith, few, same, range)

pub loop-run-preserved : goal.loop-run-preserved
loop-run-preserved c =
    let r : Run = get_or c.args.runs.now c.loop-run.run-index (run_of 0 0 0) in
    c.with_run-found.ensures
    ∙ (ap (λ n. with_run c.args.base (c.args.base + n) c.loop-run.found r) c.from.ensures
    ∙ (ap (λ l. with_run c.args.base (c.args.base + c.args.len) l r) c.loop-run.invariant
    ∙ sym (next-found c.args.runs.now c.loop-run.run-index (run_of 0 0 0) c.args.base c.args.len c.requires.runs c.loop-run-test.true)))
