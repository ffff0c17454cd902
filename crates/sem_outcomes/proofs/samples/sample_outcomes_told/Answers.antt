use Rattle.std.proofs.Common.{◌≡◌, ◌+◌, sym, ◌∙◌, ap, subst, arith}
use Rattle.sem_outcomes.specs.Samples.{IsSample, SampleValue}
use Rattle.sem_outcomes.proofs.Sampling.{sample-none, sample-same}
use Rattle.sem_outcomes.proofs.samples.sample_outcomes_told.Goals as goal

pub loop-count-init : goal.loop-count-init
loop-count-init g c =
    let is = c.new-sample.ensures in
    let T = c.args.setup.now in
    let from = c.args.from in (
      ap (λ (s : SampleValue). s.from) is,
      ap (λ (s : SampleValue). s.seeds) is,
      subst (IsSample T from 0) (sym (ap (λ (s : SampleValue). s.found) is)) (sample-none T from),
    )

pub next-requires-clause-range : goal.next-requires-clause-range
next-requires-clause-range g c = omega (arith, c.loop-count.invariant.0, c.loop-count.invariant.1)

pub next-requires-clause-seeds : goal.next-requires-clause-seeds
next-requires-clause-seeds g c = omega (arith, c.loop-count.invariant.1)

pub next-requires-clause-sample : goal.next-requires-clause-sample
next-requires-clause-sample g c =
    let l = c.loop-count in
    sample-same c.args.setup.now l.sample.from c.args.from l.sample.seeds l.count l.sample.found l.invariant.0 l.invariant.1 l.invariant.2

pub loop-count-preserved : goal.loop-count-preserved
loop-count-preserved g c =
    let l = c.loop-count in
    let s = c.next.new.self in
    let from : s.from ≡ c.args.from = c.next.ensures.from ∙ l.invariant.0 in
    let seeds : s.seeds ≡ l.count + 1 = c.in_ok-next.ensures.seeds ∙ ap (λ n. n + 1) l.invariant.1 in
    (from, seeds, sample-same c.args.setup.now c.args.from s.from (l.count + 1) s.seeds s.found (sym from) (sym seeds) c.in_ok-next.ensures.sample)

pub returns : goal.returns
returns g c =
    let l = c.loop-count in
    subst (IsSample c.args.setup.now c.args.from c.args.seeds) (sym c.into_found.ensures)
    (sample-same c.args.setup.now c.args.from c.args.from c.args.seeds l.count l.sample.found (omega arith) (omega arith) l.invariant.2)
