use Rattle.std.proofs.Common.{◌≡◌, arith, sym, ap, subst}
use Rattle.sem_outcomes.specs.Samples.{IsSample, SampleValue}
use Rattle.sem_outcomes.proofs.Sampling.{few-counted, sample-next}
use Rattle.sem_outcomes.proofs.samples.Sample.next.Goals as goal

pub count_witness-requires : goal.count_witness-requires
count_witness-requires c = λ k d here.
    let is = subst (λ (v : SampleValue). IsSample c.args.setup.now v.from v.seeds v.found) (sym c.self.view_is) c.requires.sample in
    let few = few-counted c.args.setup.now c.self.inside.from c.self.inside.seeds c.self.inside.found.items is k d here in
    let range = c.requires.seeds in
    let same : c.self.inside.seeds ≡ c.args.self.now.seeds = ap (λ (v : SampleValue). v.seeds) c.self.view_is in
    omega (arith, few, range, same)

pub returns-clause-sample : goal.returns-clause-sample
returns-clause-sample c =
    let is = subst (λ (v : SampleValue). IsSample c.args.setup.now v.from v.seeds v.found) (sym c.self.view_is) c.requires.sample in
    sample-next c.args.setup.now c.self.inside.from c.self.inside.seeds c.self.inside.found.items is
    c.in_ok-witness.witness c.count_witness.new.found.items c.in_ok-witness.ensures c.in_ok-count_witness.ensures.ok
