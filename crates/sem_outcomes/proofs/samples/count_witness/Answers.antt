use Rattle.std.proofs.Common.{ap}
use Rattle.sem_histories.specs.Listing.{Witness}
use Rattle.sem_outcomes.proofs.Sampling.{sampled-again-at}
use Rattle.sem_outcomes.proofs.samples.count_witness.Goals as goal

pub returns-in-Some-clause-ok : goal.returns-in-Some-clause-ok
returns-in-Some-clause-ok c =
    sampled-again-at c.args.found.now.items c.args.witness c.args.seed c.in-Some.place c.index_mut.result.now c.witness.inside.outcome
    c.index_mut.ensures.value (rw c.as_slice.ensures.value at c.in-Some.ensures.there) (ap (λ (w : Witness). w.outcome) c.witness.view_is)
