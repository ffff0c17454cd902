use Rattle.std.proofs.Common.{◌∙◌, sym, ap, arith}
use Rattle.std.proofs.lemmas.Bool.{false≢true}
use Rattle.sem_histories.specs.declared.witnesses.Sampled.{Sampled}
use Rattle.sem_outcomes.proofs.Places.{there-at, none-more}
use Rattle.sem_outcomes.proofs.samples.place_of.Goals as goal

pub loop-place-init : goal.loop-place-init
loop-place-init c = λ k d below same. omega (arith, below)

pub returns-then-same_outcome-clause-there : goal.returns-then-same_outcome-clause-there
returns-then-same_outcome-clause-there c =
    let own = ap (λ (x : Sampled). x.witness.outcome) c.sampled.view_is in
    there-at (λ (x : Sampled). x.witness.outcome) c.args.found.now c.args.outcome.now c.loop-place.place c.index-found-place.result
    (omega arith) c.index-found-place.is (sym own ∙ c.same_outcome.ensures.0 c.if-same_outcome.true)

pub loop-place-preserved : goal.loop-place-preserved
loop-place-preserved c =
    let own = ap (λ (x : Sampled). x.witness.outcome) c.sampled.view_is in
    none-more (λ (x : Sampled). x.witness.outcome) c.args.found.now c.args.outcome.now c.loop-place.place c.index-found-place.result
    (omega arith) c.index-found-place.is (λ same. false≢true (sym c.if-same_outcome.false ∙ c.same_outcome.ensures.1 (own ∙ same))) c.loop-place.invariant

pub returns-clause-none : goal.returns-clause-none
returns-clause-none c = λ k d here same. c.loop-place.invariant k d (omega (arith, here)) same
