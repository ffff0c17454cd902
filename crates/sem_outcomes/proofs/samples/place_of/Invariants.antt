use Rattle.sem_histories.specs.declared.witnesses.Sampled.{Sampled}
use Rattle.sem_outcomes.proofs.Places.{NoneBelow}
use Rattle.sem_outcomes.proofs.samples.place_of.Given as goal

-- none of the first has the outcome
abbrev pub invariant-loop-place : goal.invariant-loop-place
invariant-loop-place l = NoneBelow (λ (x : Sampled). x.witness.outcome) l.found l.outcome l.place
