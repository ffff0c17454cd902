use Rattle.sem_histories.specs.declared.witnesses.Listed.{Listed}
use Rattle.sem_outcomes.proofs.Places.{NoneBelow}
use Rattle.sem_outcomes.proofs.listings.place_of.Given as goal

-- none of the first has the outcome
abbrev pub invariant-loop-place : goal.invariant-loop-place
invariant-loop-place l = NoneBelow (λ (x : Listed). x.witness.outcome) l.found l.outcome l.place
