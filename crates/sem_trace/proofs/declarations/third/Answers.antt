use Rattle.std.proofs.Common.{refl, arith}
use Rattle.sem_trace.specs.Declarations.{declaration}
use Rattle.sem_trace.proofs.declarations.third.Goals as goal

pub returns-clause-value : goal.returns-clause-value
unfolding declaration
returns-clause-value c = rw (c.in_ok-fixed.ensures.spelled, c.in_ok-window.ensures.numbers.values 0 (omega arith)) refl
