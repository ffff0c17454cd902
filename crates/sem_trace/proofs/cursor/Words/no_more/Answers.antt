use Rattle.std.proofs.Common.{refl}
use Rattle.sem_trace.specs.Forms.{form_fault}
use Rattle.sem_trace.proofs.cursor.Words.no_more.Goals as goal

pub returns-in-Some : goal.returns-in-Some
unfolding form_fault
returns-in-Some c = rw c.in-Some.ensures refl

pub returns-in-None : goal.returns-in-None
unfolding form_fault
returns-in-None c = rw c.in-None.ensures.0 refl
