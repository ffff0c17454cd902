use Rattle.std.proofs.Common.{◌∷◌, []}
use Rattle.sem_trace.specs.declared.fault.Cause.{Cause}
use Rattle.sem_trace.specs.Forms.{Place}
use Rattle.sem_trace.specs.Places.{Fails}
use Rattle.sem_trace.proofs.PlaceSteps.{no_place, if_missing}
use Rattle.sem_trace.proofs.cursor.Words.word.Goals as goal

pub returns-clause-err : goal.returns-clause-err
returns-clause-err c =
    rw c.ok_or.ensures.value (if_missing c.next_word.result _ _ (λ (cause : Cause). (place : Place) →
    Fails (place ∷ []) c.args.self.now c.next_word.new.self cause) c.next_word.ensures (λ none place places. no_place places place _ none.0))
