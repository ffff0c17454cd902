use Rattle.std.proofs.Common.{[], ◌∷◌}
use Rattle.sem_trace.specs.Forms.Place.{Word}
use Rattle.sem_trace.proofs.PlaceSteps.{faults, another_word}
use Rattle.sem_trace.proofs.WordReads.{read_name}
use Rattle.sem_trace.proofs.cursor.Words.fixed.Goals as goal

pub returns-then-eq : goal.returns-then-eq
returns-then-eq c = read_name c.in_ok-word.word.now c.args.name.now _ _ _ c.if-eq.true c.eq.ensures c.in_ok-word.ensures.ok

pub returns-else-eq : goal.returns-else-eq
returns-else-eq c places = faults places (Word (c.args.name.now ∷ [])) _ _ _ _ c.in_ok-word.ensures.ok
    (another_word c.in_ok-word.word.now c.args.name.now _ c.if-eq.false c.eq.ensures)
