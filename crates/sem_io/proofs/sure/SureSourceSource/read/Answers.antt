use Rattle.std.proofs.Common.{arith}
use Rattle.std.proofs.lemmas.Grind.{common_steps}
use Rattle.sem_io.proofs.Moves.{piece_then_rest}
use Rattle.sem_io.proofs.sure.SureSourceSource.read.Goals as goal

-- the piece was copied, and the rest comes after it
pub returns-clause-taken : goal.returns-clause-taken
returns-clause-taken c = grind (arith, common_steps, piece_then_rest)
