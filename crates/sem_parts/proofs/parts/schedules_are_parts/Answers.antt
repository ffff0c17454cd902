use Rattle.sem_parts.proofs.Together.{schedule-stands, schedule-parts, parts-schedule}
use Rattle.std.proofs.Common.{sym}
use Rattle.sem_parts.proofs.parts.schedules_are_parts.Goals as goal

pub returns-clause-law : goal.returns-clause-law
returns-clause-law c = λ T J. (schedule-parts T J, parts-schedule T J)

pub returns-clause-sides : goal.returns-clause-sides
returns-clause-sides c = λ T J runs i here. sym ((schedule-stands T J runs).sides i here).side

pub returns-clause-links : goal.returns-clause-links
returns-clause-links c = λ T J runs. (schedule-stands T J runs).fabric.linked

pub returns-clause-replies : goal.returns-clause-replies
returns-clause-replies c = λ T J runs. (schedule-stands T J runs).replies
