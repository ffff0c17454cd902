use Rattle.sem_safety.proofs.Noted.{history-grants, history-cuts, history-cut, history-ended, history-answered, history-entries}
use Rattle.sem_safety.proofs.histories.histories_tell_journals.Goals as goal

pub returns-clause-grants : goal.returns-clause-grants
returns-clause-grants c = history-grants

pub returns-clause-cuts : goal.returns-clause-cuts
returns-clause-cuts c = history-cuts

pub returns-clause-cut : goal.returns-clause-cut
returns-clause-cut c = history-cut

pub returns-clause-ended : goal.returns-clause-ended
returns-clause-ended c = history-ended

pub returns-clause-answered : goal.returns-clause-answered
returns-clause-answered c = history-answered

pub returns-clause-entries : goal.returns-clause-entries
returns-clause-entries c = history-entries
