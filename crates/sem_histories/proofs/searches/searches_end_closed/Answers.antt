use Rattle.std.proofs.Common.{[], ◌∷◌}
use Rattle.sem_histories.specs.Closed.{CountsAs}
use Rattle.sem_histories.proofs.Closing.{itself}
use Rattle.sem_histories.proofs.Searching.{searched-start, searched-put, searched-next, searched-closed, represents-last, gone-on-more}
use Rattle.sem_histories.proofs.searches.searches_end_closed.Goals as goal

pub returns-clause-start : goal.returns-clause-start
returns-clause-start c = λ by T. searched-start T (CountsAs by T) (itself by T)

pub returns-clause-put : goal.returns-clause-put
returns-clause-put c = λ by T. searched-put T (CountsAs by T) (itself by T)

pub returns-clause-there : goal.returns-clause-there
returns-clause-there c = λ by T. represents-last T (CountsAs by T) (itself by T)

pub returns-clause-kept : goal.returns-clause-kept
returns-clause-kept c = λ by T V J K. gone-on-more T (CountsAs by T) (itself by T) V (K ∷ []) J

pub returns-clause-next : goal.returns-clause-next
returns-clause-next c = λ by T. searched-next T (CountsAs by T) (itself by T)

pub returns-clause-closed : goal.returns-clause-closed
returns-clause-closed c = λ by T. searched-closed T (CountsAs by T) (itself by T)
