use Rattle.sem_fits.proofs.Entries.{entries-fit}
use Rattle.sem_fits.proofs.ranges.entries_fit.Goals as goal

pub returns : goal.returns
returns c = entries-fit
