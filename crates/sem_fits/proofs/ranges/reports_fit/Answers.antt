use Rattle.std.proofs.Common.{arith}
use Rattle.sem_fits.proofs.Held.{few-held, held-fits}
use Rattle.sem_fits.proofs.Audits.{few-entries, few-made, few-cut}
use Rattle.sem_fits.proofs.Bytes.{short-report}
use Rattle.sem_fits.proofs.ranges.reports_fit.Goals as goal

pub returns-clause-few_entries : goal.returns-clause-few_entries
returns-clause-few_entries c = λ T valid J runs. let few = few-entries T valid J runs in omega (arith, few)

pub returns-clause-few_made : goal.returns-clause-few_made
returns-clause-few_made c = λ T valid J runs. let few = few-made T valid J runs in omega (arith, few)

pub returns-clause-few_cut : goal.returns-clause-few_cut
returns-clause-few_cut c = λ T valid J runs. let few = few-cut T valid J runs in omega (arith, few)

pub returns-clause-few_held : goal.returns-clause-few_held
returns-clause-few_held c = λ T valid J runs. let few = few-held T valid J runs in omega (arith, few)

pub returns-clause-keys : goal.returns-clause-keys
returns-clause-keys c = held-fits

pub returns-clause-bytes : goal.returns-clause-bytes
returns-clause-bytes c = short-report
