use Rattle.sem_bytes.proofs.SampleRuns.{sample-setup, sample-runs, sample-reads}
use Rattle.sem_bytes.proofs.laws.bytes_owned_speaks_of_accesses.Goals as goal

pub returns-clause-setup : goal.returns-clause-setup
returns-clause-setup c = sample-setup

pub returns-clause-schedule : goal.returns-clause-schedule
returns-clause-schedule c = sample-runs

pub returns-clause-accesses : goal.returns-clause-accesses
returns-clause-accesses c = sample-reads
