use Rattle.sem_reader.proofs.OneReading.{either, one_setup, one_refusal, never_both}
use Rattle.sem_reader.proofs.laws.one_reading.Goals as goal

pub returns : goal.returns
returns c = record { either = either; one_setup = one_setup; one_refusal = one_refusal; never_both = never_both }
