use Rattle.sem_trace.proofs.FirstParts.{few_lines}
use Rattle.sem_trace.proofs.cursor.Lines.of.Goals as goal

pub returns-clause-few : goal.returns-clause-few
returns-clause-few c = few_lines c.args.text.now
