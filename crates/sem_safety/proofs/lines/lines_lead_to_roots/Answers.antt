use Rattle.sem_safety.proofs.GrownLines.{line-is_lineage, line-stays, line-new, line-enough, line-grown, line-above}
use Rattle.sem_safety.proofs.lines.lines_lead_to_roots.Goals as goal

pub returns-clause-lineage : goal.returns-clause-lineage
returns-clause-lineage c = line-is_lineage

pub returns-clause-stays : goal.returns-clause-stays
returns-clause-stays c = line-stays

pub returns-clause-child : goal.returns-clause-child
returns-clause-child c = line-new

pub returns-clause-enough : goal.returns-clause-enough
returns-clause-enough c = line-enough

pub returns-clause-there : goal.returns-clause-there
returns-clause-there c = line-grown

pub returns-clause-above : goal.returns-clause-above
returns-clause-above c = line-above
