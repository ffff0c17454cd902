use Rattle.std.proofs.Common.{None, arith}
use Rattle.sem_trace.specs.TraceText.{pe_line}
use Rattle.sem_trace.proofs.LinesSoFar.{text-enumerate-more}
use Rattle.sem_trace.proofs.print.push_owners.Goals as goal

pub loop-pe-preserved : goal.loop-pe-preserved
loop-pe-preserved c = text-enumerate-more pe_line c.args.owners.now.owners c.loop-pe.pe None _ _ _
    (omega arith) c.loop-pe.invariant c.in_ok-push_owner.ensures.ok
