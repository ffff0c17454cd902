use Rattle.sem_fs.proofs.ClientCalls.{IsBehind}
use Rattle.sem_fs.proofs.calls.push_calls.Given as goal

abbrev pub invariant-loop-command : goal.invariant-loop-command
invariant-loop-command l = IsBehind l.files l.client l.command-index l.initial.calls l.calls l.handles
