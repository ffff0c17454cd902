use Rattle.std.proofs.Common.{◌≡◌, ◌+◌, length, vec_len, None}
use Rattle.std.specs.Prelude.{All}
use Rattle.std.specs.List.{AllZip}
use Rattle.sem_node.specs.Running.{HasRun}
use Rattle.sem_node.proofs.run.taken_out.Given as goal

abbrev pub invariant-loop-node : goal.invariant-loop-node
invariant-loop-node g l = record {
  run : AllZip (HasRun g.N.RunName.setup) l.kernels.items l.passes;
  free : All (λ p. p.taken ≡ None) l.passes;
  count : length l.passes + vec_len l.nodes ≡ vec_len l.fn.nodes;
}

abbrev pub decreases-loop-node : goal.decreases-loop-node
decreases-loop-node g l = vec_len l.nodes
