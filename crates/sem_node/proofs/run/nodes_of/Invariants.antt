use Rattle.std.proofs.Common.{◌≡◌, ◌+◌, vec_len, None}
use Rattle.std.specs.Prelude.{All}
use Rattle.std.specs.List.{AllZip}
use Rattle.sem_node.specs.Running.{HasRun}
use Rattle.sem_node.proofs.run.nodes_of.Given as goal

abbrev pub invariant-loop-kernel : goal.invariant-loop-kernel
invariant-loop-kernel g l = record {
  run : AllZip (HasRun g.N.RunName.setup) l.kernels.items l.passes;
  free : All (λ p. p.taken ≡ None) l.passes;
  count : vec_len l.nodes + vec_len l.kernels ≡ vec_len l.fn.kernels;
}

abbrev pub decreases-loop-kernel : goal.decreases-loop-kernel
decreases-loop-kernel g l = vec_len l.kernels
