use Rattle.std.proofs.Common.{◌≡◌, ◌-◌, [], None}
use Rattle.sem_turn.specs.Passes.{new_passes}
use Rattle.sem_turn.specs.Rule.{view, new_shares}
use Rattle.sem_turn.proofs.turn.Turn.split.Given as goal

abbrev pub invariant-loop-kernel : goal.invariant-loop-kernel
invariant-loop-kernel g l =
    (l.seat.table_id ≡ g.N.RunName.table) × (l.seat.me ≡ (view (new_shares l.kernel (l.kernels - l.kernel)) None, [])) × (l.passes ≡ new_passes l.kernel)
