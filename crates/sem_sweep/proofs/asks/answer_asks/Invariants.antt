use Rattle.std.proofs.Common.{◌≡◌, ◌+◌, ◌≤◌, length}
use Rattle.std.specs.List.{All}
use Rattle.sem_key.specs.Lists.{in_turn}
use Rattle.sem_msg.specs.Outboxes.{HasBoxes}
use Rattle.sem_msg.specs.ParkedStates.{state_of}
use Rattle.sem_msg.specs.VpeRows.{row}
use Rattle.sem_machine.specs.Sides.{Side}
use Rattle.sem_machine.specs.Ends.{ask_ended}
use Rattle.sem_machine.specs.Stores.{with_vpes_parks_outs}
use Rattle.sem_sweep.specs.Sweeping.{CanOwe, HasAsker, unasked}
use Rattle.sem_sweep.proofs.asks.answer_asks.Given as goal

abbrev pub decreases-loop-ask : goal.decreases-loop-ask
decreases-loop-ask l = length (row l.vpes.rows l.vpe).asks

-- to answer the asks that are left is to answer all
abbrev pub invariant-loop-ask : goal.invariant-loop-ask
invariant-loop-ask l = record {
  ours : l.vpes.ours ≡ l.fn.vpes.ours;
  askers : All (HasAsker l.setup) (row l.vpes.rows l.vpe).asks;
  owes : CanOwe l.setup (state_of l.park l.vpe);
  boxes : HasBoxes l.setup l.outs;
  spare : l.fn.outs.spare + length (row l.vpes.rows l.vpe).asks ≤ l.outs.spare + length (row l.fn.vpes.rows l.vpe).asks;
  row : (s : Side) → in_turn (ask_ended l.setup l.kernel) (row l.vpes.rows l.vpe).asks (unasked l.vpe (with_vpes_parks_outs l.vpes.rows l.park l.outs.boxes s))
      ≡ in_turn (ask_ended l.setup l.kernel) (row l.fn.vpes.rows l.vpe).asks (unasked l.vpe (with_vpes_parks_outs l.fn.vpes.rows l.fn.park l.fn.outs.boxes s));
}
