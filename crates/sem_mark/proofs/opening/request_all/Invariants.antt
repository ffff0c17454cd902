use Rattle.std.proofs.Common.{◌≡◌, ◌+◌, ◌≤◌, length, take}
use Rattle.sem_key.specs.Lists.{in_turn}
use Rattle.sem_msg.specs.Outboxes.{HasBoxes}
use Rattle.sem_machine.specs.Sides.{Side}
use Rattle.sem_machine.specs.Revokes.{request_or_adopt}
use Rattle.sem_machine.specs.Stores.{with_caps, with_jobs, with_outs}
use Rattle.sem_mark.specs.Walks.{HasCount}
use Rattle.sem_mark.proofs.opening.request_all.Given as goal

-- the first keys were asked for or adopted
abbrev pub invariant-loop-at : goal.invariant-loop-at
invariant-loop-at l = record {
  row : (s : Side) → with_caps l.caps.caps (with_jobs l.jobs.jobs l.jobs.next (with_outs l.outs.boxes s))
      ≡ in_turn (request_or_adopt l.setup l.kernel l.job) (take l.at l.keys)
      (with_caps l.caps.caps (with_jobs l.fn.jobs.jobs l.fn.jobs.next (with_outs l.fn.outs.boxes s)));
  count : HasCount l.jobs.jobs l.job l.at;
  boxes : HasBoxes l.setup l.outs;
  sent : l.fn.outs.spare ≤ l.outs.spare + l.at;
  spare : length l.keys ≤ l.outs.spare + l.at;
  job_spare : l.jobs.spare ≡ l.fn.jobs.spare;
}
