use Rattle.std.proofs.Common.{◌≡◌, ◌+◌, ◌≤◌, length, vec_capacity, IfSome, IsSome}
use Rattle.std.specs.List.{All}
use Rattle.std.specs.Option.{option_and_then}
use Rattle.sem_msg.specs.Rows.{JobRow}
use Rattle.sem_msg.specs.JobRows.{job_of}
use Rattle.sem_msg.specs.Outboxes.{HasBoxes}
use Rattle.sem_machine.specs.Sides.{Side}
use Rattle.sem_machine.specs.Revokes.{finish}
use Rattle.sem_sweep.specs.Sweeping.{CanSweepCap, IsUpOf, sweeping}
use Rattle.sem_sweep.proofs.sweeps.sweep.Given as goal

abbrev pub decreases-loop-next : goal.decreases-loop-next
decreases-loop-next l = length l.jobs.jobs

-- what finishing the jobs that are left gives is what finishing all gives
abbrev pub invariant-loop-next : goal.invariant-loop-next
invariant-loop-next l = record {
  there : IfSome l.next (λ j. IsSome (job_of l.jobs.jobs j));
  ours : l.vpes.ours ≡ l.fn.vpes.ours;
  caps : All (CanSweepCap l.setup l.kernel) l.caps.caps;
  ups : All (λ (x : JobRow). IsUpOf l.setup x.up) l.jobs.jobs;
  boxes : HasBoxes l.setup l.outs;
  spare : l.fn.outs.spare + length l.jobs.jobs ≤ l.outs.spare + length l.fn.jobs.jobs;
  job_spare : l.fn.jobs.spare ≤ l.jobs.spare;
  caps_spare : l.fn.caps.spare ≤ l.caps.spare;
  count : length l.caps.caps ≤ length l.fn.caps.caps;
  space : vec_capacity l.scratch.gone ≡ vec_capacity l.fn.scratch.gone;
  keys : vec_capacity l.scratch.keys ≡ vec_capacity l.fn.scratch.keys;
  links : vec_capacity l.scratch.links ≡ vec_capacity l.fn.scratch.links;
  row : (s : Side) → finish l.setup l.kernel (length l.jobs.jobs) (option_and_then (job_of l.jobs.jobs) l.next) (sweeping l.caps l.vpes l.jobs l.park l.outs s)
      ≡ finish l.setup l.kernel (length l.fn.jobs.jobs) (job_of l.fn.jobs.jobs l.fn.job) (sweeping l.fn.caps l.fn.vpes l.fn.jobs l.fn.park l.fn.outs s);
}
