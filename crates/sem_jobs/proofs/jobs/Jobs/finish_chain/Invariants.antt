use Rattle.std.proofs.Common.{◌≡◌, ◌+◌, ◌≤◌, ◌++◌, length, vec_len, vec_capacity, IfSome, IsSome}
use Rattle.std.specs.Option.{option_and_then}
use Rattle.sem_msg.specs.JobRows.{job_of}
use Rattle.sem_jobs.specs.Chain.{chain, chain_of}
use Rattle.sem_jobs.proofs.jobs.Jobs.finish_chain.Given as goal

-- each turn takes a job out
abbrev pub decreases-loop-next : goal.decreases-loop-next
decreases-loop-next l = length l.self.jobs

-- the jobs that were taken out so far, and those of the chain that is left, are those of the whole chain
abbrev pub invariant-loop-next : goal.invariant-loop-next
invariant-loop-next l =
    let rest = chain (length l.self.jobs) (option_and_then (job_of l.self.jobs) l.next) l.self.jobs in
    record {
      there : IfSome l.next (λ j. IsSome (job_of l.self.jobs j));
      out : l.out.items ++ rest.gone ≡ l.fn.out.items ++ (chain_of l.fn.job l.fn.self.jobs).gone;
      left : rest.left ≡ (chain_of l.fn.job l.fn.self.jobs).left;
      drawn : l.self.next ≡ l.fn.self.next;
      spare : l.fn.self.spare ≤ l.self.spare;
      room : vec_len l.out + length l.self.jobs ≤ vec_capacity l.out;
      capacity : vec_capacity l.out ≡ vec_capacity l.fn.out;
    }
