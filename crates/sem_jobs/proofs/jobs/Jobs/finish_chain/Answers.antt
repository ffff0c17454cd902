use Rattle.std.proofs.Common.{◌<◌, [], ◌∷◌, length, sym, ◌∙◌, ap, append_assoc, append-nil, arith}
use Rattle.std.specs.Option.{option_and_then}
use Rattle.sem_msg.specs.Rows.{JobRow}
use Rattle.sem_msg.specs.JobRows.{job_of}
use Rattle.sem_jobs.specs.JobStore.{JobStore}
use Rattle.sem_jobs.specs.Chain.{chain}
use Rattle.sem_jobs.proofs.Chains.{IsTurn, turned, chain-none, chain-more, there-found}
use Rattle.sem_jobs.proofs.jobs.Jobs.finish_chain.Goals as goal

-- a job was taken out, and none was added
pub loop-next-smaller : goal.loop-next-smaller
loop-next-smaller c =
    let turn = turned c.loop-next.self.jobs c.take.new.self.jobs c.tell-next.new.self.jobs c.loop-next.self.next c.in-Some.id c.in-Some-take.finished
    c.finished.inside.up _ c.in-Some-take.ensures.store c.in-Some-take.ensures.job c.in-Some-take.ensures.jobs
    (ap (λ (y : JobRow). y.up) c.finished.view_is) (ap (λ (s : JobStore). s.jobs) c.tell-next.ensures.jobs) c.tell-next.ensures.next in
    let less : length c.tell-next.new.self.jobs < length c.loop-next.self.jobs = let one = turn.one_less in omega arith in
    less

-- the chain that is left is what this turn leaves
pub loop-next-preserved : goal.loop-next-preserved
loop-next-preserved c =
    let xs = c.loop-next.self.jobs in
    let x : JobRow = c.in-Some-take.finished in
    let zs = c.tell-next.new.self.jobs in
    let rest = chain (length zs) (option_and_then (job_of zs) c.tell-next.result) zs in
    let turn : IsTurn (chain (length xs) (job_of xs c.in-Some.id) xs) rest x xs zs =
    turned xs c.take.new.self.jobs zs c.loop-next.self.next c.in-Some.id x c.finished.inside.up _ c.in-Some-take.ensures.store c.in-Some-take.ensures.job
    c.in-Some-take.ensures.jobs (ap (λ (y : JobRow). y.up) c.finished.view_is) (ap (λ (s : JobStore). s.jobs) c.tell-next.ensures.jobs)
    c.tell-next.ensures.next in
    let one = turn.one_less in
    let spare = ap (λ (s : JobStore). s.spare) c.tell-next.ensures.jobs in
    record {
      there = c.tell-next.ensures.there;
      out = rw (
        c.push_reserved.ensures.items,
        append_assoc c.loop-next.out.items (x ∷ []) rest.gone,
        ← turn.gone,
      ) (rw c.in-Some.is at c.loop-next.invariant.out);
      left = sym turn.left ∙ rw c.in-Some.is at c.loop-next.invariant.left;
      drawn = ap (λ (s : JobStore). s.next) c.tell-next.ensures.jobs ∙ (c.in-Some-take.ensures.next ∙ c.loop-next.invariant.drawn);
      spare = omega (arith, spare, c.in-Some-take.ensures.spare, c.loop-next.invariant.spare);
      room = omega (arith, one, c.push_reserved.ensures.len, c.push_reserved.ensures.capacity, c.loop-next.invariant.room);
      capacity = c.push_reserved.ensures.capacity ∙ c.loop-next.invariant.capacity;
    }

-- no chain is left
pub returns-clause-out : goal.returns-clause-out
returns-clause-out c =
    let none = chain-none (length c.loop-next.self.jobs) c.loop-next.self.jobs in
    rw (c.in_default.is, none, append-nil) at c.loop-next.invariant.out

pub returns-clause-jobs : goal.returns-clause-jobs
returns-clause-jobs c =
    let none = chain-none (length c.loop-next.self.jobs) c.loop-next.self.jobs in
    rw (c.in_default.is, none) at c.loop-next.invariant.left

-- the chain takes no more turns than there are jobs
pub returns-clause-bound : goal.returns-clause-bound
returns-clause-bound c = λ n few.
    let xs = c.args.self.now.jobs in
    chain-more n (length xs) c.args.self.now.next (job_of xs c.args.job) xs (rw (← c.self.view_is) c.self.invariant.0) (there-found xs c.args.job) few
    (omega arith)
