use Rattle.std.proofs.Common.{◌+◌, ◌≤◌, List, rules, sym, ◌∙◌, ap, subst}
use Rattle.sem_access.specs.declared.run.Run.{Run}
use Rattle.sem_access.specs.Runs.{AreRuns, IsNewer, entry_at}
use Rattle.sem_mem.proofs.Overwriting.{overwritten-tells, overwritten-runs, overwritten-newest}
use Rattle.sem_mem.proofs.memory.Memory.write.Goals as goal

pub invariant_of-self : goal.invariant_of-self
invariant_of-self c =
    let some : 1 ≤ c.args.len = search rules in
    record {
      chunks = record {
        sized = c.in_ok-overwrite.ensures.sized;
        runs = subst AreRuns (sym c.in_ok-overwrite.ensures.ok)
            (overwritten-runs _ c.args.base c.args.len c.args.entry some c.requires.range c.self.invariant.chunks.runs (rw c.self.view_is c.requires.newer));
      };
      begin = c.in_ok-overwrite.ensures.begin;
    }

pub returns-in_ok-overwrite-clause-written : goal.returns-in_ok-overwrite-clause-written
returns-in_ok-overwrite-clause-written c a = rw (sym c.self.view_is) (ap (λ (rs : List Run). entry_at rs a) c.in_ok-overwrite.ensures.ok
    ∙ overwritten-tells _ c.args.base c.args.len c.args.entry a)

pub returns-in_ok-overwrite-clause-newest : goal.returns-in_ok-overwrite-clause-newest
returns-in_ok-overwrite-clause-newest c = subst (λ (rs : List Run). IsNewer rs (c.args.entry + 1)) (sym c.in_ok-overwrite.ensures.ok)
    (overwritten-newest _ c.args.base c.args.len c.args.entry (rw c.self.view_is c.requires.newer))
