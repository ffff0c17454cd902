use Rattle.std.proofs.Common.{◌∙◌, ap, rules}
use Rattle.sem_jobs.specs.JobStore.{JobStore}
use Rattle.sem_kernel.proofs.Openings.{done-middle}
use Rattle.sem_kernel.specs.KernelStores.{side_of}
use Rattle.sem_kernel.proofs.stores.Stores.token_returned.Goals as goal

pub finish-requires-clause-sound : goal.finish-requires-clause-sound
finish-requires-clause-sound c = done-middle c.args.setup.now c.args.kernel (side_of c.args.self.now) c.requires.are.sound c.args.job c.revoke_done-done.result
    c.revoke_done-done.new.jobs (ap (λ (x : JobStore). x.jobs) c.revoke_done-done.ensures.lowered)
    (ap (λ (x : JobStore). x.next) c.revoke_done-done.ensures.lowered) c.revoke_done-done.ensures.answer

pub returns : goal.returns
returns c = record {
  row = c.finish.ensures.row ∙ c.revoke_done-done.ensures.row c.args.setup.now c.args.kernel c.args.from (side_of c.args.self.now);
  stores = search rules;
}
