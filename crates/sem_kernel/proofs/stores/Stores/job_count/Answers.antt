use Rattle.std.proofs.Common.{◌≡◌, length, arith}
use Rattle.sem_kernel.specs.KernelStores.{side_of}
use Rattle.sem_kernel.proofs.FewJobs.{few-jobs}
use Rattle.sem_kernel.proofs.stores.Stores.job_count.Goals as goal

pub returns-clause-few : goal.returns-clause-few
returns-clause-few c =
    let few = few-jobs c.args.setup.now c.requires.are.setup c.args.kernel (side_of c.args.self.now) c.requires.are.sound in
    let count : c.len.result ≡ length c.args.self.now.jobs.jobs = c.len.ensures in
    omega (arith, few, count)
