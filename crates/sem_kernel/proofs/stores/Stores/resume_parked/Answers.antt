use Rattle.sem_kernel.specs.KernelStores.{side_of}
use Rattle.sem_kernel.proofs.Enabled.{resume-here, resume-can}
use Rattle.sem_kernel.proofs.stores.Stores.resume_parked.Goals as goal

pub resume-outcome-requires-clause-can : goal.resume-outcome-requires-clause-can
resume-outcome-requires-clause-can c = record {
  are = c.requires.can.are;
  here = resume-here c.args.setup.now c.args.kernel (side_of c.args.self.now) c.args.vpe c.requires.can.enabled;
}

pub resume-outcome-requires-clause-resumes : goal.resume-outcome-requires-clause-resumes
resume-outcome-requires-clause-resumes c = resume-can c.args.setup.now c.args.kernel (side_of c.args.self.now) c.args.vpe c.requires.can.enabled
