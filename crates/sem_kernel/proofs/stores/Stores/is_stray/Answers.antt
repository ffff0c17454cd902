use Rattle.std.proofs.Common.{sym, ap, ◌∙◌}
use Rattle.sem_machine.specs.Handles.{is_stray}
use Rattle.sem_kernel.specs.KernelStores.{side_of}
use Rattle.sem_kernel.proofs.stores.Stores.is_stray.Goals as goal

-- at whichever selector the child is to stand
pub returns-in-DelegateReq : goal.returns-in-DelegateReq
returns-in-DelegateReq c =
    c.is_stray_delegate.ensures c.in-DelegateReq.sel
    ∙ sym (ap (is_stray c.args.setup.now c.args.kernel (side_of c.args.self.now)) c.in-DelegateReq.is)
