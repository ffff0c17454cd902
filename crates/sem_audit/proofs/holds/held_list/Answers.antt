use Rattle.std.proofs.Common.{◌≡◌, List, map}
use Rattle.std.proofs.lemmas.Result.{IfOk-weaker}
use Rattle.sem_msg.specs.declared.audit.Held.{Held}
use Rattle.sem_msg.specs.Audits.{held_pairs}
use Rattle.sem_kernel.specs.KernelValue.{KernelValue}
use Rattle.sem_machine.specs.HeldKeys.{keys_held}
use Rattle.sem_audit.proofs.Order.{held-is}
use Rattle.sem_audit.proofs.holds.held_list.Goals as goal

-- the list has what was found of all kernels, sorted
pub returns : goal.returns
returns c =
    IfOk-weaker c.list_of.result (λ (list : List Held). list ≡ c.deref.result.now) (λ (list : List Held). held_pairs list
    ≡ keys_held (map (λ (k : KernelValue). k.side) c.args.kernels.now))
    (λ list is. rw (is, c.deref.ensures.value) (held-is (map (λ (k : KernelValue). k.side) c.args.kernels.now) c.in_ok-found.found.items
    c.sort_held.new.found.items c.in_ok-found.ensures c.in_ok-sort_held.ensures.order c.sort_held.ensures.ties))
    c.list_of.ensures
