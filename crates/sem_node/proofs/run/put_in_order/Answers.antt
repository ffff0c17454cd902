use Rattle.std.proofs.Common.{rules}
use Rattle.std.proofs.lemmas.List.Sorted.{IsNonDecreasingBy-from_sort, answers_always}
use Rattle.sem_kernel.specs.KernelValue.{KernelValue}
use Rattle.sem_node.proofs.run.put_in_order.Goals as goal

pub returns-clause-order : goal.returns-clause-order
returns-clause-order c =
    let id = λ (k : KernelValue). k.id in
    IsNonDecreasingBy-from_sort id _ (c.sort_unstable_by_key.ensures.sorted id (answers_always _ _ _ (λ f a r g h. search rules)))
