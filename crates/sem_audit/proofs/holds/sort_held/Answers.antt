use Rattle.std.proofs.Common.{◌≡◌, rules}
use Rattle.std.proofs.lemmas.List.Sorted.{IsNonDecreasingBy-from_sort_by_key, answers_always}
use Rattle.std.proofs.lemmas.Result.{on_ok_weaker}
use Rattle.sem_key.specs.KeyName.{packed}
use Rattle.sem_msg.specs.declared.audit.Held.{Held}
use Rattle.sem_audit.proofs.Order.{ties-kept}
use Rattle.sem_audit.proofs.holds.sort_held.Goals as goal

pub returns : goal.returns
returns c =
    let sorted = c.sort_by_key.new.self.items in
    record {
      order = on_ok_weaker c.sort_by_key.result (λ is. IsNonDecreasingBy-from_sort_by_key (λ (h : Held). packed h.key) sorted is (λ a r q k. search rules))
          c.sort_by_key.ensures.sorted;
      ties = ties-kept c.args.found.now.items sorted
          (c.sort_by_key.ensures.stable (λ (h : Held). packed h.key) (answers_always _ (λ a r. r ≡ packed a.0.now.key) _ (λ a r q k. search rules)));
    }
