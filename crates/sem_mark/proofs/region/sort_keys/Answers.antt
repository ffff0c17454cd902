use Rattle.std.proofs.Common.{rules}
use Rattle.std.proofs.lemmas.Fn.{dedup_same}
use Rattle.std.proofs.lemmas.List.Sorted.{IsNonDecreasingBy-from_sort_by_key}
use Rattle.sem_key.specs.KeyName.{packed}
use Rattle.sem_mark.proofs.SortedKeys.{same_word, key_set-sorted}
use Rattle.sem_mark.proofs.region.sort_keys.Goals as goal

pub returns-clause-keys : goal.returns-clause-keys
returns-clause-keys c =
    let climbs = IsNonDecreasingBy-from_sort_by_key packed c.sort_unstable_by_key.new.self.items c.sort_unstable_by_key.ensures.sorted
    (λ a r q k. search rules) in
    let done = dedup_same _ same_word _ (λ x y b f' x' y' k. search rules) c.sort_unstable_by_key.new.self.items c.dedup_by.new.self.items
    c.dedup_by.ensures.filtered in
    key_set-sorted c.args.keys.now.items c.sort_unstable_by_key.new.self.items c.dedup_by.new.self.items c.requires c.sort_unstable_by_key.ensures.permutation
    climbs done
