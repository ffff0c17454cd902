use Rattle.std.proofs.Common.{[], ap, sym, ◌∙◌, subst, arith}
use Rattle.std.specs.List.{All}
use Rattle.std.proofs.lemmas.List.{take_all}
use Rattle.std.proofs.lemmas.List.Sorted.{IsPermutation-sym, Contains-permutation, All-permutation}
use Rattle.sem_key.specs.KeyName.{IsValidKey}
use Rattle.sem_mark.proofs.SortedKeys.{key_set-same}
use Rattle.sem_grants.proofs.Reading.{with_keys, with_keys-none, set_more, valid_more}
use Rattle.sem_grants.proofs.cuts.set_of.Goals as goal
use Rattle.sem_grants.proofs.cuts.set_of.Goals.{After-loop-key}

pub loop-key-init : goal.loop-key-init
loop-key-init c = record { keys = c.new-keys.ensures ∙ sym (with_keys-none []); valid = λ k d within. absurd (omega arith) }

-- one key more
pub loop-key-preserved : goal.loop-key-preserved
loop-key-preserved c = record {
  keys = set_more c.deref-key-items.result.now c.loop-key.key-index c.key-item.result _ _ c.loop-key-test.true c.key-item.is c.loop-key.invariant.keys
      c.in_ok-add.ensures.keys;
  valid = valid_more c.deref-key-items.result.now c.loop-key.key-index c.key-item.result c.loop-key-test.true c.key-item.is c.loop-key.invariant.valid
      c.in_ok-add.ensures.valid;
}

-- all keys were added
all_valid : (c : After-loop-key) → All IsValidKey c.sort_unstable_by_key.new.self.items
all_valid c = subst (All IsValidKey) (take_all c.loop-key.key-index c.deref-key-items.result.now (omega arith) ∙ c.deref-key-items.ensures.value)
    c.loop-key.invariant.valid

pub returns-clause-keys : goal.returns-clause-keys
returns-clause-keys c =
    let found = c.args.found.items in
    let sorted = c.sort_unstable_by_key.new.self.items in
    let moved = c.sort_unstable_by_key.ensures.permutation in
    c.loop-key.invariant.keys
    ∙ (ap (with_keys []) (take_all c.loop-key.key-index c.deref-key-items.result.now (omega arith) ∙ c.deref-key-items.ensures.value)
    ∙ key_set-same sorted found (all_valid (goal.at.returns-clause-keys c).After-loop-key)
    (λ k there. Contains-permutation sorted found k (IsPermutation-sym found sorted moved) there) (λ k there. Contains-permutation found sorted k moved there))

pub returns-clause-valid : goal.returns-clause-valid
returns-clause-valid c =
    let found = c.args.found.items in
    let sorted = c.sort_unstable_by_key.new.self.items in
    All-permutation IsValidKey sorted found (IsPermutation-sym found sorted c.sort_unstable_by_key.ensures.permutation)
    (all_valid (goal.at.returns-clause-valid c).After-loop-key)
