use Rattle.std.proofs.Common.{◌∙◌, rules}
use Rattle.std.proofs.lemmas.List.Sorted.{answers_always}
use Rattle.sem_key.specs.KeyName.{packed}
use Rattle.sem_dtu.proofs.Sought.{sought-ok, sought-err}
use Rattle.sem_dtu.proofs.endpoint.has_key.Goals as goal

-- the closure packs a key
pub returns-in-Ok : goal.returns-in-Ok
returns-in-Ok c =
    let facts = c.binary_search_by_key.ensures in
    let by_word = facts.position packed (answers_always _ _ _ (λ f a r g called. search rules)) in
    c.same_key.ensures
    ∙ sought-ok c.args.keys.now c.requires c.args.key c.binary_search_by_key.result c.in-Ok.at c.index-keys-at.result c.in-Ok.is facts.bound
    (rw c.pack.ensures.word at by_word) c.index-keys-at.is

pub returns-in-Err : goal.returns-in-Err
returns-in-Err c =
    let facts = c.binary_search_by_key.ensures in
    let by_word = facts.position packed (answers_always _ _ _ (λ f a r g called. search rules)) in
    sought-err c.args.keys.now c.requires c.args.key c.binary_search_by_key.result c.in-Err.field-0 c.in-Err.is (rw c.pack.ensures.word at by_word)
