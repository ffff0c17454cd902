use Rattle.std.proofs.Common.{List, [], ◌++◌, ◌∙◌, ap}
use Rattle.std.specs.List.{filter}
use Rattle.sem_key.specs.KeyName.{KeyName}
use Rattle.sem_key.specs.KeyList.{key_set}
use Rattle.sem_machine.specs.Journals.{cut_from, has_ended}
use Rattle.sem_reader.proofs.ReadText.{if_ok}
use Rattle.sem_audit.proofs.Losing.{forest-is}
use Rattle.sem_audit.proofs.forests.forest_keys.Goals as goal

pub returns : goal.returns
returns c =
    let J = c.args.journal.now.entries in
    let made = c.deref.ensures.value ∙ c.in_ok-made.ensures.keys in
    let same = (c.in_ok-cut.ensures ∙ ap (λ (ks : List KeyName). key_set (cut_from [] J ++ filter (λ k. has_ended J k.vpe) ks)) made) in
    if_ok c.keys_without.result _ _ c.keys_without.ensures
    (λ left is. forest-is c.in_ok-lost.lost c.args.setup.now c.made_keys.ensures.valid J c.requires c.in_ok-cut.cut.keys c.deref-2.result.now left.items
    (c.deref-2.ensures.value ∙ c.in_ok-made.ensures.keys) same c.in_ok-lost.ensures is)
