use Rattle.std.proofs.Common.{sym, ap, subst, ◌∙◌}
use Rattle.std.specs.List.{All}
use Rattle.sem_key.specs.KeyName.{IsValidKey}
use Rattle.sem_key.specs.KeyList.{IsRising, key_set}
use Rattle.sem_mark.proofs.SortedKeys.{key_set-rises}
use Rattle.sem_mark.proofs.Orders.{listed-valid, region-sorted, children-same}
use Rattle.sem_mark.proofs.region.mark_region.Goals as goal

-- the keys that were walked to are held
pub sort_keys-requires : goal.sort_keys-requires
sort_keys-requires c = listed-valid c.args.caps.now.caps c.walk_region.ensures.store.keys c.args.root c.walk_region.new.keys.items c.walk_region.ensures.keys

pub returns-clause-keys : goal.returns-clause-keys
returns-clause-keys c = c.sort_keys.ensures.keys
    ∙ region-sorted c.args.caps.now.caps c.walk_region.ensures.store.keys c.args.root c.walk_region.new.keys.items c.walk_region.ensures.keys

pub returns-clause-rising : goal.returns-clause-rising
returns-clause-rising c = subst IsRising (sym c.sort_keys.ensures.keys) (key_set-rises c.walk_region.new.keys.items)

pub returns-clause-links : goal.returns-clause-links
returns-clause-links c =
    let links = c.walk_region.ensures.links in
    c.sort_keys-2.ensures.keys
    ∙ ap key_set links
    ∙ children-same c.args.caps.now.caps c.walk_region.ensures.store.keys c.args.root c.walk_region.new.keys.items c.walk_region.ensures.keys
    (subst (All IsValidKey) links c.walk_region.ensures.valid)
