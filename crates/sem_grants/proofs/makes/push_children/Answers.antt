use Rattle.std.proofs.Common.{◌≡◌, List, ◌++◌, map, ◌∙◌, ap}
use Rattle.std.proofs.lemmas.List.{map-append}
use Rattle.std.proofs.lemmas.List.Elements.{filter_map-append}
use Rattle.sem_key.specs.KeyName.{KeyName}
use Rattle.sem_msg.specs.declared.entry.Entry.{Entry}
use Rattle.sem_machine.specs.Journals.{grants}
use Rattle.sem_grants.proofs.Reading.{gathered_more}
use Rattle.sem_grants.proofs.makes.push_children.Goals as goal

children : List Entry → List KeyName
children J = map (λ (g : KeyName × KeyName). g.1) (grants J)

children-append : (xs ys : List Entry) → children (xs ++ ys) ≡ children xs ++ children ys
unfolding children
children-append xs ys = ap (map (λ (g : KeyName × KeyName). g.1)) (filter_map-append (λ (e : Entry). e.grant) xs ys)
    ∙ map-append (λ (g : KeyName × KeyName). g.1) (grants xs) (grants ys)

pub loop-at-preserved : goal.loop-at-preserved
unfolding children
loop-at-preserved c = gathered_more children children-append c.args.journal.now.entries c.loop-at.at _ _ _ c.loop-at.invariant c.in_ok-push_child_at.ensures
