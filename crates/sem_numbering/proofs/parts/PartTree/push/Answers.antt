use Rattle.std.proofs.Common.{◌∙◌, [], arith, length, get_or, sym, ap, subst}
use Rattle.std.proofs.lemmas.List.{length-map}
use Rattle.std.specs.List.{Contains}
use Rattle.sem_numbering.specs.Nodes.{AreChildren}
use Rattle.sem_numbering.proofs.Children.{lists, more-both, children-kept, children-push}
use Rattle.sem_numbering.proofs.parts.PartTree.push.Goals as goal

pub invariant_of-self-2 : goal.invariant_of-self-2
invariant_of-self-2 c =
    let nodes = c.self.inside.nodes.items in
    let old = lists c.self.inside.children.items in
    let mid = lists c.add_part.new.children.items in
    let new = lists c.add_child.new.children.items in
    let more = more-both old mid new c.in_ok-add_part.ensures.kept c.add_child.ensures.kept in
    let long = c.self.invariant.long in
    let part = c.in_ok-add_part.ensures.long in
    let child = c.add_child.ensures.kept.long in
    let a = length-map c.self.inside.children.items (λ x. x.items) in
    let b = length-map c.add_part.new.children.items (λ x. x.items) in
    let place = c.in_ok-place.ensures.place ∙ ap length c.as_slice.ensures.value in
    let few = c.in_ok-place.ensures.few in
    subst (λ ns. AreChildren ns new) (sym c.in_ok-push.ensures.items)
    (children-push nodes new c.args.from c.args.entry.now (children-kept nodes old new c.self.invariant more)
    (omega (arith, long, part, child, a, b)) (omega (arith, place, few))
    (subst (Contains (get_or new c.args.from [])) place c.in_ok-add_child.ensures.there))
