use Rattle.std.proofs.Common.{◌<◌, ◌≤◌, arith, length, sym, ◌∙◌, subst}
use Rattle.std.proofs.lemmas.List.{length-map}
use Rattle.sem_numbering.specs.Nodes.{HasNoNode}
use Rattle.sem_numbering.proofs.Children.{Others, lists, missing, none-so, read}
use Rattle.sem_numbering.proofs.parts.PartTree.find.Goals as goal

pub returns-clause-none : goal.returns-clause-none
returns-clause-none c =
    let nodes = c.self.inside.nodes.items in
    let children = c.self.inside.children.items in
    let from = c.args.from in
    let by = c.args.event in
    let input = c.args.message.now in
    let long = c.self.invariant.long in
    let many = length-map children (λ x. x.items) in
    let low : from ≤ length nodes = subst (λ ns. from ≤ length ns) (sym c.self.view_is) c.requires in
    let here : from < length children = omega (arith, long, many, low) in
    let places = c.as_slice-2.ensures.value ∙ sym (read children from c.index-children.result.now c.index-children.result.now here c.index-children.ensures) in
    none-so c.find_node.result (λ none. subst (λ ns. HasNoNode ns from by input) c.self.view_is
    (missing nodes (lists children) c.self.invariant from by input
    (subst (Others nodes from by input) places (subst (λ ns. Others ns from by input c.as_slice-2.result.now) c.as_slice.ensures.value none))))
    c.find_node.ensures.none
