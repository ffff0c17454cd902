use Rattle.std.proofs.Common.{◌<◌, length, drop, map, ap, sym, ◌∙◌}
use Rattle.sem_fabric.specs.Links.{LinkList, with_link_to}
use Rattle.sem_fabric.proofs.LinkRows.{link-is, row-put}
use Rattle.sem_fabric.proofs.row.Row.pop.Goals as goal

pub returns-clause-value : goal.returns-clause-value
returns-clause-value c =
    let links = c.self.inside.links.items in
    let window = c.self.inside.window in
    let here : c.args.to < length (map (λ (l : LinkList). l.messages) links) = rw (← c.self.view_is) at c.requires in
    let there = c.index_mut.ensures.value in
    rw (← c.self.view_is)
    (row-put links window c.args.to c.index_mut.result.now here there (drop 1 c.index_mut.result.now.messages) c.pop.new.self c.pop.ensures.value
    ∙ ap (λ ms. with_link_to c.args.to (drop 1 ms) (record { links = map (λ (l : LinkList). l.messages) links; window = window }))
    (sym (link-is links window c.args.to c.index_mut.result.now here there)))
