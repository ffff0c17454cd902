use Rattle.std.proofs.Common.{◌≡◌, ◌<◌, [], ◌∷◌, ◌++◌, length, map, ap, sym, ◌∙◌}
use Rattle.sem_fabric.specs.Links.{LinkList, relined, with_link_to}
use Rattle.sem_fabric.proofs.LinkRows.{link-is, row-put, on-ok}
use Rattle.sem_fabric.proofs.row.Row.push.Goals as goal

pub returns-clause-ok : goal.returns-clause-ok
returns-clause-ok c =
    let links = c.self.inside.links.items in
    let window = c.self.inside.window in
    let here : c.args.to < length (map (λ (l : LinkList). l.messages) links) = rw (← c.self.view_is) at c.requires.to_kernel in
    let there = c.index_mut.ensures.value in
    let l : LinkList = c.index_mut.result.now in
    on-ok c.push.result c.push.ensures.ok (λ (done : c.push.new.self ≡ relined (l.messages ++ c.args.message ∷ []) l).
    rw (← c.self.view_is)
    (row-put links window c.args.to l here there (l.messages ++ c.args.message ∷ []) c.push.new.self done
    ∙ ap (λ ms. with_link_to c.args.to (ms ++ c.args.message ∷ []) (record { links = map (λ (l : LinkList). l.messages) links; window = window }))
    (sym (link-is links window c.args.to l here there))))
