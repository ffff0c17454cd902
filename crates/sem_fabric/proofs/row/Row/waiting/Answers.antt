use Rattle.std.proofs.Common.{◌<◌, length, map, ap, arith}
use Rattle.sem_fabric.specs.Links.{LinkList, LinkRow}
use Rattle.sem_fabric.proofs.LinkRows.{window-is}
use Rattle.sem_fabric.proofs.row.Row.waiting.Goals as goal

pub returns-clause-within : goal.returns-clause-within
returns-clause-within c =
    let links = c.self.inside.links.items in
    let here : c.args.to < length (map (λ (l : LinkList). l.messages) links) = rw (← c.self.view_is) at c.requires in
    let room = window-is links c.self.inside.window c.args.to c.index.result.now here c.index.ensures c.self.invariant in
    let same = ap (λ (r : LinkRow). r.window) c.self.view_is in
    omega (arith, c.waiting.ensures.within, room, same)
